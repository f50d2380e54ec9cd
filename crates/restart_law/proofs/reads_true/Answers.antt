use Rattle.restart_law.proofs.reads_true.Goals as goal
use Rattle.restart_law.proofs.Readers.{Laws, nothing_known, whole_known}
use Rattle.restart_law.proofs.Truth.{reads_begin, reads_stay}

pub returns : goal.returns
returns c =
    let laws : Laws = record { nothing = c.reader_laws.ensures.nothing; replies = c.reader_laws.ensures.replies; starts = c.replies_begin.ensures.replies; within = c.replies_begin.ensures.within } in
    record { nothing = nothing_known; whole = whole_known; begin = reads_begin laws.nothing; event = reads_stay c.open_trans_tell.ensures laws }
