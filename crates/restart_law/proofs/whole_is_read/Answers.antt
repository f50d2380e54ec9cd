use Rattle.restart_law.proofs.whole_is_read.Goals as goal
use Rattle.restart_law.proofs.Readers.{Laws}
use Rattle.restart_law.proofs.Truth.{whole_is_read}

pub returns : goal.returns
returns c =
    let laws : Laws = record { nothing = c.reader_laws.ensures.nothing; replies = c.reader_laws.ensures.replies; starts = c.replies_begin.ensures.replies; within = c.replies_begin.ensures.within } in
    whole_is_read laws
