use Rattle.sound_courses.proofs.Bringing.{BringLaws, cuts_begin, cut_goes, redo_reads, redo_writes}
use Rattle.sound_courses.proofs.bring_laws.Goals as goal

pub returns : goal.returns
returns c =
    let l : BringLaws = record { cuts = c.cut_laws.ensures.cut; begins = c.redo_laws.ensures.begins; reads = c.redo_laws.ensures.reads; writes = c.redo_laws.ensures.writes } in
    record { begins = cuts_begin l; cut = cut_goes l; reads = redo_reads l; writes = redo_writes l }
