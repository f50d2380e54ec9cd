use Rattle.std.proofs.Common.{sym, ◌∙◌}
use Rattle.disk_heads.proofs.Taking.{take_past, take_first}
use Rattle.disk_heads.proofs.records.take_next.Goals as goal

pub returns-in-Ready-clause-moved : goal.returns-in-Ready-clause-moved
returns-in-Ready-clause-moved c = λ sound. take_past c.whole_laws.ensures.size c.args.head.now c.take.new.self c.take.result c.take.ensures.record c.take.ensures.after sound

pub returns-in-Ready-clause-next : goal.returns-in-Ready-clause-next
returns-in-Ready-clause-next c = λ log of sound.
    take_first c.head_laws.ensures.taken c.head_laws.ensures.left c.reading_laws.ensures.found c.args.block log c.args.head.now c.take.new.self c.take.result
    (sym c.standing.ensures ∙ c.in-Ready.is) c.take.ensures.record c.take.ensures.after of sound
