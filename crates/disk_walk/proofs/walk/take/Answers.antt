use Rattle.disk_walk.proofs.Standing.{stands}
use Rattle.disk_walk.proofs.walk.take.Goals as goal

pub returns-clause-taken : goal.returns-clause-taken
returns-clause-taken c = λ logs stand.
    stands c.reading_laws.ensures.again c.whole_laws.ensures.empty c.head_laws.ensures.taken c.head_laws.ensures.left c.head_laws.ensures.ended c.head_laws.ensures.bad logs c.args.heads.now c.take.new.self c.take.result
    c.take.ensures.taken c.take.ensures.after (c.take.ensures.goes logs stand.of) stand
