use Rattle.std.proofs.Common.{◌≡◌, drop}
use Rattle.member_trans.specs.Trans.{place_in}
use Rattle.member_trans.proofs.trans.place_of.Given as goal

abbrev pub invariant-loop-at : goal.invariant-loop-at
invariant-loop-at l = place_in (drop l.at l.rollbacks) l.at l.id ≡ place_in l.rollbacks 0 l.id
