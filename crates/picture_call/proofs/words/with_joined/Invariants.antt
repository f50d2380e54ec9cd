use Rattle.std.proofs.Common.{◌≡◌, take, drop}
use Rattle.picture_call.specs.Orders.{with_joined, with_parted}
use Rattle.picture_call.proofs.words.with_joined.Given as goal

abbrev pub invariant-loop-at : goal.invariant-loop-at
invariant-loop-at l = with_parted l.cut (take l.at l.word) (drop l.at l.word) ≡ with_joined l.cut l.word
