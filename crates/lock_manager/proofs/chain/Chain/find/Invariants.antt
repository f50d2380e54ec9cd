use Rattle.std.proofs.Common.{◌≡◌, length}
use Rattle.lock_manager.specs.Claims.{mode_in}
use Rattle.lock_manager.proofs.chain.Chain.find.Given as goal

abbrev pub invariant-loop-left : goal.invariant-loop-left
invariant-loop-left l = mode_in l.left l.name ≡ mode_in l.self l.name

abbrev pub decreases-loop-left : goal.decreases-loop-left
decreases-loop-left l = length l.left
