use Rattle.std.proofs.Common.{◌≡◌, take}
use Rattle.claim_sights.proofs.fates.copied.Given as goal

abbrev pub invariant-loop-tran : goal.invariant-loop-tran
invariant-loop-tran l = l.copy ≡ take l.tran-index l.trans
