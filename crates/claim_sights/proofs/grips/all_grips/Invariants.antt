use Rattle.std.proofs.Common.{◌≡◌, map, take}
use Rattle.claim_sights.specs.Grips.{all_grips}
use Rattle.claim_sights.proofs.grips.all_grips.Given as goal

abbrev pub invariant-loop-marks : goal.invariant-loop-marks
invariant-loop-marks l = l.grips.items ≡ all_grips (map (λ m. m.now) (take l.marks-index l.all)) l.lock l.tran
