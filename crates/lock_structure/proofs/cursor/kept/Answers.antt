use Rattle.std.proofs.Common.{arith, subst}
use Rattle.std.proofs.lemmas.Bool.Decides.{nat_tests}
use Rattle.lock_structure.specs.Buckets.{IsPlaced}
use Rattle.lock_structure.proofs.Placed.{later_placed}
use Rattle.lock_structure.proofs.cursor.kept.Goals as goal

pub returns-in-Some : goal.returns-in-Some
returns-in-Some c cs ys p = later_placed c.in-Some.cursor cs c.args.bucket ys (grind (arith, nat_tests, c.if-cursor-bucket.true)) (subst (λ z. IsPlaced z cs) c.in-Some.is p)
