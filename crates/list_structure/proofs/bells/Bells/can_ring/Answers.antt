use Rattle.std.proofs.Common.{◌<◌, ◌^◌, ◌-◌, arith, sym, subst}
use Rattle.std.proofs.lemmas.Bool.Decides.{nat_tests}
use Rattle.list_structure.specs.Bells.{CanRing}
use Rattle.list_structure.proofs.Ringing.{all_can_ring, one_can_ring}
use Rattle.list_structure.proofs.bells.Bells.can_ring.Goals as goal

pub returns : goal.returns
returns c = (
  λ t. let l : c.self.inside.count < 2 ^ 64 - 1 = grind (arith, nat_tests, t) in subst CanRing c.self.view_is (all_can_ring c.self.inside.count l),
  λ h. let l = one_can_ring c.self.inside.count (subst CanRing (sym c.self.view_is) h) in grind (arith, nat_tests, l),
)
