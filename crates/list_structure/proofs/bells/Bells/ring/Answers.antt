use Rattle.std.proofs.Common.{arith, sym, subst}
use Rattle.list_structure.specs.Bells.{CanRing}
use Rattle.list_structure.proofs.Ringing.{one_can_ring}
use Rattle.list_structure.proofs.bells.Bells.ring.Goals as goal

pub overflow_add-self : goal.overflow_add-self
overflow_add-self c = omega (arith, one_can_ring c.self.inside.count (subst CanRing (sym c.self.view_is) c.requires))
