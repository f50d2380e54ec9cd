use Rattle.std.proofs.Common.{◌≡◌, ℕ, List, arith, sym, subst}
use Rattle.list_structure.specs.Bells.{bell_of}
use Rattle.list_structure.proofs.Ringing.{bell_at}
use Rattle.list_structure.proofs.bells.Bells.count.Goals as goal

pub returns : goal.returns
returns c = subst (λ (bells : List ℕ). c.self.inside.count ≡ bell_of bells c.args.member) c.self.view_is (sym (bell_at c.self.inside.count c.args.member (omega (arith, c.number-place.ensures.value, c.number-place.ensures.range))))
