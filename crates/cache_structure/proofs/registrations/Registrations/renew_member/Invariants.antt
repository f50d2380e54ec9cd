use Rattle.std.proofs.Common.{◌≡◌, ℕ, nat_lt, ◌&&◌, nat_eq, cond}
use Rattle.cache_structure.specs.Bound.{place_of, renewed, slot_of}
use Rattle.cache_structure.proofs.registrations.Registrations.renew_member.Given as goal

abbrev pub invariant-loop-index : goal.invariant-loop-index
invariant-loop-index l =
    (l.self ≡ record l.initial.self { places = l.self.places })
    × ((m i : ℕ) → place_of l.self m i ≡ cond (nat_eq m l.member && nat_lt i l.index) (renewed (slot_of l.initial.self m i)) (place_of l.initial.self m i))
