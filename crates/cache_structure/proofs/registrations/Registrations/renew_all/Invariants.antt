use Rattle.std.proofs.Common.{◌≡◌, ℕ, nat_lt, cond}
use Rattle.cache_structure.specs.Bound.{place_of, renewed, slot_of}
use Rattle.cache_structure.proofs.registrations.Registrations.renew_all.Given as goal

abbrev pub invariant-loop-seat : goal.invariant-loop-seat
invariant-loop-seat l =
    (l.self ≡ record l.initial.self { places = l.self.places })
    × ((m i : ℕ) → place_of l.self m i ≡ cond (nat_lt l.seat m) (place_of l.initial.self m i) (renewed (slot_of l.initial.self m i)))
