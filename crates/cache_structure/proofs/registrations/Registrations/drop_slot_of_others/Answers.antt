use Rattle.std.proofs.Common.{◌≡◌, ◌<◌, nat_eq, cond, length, refl, sym, ap, ◌∙◌, subst}
use Rattle.cache_structure.specs.Bound.{Bound, slot_of, place_of, time_of, unless_at, valid_since}
use Rattle.cache_structure.proofs.Binding.{others_left}
use Rattle.cache_structure.proofs.registrations.Registrations.drop_slot_of_others.Goals as goal

pub returns-clause-at : goal.returns-clause-at
returns-clause-at c = λ m i.
    let r = c.self.inside in
    let there : c.args.slot < length r.validities.items = subst (λ (b : Bound). c.args.slot < length b.validities) (sym c.self.view_is) (subst (λ n. c.args.slot < n) (sym c.advance.ensures.slots) c.requires) in
    let since : c.valid_since-own.result ≡ valid_since r.validities.items c.args.slot c.args.member = c.valid_since-own.ensures ∙ ap (λ (b : Bound). valid_since b.validities c.args.slot c.args.member) (sym c.self.view_is) in
    let before = subst (λ (b : Bound). time_of (place_of b m i) < b.clock) (sym c.self.view_is) (c.advance.ensures.past m i) in
    others_left r.validities.items c.args.slot _ there c.args.member c.valid_since-own.result r.clock m (place_of (record { frames = r.frames; places = r.places.items; validities = r.validities.items; clock = r.clock }) m i) refl since before
    ∙ ap (λ x. cond (nat_eq m c.args.member) x (unless_at c.args.slot x)) (ap (λ (b : Bound). slot_of b m i) c.self.view_is ∙ c.advance.ensures.at m i)
