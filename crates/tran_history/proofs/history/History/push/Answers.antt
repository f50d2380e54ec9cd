use Rattle.std.proofs.Common.{◌≡◌, ◌<◌, ◌≤◌, ◌∙◌, false, length, set, sym, subst, ◌∷◌, ◌++◌, []}
use Rattle.std.specs.Vec.{vec_capacity}
use Rattle.tran_history.specs.Histories.{HistoryState, has_number}
use Rattle.tran_history.specs.Places.{IsPlaced}
use Rattle.tran_history.proofs.Placing.{kept_push}
use Rattle.tran_history.proofs.history.History.push.Goals as goal

pub invariant_of-self : goal.invariant_of-self
invariant_of-self c =
    let es = c.self.inside.entries.items in
    let places = c.self.inside.places.items in
    let room = c.self.inside.room in
    let number = c.args.entry.tran.number in
    let low : length es < room = subst (λ (s : HistoryState). length s.entries < s.room) (sym c.self.view_is) c.requires.room in
    let within : number ≤ room = subst (λ (s : HistoryState). number ≤ s.room) (sym c.self.view_is) c.requires.number in
    let new : has_number es number ≡ false = subst (λ (s : HistoryState). has_number s.entries number ≡ false) (sym c.self.view_is) c.requires.new in
    let kept : IsPlaced (es ++ c.args.entry ∷ []) (set places number (length es)) room (vec_capacity c.self.inside.entries) = kept_push es places room (vec_capacity c.self.inside.entries) c.self.invariant c.args.entry low within new in
    let at_end : IsPlaced (es ++ c.args.entry ∷ []) (set places number c.len.result) room (vec_capacity c.self.inside.entries) = subst (λ k. IsPlaced (es ++ c.args.entry ∷ []) (set places number k) room (vec_capacity c.self.inside.entries)) (sym (c.len.ensures ∙ c.self.inside.entries.ok.0)) kept in
    let pushed : IsPlaced c.push_reserved.new.self.items (set places number c.len.result) room (vec_capacity c.self.inside.entries) = subst (λ xs. IsPlaced xs (set places number c.len.result) room (vec_capacity c.self.inside.entries)) (sym c.push_reserved.ensures.items) at_end in
    subst (IsPlaced c.push_reserved.new.self.items (set places number c.len.result) room) (sym c.push_reserved.ensures.capacity) pushed
