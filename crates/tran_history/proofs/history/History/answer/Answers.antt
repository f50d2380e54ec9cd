use Rattle.std.proofs.Common.{◌≡◌, ◌<◌, ◌∙◌, true, length, sym, ap, subst, arith}
use Rattle.std.specs.Vec.{with_items}
use Rattle.std.proofs.lemmas.List.{with_items_is}
use Rattle.tran_history.specs.Histories.{HistoryState, has_committed, after_answer}
use Rattle.tran_history.specs.Places.{IsPlaced, answer_at}
use Rattle.tran_history.proofs.Placing.{in_places, at_place, kept_answer, length-answer_at}
use Rattle.tran_history.proofs.history.History.answer.Goals as goal

pub index-requires : goal.index-requires
index-requires c =
    let committed : has_committed c.self.inside.entries.items c.args.number ≡ true = subst (λ (s : HistoryState). has_committed s.entries c.args.number ≡ true) (sym c.self.view_is) c.requires in
    let low : c.args.number < length c.self.inside.places.items = in_places _ _ _ _ c.self.invariant c.args.number committed in
    omega (arith, low, c.self.inside.places.ok.0)

pub mark_answered-requires : goal.mark_answered-requires
mark_answered-requires c =
    let committed : has_committed c.self.inside.entries.items c.args.number ≡ true = subst (λ (s : HistoryState). has_committed s.entries c.args.number ≡ true) (sym c.self.view_is) c.requires in
    let low : c.index.result.now < length c.self.inside.entries.items = (at_place _ _ _ _ c.self.invariant c.args.number c.index.result.now committed c.index.ensures).0 in
    omega (arith, low, ap length c.deref_mut.ensures.value)

pub invariant_of-self : goal.invariant_of-self
invariant_of-self c =
    let es = c.self.inside.entries.items in
    let now : c.mark_answered.new.entries ≡ answer_at es c.index.result.now = c.mark_answered.ensures ∙ ap (λ xs. answer_at xs c.index.result.now) c.deref_mut.ensures.value in
    let long : length c.mark_answered.new.entries ≡ c.self.inside.entries.len = ap length now ∙ length-answer_at es c.index.result.now ∙ sym c.self.inside.entries.ok.0 in
    subst (λ xs. IsPlaced xs c.self.inside.places.items c.self.inside.room c.self.inside.entries.cap)
    (sym (with_items_is c.self.inside.entries c.mark_answered.new.entries long ∙ now))
    (kept_answer _ _ _ _ c.self.invariant c.index.result.now)

pub returns : goal.returns
returns c =
    let es = c.self.inside.entries.items in
    let committed : has_committed es c.args.number ≡ true = subst (λ (s : HistoryState). has_committed s.entries c.args.number ≡ true) (sym c.self.view_is) c.requires in
    let now : c.mark_answered.new.entries ≡ answer_at es c.index.result.now = c.mark_answered.ensures ∙ ap (λ xs. answer_at xs c.index.result.now) c.deref_mut.ensures.value in
    let long : length c.mark_answered.new.entries ≡ c.self.inside.entries.len = ap length now ∙ length-answer_at es c.index.result.now ∙ sym c.self.inside.entries.ok.0 in
    let done : answer_at es c.index.result.now ≡ after_answer es c.args.number = (at_place _ _ _ _ c.self.invariant c.args.number c.index.result.now committed c.index.ensures).1 in
    let all : (with_items c.self.inside.entries c.mark_answered.new.entries).items ≡ after_answer c.args.self.now.entries c.args.number = with_items_is c.self.inside.entries c.mark_answered.new.entries long ∙ now ∙ done ∙ ap (λ (s : HistoryState). after_answer s.entries c.args.number) c.self.view_is in
    λ i. record { entries = all i; room = (c.self.view_is i).room }
