-- The latest event by others, behind one more.
use Rattle.std.proofs.Common.{◌≡◌, ℕ, Bool, true, false, cond, eqb, refl, ap₂, ◌∙◌}
use Rattle.std.proofs.Math.Path.{fun_ext}
use Rattle.std.proofs.lemmas.Bool.{and_parts, eqb-true}
use Rattle.run_spans.specs.declared.latest.At.{At}
use Rattle.run_spans.specs.declared.latest.Latest.{Latest}
use Rattle.run_spans.specs.LatestEvents.{none, is_by, never, with_event, by_others}

where_true : (b : Bool) (x y z : At) → (b ≡ true → x ≡ y) → cond b x z ≡ cond b y z
where_true true x y z h = h refl
where_true false x y z h = refl

both_same : (b : Bool) (x : At) → cond b x x ≡ x
both_same true x = refl
both_same false x = refl

same_others : (l : Latest) (at : At) (m c : ℕ) → is_by at m c ≡ true → by_others l at.member at.choice ≡ by_others l m c
same_others l at m c t =
    let parts = and_parts (eqb at.member m) (eqb at.choice c) t in
    ap₂ (λ x y. by_others l x y) (eqb-true at.member m parts.0) (eqb-true at.choice c parts.1)

opened : (at x : At) (m c : ℕ) → by_others (record { last = at; other = x }) m c ≡ cond (is_by at m c) x at
unfolding by_others
opened at x m c = refl

noted_at : (l : Latest) (at x : At) (m c : ℕ) → x ≡ by_others l at.member at.choice → by_others (record { last = at; other = x }) m c ≡ with_event at (by_others l) m c
unfolding with_event
noted_at l at x m c h = opened at x m c ∙ where_true (is_by at m c) x (by_others l m c) at (λ t. h ∙ same_others l at m c t)

pub noted : (l : Latest) (at x : At) → x ≡ by_others l at.member at.choice → by_others (record { last = at; other = x }) ≡ with_event at (by_others l)
noted l at x h = fun_ext (λ m. fun_ext (λ c. noted_at l at x m c h))

pub none_noted : by_others (record { last = none; other = none }) ≡ never
unfolding by_others never
none_noted = fun_ext (λ m. fun_ext (λ c. both_same (is_by none m c) none))
