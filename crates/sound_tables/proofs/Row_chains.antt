-- The changes of one row that transactions have left open, each transaction's as a chain that ends with the row.
use Rattle.std.proofs.Common.{◌≡◌, ℕ, Bool, false, List, [], ◌∷◌, ◌++◌, Option, inl, inr, ◌⊎◌, refl, sym, ap, subst, ◌∙◌}
use Rattle.std.specs.Prelude.{◌==◌}
use Rattle.std.proofs.lemmas.Bool.{cases_Bool, eqb-true, eq-eqb, false_from_ne_true, both_ways}
use Rattle.ds_model.specs.declared.log.RowChange.{RowChange}

-- ---- chains

-- the first change meets this row, each other the one that the change before it left, and the last leaves that one
abbrev pub Chain : Option (List ℕ) → List RowChange → Option (List ℕ) → Type 0
Chain v [] w = v ≡ w
Chain v (c ∷ cs) w = (c.before ≡ v) × Chain c.after cs w

-- they end with this row
abbrev pub EndsWith : List RowChange → Option (List ℕ) → Type 0
EndsWith cs row = (v : Option (List ℕ)) × Chain v cs row

pub chain_push : (v : Option (List ℕ)) (cs : List RowChange) (w : Option (List ℕ)) (c : RowChange) → Chain v cs w → c.before ≡ w → Chain v (cs ++ c ∷ []) c.after
chain_push v [] w c h e = (e ∙ sym h, refl)
chain_push v (d ∷ cs) w c h e = (h.0, chain_push d.after cs w c h.1 e)

pub chain_pop : (v : Option (List ℕ)) (cs : List RowChange) (w : Option (List ℕ)) (c : RowChange) → Chain v (cs ++ c ∷ []) w → Chain v cs c.before
chain_pop v [] w c h = sym h.0
chain_pop v (d ∷ cs) w c h = (h.0, chain_pop d.after cs w c h.1)

pub chain_last : (v : Option (List ℕ)) (cs : List RowChange) (w : Option (List ℕ)) (c : RowChange) → Chain v (cs ++ c ∷ []) w → c.after ≡ w
chain_last v [] w c h = h.1
chain_last v (d ∷ cs) w c h = chain_last d.after cs w c h.1

-- ---- all transactions

-- by transaction its open changes of the row, and whether it has committed; and the row. Those of a transaction without a Commit are a
-- chain that ends with the row, and one such transaction at most has any
pub record Rows (undo : ℕ → List RowChange) (committed : ℕ → Bool) (row : Option (List ℕ)) : Type 0 where
  pub chained : (t : ℕ) → committed t ≡ false → EndsWith (undo t) row
  pub alone : (t u : ℕ) → (t == u) ≡ false → committed t ≡ false → committed u ≡ false → (undo t ≡ []) ⊎ (undo u ≡ [])

-- the row is another's, or stays
pub rows_same : (undo left : ℕ → List RowChange) (committed more : ℕ → Bool) (row behind : Option (List ℕ)) → ((t : ℕ) → left t ≡ undo t) → ((t : ℕ) → more t ≡ false → committed t ≡ false) → behind ≡ row
    → Rows undo committed row → Rows left more behind
rows_same undo left committed more row behind same fewer stays h = record {
  chained = λ t un.
      let c = h.chained t (fewer t un) in
      (c.0, subst (λ (w : Option (List ℕ)). Chain c.0 (left t) w) (sym stays) (subst (λ (cs : List RowChange). Chain c.0 cs row) (sym (same t)) c.1));
  alone = λ t u apart a b. elim (h.alone t u apart (fewer t a) (fewer u b)) [
    | inl e ↦ inl (same t ∙ e)
    | inr e ↦ inr (same u ∙ e)
  ];
}

-- where no other transaction without a Commit has open changes of the row
others_alone : (undo left : ℕ → List RowChange) (committed more : ℕ → Bool) (u : ℕ) → ((t : ℕ) → (u == t) ≡ false → left t ≡ undo t) → ((t : ℕ) → more t ≡ committed t)
    → ((t : ℕ) → (u == t) ≡ false → committed t ≡ false → undo t ≡ []) → (t w : ℕ) → (t == w) ≡ false → more t ≡ false → more w ≡ false → (left t ≡ []) ⊎ (left w ≡ [])
others_alone undo left committed more u others same none t w apart a b = elim (cases_Bool (u == t)) [
  | inl is ↦ (
      let other : (u == w) ≡ false = false_from_ne_true (u == w) (λ e. both_ways (t == w) apart (eq-eqb t w (sym (eqb-true u t is) ∙ eqb-true u w e))) in
      inr (others w other ∙ none w other (sym (same w) ∙ b)))
  | inr other ↦ inl (others t other ∙ none t other (sym (same t) ∙ a))
]

other_chain : (undo left : ℕ → List RowChange) (u t : ℕ) (behind : Option (List ℕ)) → left t ≡ [] → EndsWith (left t) behind
other_chain undo left u t behind none = (behind, subst (λ (cs : List RowChange). Chain behind cs behind) (sym none) refl)

-- a transaction changes the row
pub rows_change : (undo left : ℕ → List RowChange) (committed more : ℕ → Bool) (row behind : Option (List ℕ)) (u : ℕ) (c : RowChange) → left u ≡ undo u ++ c ∷ []
    → ((t : ℕ) → (u == t) ≡ false → left t ≡ undo t) → ((t : ℕ) → more t ≡ committed t) → ((t : ℕ) → (u == t) ≡ false → committed t ≡ false → undo t ≡ [])
    → c.before ≡ row → behind ≡ c.after → Rows undo committed row → Rows left more behind
rows_change undo left committed more row behind u c mine others same none before after h = record {
  chained = λ t un. elim (cases_Bool (u == t)) [
    | inl is ↦ (
        let own : more u ≡ false = ap more (eqb-true u t is) ∙ un in
        let old = h.chained u (sym (same u) ∙ own) in
        let new : Chain old.0 (undo u ++ c ∷ []) c.after = chain_push old.0 (undo u) row c old.1 before in
        let all : Chain old.0 (left u) behind = subst (λ (w : Option (List ℕ)). Chain old.0 (left u) w) (sym after) (subst (λ (cs : List RowChange). Chain old.0 cs c.after) (sym mine) new) in
        subst (λ (x : ℕ). EndsWith (left x) behind) (eqb-true u t is) (old.0, all))
    | inr other ↦ other_chain undo left u t behind (others t other ∙ none t other (sym (same t) ∙ un))
  ];
  alone = λ t w apart a b. others_alone undo left committed more u others same none t w apart a b;
}

not_none : {A : Type 0} (xs : List A) (x : A) → xs ++ x ∷ [] ≡ [] → ⊥
not_none [] x e = cc
not_none (y ∷ ys) x e = cc

-- or takes its last change of it back
pub rows_back : (undo left : ℕ → List RowChange) (committed more : ℕ → Bool) (row behind : Option (List ℕ)) (u : ℕ) (c : RowChange) → undo u ≡ left u ++ c ∷ []
    → ((t : ℕ) → (u == t) ≡ false → left t ≡ undo t) → ((t : ℕ) → more t ≡ committed t) → committed u ≡ false
    → behind ≡ c.before → Rows undo committed row → Rows left more behind
rows_back undo left committed more row behind u c mine others same mine_open after h =
    let none : (t : ℕ) → (u == t) ≡ false → committed t ≡ false → undo t ≡ [] = λ t other un. elim (h.alone u t other mine_open un) [
      | inl e ↦ absurd (not_none (left u) c (sym mine ∙ e))
      | inr e ↦ e
    ] in
    record {
      chained = λ t un. elim (cases_Bool (u == t)) [
        | inl is ↦ (
            let old = h.chained u mine_open in
            let new : Chain old.0 (left u) c.before = chain_pop old.0 (left u) row c (subst (λ (cs : List RowChange). Chain old.0 cs row) mine old.1) in
            let all : Chain old.0 (left u) behind = subst (λ (w : Option (List ℕ)). Chain old.0 (left u) w) (sym after) new in
            subst (λ (x : ℕ). EndsWith (left x) behind) (eqb-true u t is) (old.0, all))
        | inr other ↦ other_chain undo left u t behind (others t other ∙ none t other (sym (same t) ∙ un))
      ];
      alone = λ t w apart a b. others_alone undo left committed more u others same none t w apart a b;
    }
