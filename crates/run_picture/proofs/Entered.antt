-- The numbers that a map holds by names, with one more.
use Rattle.std.proofs.Common.{◌≡◌, ℕ, Bool, true, false, cond, List, [], ◌∷◌, Option, Some, None, refl, sym, ap, ◌∙◌, bytes_eq}
use Rattle.std.specs.declared.cmp.Ordering.{Ordering}
use Rattle.std.specs.declared.cmp.Ordering.TheVariants.{Less, Equal, Greater}
use Rattle.std.specs.Ordering.{is_eq, nat_cmp, match_ordering}
use Rattle.std.specs.Cmp.Lexicographic.{slice_cmp}
use Rattle.std.specs.Map.{lookup}
use Rattle.std.specs.BTreeMap.{insert_entry}
use Rattle.std.proofs.lemmas.Map.Text.{is_eq-slice_cmp}
use Rattle.std.proofs.lemmas.Slice.Eq.{bytes_eq-Decides}

replaced : {X : Type 0} (a b : Bool) (x y z : Option X) → a ≡ b → cond a x z ≡ cond b x (cond a y z)
replaced true true x y z h = refl
replaced true false x y z h = cc
replaced false true x y z h = cc
replaced false false x y z h = refl

later : {X : Type 0} (a b : Bool) (x y z w : Option X) → w ≡ cond b x z → (a ≡ true → b ≡ true → ⊥) → cond a y w ≡ cond b x (cond a y z)
later true true x y z w h never = absurd (never refl refl)
later true false x y z w h never = refl
later false b x y z w h never = h

module _ {K : Type 0} (items : K → List ℕ) (q : List ℕ) where
  abbrev test : K → Bool
  test x = is_eq (slice_cmp nat_cmp q (items x))

  abbrev order : K → K → Ordering
  order x y = slice_cmp nat_cmp (items x) (items y)

  test_is : (k : K) → test k ≡ bytes_eq q (items k)
  test_is k = is_eq-slice_cmp q (items k)

  same_order : (k x : K) → is_eq (order k x) ≡ bytes_eq (items k) (items x)
  same_order k x = is_eq-slice_cmp (items k) (items x)

  same_items : (k x : K) → order k x ≡ Equal → items k ≡ items x
  same_items k x e = (bytes_eq-Decides (items k) (items x)).0 (sym (same_order k x) ∙ ap is_eq e)

  apart : (k x : K) → order k x ≡ Greater → test x ≡ true → bytes_eq q (items k) ≡ true → ⊥
  apart k x e s t =
      let one : q ≡ items x = (bytes_eq-Decides q (items x)).0 (sym (test_is x) ∙ s) in
      let other : q ≡ items k = (bytes_eq-Decides q (items k)).0 t in
      let equal : is_eq (order k x) ≡ true = same_order k x ∙ (bytes_eq-Decides (items k) (items x)).1 (sym other ∙ one) in
      let unequal : is_eq (order k x) ≡ false = ap is_eq e in
      cc

module _ {K X : Type 0} (items : K → List ℕ) (q : List ℕ) where
  step : (e : K × X) (es : List (K × X)) (k : K) (v : X) (o : Ordering) → order items q k e.0 ≡ o → lookup (test items q) (insert_entry (order items q) es k v) ≡ cond (bytes_eq q (items k)) (Some v) (lookup (test items q) es)
      → lookup (test items q) (match_ordering o ((k, v) ∷ e ∷ es) ((e.0, v) ∷ es) (e ∷ insert_entry (order items q) es k v)) ≡ cond (bytes_eq q (items k)) (Some v) (lookup (test items q) (e ∷ es))
  step e es k v Less h ih = ap (λ b. cond b (Some v) (lookup (test items q) (e ∷ es))) (test_is items q k)
  step e es k v Equal h ih = replaced (test items q e.0) (bytes_eq q (items k)) (Some v) (Some e.1) (lookup (test items q) es) (test_is items q e.0 ∙ ap (bytes_eq q) (sym (same_items items q k e.0 h)))
  step e es k v Greater h ih = later (test items q e.0) (bytes_eq q (items k)) (Some v) (Some e.1) (lookup (test items q) es) (lookup (test items q) (insert_entry (order items q) es k v)) ih (apart items q k e.0 h)

  pub entered : (es : List (K × X)) (k : K) (v : X) → lookup (test items q) (insert_entry (order items q) es k v) ≡ cond (bytes_eq q (items k)) (Some v) (lookup (test items q) es)
  entered [] k v = ap (λ b. cond b (Some v) None) (test_is items q k)
  entered (e ∷ es) k v = step e es k v (order items q k e.0) refl (entered es k v)
