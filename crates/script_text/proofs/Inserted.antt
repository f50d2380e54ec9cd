-- The names that a set holds with one more.
use Rattle.std.proofs.Common.{◌≡◌, ℕ, Bool, true, false, ◌||◌, List, [], ◌∷◌, refl, sym, ap, ◌∙◌, bytes_eq}
use Rattle.std.specs.List.{list_any}
use Rattle.std.specs.declared.cmp.Ordering.{Ordering}
use Rattle.std.specs.declared.cmp.Ordering.TheVariants.{Less, Equal, Greater}
use Rattle.std.specs.Ordering.{is_eq, nat_cmp, match_ordering}
use Rattle.std.specs.Cmp.Lexicographic.{slice_cmp}
use Rattle.std.specs.BTreeSet.{insert_key}
use Rattle.std.proofs.lemmas.Map.Text.{is_eq-slice_cmp}
use Rattle.std.proofs.lemmas.Slice.Eq.{bytes_eq-Decides}

module _ {K : Type 0} (items : K → List ℕ) (q : List ℕ) where
  abbrev test : K → Bool
  test x = is_eq (slice_cmp nat_cmp q (items x))

  abbrev order : K → K → Ordering
  order x y = slice_cmp nat_cmp (items x) (items y)

  test_is : (k : K) → test k ≡ bytes_eq q (items k)
  test_is k = is_eq-slice_cmp q (items k)

  swap : (a b c : Bool) → a ≡ c → (a || b) ≡ (b || c)
  swap true true c h = refl
  swap true false c h = h
  swap false true c h = refl
  swap false false c h = h

  keep : (a b c : Bool) → c ≡ a → (a || b) ≡ ((a || b) || c)
  keep true b c h = refl
  keep false true c h = refl
  keep false false c h = sym h

  later : (a b c d : Bool) → d ≡ (b || c) → (a || d) ≡ ((a || b) || c)
  later true b c d h = refl
  later false b c d h = h

  same_items : (k x : K) → order k x ≡ Equal → items k ≡ items x
  same_items k x e = (bytes_eq-Decides (items k) (items x)).0 (sym (is_eq-slice_cmp (items k) (items x)) ∙ ap is_eq e)

  step : (x : K) (xs : List K) (k : K) (o : Ordering) → order k x ≡ o → list_any test (insert_key order xs k) ≡ (list_any test xs || bytes_eq q (items k))
      → list_any test (match_ordering o (k ∷ x ∷ xs) (x ∷ xs) (x ∷ insert_key order xs k)) ≡ (list_any test (x ∷ xs) || bytes_eq q (items k))
  step x xs k Less e ih = swap (test k) (test x || list_any test xs) (bytes_eq q (items k)) (test_is k)
  step x xs k Equal e ih = keep (test x) (list_any test xs) (bytes_eq q (items k)) (ap (bytes_eq q) (same_items k x e) ∙ sym (test_is x))
  step x xs k Greater e ih = later (test x) (list_any test xs) (bytes_eq q (items k)) (list_any test (insert_key order xs k)) ih

  pub inserted : (xs : List K) (k : K) → list_any test (insert_key order xs k) ≡ (list_any test xs || bytes_eq q (items k))
  inserted [] k = swap (test k) false (bytes_eq q (items k)) (test_is k)
  inserted (x ∷ xs) k = step x xs k (order k x) refl (inserted xs k)
