-- One record after the other.
use Rattle.std.proofs.Common.{◌≡◌, ◌↔◌, ℕ, ◌+◌, ◌<◌, ◌≤◌, Bool, true, false, List, [], ◌∷◌, ◌++◌, length, get_or, Option, Some, None, Result, Ok, Err, inl, inr, refl, sym, ap, subst, ◌∙◌, arith}
use Rattle.std.specs.Prelude.{IsTrue, IfOk}
use Rattle.std.proofs.lemmas.Bool.{cases_lt}
use Rattle.ds_base.specs.declared.names.PageId.{PageId}
use Rattle.ds_model.specs.declared.log.LogRecord.{LogRecord}
use Rattle.ds_model.specs.declared.log.Body.{Body}
use Rattle.ds_model.specs.declared.log.Body.TheVariants as body
use Rattle.page_format.specs.declared.patch.Patch.{Patch}
use Rattle.page_images.specs.Images.{Images, after_change}
use Rattle.page_chain.specs.Chains.{images_of}
use Rattle.redone_pages.specs.declared.range.TableRange.{TableRange}
use Rattle.redone_pages.specs.Ranges.{has_page}
use Rattle.heap_rows.specs.Left.{AreLeft}
use Rattle.stood_rows.specs.Owners.{StayOn}
use Rattle.stood_rows.specs.declared.unstood.Unstood.{Unstood}
use Rattle.stood_rows.specs.declared.scan.Standing.{Standing}
use Rattle.stood_rows.specs.Found.{item_at, StaysThere, patch_page, is_for, StaysAt, IsPatch, ArePatchesTold, IsTold, AreFound, IsStanding}
use Rattle.stood_rows.proofs.Founds.{at_past, at_is, found_more, found_still}

-- ---- patches

pub told_for : {E : Type 0} (result : Result Bool E) (P : Type 0) (q : Bool) → q ≡ true → IfOk result (λ b. IsTrue b ↔ P) → IfOk result (λ b. IsTrue b ↔ (q ≡ true → P))
told_for (Ok b) P q e h = (λ t k. h.0 t, λ f. h.1 (f e))
told_for (Err x) P q e h = tt

read_is : (ps : List Patch) (k : ℕ) (p : Patch) → k < length ps → p ≡ get_or ps k p → item_at ps k ≡ Some p
read_is ps k p lt is = at_is ps k p lt ∙ ap (λ (q : Patch). Some q) (sym is)

passes_if : (q : Bool) (P : Type 0) (b : Bool) → IsTrue b ↔ (q ≡ true → P) → b ≡ false → q ≡ true
passes_if true P b test fails = refl
passes_if false P b test fails = let holds : b ≡ true = test.1 (λ e. absurd cc) in absurd (cc (holds, fails))

wrong_if : (q : Bool) (P : Type 0) (b : Bool) → IsTrue b ↔ (q ≡ true → P) → b ≡ false → P → ⊥
wrong_if q P b test fails p = let holds : b ≡ true = test.1 (λ e. p) in absurd (cc (holds, fails))

pub patch_told : (has : PageId → Bool) (earlier : List LogRecord) (at lrsn : ℕ) (ps : List Patch) (k : ℕ) (p : Patch) (b : Bool) → k < length ps → p ≡ get_or ps k p
    → IsTrue b ↔ (has p.page ≡ true → StayOn (images_of earlier) (after_change lrsn ps (images_of earlier)) p.page) → b ≡ false
    → ((j : ℕ) → j < k → StaysAt has (images_of earlier) lrsn ps j) → IsPatch has earlier at lrsn ps (record { index = at; patch = k; page = p.page })
patch_told has earlier at lrsn ps k p b lt is test fails before =
    let read : item_at ps k ≡ Some p = read_is ps k p lt is in record {
      index_is = refl;
      page_is = ap patch_page read;
      passes = passes_if (has p.page) (StayOn (images_of earlier) (after_change lrsn ps (images_of earlier)) p.page) b test fails;
      wrong = λ s.
          wrong_if (has p.page) (StayOn (images_of earlier) (after_change lrsn ps (images_of earlier)) p.page) b test fails
          (subst (λ (o : Option Patch). StaysThere (images_of earlier) (after_change lrsn ps (images_of earlier)) o) read s);
      before = before;
    }

pub more_stay : (has : PageId → Bool) (at : Images) (lrsn : ℕ) (ps : List Patch) (k : ℕ) (p : Patch) (b : Bool) → k < length ps → p ≡ get_or ps k p → IsTrue b ↔ (has p.page ≡ true → StayOn at (after_change lrsn ps at) p.page) → b ≡ true
    → ((j : ℕ) → j < k → StaysAt has at lrsn ps j) → (j : ℕ) → j < k + 1 → StaysAt has at lrsn ps j
more_stay has at lrsn ps k p b lt is test holds before j below = elim (cases_lt j k) [
  | inl low ↦ before j low
  | inr up ↦ (
      let here : j ≡ k = omega (arith, below, up) in
      subst (λ (n : ℕ). StaysAt has at lrsn ps n) (sym here) (subst (λ (o : Option Patch). is_for has (patch_page o) ≡ true → StaysThere at (after_change lrsn ps at) o) (sym (read_is ps k p lt is)) (test.0 holds)))
]

pub all_stay : (has : PageId → Bool) (at : Images) (lrsn : ℕ) (ps : List Patch) (k : ℕ) → length ps ≤ k → ((j : ℕ) → j < k → StaysAt has at lrsn ps j) → (j : ℕ) → StaysAt has at lrsn ps j
all_stay has at lrsn ps k long before j = elim (cases_lt j k) [
  | inl low ↦ before j low
  | inr up ↦ subst (λ (o : Option Patch). is_for has (patch_page o) ≡ true → StaysThere at (after_change lrsn ps at) o) (sym (at_past ps j (omega (arith, up, long)))) (λ e. absurd cc)
]

-- ---- a record

pub patches_told : {E : Type 0} (has : PageId → Bool) (earlier : List LogRecord) (at lrsn : ℕ) (b : Body) (ps qs : List Patch) (result : Result (Option Unstood) E) (A : Type 0) → b ≡ body.System ps → qs ≡ ps
    → IfOk result (λ found. ArePatchesTold has earlier at lrsn qs found) → IfOk result (λ found. A → IsTold has earlier at lrsn b found)
patches_told has earlier at lrsn b ps qs (Ok found) A is same h = λ a.
    subst (λ (x : Body). IsTold has earlier at lrsn x found) (sym is) (subst (λ (l : List Patch). ArePatchesTold has earlier at lrsn l found) same h)
patches_told has earlier at lrsn b ps qs (Err e) A is same h = tt

pub still : (has : PageId → Bool) (rs : List LogRecord) (r : LogRecord) (o : Option Unstood) (u : Unstood) → o ≡ Some u → AreFound has rs o → AreFound has (rs ++ r ∷ []) o
still has rs r o u is h = subst (λ (x : Option Unstood). AreFound has (rs ++ r ∷ []) x) (sym is) (found_still has rs r u (subst (λ (x : Option Unstood). AreFound has rs x) is h))

found_by : (range made : TableRange) (rs : List LogRecord) (r : LogRecord) (it : Standing) (found : Option Unstood) → it.rows.range ≡ range → made ≡ range → it.first ≡ None
    → (AreLeft rs it.rows → IsTold (has_page made) rs it.taken r.lrsn r.body found) → IsStanding rs it → AreFound (has_page it.rows.range) (rs ++ r ∷ []) found
found_by range made rs r it found own same none told s =
    let both : made ≡ it.rows.range = same ∙ sym own in
    found_more (has_page it.rows.range) rs r it.taken found s.taken_is (subst (λ (o : Option Unstood). AreFound (has_page it.rows.range) rs o) none s.found)
    (subst (λ (m : TableRange). IsTold (has_page m) rs it.taken r.lrsn r.body found) both (told s.left))

pub next_told : {E : Type 0} (made : TableRange) (rs : List LogRecord) (r : LogRecord) (it : Standing) (result : Result (Option Unstood) E) → made ≡ it.rows.range → it.first ≡ None
    → IfOk result (λ found. AreLeft rs it.rows → IsTold (has_page made) rs it.taken r.lrsn r.body found) → IfOk result (λ found. IsStanding rs it → AreFound (has_page it.rows.range) (rs ++ r ∷ []) found)
next_told made rs r it (Ok found) same none h = found_by it.rows.range made rs r it found refl same none h
next_told made rs r it (Err e) same none h = tt
