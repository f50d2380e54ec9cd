-- What all records make of a page is what those make of it that change it.
use Rattle.std.proofs.Common.{◌≡◌, ℕ, ◌+◌, Bool, true, false, cond, List, [], ◌∷◌, ◌++◌, Option, Some, refl, sym, ap, ◌∙◌, arith}
use Rattle.std.specs.Prelude.{suc, ◌||◌, slice_get}
use Rattle.std.specs.Str.{bytes_eq}
use Rattle.ds_base.specs.declared.names.PageId.{PageId}
use Rattle.ds_model.specs.declared.log.LogRecord.{LogRecord}
use Rattle.page_chain.specs.Chains.{after_record, version_from, touches, LeavesOthers}
use Rattle.page_records.specs.Places.{by_page}
use Rattle.page_versions.specs.Fronts.{is_later, is_from}
use Rattle.page_versions.specs.Own.{places_at, after_place, version_at, is_later_at, is_from_at}
use Rattle.page_versions.proofs.Fronts.{passes}
use Rattle.page_versions.proofs.Listed.{decide, touching, places_are}

-- these are the records from this place on
abbrev AreFrom : List LogRecord → ℕ → List LogRecord → Type 0
AreFrom records n rs = (k : ℕ) → slice_get records (n + k) ≡ slice_get rs k

first_from : (records : List LogRecord) (n : ℕ) (r : LogRecord) (rs : List LogRecord) → AreFrom records n (r ∷ rs) → slice_get records n ≡ Some r
first_from records n r rs h = let e : n ≡ n + 0 = omega arith in ap (slice_get records) e ∙ h 0

rest_from : (records : List LogRecord) (n : ℕ) (r : LogRecord) (rs : List LogRecord) → AreFrom records n (r ∷ rs) → AreFrom records (n + 1) rs
rest_from records n r rs h k = let e : (n + 1) + k ≡ n + suc k = omega arith in ap (slice_get records) e ∙ h (suc k)

all_from : (records : List LogRecord) → AreFrom records 0 records
all_from records k = let e : 0 + k ≡ k = omega arith in ap (slice_get records) e

either : (a x y : Bool) → (a ≡ false → x ≡ y) → (a || x) ≡ (a || y)
either true x y h = refl
either false x y h = h refl

later_by_touching : LeavesOthers → (id : PageId) (records : List LogRecord) (page image : List ℕ) (n : ℕ) (rs : List LogRecord) → AreFrom records n rs → bytes_eq image page ≡ false
    → is_later_at id records page image (touching id n rs) ≡ is_later id page image rs
later_by_touching others id records page image n [] h f = refl
later_by_touching others id records page image n (r ∷ rs) h f =
    decide (touches id r) _
    (λ e.
    ap (λ (b : Bool). is_later_at id records page image (cond b (n ∷ []) [] ++ touching id (n + 1) rs)) e
    ∙ ap (λ (o : Option LogRecord). bytes_eq (after_place id image o) page || is_later_at id records page (after_place id image o) (touching id (n + 1) rs)) (first_from records n r rs h)
    ∙ either (bytes_eq (after_record id image r) page) _ _ (λ k. later_by_touching others id records page (after_record id image r) (n + 1) rs (rest_from records n r rs h) k))
    (λ e.
    ap (λ (b : Bool). is_later_at id records page image (cond b (n ∷ []) [] ++ touching id (n + 1) rs)) e
    ∙ later_by_touching others id records page image (n + 1) rs (rest_from records n r rs h) f
    ∙ sym (passes id page image r rs others e f))

version_by_touching : LeavesOthers → (id : PageId) (records : List LogRecord) (page : List ℕ) (n : ℕ) (rs : List LogRecord) → AreFrom records n rs
    → version_at id records page (touching id n rs) ≡ version_from id page rs
version_by_touching others id records page n [] h = refl
version_by_touching others id records page n (r ∷ rs) h =
    decide (touches id r) _
    (λ e.
    ap (λ (b : Bool). version_at id records page (cond b (n ∷ []) [] ++ touching id (n + 1) rs)) e
    ∙ ap (λ (o : Option LogRecord). version_at id records (after_place id page o) (touching id (n + 1) rs)) (first_from records n r rs h)
    ∙ version_by_touching others id records (after_record id page r) (n + 1) rs (rest_from records n r rs h))
    (λ e.
    ap (λ (b : Bool). version_at id records page (cond b (n ∷ []) [] ++ touching id (n + 1) rs)) e
    ∙ version_by_touching others id records page (n + 1) rs (rest_from records n r rs h)
    ∙ sym (ap (λ (p : List ℕ). version_from id p rs) (others r id page e)))

-- ---- by the list by page

pub from_by_page : LeavesOthers → (id : PageId) (records : List LogRecord) (page image : List ℕ) → is_from_at id records page image (places_at id (by_page records)) ≡ is_from id page image records
from_by_page others id records page image =
    ap (λ (ns : List ℕ). is_from_at id records page image ns) (places_are id records)
    ∙ either (bytes_eq image page) _ _ (λ k. later_by_touching others id records page image 0 records (all_from records) k)

pub version_by_page : LeavesOthers → (id : PageId) (records : List LogRecord) (page : List ℕ) → version_at id records page (places_at id (by_page records)) ≡ version_from id page records
version_by_page others id records page =
    ap (λ (ns : List ℕ). version_at id records page ns) (places_are id records) ∙ version_by_touching others id records page 0 records (all_from records)
