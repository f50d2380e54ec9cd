-- A page is brought forward by all records where it is by those whose places the list by page has for it.
use Rattle.std.proofs.Common.{◌≡◌, ℕ, suc, ◌+◌, Bool, cond, List, [], ◌∷◌, ◌++◌, Option, Some, refl, sym, ap, ◌∙◌, arith}
use Rattle.std.specs.Prelude.{filter, slice_get}
use Rattle.ds_base.specs.declared.names.PageId.{PageId}
use Rattle.ds_model.specs.declared.log.LogRecord.{LogRecord}
use Rattle.page_chain.specs.Chains.{touches}
use Rattle.page_records.specs.Places.{by_page}
use Rattle.page_redo.specs.Forward.{brought_forward, NeedsItsOwn}
use Rattle.places_redo.specs.Picked.{before, picked, brought_at}
use Rattle.page_versions.specs.Own.{places_at}
use Rattle.page_versions.proofs.Listed.{touching, places_are}
use Rattle.copy_recover.proofs.Name_lists.{decide}

-- these are the records from this place on
abbrev AreFrom : List LogRecord → ℕ → List LogRecord → Type 0
AreFrom records n rs = (k : ℕ) → slice_get records (n + k) ≡ slice_get rs k

first_from : (records : List LogRecord) (n : ℕ) (r : LogRecord) (rs : List LogRecord) → AreFrom records n (r ∷ rs) → slice_get records n ≡ Some r
first_from records n r rs h = let e : n ≡ n + 0 = omega arith in ap (slice_get records) e ∙ h 0

rest_from : (records : List LogRecord) (n : ℕ) (r : LogRecord) (rs : List LogRecord) → AreFrom records n (r ∷ rs) → AreFrom records (n + 1) rs
rest_from records n r rs h k = let e : (n + 1) + k ≡ n + suc k = omega arith in ap (slice_get records) e ∙ h (suc k)

all_from : (records : List LogRecord) → AreFrom records 0 records
all_from records k = let e : 0 + k ≡ k = omega arith in ap (slice_get records) e

picked_own : (id : PageId) (records : List LogRecord) (n : ℕ) (rs : List LogRecord) → AreFrom records n rs → picked records (touching id n rs) ≡ filter (touches id) rs
picked_own id records n [] h = refl
picked_own id records n (r ∷ rs) h =
    let rest = picked_own id records (n + 1) rs (rest_from records n r rs h) in
    decide (touches id r) _
    (λ e.
    ap (λ (b : Bool). picked records (cond b (n ∷ []) [] ++ touching id (n + 1) rs)) e
    ∙ ap (λ (o : Option LogRecord). before o (picked records (touching id (n + 1) rs))) (first_from records n r rs h)
    ∙ ap (λ (l : List LogRecord). r ∷ l) rest
    ∙ sym (ap (λ (b : Bool). cond b (r ∷ filter (touches id) rs) (filter (touches id) rs)) e))
    (λ e.
    ap (λ (b : Bool). picked records (cond b (n ∷ []) [] ++ touching id (n + 1) rs)) e
    ∙ rest
    ∙ sym (ap (λ (b : Bool). cond b (r ∷ filter (touches id) rs) (filter (touches id) rs)) e))

pub brought_all : NeedsItsOwn → (id : PageId) (page : List ℕ) (records : List LogRecord) → brought_at id page records (places_at id (by_page records)) ≡ brought_forward id page records
unfolding brought_at
brought_all own id page records =
    ap (λ (ns : List ℕ). brought_forward id page (picked records ns)) (places_are id records)
    ∙ ap (λ (rs : List LogRecord). brought_forward id page rs) (picked_own id records 0 records (all_from records))
    ∙ own id page records
