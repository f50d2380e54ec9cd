-- The pages of a plan: each has the places of its records, by which it is brought forward as by all of them.
use Rattle.std.proofs.Common.{◌≡◌, ℕ, suc, ◌+◌, Bool, true, false, cond, List, [], ◌∷◌, ◌++◌, Option, Some, Result, Ok, Err, refl, sym, ap, ◌∙◌, arith}
use Rattle.std.specs.Prelude.{◌||◌, filter, slice_get}
use Rattle.std.specs.List.{list_any, AllByRecursion}
use Rattle.std.specs.Ordering.{is_eq, ordering_reverse}
use Rattle.std.specs.declared.cmp.Ordering.TheVariants.{Less}
use Rattle.std.proofs.lemmas.Bool.{or_parts}
use Rattle.ds_base.specs.Pages.{same_page}
use Rattle.ds_base.specs.declared.names.PageId.{PageId}
use Rattle.ds_model.specs.declared.log.LogRecord.{LogRecord}
use Rattle.page_chain.specs.Chains.{touches}
use Rattle.page_format.specs.Header.{header_of}
use Rattle.page_format.specs.declared.header.Header.{Header}
use Rattle.page_format.specs.declared.header.NotAPage.{NotAPage}
use Rattle.page_redo.specs.Forward.{Forward, headed, brought_forward, NeedsItsOwn}
use Rattle.page_redo.specs.Pages.{has_page}
use Rattle.page_records.specs.Pages.{page_cmp, page_cmp_total}
use Rattle.page_records.specs.declared.places.PageRecords.{PageRecords}
use Rattle.page_records.specs.Places.{by_page}
use Rattle.page_versions.specs.Own.{places_at, AreAbove, Rise}
use Rattle.page_versions.proofs.Listed.{same_by_order, touching, places_are}
use Rattle.page_versions.proofs.Search.{rise}
use Rattle.places_redo.specs.Picked.{before, picked, brought_at}
use Rattle.sound_disk.specs.Versions.{current}
use Rattle.sound_restarts.specs.Redo.{IsBrought, names_of}
use Rattle.sound_restarts.proofs.Page_writes.{same_self}

-- ---- places

-- a page that comes after another isn't that one
not_same : (a b : PageId) → page_cmp a b ≡ Less → same_page a b ≡ false
not_same a b e =
    sym (same_by_order b a) ∙ ap is_eq (page_cmp_total.antisymm b a ∙ ap ordering_reverse e)

later_places : (p : PageRecords) (qs ps : List PageRecords) → AreAbove p.page qs → AllByRecursion (λ (q : PageRecords). q.places ≡ places_at q.page ps) qs
    → AllByRecursion (λ (q : PageRecords). q.places ≡ places_at q.page (p ∷ ps)) qs
later_places p [] ps above h = tt
later_places p (q ∷ qs) ps above h = (
  h.0 ∙ sym (ap (λ (b : Bool). cond b p.places (places_at q.page ps)) (not_same p.page q.page above.0)),
  later_places p qs ps above.1 h.1,
)

each_places : (ps : List PageRecords) → Rise ps → AllByRecursion (λ (p : PageRecords). p.places ≡ places_at p.page ps) ps
each_places [] h = tt
each_places (p ∷ ps) h = (
  sym (ap (λ (b : Bool). cond b p.places (places_at p.page ps)) (same_self p.page)),
  later_places p ps ps h.0 (each_places ps h.1),
)

pub all_places : (records : List LogRecord) → AllByRecursion (λ (p : PageRecords). p.places ≡ places_at p.page (by_page records)) (by_page records)
all_places records = each_places (by_page records) (rise records)

-- ---- pages that aren't listed

unlisted : (id : PageId) (ps : List PageRecords) → has_page (names_of ps) id ≡ false → places_at id ps ≡ []
unlisted id [] h = refl
unlisted id (p ∷ ps) h =
    let both = or_parts (same_page p.page id) (has_page (names_of ps) id) h in
    ap (λ (b : Bool). cond b p.places (places_at id ps)) both.0 ∙ unlisted id ps both.1

none_if : (b : Bool) (n : ℕ) (more : List ℕ) → cond b (n ∷ []) [] ++ more ≡ [] → (b ≡ false) × (more ≡ [])
none_if true n more e = absurd cc
none_if false n more e = (refl, e)

or_both : (a b : Bool) → a ≡ false → b ≡ false → (a || b) ≡ false
or_both true b h k = absurd cc
or_both false b h k = k

none_touches : (id : PageId) (n : ℕ) (rs : List LogRecord) → touching id n rs ≡ [] → list_any (touches id) rs ≡ false
none_touches id n [] e = refl
none_touches id n (r ∷ rs) e =
    let p = none_if (touches id r) n (touching id (n + 1) rs) e in
    or_both (touches id r) (list_any (touches id) rs) p.0 (none_touches id (n + 1) rs p.1)

-- no record changes it
pub not_listed : (id : PageId) (records : List LogRecord) → has_page (names_of (by_page records)) id ≡ false → list_any (touches id) records ≡ false
not_listed id records h = none_touches id 0 records (sym (places_are id records) ∙ unlisted id (by_page records) h)

-- a page that comes before all of these isn't among them
pub not_above : (id : PageId) (ps : List PageRecords) → AreAbove id ps → has_page (names_of ps) id ≡ false
not_above id [] h = refl
not_above id (p ∷ ps) h = or_both (same_page p.page id) (has_page (names_of ps) id) (sym (same_by_order id p.page) ∙ ap is_eq h.0) (not_above id ps h.1)

-- ---- by its own records

-- these are the records from this place on
abbrev AreFrom : List LogRecord → ℕ → List LogRecord → Type 0
AreFrom records n rs = (k : ℕ) → slice_get records (n + k) ≡ slice_get rs k

first_from : (records : List LogRecord) (n : ℕ) (r : LogRecord) (rs : List LogRecord) → AreFrom records n (r ∷ rs) → slice_get records n ≡ Some r
first_from records n r rs h = let e : n ≡ n + 0 = omega arith in ap (slice_get records) e ∙ h 0

rest_from : (records : List LogRecord) (n : ℕ) (r : LogRecord) (rs : List LogRecord) → AreFrom records n (r ∷ rs) → AreFrom records (n + 1) rs
rest_from records n r rs h k = let e : (n + 1) + k ≡ n + suc k = omega arith in ap (slice_get records) e ∙ h (suc k)

all_from : (records : List LogRecord) → AreFrom records 0 records
all_from records k = let e : 0 + k ≡ k = omega arith in ap (slice_get records) e

picked_when : (b : Bool) (records : List LogRecord) (n : ℕ) (more : List ℕ) (r : LogRecord) (rest : List LogRecord) → slice_get records n ≡ Some r → picked records more ≡ rest
    → picked records (cond b (n ∷ []) [] ++ more) ≡ cond b (r ∷ rest) rest
picked_when true records n more r rest e h = ap (λ (o : Option LogRecord). before o (picked records more)) e ∙ ap (λ (l : List LogRecord). r ∷ l) h
picked_when false records n more r rest e h = h

picked_own : (id : PageId) (records : List LogRecord) (n : ℕ) (rs : List LogRecord) → AreFrom records n rs → picked records (touching id n rs) ≡ filter (touches id) rs
picked_own id records n [] h = refl
picked_own id records n (r ∷ rs) h =
    picked_when (touches id r) records n (touching id (n + 1) rs) r (filter (touches id) rs) (first_from records n r rs h) (picked_own id records (n + 1) rs (rest_from records n r rs h))

pub brought_all : NeedsItsOwn → (id : PageId) (page : List ℕ) (records : List LogRecord) → brought_at id page records (places_at id (by_page records)) ≡ brought_forward id page records
unfolding brought_at
brought_all own id page records =
    ap (λ (ns : List ℕ). brought_forward id page (picked records ns)) (places_are id records)
    ∙ ap (λ (rs : List LogRecord). brought_forward id page rs) (picked_own id records 0 records (all_from records))
    ∙ own id page records

-- ---- a page that none of them changes

filter_if : (b : Bool) (r : LogRecord) (rs : List LogRecord) → b ≡ false → rs ≡ [] → cond b (r ∷ rs) rs ≡ []
filter_if true r rs e h = absurd cc
filter_if false r rs e h = h

filter_none : (id : PageId) (rs : List LogRecord) → list_any (touches id) rs ≡ false → filter (touches id) rs ≡ []
filter_none id [] e = refl
filter_none id (r ∷ rs) e =
    let p = or_parts (touches id r) (list_any (touches id) rs) e in
    filter_if (touches id r) r (filter (touches id) rs) p.0 (filter_none id rs p.1)

headed_none : (id : PageId) (page : List ℕ) (h : Result Header NotAPage) → (headed id page [] h).page ≡ page
headed_none id page (Ok h) = refl
headed_none id page (Err e) = refl

-- is as it was, and the last version where they bring it to that
pub left_last : NeedsItsOwn → (id : PageId) (page last : List ℕ) (records : List LogRecord) → list_any (touches id) records ≡ false → IsBrought page last (brought_forward id page records) → current page ≡ last
left_last own id page last records none b =
    let same : (brought_forward id page records).page ≡ page =
    ap (λ (f : Forward). f.page) (sym (own id page records) ∙ ap (brought_forward id page) (filter_none id records none)) ∙ headed_none id page (header_of page id) in
    ap current (sym same) ∙ b.is_last
