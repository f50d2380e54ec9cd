-- Slots that stay their keys', page by page and patch by patch.
use Rattle.std.proofs.Common.{◌≡◌, ◌↔◌, ℕ, ◌+◌, ◌-◌, ◌*◌, ◌/◌, ◌%◌, ◌<◌, ◌≤◌, Bool, true, false, Option, Some, None, List, [], ◌∷◌, ◌++◌, length, get_or, take, drop, inl, inr, refl, sym, ap, subst, ◌∙◌, arith, if◌then◌else◌}
use Rattle.std.specs.Prelude.{◌==◌, ◌||◌, nat_lt, IsTrue}
use Rattle.std.specs.List.{list_any, AllByRecursion}
use Rattle.std.proofs.lemmas.Bool.{cases_lt, ltb-true}
use Rattle.std.proofs.lemmas.Bool.Decides.{nat_tests}
use Rattle.std.proofs.lemmas.List.{take-append-drop, drop_more}
use Rattle.ds_base.specs.Pages.{same_page, heap_page}
use Rattle.ds_base.specs.declared.names.PageId.{PageId}
use Rattle.ds_base.specs.declared.names.Place.{Place}
use Rattle.page_format.specs.Header.{slots_per_page}
use Rattle.page_format.specs.declared.patch.Patch.{Patch}
use Rattle.heap_space.specs.Slots.{content, slot_in}
use Rattle.heap_space.specs.Written.{after_patch, written}
use Rattle.page_images.specs.Images.{Images, after_change}
use Rattle.sound_disk.specs.Layouts.{count_in}
use Rattle.sound_disk.specs.Rows_there.{key_in, IsPlaceOf, SlotsStay}
use Rattle.stood_rows.specs.Owners.{owner, is_kept, OwnersStay, StayOn, TakesSlots}
use Rattle.stood_rows.proofs.Kept.{decide, same_name}

-- ---- the owner of a slot

below : (n m : ℕ) → n < m → nat_lt n m ≡ true
below n m h = grind (arith, nat_tests)

given_if : (b : Bool) (o : Option ℕ) (key : ℕ) → (if b then o else None) ≡ Some key → (b ≡ true) × (o ≡ Some key)
given_if true o key h = (refl, h)
given_if false o key h = absurd cc

owner_of : (at : Images) (table key : ℕ) (place : Place) → IsPlaceOf at table key place → owner (at (heap_page table place.page)) place.slot ≡ Some key
owner_of at table key place is =
    let page = at (heap_page table place.page) in
    ap (λ (b : Bool). if b then key_in (content (slot_in page place.slot)) else None) (below place.slot (count_in page) is.given) ∙ is.key_is

place_of : (at : Images) (table key : ℕ) (place : Place) → owner (at (heap_page table place.page)) place.slot ≡ Some key → IsPlaceOf at table key place
place_of at table key place is =
    let page = at (heap_page table place.page) in
    let parts = given_if (nat_lt place.slot (count_in page)) (key_in (content (slot_in page place.slot))) key is in
    record { given = ltb-true place.slot (count_in page) parts.0; key_is = parts.1 }

-- ---- the slots of a page

kept_if : (a b : Option ℕ) → is_kept a b ≡ true → (key : ℕ) → a ≡ Some key → b ≡ Some key
kept_if None b h key e = absurd cc
kept_if (Some k) None h key e = absurd cc
kept_if (Some k) (Some its) h key e = let same : its ≡ k = grind (arith, nat_tests) in cc

kept_not : (a b : Option ℕ) → is_kept a b ≡ false → ((key : ℕ) → a ≡ Some key → b ≡ Some key) → ⊥
kept_not None b h f = absurd cc
kept_not (Some k) None h f = let e : None ≡ Some k = f k refl in absurd cc
kept_not (Some k) (Some its) h f =
    let e : Some its ≡ Some k = f k refl in
    let same : its ≡ k = cc in
    let equal : (its == k) ≡ true = grind (arith, nat_tests) in
    absurd cc

pub more_stay : (before behind : List ℕ) (n : ℕ) → OwnersStay n before behind → is_kept (owner before n) (owner behind n) ≡ true → OwnersStay (n + 1) before behind
more_stay before behind n h kept slot key lt is = elim (cases_lt slot n) [
  | inl low ↦ (h slot key low is)
  | inr up ↦ (
      let here : slot ≡ n = omega (arith, lt, up) in
      kept_if (owner before slot) (owner behind slot) (subst (λ (s : ℕ). is_kept (owner before s) (owner behind s) ≡ true) (sym here) kept) key is)
]

pub one_leaves : (before behind : List ℕ) (n : ℕ) → n < slots_per_page → is_kept (owner before n) (owner behind n) ≡ false → OwnersStay slots_per_page before behind → ⊥
one_leaves before behind n lt lost h = kept_not (owner before n) (owner behind n) lost (λ key is. h n key lt is)

-- ---- a page of a heap, or of none

stay_if : (at behind : Images) (id : PageId) → OwnersStay slots_per_page (at id) (behind id) → StayOn at behind id
stay_if at behind id h table key place some few name is =
    place_of behind table key place
    (subst (λ (i : PageId). owner (behind i) place.slot ≡ Some key) (sym name)
    (h place.slot key few (subst (λ (i : PageId). owner (at i) place.slot ≡ Some key) name (owner_of at table key place is))))

heap_name : (id : PageId) → 1 ≤ id.set → (id.set % 2 ≡ 0 → ⊥) → heap_page ((id.set + 1) / 2) id.number ≡ id
heap_name id some odd =
    let e : 2 * ((id.set + 1) / 2) - 1 ≡ id.set = omega arith in
    λ i. record { set = e i; number = id.number }

stay_only : (at behind : Images) (id : PageId) → 1 ≤ id.set → id.set ≤ 128 → (id.set % 2 ≡ 0 → ⊥) → StayOn at behind id → OwnersStay slots_per_page (at id) (behind id)
stay_only at behind id some few odd h slot key lt is =
    let table = (id.set + 1) / 2 in
    let place : Place = record { page = id.number; slot = slot } in
    let name : heap_page table id.number ≡ id = heap_name id some odd in
    subst (λ (i : PageId). owner (behind i) slot ≡ Some key) name
    (owner_of behind table key place
    (h table key place (omega arith, omega arith) lt name (place_of at table key place (subst (λ (i : PageId). owner (at i) slot ≡ Some key) (sym name) is))))

-- the test of a page of a heap
pub heap_stay : (at behind : Images) (id : PageId) (before after : List ℕ) (b : Bool) → 1 ≤ id.set → id.set ≤ 128 → (id.set % 2 ≡ 0 → ⊥) → before ≡ at id → after ≡ behind id → IsTrue b ↔ OwnersStay slots_per_page before after → IsTrue b ↔ StayOn at behind id
heap_stay at behind id before after b some few odd was is test = (
  λ t. stay_if at behind id (subst (λ (p : List ℕ). OwnersStay slots_per_page (at id) p) is (subst (λ (p : List ℕ). OwnersStay slots_per_page p after) was (test.0 t))),
  λ s. test.1
      (subst (λ (p : List ℕ). OwnersStay slots_per_page before p) (sym is)
      (subst (λ (p : List ℕ). OwnersStay slots_per_page p (behind id)) (sym was) (stay_only at behind id some few odd s))),
)

-- ---- all patches

on_page : (at behind : Images) (id : PageId) (ps : List Patch) → list_any (λ (p : Patch). same_page p.page id) ps ≡ true → AllByRecursion (λ (p : Patch). StayOn at behind p.page) ps → StayOn at behind id
on_page at behind id [] t h = absurd cc
on_page at behind id (p ∷ ps) t h =
    decide (same_page p.page id) (StayOn at behind id)
    (λ s. subst (λ (i : PageId). StayOn at behind i) (same_name p.page id s) h.0)
    (λ s. on_page at behind id ps (sym (ap (λ (b : Bool). b || list_any (λ (q : Patch). same_page q.page id) ps) s) ∙ t) h.1)

off_page : (id : PageId) (lrsn : ℕ) (ps : List Patch) (page : List ℕ) → list_any (λ (p : Patch). same_page p.page id) ps ≡ false → written id lrsn ps page ≡ page
off_page id lrsn [] page f = refl
off_page id lrsn (p ∷ ps) page f =
    decide (same_page p.page id) (written id lrsn (p ∷ ps) page ≡ page)
    (λ s. let e : true ≡ false = sym (ap (λ (b : Bool). b || list_any (λ (q : Patch). same_page q.page id) ps) s) ∙ f in absurd cc)
    (λ s.
    ap (λ (b : Bool). written id lrsn ps (if b then after_patch lrsn page p else page)) s
    ∙ off_page id lrsn ps page (sym (ap (λ (b : Bool). b || list_any (λ (q : Patch). same_page q.page id) ps) s) ∙ f))

pub all_stay : (at : Images) (lrsn : ℕ) (ps : List Patch) → AllByRecursion (λ (p : Patch). StayOn at (after_change lrsn ps at) p.page) ps → SlotsStay at (after_change lrsn ps at)
all_stay at lrsn ps h table key place some few is =
    let id = heap_page table place.page in
    decide (list_any (λ (p : Patch). same_page p.page id) ps) (IsPlaceOf (after_change lrsn ps at) table key place)
    (λ t. on_page at (after_change lrsn ps at) id ps t h table key place some few refl is)
    (λ f.
    place_of (after_change lrsn ps at) table key place
    (ap (λ (page : List ℕ). owner page place.slot) (off_page id lrsn ps (at id) f) ∙ owner_of at table key place is))

-- ---- one patch after the other

pub taken_here : (at : Images) (lrsn : ℕ) (ps : List Patch) (k : ℕ) (p : Patch) (b : Bool) → k < length ps → p ≡ get_or ps k p → AllByRecursion (λ (q : Patch). StayOn at (after_change lrsn ps at) q.page) (take k ps)
    → IsTrue b ↔ StayOn at (after_change lrsn ps at) p.page → b ≡ false → TakesSlots at lrsn ps p.page
taken_here at lrsn ps k p b lt is h test fails = record {
  first = take k ps;
  it = get_or ps k p;
  rest = drop (k + 1) ps;
  split = sym (take-append-drop k ps) ∙ ap (λ (l : List Patch). take k ps ++ l) (drop_more ps k p lt);
  before = h;
  id_is = ap (λ (q : Patch). q.page) is;
  taken = λ s. let holds : b ≡ true = test.1 (subst (λ (q : Patch). StayOn at (after_change lrsn ps at) q.page) (sym is) s) in absurd (cc (holds, fails));
}
