-- What is found of all pages is what is told of the records.
use Rattle.std.proofs.Common.{◌≡◌, ℕ, zero, suc, ◌<◌, ◌≤◌, Bool, true, false, List, [], ◌∷◌, ◌++◌, length, get_or, take, Option, Some, None, refl, sym, subst, ◌∙◌, arith}
use Rattle.std.specs.Prelude.{◌==◌, nat_lt, ◌&&◌, ◌||◌}
use Rattle.std.specs.List.{AllByRecursion}
use Rattle.std.proofs.lemmas.Bool.Decides.{nat_tests}
use Rattle.std.proofs.lemmas.List.{append-nil, take_all}
use Rattle.ds_base.specs.Ids.{IsTable}
use Rattle.ds_base.specs.Pages.{heap_page}
use Rattle.ds_base.specs.declared.names.PageId.{PageId}
use Rattle.ds_model.specs.declared.log.LogRecord.{LogRecord}
use Rattle.ds_model.specs.declared.log.Version.{Version}
use Rattle.ds_model.specs.declared.log.Body.{Body}
use Rattle.ds_model.specs.declared.log.Body.TheVariants as body
use Rattle.ds_model.specs.RecordBytes.{IsAllowed, BodyIsAllowed, PatchIsAllowed, page_sets}
use Rattle.page_format.specs.declared.patch.Patch.{Patch}
use Rattle.page_images.specs.Images.{Images, after_change}
use Rattle.page_chain.specs.Chains.{images_of}
use Rattle.sound_disk.specs.Rows_there.{BodyStood, BeforesAgree}
use Rattle.stood_rows.specs.Owners.{StayOn, TakesSlots}
use Rattle.stood_rows.specs.Standing.{IsUnstood, IsFirstUnstood}
use Rattle.stood_rows.specs.declared.unstood.Unstood.{Unstood}
use Rattle.stood_rows.specs.Found.{item_at, StaysThere, PartStood, patch_page, part_page, is_for, StoodFor, FailsOn, IsFirst}
use Rattle.stood_rows.specs.Laws.{FoundAreTold}
use Rattle.stood_rows.proofs.Kept.{allowed_at}
use Rattle.stood_rows.proofs.Owned.{all_stay, taken_here}
use Rattle.stood_rows.proofs.Walking.{next, first_unstood}
use Rattle.stood_rows.proofs.Founds.{within, at_is}

-- the test passes the pages of all page sets
abbrev PassesAll : (PageId → Bool) → Type 0
PassesAll has = (id : PageId) → 1 ≤ id.set → id.set ≤ page_sets → has id ≡ true

heap_passes : (has : PageId → Bool) → PassesAll has → (table page : ℕ) → IsTable table → has (heap_page table page) ≡ true
heap_passes has all table page it = all (heap_page table page) (omega (arith, it)) (omega (arith, it))

-- ---- patches

stay_upto : (has : PageId → Bool) → PassesAll has → (at behind : Images) (ps : List Patch) → AllByRecursion PatchIsAllowed ps → (n : ℕ) → ((k : ℕ) → k < n → is_for has (patch_page (item_at ps k)) ≡ true → StaysThere at behind (item_at ps k))
    → AllByRecursion (λ (p : Patch). StayOn at behind p.page) (take n ps)
stay_upto has all at behind [] a zero h = tt
stay_upto has all at behind [] a (suc n) h = tt
stay_upto has all at behind (p ∷ ps) a zero h = tt
stay_upto has all at behind (p ∷ ps) a (suc n) h =
    (h zero (omega arith) (all p.page a.0.set_from a.0.set_to), stay_upto has all at behind ps a.1 n (λ k lt. h (suc k) (omega (arith, lt))))

stay_all : (has : PageId → Bool) → PassesAll has → (at behind : Images) (ps : List Patch) → AllByRecursion PatchIsAllowed ps → ((k : ℕ) → is_for has (patch_page (item_at ps k)) ≡ true → StaysThere at behind (item_at ps k))
    → AllByRecursion (λ (p : Patch). StayOn at behind p.page) ps
stay_all has all at behind [] a h = tt
stay_all has all at behind (p ∷ ps) a h = (h zero (all p.page a.0.set_from a.0.set_to), stay_all has all at behind ps a.1 (λ k. h (suc k)))

some_same : (a b : PageId) → Some a ≡ Some b → b ≡ a
some_same a b e = cc

taken_at : (has : PageId → Bool) → PassesAll has → (at : Images) (lrsn : ℕ) (ps : List Patch) (k : ℕ) (id : PageId) → AllByRecursion PatchIsAllowed ps → (o : Option Patch) → item_at ps k ≡ o → patch_page o ≡ Some id
    → (StaysThere at (after_change lrsn ps at) o → ⊥) → ((j : ℕ) → j < k → is_for has (patch_page (item_at ps j)) ≡ true → StaysThere at (after_change lrsn ps at) (item_at ps j)) → TakesSlots at lrsn ps id
taken_at has all at lrsn ps k id a None is e wrong before = absurd cc
taken_at has all at lrsn ps k id a (Some p) is e wrong before =
    let lt : k < length ps = within ps k p is in
    let read : Some p ≡ Some (get_or ps k p) = sym is ∙ at_is ps k p lt in
    let same : p ≡ get_or ps k p = cc in
    let name : id ≡ p.page = some_same p.page id e in
    subst (λ (i : PageId). TakesSlots at lrsn ps i) (sym name)
    (taken_here at lrsn ps k p false lt same (stay_upto has all at (after_change lrsn ps at) ps a k before) (λ t. absurd cc, λ s. absurd (wrong s)) refl)

-- ---- one record

body_stood : (has : PageId → Bool) → PassesAll has → (e : List LogRecord) (lrsn : ℕ) (v : Version) (b : Body) → BodyIsAllowed v b → ((k : ℕ) → is_for has (part_page b k) ≡ true → PartStood e lrsn b k) → BodyStood e lrsn b
body_stood has all e lrsn v (body.RowChange c) a h = h zero (heap_passes has all c.table c.place.page a.table_in)
body_stood has all e lrsn v (body.Compensation c undone) a h = h zero (heap_passes has all c.table c.place.page a.0.table_in)
body_stood has all e lrsn v (body.System ps) a h = all_stay (images_of e) lrsn ps (stay_all has all (images_of e) (after_change lrsn ps (images_of e)) ps a.each h)
body_stood has all e lrsn v body.Commit a h = tt
body_stood has all e lrsn v body.Ended a h = tt
body_stood has all e lrsn v (body.Checkpoint offset) a h = tt
body_stood has all e lrsn v body.RestartEnd a h = tt

body_unstood : (has : PageId → Bool) → PassesAll has → (e : List LogRecord) (lrsn : ℕ) (v : Version) (b : Body) (k : ℕ) (id : PageId) → BodyIsAllowed v b → part_page b k ≡ Some id → (PartStood e lrsn b k → ⊥)
    → ((j : ℕ) → j < k → is_for has (part_page b j) ≡ true → PartStood e lrsn b j) → IsUnstood e lrsn b id
body_unstood has all e lrsn v (body.RowChange c) k id a page wrong before = (wrong, some_same (heap_page c.table c.place.page) id page)
body_unstood has all e lrsn v (body.Compensation c undone) k id a page wrong before = (wrong, some_same (heap_page c.table c.place.page) id page)
body_unstood has all e lrsn v (body.System ps) k id a page wrong before = taken_at has all (images_of e) lrsn ps k id a.each (item_at ps k) refl page wrong before
body_unstood has all e lrsn v body.Commit k id a page wrong before = absurd cc
body_unstood has all e lrsn v body.Ended k id a page wrong before = absurd cc
body_unstood has all e lrsn v (body.Checkpoint offset) k id a page wrong before = absurd cc
body_unstood has all e lrsn v body.RestartEnd k id a page wrong before = absurd cc

-- ---- records

agree_upto : (has : PageId → Bool) → PassesAll has → (e rs : List LogRecord) → AllByRecursion IsAllowed rs → (n : ℕ) → ((i k : ℕ) → i < n → StoodFor has (e ++ take i rs) (item_at rs i) k) → BeforesAgree e (take n rs)
agree_upto has all e [] a zero h = tt
agree_upto has all e [] a (suc n) h = tt
agree_upto has all e (r ∷ rs) a zero h = tt
agree_upto has all e (r ∷ rs) a (suc n) h = (
  body_stood has all e r.lrsn r.version r.body a.0.body_is (λ k. subst (λ (l : List LogRecord). StoodFor has l (Some r) k) (append-nil e) (h zero k (omega arith))),
  agree_upto has all (e ++ r ∷ []) rs a.1 n (λ i k lt. subst (λ (l : List LogRecord). StoodFor has l (item_at rs i) k) (sym (next e rs r i)) (h (suc i) k (omega (arith, lt)))),
)

lower_before : (i k x y : ℕ) → i < x → (nat_lt i x || ((i == x) && nat_lt k y)) ≡ true
lower_before i k x y lt = grind (arith, nat_tests)

same_before : (i k y : ℕ) → k < y → (nat_lt i i || ((i == i) && nat_lt k y)) ≡ true
same_before i k y lt = grind (arith, nat_tests)

agree_before : (has : PageId → Bool) → PassesAll has → (rs : List LogRecord) → AllByRecursion IsAllowed rs → (u : Unstood) → IsFirst has rs u → BeforesAgree [] (take u.index rs)
agree_before has all rs a u h = agree_upto has all [] rs a u.index (λ i k lt. h.before i k (lower_before i k u.index u.patch lt))

first_when : (has : PageId → Bool) → PassesAll has → (rs : List LogRecord) → AllByRecursion IsAllowed rs → (u : Unstood) → IsFirst has rs u → (o : Option LogRecord) → item_at rs u.index ≡ o → FailsOn (take u.index rs) o u.patch u.page
    → ((k : ℕ) → k < u.patch → StoodFor has (take u.index rs) o k) → IsFirstUnstood rs u.page
first_when has all rs a u h None is fails before = absurd fails
first_when has all rs a u h (Some r) is fails before =
    let lt : u.index < length rs = within rs u.index r is in
    let read : Some r ≡ Some (get_or rs u.index r) = sym is ∙ at_is rs u.index r lt in
    let same : r ≡ get_or rs u.index r = cc in
    let allowed : IsAllowed r = subst IsAllowed (sym same) (allowed_at rs u.index r a lt) in
    first_unstood rs u.index r u.page lt (agree_before has all rs a u h)
    (subst (λ (q : LogRecord). IsUnstood (take u.index rs) q.lrsn q.body u.page) same
    (body_unstood has all (take u.index rs) r.lrsn r.version r.body u.patch u.page allowed.body_is fails.0 fails.1 before))

pub found_told : FoundAreTold
found_told has rs None a all h =
    subst (λ (l : List LogRecord). BeforesAgree [] l) (take_all (length rs) rs (omega arith)) (agree_upto has all [] rs a (length rs) (λ i k lt. h i k))
found_told has rs (Some u) a all h = first_when has all rs a u h (item_at rs u.index) refl h.fails (λ k lt. h.before u.index k (same_before u.index k u.patch lt))
