-- The numbers of versions, and that the last version of a page is of the version that is written.
use Rattle.std.proofs.Common.{◌≡◌, ℕ, ◌+◌, ◌-◌, ◌≤◌, Bool, true, false, cond, List, [], ◌∷◌, ◌++◌, length, take, drop, replicate, Option, Some, None, refl, sym, ap, subst, ◌∙◌, append_assoc, arith}
use Rattle.std.specs.List.{AllByRecursion}
use Rattle.std.proofs.lemmas.List.{append-nil, length-append, length-drop, length-replicate, length-take-le}
use Rattle.ds_base.specs.Pages.{same_page}
use Rattle.ds_base.specs.declared.names.PageId.{PageId}
use Rattle.ds_model.specs.RecordBytes.{IsAllowed, StateIsAllowed, ChangeIsAllowed, PatchIsAllowed, BodyIsAllowed}
use Rattle.ds_model.specs.declared.log.LogRecord.{LogRecord}
use Rattle.ds_model.specs.declared.log.RowChange.{RowChange}
use Rattle.ds_model.specs.declared.log.Body.{Body}
use Rattle.ds_model.specs.declared.log.Body.TheVariants as body
use Rattle.ds_model.specs.declared.log.Version.{Version}
use Rattle.heap_space.specs.Slots.{head, image}
use Rattle.heap_space.specs.Written.{after_patch, written}
use Rattle.index_leaf.specs.Nodes.{all_stamped}
use Rattle.page_format.specs.Fields.{lrsn_of, is_old, patched, set_version, set_lrsn}
use Rattle.page_format.specs.declared.patch.Patch.{Patch}
use Rattle.page_images.specs.Images.{zeros}
use Rattle.page_images.specs.Parts.{AreWithin}
use Rattle.page_chain.specs.Chains.{row_patch, changes_of, touches, after_record, version_from, version_of, Follows, AreInOrder, AreRecords, GrowsByRecords, LeavesOthers, BearsItsNumber}
use Rattle.sound_disk.specs.Laws.{last_number}

-- what is proved of versions, and of pages that are stamped
pub record VersionLaws : Type 0 where
  pub grows : GrowsByRecords
  pub others : LeavesOthers
  pub number : BearsItsNumber
  pub zero : lrsn_of zeros ≡ 0
  pub whole : (lrsn : ℕ) (page : List ℕ) (ps : List Patch) → length page ≡ 4096 → AreWithin ps → length (all_stamped lrsn page ps) ≡ 4096
  pub zeros_whole : length zeros ≡ 4096
  pub zeros_new : is_old zeros ≡ false

-- ---- parts of records

allowed_front : (xs ys : List LogRecord) → AllByRecursion IsAllowed (xs ++ ys) → AllByRecursion IsAllowed xs
allowed_front [] ys h = tt
allowed_front (x ∷ xs) ys h = (h.0, allowed_front xs ys h.1)

order_front : (low : ℕ) (xs ys : List LogRecord) → AreInOrder low (xs ++ ys) → AreInOrder low xs
order_front low [] ys h = tt
order_front low (x ∷ xs) ys h = (h.0, order_front x.lrsn xs ys h.1)

order_rest : (low : ℕ) (xs ys : List LogRecord) → AreInOrder low (xs ++ ys) → AreInOrder (last_number low xs) ys
order_rest low [] ys h = h
order_rest low (x ∷ xs) ys h = order_rest x.lrsn xs ys h.1

are_front : (xs ys : List LogRecord) → AreRecords (xs ++ ys) → AreRecords xs
are_front xs ys h = (allowed_front xs ys h.0, order_front 0 xs ys h.1)

-- ---- numbers

no_less : (low : ℕ) (r : LogRecord) (ps : List Patch) → Follows low r ps → low ≤ r.lrsn
no_less low r [] h = h
no_less low r (p ∷ ps) h = omega (arith, h)

-- one record more
record Step (id : PageId) (earlier : List LogRecord) (r : LogRecord) : Type 0 where
  rises : lrsn_of (version_of id earlier) ≤ lrsn_of (version_of id (earlier ++ r ∷ []))
  bounded : lrsn_of (version_of id (earlier ++ r ∷ [])) ≤ r.lrsn

same_version : VersionLaws → (id : PageId) (earlier : List LogRecord) (r : LogRecord) → touches id r ≡ false → version_of id (earlier ++ r ∷ []) ≡ version_of id earlier
same_version k id earlier r e = k.grows earlier r id ∙ k.others r id (version_of id earlier) e

step_when : VersionLaws → (b : Bool) (low : ℕ) (id : PageId) (earlier : List LogRecord) (r : LogRecord) → touches id r ≡ b → lrsn_of (version_of id earlier) ≤ low → AreRecords (earlier ++ r ∷ [])
    → Follows low r (changes_of r.body) → Step id earlier r
step_when k true low id earlier r e le are follows =
    let is : lrsn_of (version_of id (earlier ++ r ∷ [])) ≡ r.lrsn = k.number earlier r id are e in
    let up : low ≤ r.lrsn = no_less low r (changes_of r.body) follows in
    record { rises = omega (arith, is, up, le); bounded = omega (arith, is) }
step_when k false low id earlier r e le are follows =
    let is : lrsn_of (version_of id (earlier ++ r ∷ [])) ≡ lrsn_of (version_of id earlier) = ap lrsn_of (same_version k id earlier r e) in
    let up : low ≤ r.lrsn = no_less low r (changes_of r.body) follows in
    record { rises = omega (arith, is); bounded = omega (arith, is, up, le) }

-- the last version has no lower number than an earlier one, and no higher than the last record
record Within (id : PageId) (all earlier rest : List LogRecord) (low : ℕ) : Type 0 where
  rises : lrsn_of (version_of id earlier) ≤ lrsn_of (version_of id all)
  bounded : lrsn_of (version_of id all) ≤ last_number low rest

within : VersionLaws → (id : PageId) (all earlier rest : List LogRecord) (low : ℕ) → earlier ++ rest ≡ all → AreRecords all → lrsn_of (version_of id earlier) ≤ low → AreInOrder low rest → Within id all earlier rest low
within k id all earlier [] low e are le order =
    let is : lrsn_of (version_of id all) ≡ lrsn_of (version_of id earlier) = ap (λ (l : List LogRecord). lrsn_of (version_of id l)) (sym e ∙ append-nil earlier) in
    record { rises = omega (arith, is); bounded = omega (arith, is, le) }
within k id all earlier (r ∷ rs) low e are le order =
    let on : (earlier ++ r ∷ []) ++ rs ≡ all = append_assoc earlier (r ∷ []) rs ∙ e in
    let front : AreRecords (earlier ++ r ∷ []) = are_front (earlier ++ r ∷ []) rs (subst AreRecords (sym on) are) in
    let one = step_when k (touches id r) low id earlier r refl le front order.0 in
    let more = within k id all (earlier ++ r ∷ []) rs r.lrsn on are one.bounded order.1 in
    record { rises = omega (arith, one.rises, more.rises); bounded = more.bounded }

pub last_bounded : VersionLaws → (id : PageId) (records : List LogRecord) → AreRecords records → lrsn_of (version_of id records) ≤ last_number 0 records
last_bounded k id records are = let zero_is : lrsn_of zeros ≡ 0 = k.zero in (within k id records [] records 0 refl are (omega (arith, zero_is)) are.1).bounded

pub version_rises : VersionLaws → (id : PageId) (first rest : List LogRecord) → AreRecords (first ++ rest) → lrsn_of (version_of id first) ≤ lrsn_of (version_of id (first ++ rest))
version_rises k id first rest are =
    (within k id (first ++ rest) first rest (last_number 0 first) refl are (last_bounded k id first (are_front first rest are)) (order_rest 0 first rest are.1)).rises

-- ---- the patches of a record lie in their pages

image_length : (key : ℕ) (value : Option (List ℕ)) → StateIsAllowed value → length (image key value) ≡ 128
image_length key None h = refl
image_length key (Some value) h =
    let fits = h.0 in
    let zero : ℕ = 0 in
    let rest : List ℕ = replicate (112 - length value) zero in
    let long : length rest ≡ 112 - length value = length-replicate (112 - length value) zero in
    let both : length (value ++ rest) ≡ length value + length rest = length-append value rest in
    let all : length (image key (Some value)) ≡ 16 + length (value ++ rest) = length-append (head 2 (length value) key) (value ++ rest) in
    omega (arith, fits, long, both, all)

pub row_within : (c : RowChange) → ChangeIsAllowed c → AreWithin (row_patch c ∷ [])
row_within c h = (omega (arith, image_length c.key c.after h.after_is, h.slot_in), tt)

patches_within : (ps : List Patch) → AllByRecursion PatchIsAllowed ps → AreWithin ps
patches_within [] h = tt
patches_within (p ∷ ps) h = (h.0.within, patches_within ps h.1)

pub body_within : (v : Version) (b : Body) → BodyIsAllowed v b → AreWithin (changes_of b)
body_within v (body.RowChange c) h = row_within c h
body_within v (body.Compensation c undone) h = row_within c h.0
body_within v (body.System ps) h = patches_within ps h.each
body_within v body.Commit h = tt
body_within v body.Ended h = tt
body_within v (body.Checkpoint offset) h = tt
body_within v body.RestartEnd h = tt

-- ---- the version in which pages are written

length_patched : (page bytes : List ℕ) (at : ℕ) → at + length bytes ≤ length page → length (patched page at bytes) ≡ length page
unfolding patched
length_patched page bytes at h =
    omega (arith, length-append (take at page ++ bytes) (drop (at + length bytes) page), length-append (take at page) bytes, length-take-le at page (omega arith), length-drop (at + length bytes) page)

pub stamp_new : (page : List ℕ) (lrsn : ℕ) → 6 ≤ length page → is_old (set_lrsn page lrsn) ≡ false
unfolding set_lrsn set_version patched
stamp_new [] lrsn le = absurd (let none : ⊥ = omega (arith, le) in none)
stamp_new (a ∷ []) lrsn le = absurd (let none : ⊥ = omega (arith, le) in none)
stamp_new (a ∷ b ∷ []) lrsn le = absurd (let none : ⊥ = omega (arith, le) in none)
stamp_new (a ∷ b ∷ c ∷ []) lrsn le = absurd (let none : ⊥ = omega (arith, le) in none)
stamp_new (a ∷ b ∷ c ∷ d ∷ []) lrsn le = absurd (let none : ⊥ = omega (arith, le) in none)
stamp_new (a ∷ b ∷ c ∷ d ∷ e ∷ []) lrsn le = absurd (let none : ⊥ = omega (arith, le) in none)
stamp_new (a ∷ b ∷ c ∷ d ∷ e ∷ f ∷ page) lrsn le = refl

-- a whole page of that version, stamped or not
pub record IsNew (page : List ℕ) : Type 0 where
  pub whole : length page ≡ 4096
  pub new : is_old page ≡ false

patch_new : VersionLaws → (b : Bool) (lrsn : ℕ) (p : Patch) (page : List ℕ) → p.offset + length p.bytes ≤ 4096 → IsNew page → IsNew (cond b (after_patch lrsn page p) page)
patch_new s true lrsn p page lies h =
    let whole = h.whole in
    let same = length_patched page p.bytes p.offset (omega (arith, lies, whole)) in
    record { whole = s.whole lrsn page (p ∷ []) h.whole (lies, tt); new = stamp_new (patched page p.offset p.bytes) lrsn (omega (arith, same, whole)) }
patch_new s false lrsn p page lies h = h

pub patches_new : VersionLaws → (id : PageId) (lrsn : ℕ) (ps : List Patch) (page : List ℕ) → AreWithin ps → IsNew page → IsNew (written id lrsn ps page)
patches_new s id lrsn [] page lie h = h
patches_new s id lrsn (p ∷ ps) page lie h = patches_new s id lrsn ps (cond (same_page p.page id) (after_patch lrsn page p) page) lie.1 (patch_new s (same_page p.page id) lrsn p page lie.0 h)

new_from : VersionLaws → (rs : List LogRecord) (id : PageId) (page : List ℕ) → AllByRecursion IsAllowed rs → IsNew page → IsNew (version_from id page rs)
new_from s [] id page allowed h = h
new_from s (r ∷ rs) id page allowed h = new_from s rs id (after_record id page r) allowed.1 (patches_new s id r.lrsn (changes_of r.body) page (body_within r.version r.body allowed.0.body_is) h)

pub version_new : VersionLaws → (rs : List LogRecord) (id : PageId) → AllByRecursion IsAllowed rs → IsNew (version_of id rs)
version_new s rs id allowed = new_from s rs id zeros allowed (record { whole = s.zeros_whole; new = s.zeros_new })
