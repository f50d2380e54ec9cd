-- What one record makes of one page.
use Rattle.std.proofs.Common.{◌≡◌, ℕ, ◌+◌, ◌-◌, ◌<◌, ◌^◌, Bool, true, false, ◌||◌, cond, List, [], ◌∷◌, ◌++◌, length, replicate, Option, Some, None, refl, ap, subst, ◌∙◌, arith}
use Rattle.std.proofs.lemmas.List.{length-append, length-replicate}
use Rattle.std.specs.List.{AllByRecursion, list_any}
use Rattle.ds_base.specs.declared.names.PageId.{PageId}
use Rattle.ds_model.specs.declared.log.LogRecord.{LogRecord}
use Rattle.ds_model.specs.declared.log.RowChange.{RowChange}
use Rattle.ds_model.specs.declared.log.Body.{Body}
use Rattle.ds_model.specs.declared.log.Body.TheVariants as body
use Rattle.ds_model.specs.declared.log.Version.{Version}
use Rattle.ds_model.specs.declared.log.Version.TheVariants as version
use Rattle.ds_model.specs.RecordBytes.{IsAllowed, StateIsAllowed, ChangeIsAllowed, PatchIsAllowed, IsNumber, BodyIsAllowed}
use Rattle.page_images.specs.Given.{lrsn_of}
use Rattle.page_images.specs.Given.{Patch}
use Rattle.page_images.specs.Given.{head, image}
use Rattle.page_images.specs.Given.{written}
use Rattle.ds_base.specs.Pages.{same_page}
use Rattle.page_images.specs.Images.{zeros, patches_for, all_stamped, IsFree}
use Rattle.page_images.specs.Parts.{AreWithin}
use Rattle.page_chain.specs.Chains.{row_patch, changes_of, touches, after_record}

-- ---- the patches of a record lie in their pages

image_length : (key : ℕ) (value : Option (List ℕ)) → StateIsAllowed value → length (image key value) ≡ 128
image_length key None h = refl
image_length key (Some value) h =
    let fits = h.0 in
    let zero : ℕ = 0 in
    let rest : List ℕ = replicate (112 - length value) zero in
    let long : length rest ≡ 112 - length value = length-replicate (112 - length value) zero in
    let both : length (value ++ rest) ≡ length value + length rest = length-append value rest in
    let all : length (image key (Some value)) ≡ 16 + length (value ++ rest) = length-append (head 2 (length value) key) (value ++ rest) in
    omega (arith, fits, long, both, all)

row_within : (c : RowChange) → ChangeIsAllowed c → AreWithin (row_patch c ∷ [])
row_within c h = (omega (arith, image_length c.key c.after h.after_is, h.slot_in), tt)

patches_within : (ps : List Patch) → AllByRecursion PatchIsAllowed ps → AreWithin ps
patches_within [] h = tt
patches_within (p ∷ ps) h = (h.0.within, patches_within ps h.1)

body_within : (v : Version) (b : Body) → BodyIsAllowed v b → AreWithin (changes_of b)
body_within v (body.RowChange c) h = row_within c h
body_within v (body.Compensation c undone) h = row_within c h.0
body_within v (body.System ps) h = patches_within ps h.each
body_within v body.Commit h = tt
body_within v body.Ended h = tt
body_within v (body.Checkpoint offset) h = tt
body_within v body.RestartEnd h = tt

pub record_within : (r : LogRecord) → IsAllowed r → AreWithin (changes_of r.body)
record_within r h = body_within r.version r.body h.body_is

-- the number of a record of either version
pub number_in : (v : Version) (n : ℕ) → IsNumber v n → n < 2 ^ 80
number_in version.One n h = omega (arith, h)
number_in version.Two n h = h

within_when : (b : Bool) (p : Patch) (ps : List Patch) → AreWithin (p ∷ []) → AreWithin ps → AreWithin (cond b (p ∷ ps) ps)
within_when true p ps h k = (h.0, k)
within_when false p ps h k = k

within_for : (id : PageId) (ps : List Patch) → AreWithin ps → AreWithin (patches_for id ps)
within_for id [] h = tt
within_for id (p ∷ ps) h = within_when (same_page p.page id) p (patches_for id ps) (h.0, tt) (within_for id ps h.1)

-- ---- pages that the record doesn't change

or_first : (a b : Bool) → (a || b) ≡ false → a ≡ false
or_first true b e = e
or_first false b e = refl

or_second : (a b : Bool) → (a || b) ≡ false → b ≡ false
or_second true b e = cc
or_second false b e = e

free_of : (id : PageId) (ps : List Patch) → list_any (λ (p : Patch). same_page p.page id) ps ≡ false → IsFree id ps
free_of id [] e = tt
free_of id (p ∷ ps) e =
    (or_first (same_page p.page id) (list_any (λ (q : Patch). same_page q.page id) ps) e, free_of id ps (or_second (same_page p.page id) (list_any (λ (q : Patch). same_page q.page id) ps) e))

abbrev pub FreeStays : Type 0
FreeStays = (id : PageId) (lrsn : ℕ) (ps : List Patch) (page : List ℕ) → IsFree id ps → written id lrsn ps page ≡ page

pub others_stay : FreeStays → (r : LogRecord) (id : PageId) (page : List ℕ) → touches id r ≡ false → after_record id page r ≡ page
others_stay free r id page e = free id r.lrsn (changes_of r.body) page (free_of id (changes_of r.body) e)

-- ---- the page that it changes

-- what is known of the patches of one change, written to one page
pub record Stamping : Type 0 where
  pub free : FreeStays
  pub stamped : (id : PageId) (lrsn : ℕ) (ps : List Patch) (page : List ℕ) → written id lrsn ps page ≡ all_stamped lrsn page (patches_for id ps)
  pub whole : (lrsn : ℕ) (page : List ℕ) (ps : List Patch) → length page ≡ 4096 → AreWithin ps → length (all_stamped lrsn page ps) ≡ 4096
  pub lrsn : (lrsn : ℕ) (page : List ℕ) (p : Patch) (ps : List Patch) → length page ≡ 4096 → AreWithin (p ∷ ps) → lrsn < 2 ^ 80 → lrsn_of (all_stamped lrsn page (p ∷ ps)) ≡ lrsn
  pub zero : (length zeros ≡ 4096) × (lrsn_of zeros ≡ 0)

pub record_whole : Stamping → (r : LogRecord) (id : PageId) (page : List ℕ) → IsAllowed r → length page ≡ 4096 → length (after_record id page r) ≡ 4096
record_whole s r id page allowed whole =
    ap (λ (l : List ℕ). length l) (s.stamped id r.lrsn (changes_of r.body) page) ∙ s.whole r.lrsn page (patches_for id (changes_of r.body)) whole (within_for id (changes_of r.body) (record_within r allowed))

-- one patch at least is for the page
some_when : (b c : Bool) (p : Patch) (ps qs : List Patch) → (b || c) ≡ true → (c ≡ true → (q : Patch) × (rest : List Patch) × (qs ≡ q ∷ rest)) → (q : Patch) × (rest : List Patch) × (cond b (p ∷ qs) qs ≡ q ∷ rest)
some_when true c p ps qs e f = (p, qs, refl)
some_when false true p ps qs e f = f refl
some_when false false p ps qs e f = cc

some_for : (id : PageId) (ps : List Patch) → list_any (λ (p : Patch). same_page p.page id) ps ≡ true → (q : Patch) × (rest : List Patch) × (patches_for id ps ≡ q ∷ rest)
some_for id [] e = cc
some_for id (p ∷ ps) e = some_when (same_page p.page id) (list_any (λ (q : Patch). same_page q.page id) ps) p ps (patches_for id ps) e (some_for id ps)

pub record_stamps : Stamping → (r : LogRecord) (id : PageId) (page : List ℕ) → IsAllowed r → length page ≡ 4096 → touches id r ≡ true → lrsn_of (after_record id page r) ≡ r.lrsn
record_stamps s r id page allowed whole e =
    let ps = changes_of r.body in
    let some = some_for id ps e in
    ap lrsn_of (s.stamped id r.lrsn ps page)
    ∙ ap (λ (l : List Patch). lrsn_of (all_stamped r.lrsn page l)) some.2
    ∙ s.lrsn r.lrsn page some.0 some.1 whole (subst AreWithin some.2 (within_for id ps (record_within r allowed))) (number_in r.version r.lrsn allowed.lrsn_in)
