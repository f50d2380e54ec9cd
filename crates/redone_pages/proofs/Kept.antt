-- Pages that are kept in a map, one change after the other.
use Rattle.std.proofs.Common.{◌≡◌, ◌↔◌, ℕ, ◌+◌, ◌<◌, Bool, true, false, cond, Option, Some, None, List, [], ◌∷◌, length, get_or, drop, replicate, refl, sym, ap, subst, ◌∙◌, arith, if◌then◌else◌}
use Rattle.std.specs.Prelude.{◌&&◌, ◌==◌, IsTrue}
use Rattle.std.specs.Map.{lookup}
use Rattle.std.specs.BTreeMap.{is_at}
use Rattle.std.specs.Ordering.{nat_cmp, is_eq, ordering_then}
use Rattle.std.specs.declared.cmp.Ordering.{Ordering}
use Rattle.std.specs.declared.cmp.Ordering.TheVariants.{Less, Equal, Greater}
use Rattle.std.proofs.lemmas.Bool.Decides.{nat_tests}
use Rattle.std.proofs.lemmas.List.{drop_more}
use Rattle.ds_base.specs.Pages.{same_page}
use Rattle.ds_base.specs.declared.names.PageId.{PageId}
use Rattle.ds_model.specs.declared.log.Version.{Version}
use Rattle.ds_model.specs.declared.log.Body.{Body}
use Rattle.ds_model.specs.declared.log.Body.TheVariants as body
use Rattle.ds_model.specs.RecordBytes.{BodyIsAllowed, BodyFits}
use Rattle.page_format.specs.Fields.{page_size}
use Rattle.page_format.specs.declared.patch.Patch.{Patch}
use Rattle.index_leaf.specs.Changes.{zeros as zero_bytes}
use Rattle.heap_space.specs.Written.{after_patch, written}
use Rattle.page_images.specs.Images.{zeros}
use Rattle.page_records.specs.Pages.{page_cmp}
use Rattle.redone_pages.specs.declared.range.TableRange.{TableRange}
use Rattle.redone_pages.specs.Ranges.{HasPage}
use Rattle.redone_pages.specs.Held.{or_zeros, images_in, IsTaken, AreAfter}

abbrev Entries : Type 0
Entries = List (PageId × List ℕ)

-- what the map has at a page
abbrev held : Entries → PageId → Option (List ℕ)
held es q = lookup (is_at (page_cmp q)) es

abbrev IsPut : PageId → List ℕ → Entries → Entries → Type 0
IsPut id page before after = (q : PageId) → held after q ≡ cond (is_at (page_cmp id) q) (Some page) (held before q)

-- ---- a page that was never written

pub blank : replicate page_size 0 ≡ zeros
unfolding zero_bytes
blank = refl

pub lacking : (es : Entries) (id : PageId) (page : List ℕ) → None ≡ held es id → page ≡ replicate page_size 0 → page ≡ images_in es id
lacking es id page none is = is ∙ blank ∙ ap or_zeros none

-- ---- the names of pages

decide : (b : Bool) (P : Type 0) → (b ≡ true → P) → (b ≡ false → P) → P
decide true P f g = f refl
decide false P f g = g refl

tie : (m n : ℕ) → is_eq (nat_cmp m n) ≡ (m == n)
tie m n = grind (arith, nat_tests)

tie_then : (r s : Ordering) → is_eq (ordering_then r s) ≡ (is_eq r && is_eq s)
tie_then Less s = refl
tie_then Equal s = refl
tie_then Greater s = refl

named : (a b : PageId) → is_at (page_cmp a) b ≡ same_page a b
named a b =
    tie_then (nat_cmp a.set b.set) (nat_cmp a.number b.number)
    ∙ ap (λ (x : Bool). x && is_eq (nat_cmp a.number b.number)) (tie a.set b.set)
    ∙ ap (λ (x : Bool). (a.set == b.set) && x) (tie a.number b.number)

same_name : (a b : PageId) → same_page a b ≡ true → a ≡ b
same_name a b h =
    let p : a.set ≡ b.set = grind arith in
    let q : a.number ≡ b.number = grind arith in
    λ i. record { set = p i; number = q i }

-- ---- one change

changed : (es gs fs : Entries) (p : Patch) (lrsn : ℕ) (page : List ℕ) (id : PageId) → page ≡ after_patch lrsn (images_in es p.page) p → IsTaken p.page es gs → IsPut p.page page gs fs → images_in fs id ≡ written id lrsn (p ∷ []) (images_in es id)
changed es gs fs p lrsn page id is taken put =
    decide (same_page p.page id) _
    (λ s.
    ap or_zeros (put id ∙ ap (λ (b : Bool). cond b (Some page) (held gs id)) (named p.page id ∙ s))
    ∙ is
    ∙ ap (λ (q : PageId). after_patch lrsn (images_in es q) p) (same_name p.page id s)
    ∙ ap (λ (b : Bool). if b then after_patch lrsn (images_in es id) p else images_in es id) (sym s))
    (λ s.
    ap or_zeros
    (put id
    ∙ ap (λ (b : Bool). cond b (Some page) (held gs id)) (named p.page id ∙ s)
    ∙ taken id
    ∙ ap (λ (b : Bool). cond b None (held es id)) (named p.page id ∙ s))
    ∙ ap (λ (b : Bool). if b then after_patch lrsn (images_in es id) p else images_in es id) (sym s))

-- a page that is taken out, changed and put in again
pub after_one : (range : TableRange) (es gs fs : Entries) (p : Patch) (id : PageId) (lrsn : ℕ) (old page : List ℕ) → id ≡ p.page → old ≡ images_in es id → page ≡ after_patch lrsn old p → IsTaken id es gs → IsPut id page gs fs → AreAfter range lrsn (p ∷ []) es fs
after_one range es gs fs p id lrsn old page name was is taken put q has =
    changed es gs fs p lrsn page q
    (is ∙ ap (λ (o : List ℕ). after_patch lrsn o p) (was ∙ ap (images_in es) name))
    (subst (λ (i : PageId). IsTaken i es gs) name taken)
    (subst (λ (i : PageId). IsPut i page gs fs) name put)

-- a page of another table is left out
pub left_out : (range : TableRange) (es : Entries) (p : Patch) (id : PageId) (lrsn : ℕ) (b : Bool) → id ≡ p.page → IsTrue b ↔ HasPage range id → b ≡ false → AreAfter range lrsn (p ∷ []) es es
left_out range es p id lrsn b name test fails q has =
    decide (same_page p.page q) _
    (λ s. let yes : b ≡ true = test.1 (subst (HasPage range) (sym (name ∙ same_name p.page q s)) has) in absurd cc)
    (λ s. ap (λ (x : Bool). if x then after_patch lrsn (images_in es q) p else images_in es q) (sym s))

-- ---- the changes of a record

-- the rest of the changes leads from these pages to where all lead from those
abbrev pub IsLeft : TableRange → ℕ → List Patch → ℕ → Entries → Entries → Type 0
IsLeft range lrsn ps k es gs = (id : PageId) → HasPage range id → written id lrsn (drop k ps) (images_in gs id) ≡ written id lrsn ps (images_in es id)

pub next_patch : (range : TableRange) (lrsn : ℕ) (ps : List Patch) (k : ℕ) (p : Patch) (es gs fs : Entries) → k < length ps → p ≡ get_or ps k p → IsLeft range lrsn ps k es gs → AreAfter range lrsn (p ∷ []) gs fs → IsLeft range lrsn ps (k + 1) es fs
next_patch range lrsn ps k p es gs fs lt is so after id has =
    ap (λ (page : List ℕ). written id lrsn (drop (k + 1) ps) page) (after id has)
    ∙ ap (λ (q : Patch). written id lrsn (q ∷ drop (k + 1) ps) (images_in gs id)) is
    ∙ ap (λ (l : List Patch). written id lrsn l (images_in gs id)) (sym (drop_more ps k p lt))
    ∙ so id has

drop_whole : (ps : List Patch) → drop (length ps) ps ≡ []
drop_whole [] = refl
drop_whole (p ∷ ps) = drop_whole ps

pub last_patch : (range : TableRange) (lrsn : ℕ) (ps : List Patch) (k : ℕ) (es gs : Entries) → k ≡ length ps → IsLeft range lrsn ps k es gs → AreAfter range lrsn ps es gs
last_patch range lrsn ps k es gs whole so id has =
    ap (λ (l : List Patch). written id lrsn l (images_in gs id)) (sym (drop_whole ps) ∙ ap (λ (n : ℕ). drop n ps) (sym whole))
    ∙ so id has

-- a record that a log may hold can be applied
pub body_fits : (v : Version) (b : Body) → BodyIsAllowed v b → BodyFits v b
body_fits v (body.RowChange c) h = (h.page_some, h.slot_in)
body_fits v (body.Compensation c undone) h = (h.0.page_some, h.0.slot_in)
body_fits v (body.System ps) h = h
body_fits v body.Commit h = tt
body_fits v body.Ended h = tt
body_fits v (body.Checkpoint offset) h = tt
body_fits v body.RestartEnd h = tt
