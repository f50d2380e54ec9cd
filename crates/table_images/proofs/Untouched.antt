-- Pages that no record changes.
use Rattle.std.proofs.Common.{◌≡◌, ℕ, ◌<◌, ◌≤◌, Bool, true, false, ◌||◌, List, [], ◌∷◌, refl, ap, ◌∙◌, arith}
use Rattle.std.specs.List.{list_any}
use Rattle.std.proofs.lemmas.Bool.Decides.{nat_tests}
use Rattle.ds_base.specs.Pages.{same_page}
use Rattle.ds_base.specs.declared.names.PageId.{PageId}
use Rattle.ds_model.specs.declared.log.LogRecord.{LogRecord}
use Rattle.page_format.specs.declared.patch.Patch.{Patch}
use Rattle.page_images.specs.Images.{zeros}
use Rattle.page_chain.specs.Chains.{changes_of, after_record, version_from, version_of, LeavesOthers}
use Rattle.disk_versions.specs.Ends.{page_of, last_with, last_in_patches, last_in_records}

-- ---- the greatest number

with_from : (set last : ℕ) (id : PageId) → last ≤ last_with set last id
with_from set last id = grind (arith, nat_tests)

patches_from : (set last : ℕ) (ps : List Patch) → last ≤ last_in_patches set last ps
patches_from set last [] = omega arith
patches_from set last (p ∷ ps) = let a = with_from set last p.page in let b = patches_from set (last_with set last p.page) ps in omega (arith, a, b)

records_from : (set last : ℕ) (rs : List LogRecord) → last ≤ last_in_records set last rs
records_from set last [] = omega arith
records_from set last (r ∷ rs) = let a = patches_from set last (changes_of r.body) in let b = records_from set (last_in_patches set last (changes_of r.body)) rs in omega (arith, a, b)

other_page : (set last n : ℕ) (id : PageId) → last_with set last id < n → same_page id (page_of set n) ≡ false
other_page set last n id lt = grind (arith, nat_tests)

neither : (a b : Bool) → a ≡ false → b ≡ false → (a || b) ≡ false
neither true b h k = h
neither false b h k = k

none_touches : (set last n : ℕ) (ps : List Patch) → last_in_patches set last ps < n → list_any (λ (p : Patch). same_page p.page (page_of set n)) ps ≡ false
none_touches set last n [] lt = refl
none_touches set last n (p ∷ ps) lt =
    let up = patches_from set (last_with set last p.page) ps in
    neither (same_page p.page (page_of set n)) (list_any (λ (p : Patch). same_page p.page (page_of set n)) ps)
    (other_page set last n p.page (omega (arith, lt, up)))
    (none_touches set (last_with set last p.page) n ps lt)

-- a page behind the greatest number stays as it was
unchanged : LeavesOthers → (set last n : ℕ) (page : List ℕ) (rs : List LogRecord) → last_in_records set last rs < n → version_from (page_of set n) page rs ≡ page
unchanged k set last n page [] lt = refl
unchanged k set last n page (r ∷ rs) lt =
    let up = records_from set (last_in_patches set last (changes_of r.body)) rs in
    let same : after_record (page_of set n) page r ≡ page = k r (page_of set n) page (none_touches set last n (changes_of r.body) (omega (arith, lt, up))) in
    ap (λ (q : List ℕ). version_from (page_of set n) q rs) same ∙ unchanged k set (last_in_patches set last (changes_of r.body)) n page rs lt

pub never_changed : LeavesOthers → (set n : ℕ) (rs : List LogRecord) → last_in_records set 0 rs < n → version_of (page_of set n) rs ≡ zeros
never_changed k set n rs lt = unchanged k set 0 n zeros rs lt
