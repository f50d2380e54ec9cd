-- Pages after patches: as long as they were, with the number of the change.
use Rattle.std.proofs.Common.{◌≡◌, ℕ, ◌+◌, ◌^◌, ◌<◌, Bool, true, false, inl, inr, List, [], ◌∷◌, ◌++◌, length, take, drop, arith, length-append, length-drop}
use Rattle.std.specs.Prelude.{◌⊎◌, ◌||◌, if◌then◌else◌}
use Rattle.std.specs.List.{list_any}
use Rattle.std.proofs.lemmas.List.{length-take}
use Rattle.ds_base.specs.declared.names.PageId.{PageId}
use Rattle.ds_base.specs.Pages.{same_page}
use Rattle.page_format.specs.declared.patch.Patch.{Patch}
use Rattle.page_format.specs.Fields.{lrsn_of, page_size, patched, set_lrsn}
use Rattle.page_images.specs.Parts.{Lies}
use Rattle.heap_space.specs.Written.{after_patch, written}
use Rattle.page_numbers.specs.Numbers.{LiesWithin, LieWithin}

-- what the crates below say
pub record Laws : Type 0 where
  pub whole : (lrsn : ℕ) (page : List ℕ) (p : Patch) → Lies page p → length (after_patch lrsn page p) ≡ page_size
  pub stamp : (lrsn : ℕ) (page : List ℕ) → length page ≡ page_size → lrsn < 2 ^ 80 → lrsn_of (set_lrsn page lrsn) ≡ lrsn

patched_whole : (page : List ℕ) (p : Patch) → length page ≡ page_size → LiesWithin p → length (patched page p.offset p.bytes) ≡ page_size
unfolding patched
patched_whole page p whole lies =
    let front = take p.offset page in
    let rest = drop (p.offset + length p.bytes) page in
    omega (arith, whole, lies, length-append (front ++ p.bytes) rest, length-append front p.bytes, length-take p.offset page, length-drop (p.offset + length p.bytes) page)

pub patch_whole : Laws → (n : ℕ) (page : List ℕ) (p : Patch) → length page ≡ page_size → LiesWithin p → length (after_patch n page p) ≡ page_size
patch_whole laws n page p whole lies = laws.whole n page p (record { whole = whole; within = lies })

pub patch_shows : Laws → (n : ℕ) (page : List ℕ) (p : Patch) → length page ≡ page_size → LiesWithin p → n < 2 ^ 80 → lrsn_of (after_patch n page p) ≡ n
patch_shows laws n page p whole lies small = laws.stamp n (patched page p.offset p.bytes) (patched_whole page p whole lies) small

-- ---- all patches
chosen_whole : Laws → (n : ℕ) (page : List ℕ) (p : Patch) (b : Bool) → length page ≡ page_size → LiesWithin p → length (if b then after_patch n page p else page) ≡ page_size
chosen_whole laws n page p true whole lies = patch_whole laws n page p whole lies
chosen_whole laws n page p false whole lies = whole

pub written_whole : Laws → (id : PageId) (n : ℕ) (ps : List Patch) (page : List ℕ) → length page ≡ page_size → LieWithin ps → length (written id n ps page) ≡ page_size
written_whole laws id n [] page whole lie = whole
written_whole laws id n (p ∷ ps) page whole lie =
    written_whole laws id n ps (if same_page p.page id then after_patch n page p else page) (chosen_whole laws n page p (same_page p.page id) whole lie.0) lie.1

chosen_shows : Laws → (n : ℕ) (page : List ℕ) (p : Patch) (b x : Bool) → length page ≡ page_size → LiesWithin p → n < 2 ^ 80 → (lrsn_of page ≡ n) ⊎ ((b || x) ≡ true)
    → (lrsn_of (if b then after_patch n page p else page) ≡ n) ⊎ (x ≡ true)
chosen_shows laws n page p true x whole lies small e = inl (patch_shows laws n page p whole lies small)
chosen_shows laws n page p false x whole lies small e = e

pub written_shows : Laws → (id : PageId) (n : ℕ) (ps : List Patch) (page : List ℕ) → length page ≡ page_size → LieWithin ps → n < 2 ^ 80
    → (lrsn_of page ≡ n) ⊎ (list_any (λ (p : Patch). same_page p.page id) ps ≡ true) → lrsn_of (written id n ps page) ≡ n
written_shows laws id n [] page whole lie small (inl e) = e
written_shows laws id n [] page whole lie small (inr e) = absurd (cc e)
written_shows laws id n (p ∷ ps) page whole lie small e =
    written_shows laws id n ps (if same_page p.page id then after_patch n page p else page) (chosen_whole laws n page p (same_page p.page id) whole lie.0) lie.1 small
    (chosen_shows laws n page p (same_page p.page id) (list_any (λ (p : Patch). same_page p.page id) ps) whole lie.0 small e)
