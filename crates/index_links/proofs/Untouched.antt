-- A page of an index that isn't all zeros was changed by a record.
use Rattle.std.proofs.Common.{◌≡◌, ◌≢◌, ℕ, ◌≤◌, Bool, true, false, List, [], ◌∷◌, length, filter, refl, ap, ◌∙◌, arith, inl, inr}
use Rattle.std.specs.Prelude.{if◌then◌else◌, slice_index}
use Rattle.std.proofs.lemmas.Bool.{cases_lt}
use Rattle.ds_base.specs.Pages.{index_page}
use Rattle.ds_base.specs.declared.names.PageId.{PageId}
use Rattle.ds_model.specs.declared.log.LogRecord.{LogRecord}
use Rattle.index_protocol.specs.Index.{Kind, Unmade, Leaf, Branch}
use Rattle.page_images.specs.Images.{zeros}
use Rattle.page_chain.specs.Chains.{touches, version_from, images_of, LeavesOthers}
use Rattle.sound_disk.specs.Index_views.{kind_in, changes_by, changes_in}
use Rattle.index_links.proofs.Kinds_in.{byte_kind}

kept_cons : (b : Bool) (r : LogRecord) (rs : List LogRecord) → length (if b then r ∷ rs else rs) ≡ 0 → b ≡ false
kept_cons true r rs h = absurd (omega (arith, h))
kept_cons false r rs h = refl

kept_rest : (b : Bool) (r : LogRecord) (rs : List LogRecord) → length (if b then r ∷ rs else rs) ≡ 0 → length rs ≡ 0
kept_rest true r rs h = absurd (omega (arith, h))
kept_rest false r rs h = h

unchanged : LeavesOthers → (id : PageId) (page : List ℕ) (records : List LogRecord) → length (filter (touches id) records) ≡ 0 → version_from id page records ≡ page
unchanged k id page [] h = refl
unchanged k id page (r ∷ rs) h =
    let none = kept_cons (touches id r) r (filter (touches id) rs) h in
    ap (λ (q : List ℕ). version_from id q rs) (k r id page none) ∙ unchanged k id page rs (kept_rest (touches id r) r (filter (touches id) rs) h)

by_kind : (kind : Kind) (count : ℕ) → kind ≢ Unmade → changes_by kind count ≡ count
by_kind Unmade count h = absurd (h refl)
by_kind Leaf count h = refl
by_kind Branch count h = refl

pub last_unmade : (kind : Kind) (count : ℕ) → kind ≡ Unmade → changes_by kind count ≡ 0
last_unmade Unmade count h = refl
last_unmade Leaf count h = absurd cc
last_unmade Branch count h = absurd cc

pub last_made : LeavesOthers → slice_index zeros 4 ≡ 0 → (records : List LogRecord) (table n : ℕ) → kind_in (images_of records (index_page table n)) ≢ Unmade
    → 1 ≤ changes_by (kind_in (images_of records (index_page table n))) (changes_in records table n)
last_made k z records table n made =
    let is = by_kind (kind_in (images_of records (index_page table n))) (changes_in records table n) made in
    elim (cases_lt 0 (changes_in records table n)) as (λ _. 1 ≤ changes_by (kind_in (images_of records (index_page table n))) (changes_in records table n)) [
      | inl some ↦ omega (arith, is, some)
      | inr none ↦
          let count : length (filter (touches (index_page table n)) records) ≡ 0 = omega (arith, none) in
          absurd (made (ap kind_in (unchanged k (index_page table n) zeros records count) ∙ byte_kind zeros z))
    ]
