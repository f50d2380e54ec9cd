-- The number that a change leaves in the pages that it writes.
use Rattle.std.specs.Prelude.{◌≡◌, ℕ, ◌+◌, ◌^◌, ◌<◌, ◌≤◌, true, List, [], ◌∷◌, length, Some}
use Rattle.std.specs.List.{list_any}
use Rattle.ds_base.specs.declared.names.PageId.{PageId}
use Rattle.ds_base.specs.Pages.{same_page}
use Rattle.ds_model.specs.declared.log.RowChange.{RowChange}
use Rattle.page_format.specs.declared.patch.Patch.{Patch}
use Rattle.page_format.specs.Fields.{page_size}
use Rattle.page_format.specs.Header.{slots_per_page}
use Rattle.page_chain.specs.Chains.{row_patch}
use Rattle.facility.specs.declared.command.Reply.TheVariants as reply
use Rattle.member_intents.specs.declared.intent.Frames.{Frames}
use Rattle.member_trans.specs.declared.fate.Owner.{Owner}
use Rattle.member_marks.specs.Frames.{frame_in}
use Rattle.member_needs.specs.declared.plans.Plan.TheVariants as plan
use Rattle.member_needs.specs.Records.{frame_of}
use Rattle.member_effects.specs.Kept.{Kept}
use Rattle.member_effects.specs.Changes.{bytes_at, drawn_after, undone_after}
use Rattle.page_intents.specs.Draws.{changes_in, in_frames, is_frame, ShowNumber}

-- the frame has this page, with its bytes
pub record HasPage (k : Kept) (at : ℕ) : Type 0 where
  pub page : PageId
  pub placed : (frame_in k.marks.heads at).page ≡ Some page
  pub within : at < length k.pages
  pub whole : length (bytes_at k.pages at) ≡ page_size

abbrev pub LiesWithin : Patch → Type 0
LiesWithin p = p.offset + length p.bytes ≤ page_size

abbrev pub LieWithin : List Patch → Type 0
LieWithin [] = Unit {0}
LieWithin (p ∷ ps) = LiesWithin p × LieWithin ps

-- the row has a slot, and lies in it
pub record HasSlot (c : RowChange) : Type 0 where
  pub slot : c.place.slot < slots_per_page
  pub lies : LiesWithin (row_patch c)

-- a change of a row, and one that takes it back
abbrev pub RowShows : Type 0
RowShows = (k : Kept) (slot : ℕ) (frames : Frames) (c : RowChange) (number place : ℕ)
    → ((q : ℕ) → is_frame (frame_of frames 0) q ≡ true → HasPage k q) → HasSlot c → number < 2 ^ 80
    → ShowNumber (drawn_after k slot frames (plan.Row c) (reply.Drawn number) place) (changes_in (plan.Row c) frames) number

abbrev pub BackShows : Type 0
BackShows = (k : Kept) (o : Owner) (at : ℕ) (c : RowChange) (number place : ℕ)
    → HasPage k at → HasSlot c → number < 2 ^ 80 → ShowNumber (undone_after k o at (plan.Back c) (reply.Drawn number) place) (is_frame (Some at)) number

-- one of these patches is for the page in the frame
abbrev pub IsPatched : Kept → ℕ → List Patch → Type 0
IsPatched k q patches = (id : PageId) → (frame_in k.marks.heads q).page ≡ Some id → list_any (λ (p : Patch). same_page p.page id) patches ≡ true

-- a change of the system
abbrev pub PatchesShow : Type 0
PatchesShow = (k : Kept) (slot : ℕ) (frames : Frames) (patches : List Patch) (number place : ℕ)
    → ((q : ℕ) → in_frames frames q ≡ true → HasPage k q × IsPatched k q patches) → LieWithin patches → number < 2 ^ 80
    → ShowNumber (drawn_after k slot frames (plan.System patches) (reply.Drawn number) place) (changes_in (plan.System patches) frames) number
