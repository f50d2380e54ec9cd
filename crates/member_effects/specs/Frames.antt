-- Frames after the replies about them.
use Rattle.std.specs.Prelude.{ℕ, true, false, List, slice_get, Option, Some, None}
use Rattle.ds_model.specs.declared.fate.Refusal.TheVariants as refusal
use Rattle.page_plans.specs.declared.action.Action.TheVariants as action
use Rattle.page_plans.specs.declared.action.Look.{Look}
use Rattle.page_plans.specs.declared.action.Look.TheVariants as look
use Rattle.page_plans.specs.Looks.{look_of}
use Rattle.facility.specs.declared.command.Reply.{Reply}
use Rattle.facility.specs.declared.command.Reply.TheVariants as reply
use Rattle.member_trans.specs.declared.fate.Owner.TheVariants as owner
use Rattle.member_needs.specs.Given.{MarksState}
use Rattle.member_needs.specs.Given.{offered}
use Rattle.member_needs.specs.Given.{frame_in, after_registered, after_filled, after_written, after_unregister}
use Rattle.member_effects.specs.declared.told.Told.{Told}
use Rattle.member_effects.specs.declared.told.Told.TheVariants as told

abbrev pub parked_told : Reply → Told
parked_told reply.Lost = told.Lost
parked_told reply.CacheFull = told.CacheFull
parked_told _ = told.Stepped

-- ---- read

abbrev pub read_told : Reply → Told
read_told reply.Found = told.Filled
read_told reply.NoData = told.ToFill
read_told other = parked_told other

-- without bytes in the cache, a frame is filled only where it is changed
abbrev pub empty_after : MarksState → ℕ → MarksState
empty_after s at = after_filled s at (frame_in s.heads at).changed

abbrev pub read_after : MarksState → ℕ → Reply → MarksState
read_after s at reply.Found = after_filled (after_registered s at true) at true
read_after s at reply.NoData = empty_after (after_registered s at true) at
read_after s at _ = s

-- ---- test

abbrev pub full_in : Look → Option ℕ
full_in (look.Full pages) = Some pages
full_in _ = None

abbrev pub full_by : ℕ → ℕ → Option (List ℕ) → Option ℕ
full_by table limit None = None
full_by table limit (Some page) = full_in (look_of (action.GiveSlot table 0 0) limit 0 None page)

-- how many pages the heap has whose header lies in the frame, where it has all that it may have and no slot is left
abbrev pub full_heap : List (List ℕ) → ℕ → ℕ → ℕ → Option ℕ
full_heap pages at table limit = full_by table limit (slice_get pages at)

abbrev pub full_with : ℕ → Option ℕ → Option (ℕ × ℕ)
full_with table None = None
full_with table (Some pages) = Some (table, pages)

abbrev pub full_at : List (List ℕ) → ℕ → Option ℕ → ℕ → Option (ℕ × ℕ)
full_at pages at None limit = None
full_at pages at (Some table) limit = full_with table (full_heap pages at table limit)

abbrev pub valid_after : MarksState → ℕ → ℕ → Option (ℕ × ℕ) → MarksState
valid_after s slot place None = s
valid_after s slot place (Some full) = offered s (owner.Slot slot) (refusal.SpaceFull full.0 full.1) place

abbrev pub valid_told : ℕ → Option (ℕ × ℕ) → Told
valid_told at None = told.Valid at
valid_told at (Some full) = told.Refused

abbrev pub tested_after : MarksState → List (List ℕ) → ℕ → ℕ → Option ℕ → ℕ → Reply → ℕ → MarksState
tested_after s pages at slot gives limit reply.Valid place = valid_after (after_registered s at true) slot place (full_at pages at gives limit)
tested_after s pages at slot gives limit _ place = after_registered s at false

abbrev pub tested_told : List (List ℕ) → ℕ → Option ℕ → ℕ → Reply → Told
tested_told pages at gives limit reply.Valid = valid_told at (full_at pages at gives limit)
tested_told pages at gives limit _ = told.Invalid

-- ---- write, unregister

abbrev pub written_told : Reply → Told
written_told reply.Written = told.Written
written_told other = parked_told other

abbrev pub written_after : MarksState → ℕ → Reply → MarksState
written_after s at reply.Written = after_written s at
written_after s at _ = s

abbrev pub unregistered_after : MarksState → ℕ → Reply → MarksState
unregistered_after s at reply.Done = after_unregister s at
unregistered_after s at _ = s
