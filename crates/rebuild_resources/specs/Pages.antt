-- What is made of the pages that the logs name.
use Rattle.std.specs.Prelude.{Bool, true, false, List, drop, slice_get, Option, Some, None, Result, Ok, Err}
use Rattle.ds_base.specs.declared.names.PageId.{PageId}
use Rattle.ds_base.specs.declared.names.Volume.TheVariants as volume
use Rattle.ds_model.specs.declared.log.LogRecord.{LogRecord}
use Rattle.page_records.specs.declared.places.PageRecords.{PageRecords}
use Rattle.page_redo.specs.declared.fault.FieldFault.{FieldFault}
use Rattle.page_redo.specs.Forward.{Forward}
use Rattle.places_redo.specs.Picked.{brought_at}
use Rattle.rebuild_resources.specs.declared.told.RebuildTold.{RebuildTold}
use Rattle.rebuild_resources.specs.declared.told.RebuildTold.TheVariants as told
use Rattle.rebuild_resources.specs.State.{RebuildState, with_page}

abbrev pub damaged : PageId → FieldFault → RebuildTold
damaged page fault = told.Damaged (volume.Page page) fault.at

abbrev pub brought_told : PageId → Result Bool FieldFault → RebuildTold
brought_told page (Ok is_changed) = told.Brought is_changed
brought_told page (Err fault) = damaged page fault

-- a page that records have changed is to be written
abbrev pub hand_after : Option PageId → PageId → Bool → Option PageId
hand_after hand page true = Some page
hand_after hand page false = hand

-- a page with a field in the way stays among those that aren't brought forward
abbrev pub brought_after : RebuildState → PageId → Result Bool FieldFault → RebuildState
brought_after h page (Ok is_changed) = record h { pages = drop 1 h.pages; hand = hand_after h.hand page is_changed }
brought_after h page (Err fault) = h

-- the page at hand, brought forward by its records
abbrev pub page_brought : RebuildState → List LogRecord → PageRecords → Forward
page_brought h records p = brought_at p.page h.page records p.places

-- ---- the first page that is left was read

abbrev pub first_told : RebuildState → List LogRecord → Option PageRecords → RebuildTold
first_told h records None = told.Stepped
first_told h records (Some p) = brought_told p.page (page_brought h records p).outcome

abbrev pub first_after : RebuildState → List LogRecord → Option PageRecords → RebuildState
first_after h records None = h
first_after h records (Some p) = brought_after (with_page h (page_brought h records p).page) p.page (page_brought h records p).outcome

abbrev pub bring_told : RebuildState → Option (List LogRecord) → RebuildTold
bring_told h None = told.Stepped
bring_told h (Some records) = first_told h records (slice_get h.pages 0)

abbrev pub bring_after : RebuildState → Option (List LogRecord) → RebuildState
bring_after h None = h
bring_after h (Some records) = first_after h records (slice_get h.pages 0)

-- ---- the page in hand was written

abbrev pub written_after : RebuildState → RebuildState
written_after h = record h { hand = None }
