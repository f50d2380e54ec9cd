-- What the undo of a group restart makes of the page of a change.
use Rattle.std.specs.Prelude.{◌≡◌, ℕ, ◌+◌, false, List, ◌∷◌, None}
use Rattle.ds_base.specs.Pages.{same_page}
use Rattle.ds_base.specs.declared.names.PageId.{PageId}
use Rattle.ds_disk.specs.Contents.{Contents}
use Rattle.ds_disk.specs.Pages.{page_at}
use Rattle.ds_model.specs.declared.log.LogRecord.{LogRecord}
use Rattle.ds_model.specs.declared.log.RowChange.{RowChange}
use Rattle.ds_model.specs.RecordBytes.{ChangeIsAllowed}
use Rattle.log_record.specs.declared.log.Log.{Log}
use Rattle.log_merge.specs.Merging.{is_merged}
use Rattle.page_chain.specs.Chains.{row_patch}
use Rattle.page_redo.specs.Rows.{change_fault}
use Rattle.restart_plan.specs.declared.opened.Undo.{Undo}
use Rattle.group_restart.specs.declared.stage.Stage.TheVariants as stage
use Rattle.group_restart.specs.Machine.{Restart}
use Rattle.group_restart.specs.Disk.{with_page as with_hand}
use Rattle.group_restart.specs.Records.{compensation}
use Rattle.group_restart.specs.Undo.{undo_fault, undone_page}
use Rattle.group_restart.specs.Course.{with_plan, rest_undo, undo_at, take_done}
use Rattle.sound_disk.specs.Versions.{last_images}
use Rattle.sound_appends.specs.Appends.{Appends}
use Rattle.sound_restarts.specs.Redo.{IsSoundNow, with_page, IsLast}

abbrev pub page_of : Undo → PageId
page_of u = (row_patch u.change).page

-- the page of the change on the disk
abbrev pub page_for : Contents → Undo → List ℕ
page_for c u = page_at c.pages (page_of u)

abbrev pub AreLast : Contents → List Log → Type 0
AreLast c logs = (id : PageId) → IsLast c logs id

-- the slot of the change is there, and is its key's, as all records leave the page
abbrev pub HasSlot : List Log → RowChange → Type 0
HasSlot logs c = change_fault (row_patch c).page c (last_images logs (row_patch c).page) ≡ None

-- a change that is undone, whose page is on the disk as all records leave it
pub record CanUndo (c : Contents) (logs : List Log) (u : Undo) : Type 0 where
  pub now : IsSoundNow c logs
  pub last : IsLast c logs (page_of u)
  pub slot : HasSlot logs u.change
  pub allowed : ChangeIsAllowed u.change

-- ---- laws

-- no field is in the way
abbrev pub UndoFindsItsRow : Type 0
UndoFindsItsRow = (c : Contents) (logs : List Log) (u : Undo) → CanUndo c logs u → undo_fault u.change (page_for c u) ≡ None

-- the row before the change is put there, and the page is as all records and the compensation leave it
abbrev pub UndoMakesLast : Type 0
UndoMakesLast = (c : Contents) (logs after : List Log) (u : Undo) (lrsn : ℕ) → CanUndo c logs u → Appends logs (compensation u lrsn) after
    → undone_page u.change lrsn (page_for c u) ≡ last_images after (page_of u)

-- which leaves all other pages
abbrev pub UndoLeavesOthers : Type 0
UndoLeavesOthers = (logs after : List Log) (u : Undo) (lrsn : ℕ) (id : PageId) → Appends logs (compensation u lrsn) after → same_page (page_of u) id ≡ false → last_images after id ≡ last_images logs id

-- and a record that isn't merged all
abbrev pub OthersLeavePages : Type 0
OthersLeavePages = (logs after : List Log) (r : LogRecord) (id : PageId) → Appends logs r after → is_merged r.body ≡ false → last_images after id ≡ last_images logs id

-- so all pages are as all records leave them again, where the page is written
abbrev pub UndoLeavesLast : Type 0
UndoLeavesLast = (c : Contents) (logs after : List Log) (u : Undo) (lrsn : ℕ) → CanUndo c logs u → AreLast c logs → Appends logs (compensation u lrsn) after
    → AreLast (with_page c (page_of u) (undone_page u.change lrsn (page_for c u))) after

-- the restart that has read the page goes on with the undo of the change, under the next number
abbrev pub UndoReads : Type 0
UndoReads = (h : Restart) (c : Contents) (logs : List Log) (u : Undo) (us : List Undo) → CanUndo c logs u → h.plan.undo ≡ u ∷ us
    → take_done (with_hand h (page_for c u)) (stage.UndoRead (page_of u)) ≡ undo_at (with_plan (with_hand h (page_for c u)) (rest_undo h.plan)) u (h.counter + 1)
