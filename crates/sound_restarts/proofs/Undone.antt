-- The undo of a change over a sound disk.
use Rattle.std.proofs.Common.{◌≡◌, ℕ, ◌+◌, ◌≤◌, Bool, true, false, cond, List, [], ◌∷◌, ◌++◌, length, Option, Some, None, inl, inr, sym, ap, subst, ◌∙◌}
use Rattle.std.specs.Prelude.{◌==◌, slice_get}
use Rattle.std.specs.List.{AllByRecursion}
use Rattle.std.proofs.lemmas.Bool.{cases_Bool, cond-false, ne_eqb}
use Rattle.std.proofs.lemmas.List.{append-nil}
use Rattle.ds_base.specs.declared.names.PageId.{PageId}
use Rattle.ds_disk.specs.Contents.{Contents}
use Rattle.ds_model.specs.RecordBytes.{IsAllowed, ChangeIsAllowed}
use Rattle.ds_model.specs.declared.log.LogRecord.{LogRecord}
use Rattle.ds_model.specs.declared.log.RowChange.{RowChange}
use Rattle.heap_space.specs.Written.{after_patch, written}
use Rattle.log_record.specs.declared.log.Log.{Log}
use Rattle.log_record.specs.Changes.{inverse}
use Rattle.log_merge.specs.Merging.{is_merged}
use Rattle.page_format.specs.Fields.{is_old, renewed, kind_at}
use Rattle.page_format.specs.declared.patch.Patch.{Patch}
use Rattle.page_chain.specs.Chains.{row_patch, images_of}
use Rattle.page_redo.specs.Rows.{or_fault, change_fault}
use Rattle.restart_plan.specs.declared.opened.Undo.{Undo}
use Rattle.group_restart.specs.Disk.{with_page as with_hand}
use Rattle.group_restart.specs.Records.{compensation}
use Rattle.group_restart.specs.Undo.{header_fault, undo_fault, undone_page}
use Rattle.group_restart.specs.Course.{with_plan, rest_undo, undo_unless, undo_one, undo_first, take_undone}
use Rattle.sound_disk.specs.Versions.{merged, current, last_images}
use Rattle.sound_appends.specs.Appends.{Appends}
use Rattle.sound_appends.specs.Laws.{StandsBehind}
use Rattle.sound_restarts.specs.Undo.{page_of, page_for, CanUndo, UndoFindsItsRow, UndoMakesLast, UndoLeavesOthers, OthersLeavePages, UndoLeavesLast, UndoReads}
use Rattle.sound_restarts.proofs.Stamped.{same_patched, renewed_agrees}
use Rattle.sound_restarts.proofs.Versions.{row_within, version_new}
use Rattle.sound_restarts.proofs.Renewed.{change_same}
use Rattle.sound_restarts.proofs.Brought.{current_new, current_old}
use Rattle.sound_restarts.proofs.Bringing.{DiskLaws, records_are, old_page}
use Rattle.sound_restarts.proofs.Page_writes.{put_has, same_self}

-- ---- the page of either version

slot_there : DiskLaws → (c : Contents) (logs : List Log) (u : Undo) → CanUndo c logs u → change_fault (page_of u) u.change (page_for c u) ≡ None
slot_there k c logs u h =
    elim (cases_Bool (is_old (page_for c u))) as (λ _. change_fault (page_of u) u.change (page_for c u) ≡ None) [
      | inl e ↦
          sym (change_same k.bringing.renewal (page_of u) (page_for c u) u.change (old_page k c logs (page_of u) h.now e))
          ∙ ap (change_fault (page_of u) u.change) (sym (current_old (page_for c u) e) ∙ h.last) ∙ h.slot
      | inr e ↦ ap (change_fault (page_of u) u.change) (sym (current_new (page_for c u) e) ∙ h.last) ∙ h.slot
    ]

-- what the patch makes of it, it makes of the page in the version that is written
patched_last : DiskLaws → (c : Contents) (logs : List Log) (u : Undo) (lrsn : ℕ) (p : Patch) → CanUndo c logs u → p.offset + length p.bytes ≤ 4096 → after_patch lrsn (page_for c u) p ≡ after_patch lrsn (last_images logs (page_of u)) p
patched_last k c logs u lrsn p h lies =
    elim (cases_Bool (is_old (page_for c u))) as (λ _. after_patch lrsn (page_for c u) p ≡ after_patch lrsn (last_images logs (page_of u)) p) [
      | inl e ↦
          sym (same_patched lrsn (renewed (page_for c u)) (page_for c u) p (renewed_agrees (page_for c u) (old_page k c logs (page_of u) h.now e).whole) lies)
          ∙ ap (λ (q : List ℕ). after_patch lrsn q p) (sym (current_old (page_for c u) e) ∙ h.last)
      | inr e ↦ ap (λ (q : List ℕ). after_patch lrsn q p) (sym (current_new (page_for c u) e) ∙ h.last)
    ]

-- ---- no field is in the way

no_header : (c : RowChange) → ChangeIsAllowed c → header_fault c ≡ None
no_header c h = cond-false (c.place.page == 0) (Some kind_at) None (ne_eqb c.place.page 0 h.page_some)

pub undo_finds : DiskLaws → UndoFindsItsRow
unfolding undo_fault
undo_finds k c logs u h =
    ap (λ (o : Option ℕ). or_fault o (header_fault u.change)) (slot_there k c logs u h) ∙ no_header u.change h.allowed

-- ---- the page behind it

turned : (c : RowChange) → ChangeIsAllowed c → ChangeIsAllowed (inverse c)
turned c h = record { table_in = h.table_in; key_in = h.key_in; page_some = h.page_some; page_in = h.page_in; slot_in = h.slot_in; before_is = h.after_is; after_is = h.before_is }

-- all pages behind the compensation
behind_all : DiskLaws → StandsBehind → (logs after : List Log) (u : Undo) (lrsn : ℕ) (id : PageId) → Appends logs (compensation u lrsn) after → last_images after id ≡ written id lrsn (row_patch (inverse u.change) ∷ []) (last_images logs id)
behind_all k behind logs after u lrsn id a =
    ap (λ (rs : List LogRecord). images_of rs id) (behind logs after (compensation u lrsn) a) ∙ k.bringing.versions.grows (merged logs) (compensation u lrsn) id

behind_here : DiskLaws → StandsBehind → (logs after : List Log) (u : Undo) (lrsn : ℕ) → Appends logs (compensation u lrsn) after
    → last_images after (page_of u) ≡ after_patch lrsn (last_images logs (page_of u)) (row_patch (inverse u.change))
behind_here k behind logs after u lrsn a =
    behind_all k behind logs after u lrsn (page_of u) a
    ∙ ap (λ (b : Bool). cond b (after_patch lrsn (last_images logs (page_of u)) (row_patch (inverse u.change))) (last_images logs (page_of u))) (same_self (page_of u))

pub undo_makes : DiskLaws → StandsBehind → UndoMakesLast
unfolding undone_page
undo_makes k behind c logs after u lrsn h a =
    patched_last k c logs u lrsn (row_patch (inverse u.change)) h (row_within (inverse u.change) (turned u.change h.allowed)).0 ∙ sym (behind_here k behind logs after u lrsn a)

pub undo_leaves_others : DiskLaws → StandsBehind → UndoLeavesOthers
undo_leaves_others k behind logs after u lrsn id a e =
    behind_all k behind logs after u lrsn id a
    ∙ ap (λ (b : Bool). cond b (after_patch lrsn (last_images logs id) (row_patch (inverse u.change))) (last_images logs id)) e

none_kept : (b : Bool) (r : LogRecord) (rs : List LogRecord) → b ≡ false → rs ++ cond b (r ∷ []) [] ≡ rs
none_kept true r rs e = absurd cc
none_kept false r rs e = append-nil rs

pub others_leave : StandsBehind → OthersLeavePages
others_leave behind logs after r id a e =
    ap (λ (rs : List LogRecord). images_of rs id) (behind logs after r a ∙ none_kept (is_merged r.body) r (merged logs) e)

-- ---- the disk behind the write

each_more : (xs : List LogRecord) (r : LogRecord) → AllByRecursion IsAllowed xs → IsAllowed r → AllByRecursion IsAllowed (xs ++ r ∷ [])
each_more [] r h one = (one, tt)
each_more (x ∷ xs) r h one = (h.0, each_more xs r h.1 one)

behind_new : DiskLaws → StandsBehind → (c : Contents) (logs after : List Log) (u : Undo) (lrsn : ℕ) (id : PageId) → CanUndo c logs u → Appends logs (compensation u lrsn) after → is_old (last_images after id) ≡ false
behind_new k behind c logs after u lrsn id h a =
    let all : AllByRecursion IsAllowed (merged after) =
    subst (AllByRecursion IsAllowed) (sym (behind logs after (compensation u lrsn) a)) (each_more (merged logs) (compensation u lrsn) (records_are k c logs h.now.sound).0 a.allowed) in
    (version_new k.bringing.versions (merged after) id all).new

pub undo_leaves_last : DiskLaws → StandsBehind → UndoLeavesLast
undo_leaves_last k behind c logs after u lrsn h last a id =
    let here : undone_page u.change lrsn (page_for c u) ≡ last_images after (page_of u) = undo_makes k behind c logs after u lrsn h a in
    put_has (λ (n : PageId) (p : List ℕ). current p ≡ last_images after n) c (page_of u) id (undone_page u.change lrsn (page_for c u))
    (ap current here ∙ current_new (last_images after (page_of u)) (behind_new k behind c logs after u lrsn (page_of u) h a))
    (λ e. last id ∙ sym (undo_leaves_others k behind logs after u lrsn id a e))

-- ---- the restart

pub undo_reads : UndoFindsItsRow → UndoReads
unfolding take_undone undo_one
undo_reads finds h c logs u us can e =
    ap (λ (l : List Undo). undo_first (with_plan (with_hand h (page_for c u)) (rest_undo h.plan)) (slice_get l 0)) e
    ∙ ap (undo_unless (with_plan (with_hand h (page_for c u)) (rest_undo h.plan)) u) (finds c logs u can)
