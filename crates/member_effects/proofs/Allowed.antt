-- Records that are put are allowed.
use Rattle.std.proofs.Common.{◌≡◌, ℕ, refl, ◌∙◌, sym, ap, subst, Bool, true, false, List, length, Option, Some, None}
use Rattle.std.specs.Prelude.{◌≢◌, ◌==◌, ◌&&◌, IfSome}
use Rattle.std.specs.List.{AllByRecursion}
use Rattle.ds_model.specs.RecordBytes.{IsAllowed}
use Rattle.ds_model.specs.declared.log.LogRecord.{LogRecord}
use Rattle.ds_model.specs.declared.log.RowChange.{RowChange}
use Rattle.page_format.specs.declared.patch.Patch.{Patch}
use Rattle.facility.specs.declared.command.Reply.{Reply}
use Rattle.facility.specs.declared.command.Reply.TheVariants as reply
use Rattle.member_needs.specs.Given.{Frames}
use Rattle.member_log.specs.Buffers.{LogBuffer}
use Rattle.member_trans.specs.declared.fate.Change.{Change}
use Rattle.member_trans.specs.declared.fate.Owner.{Owner}
use Rattle.member_trans.specs.declared.fate.Owner.TheVariants as owner
use Rattle.member_trans.specs.Trans.{TransState, newest_of, tran_at, tran_of as tran_in}
use Rattle.member_needs.specs.Given.{back_record, both_fit, ended_record, fits_in, may_back, may_change, may_undo_as, row_record}
use Rattle.member_needs.specs.Given.{MarksState, slot_tran, tran_of}
use Rattle.member_needs.specs.declared.plans.Plan.{Plan}
use Rattle.member_needs.specs.declared.plans.Plan.TheVariants as plan
use Rattle.member_effects.specs.declared.told.Told.{Told}
use Rattle.member_effects.specs.Changes.{committed_after, committed_told, drawn_after, drawn_told, patched_frames, row_frame, row_nth, system_record, undone_after, undone_told, undrawn_after, undrawn_told, with_marks}
use Rattle.member_effects.specs.Kept.{Kept}
use Rattle.member_effects.specs.Puts.{back_records, both_if, change_records, commit_records, drawn_by, one_if, undo_records}
use Rattle.member_effects.proofs.Same.{Same, patched_all, row_at, row_in, where_same}

-- ---- one record, or two, where they are put
if_put : (b : Bool) (r : LogRecord) → (b ≡ true → IsAllowed r) → AllByRecursion IsAllowed (one_if b r)
if_put true r h = (h refl, tt)
if_put false r h = tt

pub one_allowed : (b told : Bool) (r : LogRecord) → told ≡ b → (told ≡ true → IsAllowed r) → AllByRecursion IsAllowed (one_if b r)
one_allowed b told r e h = if_put b r (λ t. h (e ∙ t))

both_allowed : (b is_last : Bool) (r q : LogRecord) → (b ≡ true → IsAllowed r) → (b ≡ true → is_last ≡ true → IsAllowed q) → AllByRecursion IsAllowed (both_if b is_last r q)
both_allowed true true r q h k = (h refl, (k refl refl, tt))
both_allowed true false r q h k = (h refl, tt)
both_allowed false is_last r q h k = tt

undo_allowed : (s : MarksState) (o : Owner) (n : ℕ) (told : Bool) (it : Option Change) → told ≡ may_undo_as s o n it → (told ≡ true → IfSome it (λ (x : Change). IsAllowed (back_record (tran_of s o) n x)))
    → (told ≡ true → (length (tran_of s o).changes == 1) ≡ true → IsAllowed (ended_record (tran_of s o) n)) → AllByRecursion IsAllowed (back_records s.log (tran_of s o) n it)
undo_allowed s o n told None e h k = tt
undo_allowed s o n told (Some it) e h k =
    both_allowed (may_back (tran_of s o) it && both_fit s.log (back_record (tran_of s o) n it) (ended_record (tran_of s o) n)) (length (tran_of s o).changes == 1) (back_record (tran_of s o) n it) (ended_record (tran_of s o) n)
    (λ t. h (e ∙ t)) (λ t. k (e ∙ t))

-- ---- behind the change of frames
after_frames : (s u : MarksState) (x y : Kept) → x ≡ y → Same s y.marks → Same s x.marks
after_frames s u x y e k = subst (λ (z : Kept). Same s z.marks) (sym e) k

pub patched_allowed : (s u : MarksState) (a b : List (List ℕ)) (slot : ℕ) (frames : Frames) (ps : List Patch) (n : ℕ) → record { marks = u; pages = b } ≡ patched_frames (record { marks = s; pages = a }) frames ps n
    → AllByRecursion IsAllowed (one_if (fits_in u.log (system_record ps n)) (system_record ps n)) → AllByRecursion IsAllowed (change_records s.log (slot_tran s slot) (plan.System ps) n)
patched_allowed s u a b slot frames ps n e k =
    let before : Kept = record { marks = s; pages = a } in
    where_same s u (λ (z : LogBuffer) (t : TransState). AllByRecursion IsAllowed (one_if (fits_in z (system_record ps n)) (system_record ps n)))
    (after_frames s u (record { marks = u; pages = b }) (patched_frames before frames ps n) e (patched_all before frames ps n)) k

pub row_allowed : (s u : MarksState) (a b : List (List ℕ)) (slot : ℕ) (at : Option ℕ) (c : RowChange) (n : ℕ) (told : Bool) → record { marks = u; pages = b } ≡ row_nth (record { marks = s; pages = a }) at c n
    → told ≡ may_change u slot n c → (told ≡ true → IsAllowed (row_record (slot_tran u slot) n c)) → AllByRecursion IsAllowed (change_records s.log (slot_tran s slot) (plan.Row c) n)
row_allowed s u a b slot at c n told e f h =
    let before : Kept = record { marks = s; pages = a } in
    where_same s u (λ (z : LogBuffer) (t : TransState). AllByRecursion IsAllowed (change_records z (tran_at t slot) (plan.Row c) n))
    (after_frames s u (record { marks = u; pages = b }) (row_nth before at c n) e (row_in before at c n))
    (one_allowed (may_change u slot n c) told (row_record (slot_tran u slot) n c) f h)

pub back_allowed : (s u : MarksState) (a b : List (List ℕ)) (o : Owner) (at : ℕ) (c : RowChange) (n : ℕ) (told : Bool) → record { marks = u; pages = b } ≡ row_frame (record { marks = s; pages = a }) at c n
    → told ≡ may_undo_as u o n (newest_of (tran_of u o)) → (told ≡ true → IfSome (newest_of (tran_of u o)) (λ (x : Change). IsAllowed (back_record (tran_of u o) n x)))
    → (told ≡ true → (length (tran_of u o).changes == 1) ≡ true → IsAllowed (ended_record (tran_of u o) n)) → AllByRecursion IsAllowed (undo_records s.log (tran_of s o) (plan.Back c) n)
back_allowed s u a b o at c n told e f h k =
    let before : Kept = record { marks = s; pages = a } in
    where_same s u (λ (z : LogBuffer) (t : TransState). AllByRecursion IsAllowed (undo_records z (tran_in t o) (plan.Back c) n))
    (after_frames s u (record { marks = u; pages = b }) (row_frame before at c n) e (row_at before at _ c n))
    (undo_allowed u o n told (newest_of (tran_of u o)) f h k)

-- ---- a reply that draws none
pub undrawn_change : (s t : MarksState) (a : List (List ℕ)) (slot : ℕ) (frames : Frames) (p : Plan) (r : Reply) (place : ℕ) (said : Told) → ((n : ℕ) → r ≢ reply.Drawn n) → said ≡ undrawn_told r → t ≡ undrawn_after s (owner.Slot slot) r place
    → (said ≡ drawn_told p r) × (record { marks = t; pages = a } ≡ drawn_after (record { marks = s; pages = a }) slot frames p r place) × AllByRecursion IsAllowed (drawn_by r (change_records s.log (slot_tran s slot) p))
undrawn_change s t a slot frames p (reply.Drawn n) place said other e f = absurd (other n refl)
undrawn_change s t a slot frames p _ place said other e f = (e, ap (with_marks (record { marks = s; pages = a })) f, tt)

pub undrawn_undo : (s t : MarksState) (a : List (List ℕ)) (o : Owner) (at : ℕ) (p : Plan) (r : Reply) (place : ℕ) (said : Told) → ((n : ℕ) → r ≢ reply.Drawn n) → said ≡ undrawn_told r → t ≡ undrawn_after s o r place
    → (said ≡ undone_told p r) × (record { marks = t; pages = a } ≡ undone_after (record { marks = s; pages = a }) o at p r place) × AllByRecursion IsAllowed (drawn_by r (undo_records s.log (tran_of s o) p))
undrawn_undo s t a o at p (reply.Drawn n) place said other e f = absurd (other n refl)
undrawn_undo s t a o at p _ place said other e f = (e, ap (with_marks (record { marks = s; pages = a })) f, tt)

pub undrawn_commit : (s t : MarksState) (slot : ℕ) (r : Reply) (place : ℕ) (said : Told) → ((n : ℕ) → r ≢ reply.Drawn n) → said ≡ undrawn_told r → t ≡ undrawn_after s (owner.Slot slot) r place
    → (said ≡ committed_told r) × (t ≡ committed_after s slot r place) × AllByRecursion IsAllowed (drawn_by r (commit_records s.log (slot_tran s slot)))
undrawn_commit s t slot (reply.Drawn n) place said other e f = absurd (other n refl)
undrawn_commit s t slot _ place said other e f = (e, f, tt)
