-- The records of a number that was drawn, as they are put.
use Rattle.std.proofs.Common.{◌≡◌, ℕ, sym, ◌∙◌, ap, subst, Bool, true, false, List, ◌++◌, append_assoc, length, Option, Some, None}
use Rattle.std.specs.Prelude.{◌==◌, ◌&&◌, if◌then◌else◌}
use Rattle.std.proofs.lemmas.List.{append-nil}
use Rattle.ds_base.specs.Pages.{heap_set}
use Rattle.ds_model.specs.RecordBytes.{log_bytes, record_bytes}
use Rattle.ds_model.specs.declared.log.LogRecord.{LogRecord}
use Rattle.ds_model.specs.declared.log.RowChange.{RowChange}
use Rattle.page_format.specs.declared.patch.Patch.{Patch}
use Rattle.member_log.specs.Buffers.{LogBuffer, after_put}
use Rattle.member_trans.specs.declared.fate.Change.{Change}
use Rattle.member_trans.specs.declared.fate.Owner.{Owner}
use Rattle.member_trans.specs.Trans.{TransState, after_draw, newest_of, tran_at, tran_of as tran_in}
use Rattle.member_marks.specs.State.{MarksState, slot_tran, tran_of}
use Rattle.member_marks.specs.Records.{after_change, after_commit, after_system, after_undo, back_noted, back_record, body_noted, both_fit, both_logged, commit_record, ended_record, fits_in, may_back, may_change, may_commit, row_noted, row_record, undone_as}
use Rattle.member_needs.specs.declared.plans.Plan.{Plan}
use Rattle.member_needs.specs.declared.plans.Plan.TheVariants as plan
use Rattle.member_effects.specs.Changes.{system_record}
use Rattle.member_effects.specs.Puts.{back_records, both_if, change_records, commit_records, one_if, undo_records}
use Rattle.member_effects.proofs.Same.{Same}
use Rattle.put_records.proofs.Stays.{Puts, puts_itself}

-- one record behind those that wait
one_put : (s : MarksState) (r : LogRecord) (t : TransState) (b : Bool) → Puts s (if b then record s { log = after_put s.log r; trans = t } else s) (one_if b r)
one_put s r t true = record { pending = ap (λ (z : List ℕ). s.log.pending ++ z) (sym (append-nil (record_bytes r))) }
one_put s r t false = puts_itself s

pub system_put : (s : MarksState) (slot n : ℕ) (ps : List Patch) → Puts s (after_system s slot (system_record ps n)) (change_records s.log (slot_tran s slot) (plan.System ps) n)
system_put s slot n ps = one_put s (system_record ps n) (body_noted s.trans slot (system_record ps n).body) (fits_in s.log (system_record ps n))

pub row_put : (s : MarksState) (slot n : ℕ) (c : RowChange) → Puts s (after_change s slot n c) (change_records s.log (slot_tran s slot) (plan.Row c) n)
row_put s slot n c = one_put s (row_record (slot_tran s slot) n c) (row_noted s.trans slot n c) (may_change s slot n c)

pub commit_put : (s : MarksState) (slot n : ℕ) → Puts s (after_commit s slot n) (commit_records s.log (slot_tran s slot) n)
commit_put s slot n = one_put s (commit_record (slot_tran s slot) n) (after_draw s.trans slot) (may_commit s slot n)

-- two
both_put : (s : MarksState) (r q : LogRecord) (t : TransState) (may fits is_last : Bool)
    → Puts s (if may then (if fits then record s { log = both_logged s.log r q is_last; trans = t } else s) else s) (both_if (may && fits) is_last r q)
both_put s r q t true true true = record {
  pending = append_assoc s.log.pending (record_bytes r) (record_bytes q) ∙ ap (λ (z : List ℕ). s.log.pending ++ (record_bytes r ++ z)) (sym (append-nil (record_bytes q)));
}
both_put s r q t true true false = record { pending = ap (λ (z : List ℕ). s.log.pending ++ z) (sym (append-nil (record_bytes r))) }
both_put s r q t true false is_last = puts_itself s
both_put s r q t false fits is_last = puts_itself s

undone_put : (s : MarksState) (o : Owner) (n : ℕ) (it : Option Change) → Puts s (undone_as s o n it) (back_records s.log (tran_of s o) n it)
undone_put s o n None = puts_itself s
undone_put s o n (Some it) = both_put s (back_record (tran_of s o) n it) (ended_record (tran_of s o) n) (back_noted s.trans o (tran_of s o) n (heap_set it.change.table))
    (may_back (tran_of s o) it) (both_fit s.log (back_record (tran_of s o) n it) (ended_record (tran_of s o) n)) (length (tran_of s o).changes == 1)

pub undo_put : (s : MarksState) (o : Owner) (n : ℕ) → Puts s (after_undo s o n) (back_records s.log (tran_of s o) n (newest_of (tran_of s o)))
undo_put s o n = undone_put s o n (newest_of (tran_of s o))

-- ---- where frames alone have changed before
pub change_same : (s u t : MarksState) (slot : ℕ) (p : Plan) (n : ℕ) → Same s u → Puts u t (change_records u.log (slot_tran u slot) p n) → Puts s t (change_records s.log (slot_tran s slot) p n)
change_same s u t slot p n e k = record {
  pending = subst (λ (z : TransState). t.log.pending ≡ s.log.pending ++ log_bytes (change_records s.log (tran_at z slot) p n)) e.trans
      (subst (λ (z : LogBuffer). t.log.pending ≡ z.pending ++ log_bytes (change_records z (slot_tran u slot) p n)) e.log k.pending);
}

pub undo_same : (s u t : MarksState) (o : Owner) (p : Plan) (n : ℕ) → Same s u → Puts u t (undo_records u.log (tran_of u o) p n) → Puts s t (undo_records s.log (tran_of s o) p n)
undo_same s u t o p n e k = record {
  pending = subst (λ (z : TransState). t.log.pending ≡ s.log.pending ++ log_bytes (undo_records s.log (tran_in z o) p n)) e.trans
      (subst (λ (z : LogBuffer). t.log.pending ≡ z.pending ++ log_bytes (undo_records z (tran_of u o) p n)) e.log k.pending);
}
