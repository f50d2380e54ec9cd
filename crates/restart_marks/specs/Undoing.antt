-- Changes that are taken back, and the ends of their transactions.
use Rattle.std.specs.Prelude.{ℕ, ◌==◌, Bool, true, false, not, ◌&&◌, if◌then◌else◌, Option, None, Some}
use Rattle.member_log.specs.Buffers.{after_force}
use Rattle.restart_records.specs.declared.trans.Newest.{Newest}
use Rattle.restart_records.specs.declared.trans.RestartTran.{RestartTran}
use Rattle.restart_marks.specs.declared.told.RestartTold.{RestartTold}
use Rattle.restart_marks.specs.declared.told.RestartTold.TheVariants as told
use Rattle.restart_marks.specs.Hands.{met}
use Rattle.restart_records.specs.Names.{NameState, tran_freed}
use Rattle.restart_records.specs.Written.{back_record, ended_record, both_fit, both_logged}
use Rattle.restart_records.specs.Trans.{newest, is_last, ending_in, after_back, after_end, after_finish}
use Rattle.restart_marks.specs.State.{RestartState, with_log, with_hand, with_trans}

-- ---- the newest change is taken back

abbrev pub may_undo_as : RestartState → ℕ → ℕ → Option Newest → Bool
may_undo_as s id lrsn None = false
may_undo_as s id lrsn (Some it) = not (id == 0) && both_fit s.log (back_record id lrsn it) (ended_record id lrsn)

abbrev pub may_undo : RestartState → ℕ → ℕ → Bool
may_undo s id lrsn = may_undo_as s id lrsn (newest s.trans id)

abbrev pub hand_changed : RestartState → ℕ → RestartState
hand_changed s lrsn = met (with_hand s (record s.hand { changed = true; last = lrsn })) lrsn

abbrev pub taken_back_from : RestartState → ℕ → Bool → RestartState
taken_back_from s id is_last = with_trans s (if is_last then after_end (after_back s.trans id) id else after_back s.trans id)

-- by the one record, and the transaction is ended by the other behind the last one
abbrev pub undone_by : RestartState → ℕ → ℕ → Newest → RestartState
undone_by s id lrsn it =
    taken_back_from (hand_changed (with_log s (both_logged s.log (back_record id lrsn it) (ended_record id lrsn) (is_last s.trans id))) lrsn) id (is_last s.trans id)

abbrev pub undone_as : RestartState → ℕ → ℕ → Option Newest → RestartState
undone_as s id lrsn None = s
undone_as s id lrsn (Some it) = undone_by s id lrsn it

abbrev pub undone_told : RestartState → ℕ → ℕ → RestartTold
undone_told s id lrsn = if may_undo s id lrsn then told.Undone else told.Stepped

abbrev pub undone_after : RestartState → ℕ → ℕ → RestartState
undone_after s id lrsn = if may_undo s id lrsn then undone_as s id lrsn (newest s.trans id) else s

abbrev pub stale_after : RestartState → RestartState
stale_after s = with_hand s (record s.hand { registered = false })

-- ---- the log buffer stands in the log

abbrev pub names_freed : NameState → Option RestartTran → NameState
names_freed n None = n
names_freed n (Some t) = tran_freed n t.tran

-- the transaction whose Ended record was in it is over, and needs no names
abbrev pub forced_after : RestartState → RestartState
forced_after s = record s { log = after_force s.log; names = names_freed s.names (ending_in s.trans); trans = after_finish s.trans }
