-- The records of a number that was drawn, by what was planned for it, and those of an event.
use Rattle.std.specs.Prelude.{ℕ, ◌==◌, ◌&&◌, not, Bool, true, false, List, [], ◌∷◌, length, Option, Some, None}
use Rattle.ds_model.specs.declared.log.LogRecord.{LogRecord}
use Rattle.facility.specs.declared.command.Reply.{Reply}
use Rattle.facility.specs.declared.command.Reply.TheVariants as reply
use Rattle.member_log.specs.Buffers.{LogBuffer}
use Rattle.member_trans.specs.declared.fate.Change.{Change}
use Rattle.member_trans.specs.Trans.{TranState, is_forward, newest_of}
use Rattle.member_needs.specs.Given.{back_record, both_fit, commit_record, ended_record, fits_in, is_at_row, may_back, row_record}
use Rattle.member_needs.specs.Given.{MarksState, slot_tran, tran_of}
use Rattle.member_needs.specs.Given.{Intent}
use Rattle.member_needs.specs.Given.intent_variants as intent
use Rattle.member_needs.specs.Given.{Answered}
use Rattle.member_needs.specs.Given.answered_variants as answered
use Rattle.member_needs.specs.declared.plans.Plan.{Plan}
use Rattle.member_needs.specs.declared.plans.Plan.TheVariants as plan
use Rattle.member_effects.specs.Changes.{system_record}

-- ---- those of a number, by what was planned for it, where this is the buffer, and this the transaction

abbrev pub one_if : Bool → LogRecord → List LogRecord
one_if true r = r ∷ []
one_if false r = []

-- of a change of pages for a transaction
abbrev pub change_records : LogBuffer → TranState → Plan → ℕ → List LogRecord
change_records b t plan.None n = []
change_records b t (plan.System patches) n = one_if (fits_in b (system_record patches n)) (system_record patches n)
change_records b t (plan.Row c) n = one_if (not (n == 0) && (is_at_row c && (t.has_room && fits_in b (row_record t n c)))) (row_record t n c)
change_records b t (plan.Back c) n = []
change_records b t (plan.Fault page at) n = []

-- two, or the first alone
abbrev pub both_if : Bool → Bool → LogRecord → LogRecord → List LogRecord
both_if true true r q = r ∷ q ∷ []
both_if true false r q = r ∷ []
both_if false is_last r q = []

-- the compensation of this change, which is its newest, and the Ended record behind that of the last one
abbrev pub back_records : LogBuffer → TranState → ℕ → Option Change → List LogRecord
back_records b t n None = []
back_records b t n (Some it) = both_if (may_back t it && both_fit b (back_record t n it) (ended_record t n)) (length t.changes == 1) (back_record t n it) (ended_record t n)

abbrev pub undo_records : LogBuffer → TranState → Plan → ℕ → List LogRecord
undo_records b t plan.None n = []
undo_records b t (plan.System patches) n = []
undo_records b t (plan.Row c) n = []
undo_records b t (plan.Back c) n = back_records b t n (newest_of t)
undo_records b t (plan.Fault page at) n = []

abbrev pub commit_records : LogBuffer → TranState → ℕ → List LogRecord
commit_records b t n = one_if (not (n == 0) && (is_forward t.stage && fits_in b (commit_record t n))) (commit_record t n)

-- ---- those of an event

abbrev pub drawn_by : Reply → (ℕ → List LogRecord) → List LogRecord
drawn_by (reply.Drawn n) records = records n
drawn_by _ records = []

-- that has got this reply
abbrev pub reply_records : MarksState → Intent → Plan → Reply → List LogRecord
reply_records s (intent.Change slot action frames) p r = drawn_by r (change_records s.log (slot_tran s slot) p)
reply_records s (intent.Undo o at) p r = drawn_by r (undo_records s.log (tran_of s o) p)
reply_records s (intent.Commit slot) p r = drawn_by r (commit_records s.log (slot_tran s slot))
reply_records s _ p r = []

abbrev pub event_records : MarksState → Intent → Plan → Answered → List LogRecord
event_records s i p answered.None = []
event_records s i p (answered.Reply r) = reply_records s i p r
event_records s i p answered.Done = []
event_records s i p answered.Failed = []
