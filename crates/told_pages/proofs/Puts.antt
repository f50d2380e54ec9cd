-- The record of a number that was drawn, which an event puts.
use Rattle.std.proofs.Common.{◌≡◌, ◌≢◌, ℕ, refl, sym, subst, Bool, true, false, List, [], ◌∷◌, Option, Some, None, Ok}
use Rattle.std.specs.Prelude.{◌==◌, ◌&&◌, length}
use Rattle.std.proofs.lemmas.Bool.{cond-true, false≢true}
use Rattle.ds_model.specs.declared.log.LogRecord.{LogRecord}
use Rattle.log_record.specs.Changes.{is_drawn}
use Rattle.facility.specs.declared.command.Reply.TheVariants as reply
use Rattle.member_intents.specs.declared.intent.Intent.{Intent}
use Rattle.member_intents.specs.declared.intent.Intent.TheVariants as intent
use Rattle.member_intents.specs.declared.outcome.Answered.TheVariants as answered
use Rattle.member_intents.specs.declared.outcome.Sent.{Sent}
use Rattle.member_trans.specs.declared.fate.Change.{Change}
use Rattle.member_trans.specs.declared.fate.Owner.{Owner}
use Rattle.member_trans.specs.Trans.{newest_of}
use Rattle.member_marks.specs.State.{MarksState, slot_tran, tran_of}
use Rattle.member_marks.specs.Records.{back_record, both_fit, commit_record, ended_record, fits_in, may_back, may_change, may_commit, may_undo_as, row_record}
use Rattle.member_needs.specs.declared.needs.Setting.{Setting}
use Rattle.member_needs.specs.declared.plans.Plan.{Plan}
use Rattle.member_needs.specs.declared.plans.Plan.TheVariants as plan
use Rattle.member_needs.specs.Plans.{intent_plan}
use Rattle.member_effects.specs.Changes.{system_record}
use Rattle.member_effects.specs.Puts.{back_records, both_if, change_records, commit_records, event_records, one_if, undo_records}
use Rattle.member_resources.specs.Held.{Held, begun}
use Rattle.member_resources.specs.Prepared.{Reserves, with_change_room}
use Rattle.needs_law.specs.Lawful.{Lawful}
use Rattle.page_intents.specs.Draws.{IsPut, IsPutBack}
use Rattle.page_events.specs.Events.{IsRecorded}
use Rattle.page_events.proofs.Begun.{commits_on}
use Rattle.page_events.proofs.Recorded.{change_put, commit_put}
use Rattle.log_tells.specs.Told.{drawn_in}
use Rattle.told_pages.proofs.Commands.{draws_number}

-- they begin with a record that has this number, and no other of them draws one
pub record HasRecord (records : List LogRecord) (number : ℕ) : Type 0 where
  pub it : LogRecord
  pub behind : List LogRecord
  pub first : records ≡ it ∷ behind
  pub only : drawn_in records ≡ it ∷ []
  pub own : is_drawn it.body ≡ true
  pub number_is : it.lrsn ≡ number

one_record : (b : Bool) (r : LogRecord) (n : ℕ) → b ≡ true → is_drawn r.body ≡ true → r.lrsn ≡ n → HasRecord (one_if b r) n
one_record true r n e own number = record { it = r; behind = []; first = refl; only = cond-true (is_drawn r.body) (r ∷ []) [] own; own = own; number_is = number }
one_record false r n e own number = absurd (false≢true e)

change_record : (s : MarksState) (slot : ℕ) (p : Plan) (n : ℕ) → IsPut s slot p n → HasRecord (change_records s.log (slot_tran s slot) p n) n
change_record s slot plan.None n put = absurd put
change_record s slot (plan.System patches) n put = one_record (fits_in s.log (system_record patches n)) (system_record patches n) n put refl refl
change_record s slot (plan.Row c) n put = one_record (may_change s slot n c) (row_record (slot_tran s slot) n c) n put refl refl
change_record s slot (plan.Back c) n put = absurd put
change_record s slot (plan.Fault page at) n put = absurd put

two_records : (b x : Bool) (r q : LogRecord) (n : ℕ) → b ≡ true → is_drawn r.body ≡ true → is_drawn q.body ≡ false → r.lrsn ≡ n → HasRecord (both_if b x r q) n
two_records true true r q n e own none number = record { it = r; behind = q ∷ []; first = refl; only = rw (own, none) refl; own = own; number_is = number }
two_records true false r q n e own none number = record { it = r; behind = []; first = refl; only = rw own refl; own = own; number_is = number }
two_records false x r q n e own none number = absurd (false≢true e)

back_of : (s : MarksState) (o : Owner) (n : ℕ) (it : Option Change) → may_undo_as s o n it ≡ true → HasRecord (back_records s.log (tran_of s o) n it) n
back_of s o n None may = absurd (false≢true may)
back_of s o n (Some it) may =
    two_records (may_back (tran_of s o) it && both_fit s.log (back_record (tran_of s o) n it) (ended_record (tran_of s o) n)) (length (tran_of s o).changes == 1) (back_record (tran_of s o) n it) (ended_record (tran_of s o) n) n may refl refl refl

undo_record : (s : MarksState) (o : Owner) (p : Plan) (n : ℕ) → IsPutBack s o p n → HasRecord (undo_records s.log (tran_of s o) p n) n
undo_record s o plan.None n put = absurd put
undo_record s o (plan.System patches) n put = absurd put
undo_record s o (plan.Row c) n put = absurd put
undo_record s o (plan.Back c) n put = back_of s o n (newest_of (tran_of s o)) put
undo_record s o (plan.Fault page at) n put = absurd put

commit_of : (s : MarksState) (slot n : ℕ) → may_commit s slot n ≡ true → HasRecord (commit_records s.log (slot_tran s slot) n) n
commit_of s slot n may = one_record (may_commit s slot n) (commit_record (slot_tran s slot) n) n may refl refl

-- of an event that has drawn this number
pub has_record : (h ready : Held) (c : Setting) (i : Intent) (s : Sent) (p : Plan) (place n : ℕ) → draws_number i ≡ true → n ≢ 0 → intent_plan h.marks h.pages h.limit i ≡ Ok p → Lawful h.marks h.pages c i s → Reserves i h ready
    → IsRecorded (begun ready place) i p n place → HasRecord (event_records (begun ready place).marks i p (answered.Reply (reply.Drawn n))) n
has_record h ready c (intent.Change slot action frames) s p place n d some planned lawful e known =
    let room = subst (λ z. IsRecorded (begun z place) (intent.Change slot action frames) p n place) e known in
    subst (λ (z : Held). HasRecord (event_records (begun z place).marks (intent.Change slot action frames) p (answered.Reply (reply.Drawn n))) n) (sym e)
    (change_record (begun (with_change_room h slot) place).marks slot p n (change_put h.marks (begun (with_change_room h slot) place).marks h.pages h.limit slot n action frames p refl planned room.0))
has_record h ready c (intent.Undo o at) s p place n d some planned lawful e known = undo_record (begun ready place).marks o p n known.0
has_record h ready c (intent.Commit slot) s p place n d some planned lawful e known =
    subst (λ (z : Held). HasRecord (event_records (begun z place).marks (intent.Commit slot) p (answered.Reply (reply.Drawn n))) n) (sym e)
    (commit_of (begun h place).marks slot n (commit_put (begun h place).marks slot n s (commits_on h place slot s lawful) some))
has_record h ready c _ s p place n d some planned lawful e known = absurd (false≢true d)
