-- Any event, by what it sends.
use Rattle.std.proofs.Common.{◌≡◌, ℕ, zero, suc, ◌<◌, ◌≤◌, refl, sym, ◌∙◌, ap, subst, arith, Bool, true, false, inl, inr, List, [], ◌∷◌, ◌++◌, append_assoc, length, Option, Some, None, Result, Ok, Err}
use Rattle.std.specs.Prelude.{◌≢◌, ◌+◌, ◌-◌, ◌==◌, ◌&&◌, ◌||◌, nat_le, nat_lt, if◌then◌else◌, IfOk, slice_index_or, slice_set}
use Rattle.std.specs.List.{AllByRecursion}
use Rattle.std.specs.FinMap as map
use Rattle.std.proofs.lemmas.Bool.{ltb-true}
use Rattle.std.proofs.lemmas.List.{append-nil, get_or-set_same, length-set}
use Rattle.std.proofs.lemmas.List.Concat.{flat_map-append}
use Rattle.ds_base.specs.declared.names.PageId.{PageId}
use Rattle.ds_disk.specs.Answers.{Answers}
use Rattle.ds_disk.specs.Contents.{Becomes, Contents, log_of, with_log}
use Rattle.ds_disk.specs.declared.disk.DiskError.{DiskError}
use Rattle.ds_disk.specs.declared.disk.DiskError.TheVariants as disk_error
use Rattle.ds_model.specs.RecordBytes.{log_bytes, record_bytes}
use Rattle.ds_model.specs.declared.log.LogRecord.{LogRecord}
use Rattle.facility.specs.Commands.{Executes}
use Rattle.facility.specs.Counting.{drawn as drawn_reply, first_stale, given}
use Rattle.facility.specs.States.{Held as Facility}
use Rattle.facility.specs.declared.command.Command.{Command}
use Rattle.facility.specs.declared.command.Command.TheVariants as command
use Rattle.facility.specs.declared.command.Indexes.{Indexes}
use Rattle.facility.specs.declared.command.Reply.{Reply}
use Rattle.facility.specs.declared.command.Reply.TheVariants as reply
use Rattle.ds_model.specs.Rows.{Spot}
use Rattle.log_rows.specs.Rows.{BothTell, has_changed, is_closed}
use Rattle.member_intents.specs.declared.intent.Intent.{Intent}
use Rattle.member_intents.specs.declared.intent.Intent.TheVariants as intent
use Rattle.member_intents.specs.declared.outcome.Answered.{Answered}
use Rattle.member_intents.specs.declared.outcome.Answered.TheVariants as answered
use Rattle.member_intents.specs.declared.outcome.Sent.{Sent}
use Rattle.member_intents.specs.declared.outcome.Sent.TheVariants as sent
use Rattle.member_intents.specs.declared.test.Test.{Test}
use Rattle.member_log.specs.Buffers.{LogBuffer}
use Rattle.member_trans.specs.declared.fate.Owner.{Owner}
use Rattle.member_trans.specs.declared.fate.Owner.TheVariants as owner
use Rattle.member_trans.specs.declared.fate.Stage.{Stage}
use Rattle.member_trans.specs.declared.fate.Stage.TheVariants as stage
use Rattle.member_trans.specs.Trans.{TransState, TranState, after_event, all_decided, decided_tran, free_tran, is_decided, is_drawn, is_empty, is_forward, is_over_at, is_undoing, tran_at, tran_of as tran_in, was_postponed, with_room, with_tran}
use Rattle.member_marks.specs.Records.{after_append}
use Rattle.member_marks.specs.State.{MarksState, id_of, slot_tran, tran_of, with_trans}
use Rattle.member_needs.specs.Castout.{done}
use Rattle.member_needs.specs.Closing.{end_sent}
use Rattle.member_needs.specs.Needs.{need_of}
use Rattle.member_needs.specs.Plans.{intent_plan}
use Rattle.member_needs.specs.declared.needs.Setting.{Setting}
use Rattle.member_needs.specs.declared.plans.Plan.{Plan}
use Rattle.member_effects.specs.declared.told.Told.{Told}
use Rattle.member_effects.specs.Puts.{event_records, reply_records}
use Rattle.member_resources.specs.declared.prepared.Prepared.{Prepared}
use Rattle.member_resources.specs.Events.{Calls, Drive, Happens, ReadsAs, ReadsFrame, Runs, RunsCall, Stores, World, frame_read, holder_in}
use Rattle.member_resources.specs.Held.{Held, begun, with_spare}
use Rattle.member_resources.specs.Prepared.{Reserves, needed, planned, setting_of, with_change_room}
use Rattle.member_resources.specs.Settled.{stored}
use Rattle.needs_law.specs.Lawful.{Lawful, MayEnd, SendsLawfully}
use Rattle.closing_law.specs.Closing.{ArePlain, AllStand, ChangedIn, Closes, ClosesStay, IsUnfailed, LogIs, StillCloses, TranStands, Waits}
use Rattle.closing_law.proofs.Effects.{IsAbove}
use Rattle.closing_law.proofs.Kept.{PutsRows, Stays, puts_adds, puts_kept, stays_as, stays_itself, stays_lists, stays_locks, stays_on, stays_trans}
use Rattle.closing_law.proofs.Lists.{all_as, all_at, all_set}
use Rattle.closing_law.proofs.Locals.{reach_stays}
use Rattle.closing_law.proofs.Records.{put_there}
use Rattle.closing_law.proofs.Runs.{AboveFor, Fits, IsOther, IsQuiet, called_kept, command_kept, command_puts, nothing_kept}
use Rattle.closing_law.proofs.Trans.{closed_last, free_stands, set_like, stands_stored}

-- ---- what is lawful fits
postponed_only : (x : Stage) → was_postponed x ≡ true → is_drawn x ≡ false
postponed_only stage.Free e = absurd cc
postponed_only stage.Forward e = absurd cc
postponed_only stage.Drawn e = absurd cc
postponed_only stage.Decided e = absurd cc
postponed_only stage.Undoing e = absurd cc
postponed_only stage.Postponed e = refl

over_only : (x : Stage) (b : Bool) → (is_decided x || (is_undoing x && b)) ≡ true → is_drawn x ≡ false
over_only stage.Free b e = refl
over_only stage.Forward b e = refl
over_only stage.Drawn b e = absurd cc
over_only stage.Decided b e = refl
over_only stage.Undoing b e = refl
over_only stage.Postponed b e = refl

not_drawn : (s : MarksState) (o : Owner) → MayEnd (was_postponed (tran_of s o).stage) s o → is_drawn (tran_of s o).stage ≡ false
not_drawn s o may = by (was_postponed (tran_of s o).stage) refl may
  where
    by : (b : Bool) → was_postponed (tran_of s o).stage ≡ b → MayEnd b s o → is_drawn (tran_of s o).stage ≡ false
    by true e may = postponed_only (tran_of s o).stage e
    by false e may = over_only (tran_of s o).stage (is_empty (tran_of s o).changes && nat_le (tran_of s o).ended s.log.stable) may.over

fits_lawful : (s : MarksState) (pages : List (List ℕ)) (c : Setting) (i : Intent) (out : Sent) → Lawful s pages c i out → Fits s i
fits_lawful s pages c intent.Step out lawful = tt
fits_lawful s pages c (intent.Obtain o n m) out lawful = tt
fits_lawful s pages c (intent.Grant o n m) out lawful = tt
fits_lawful s pages c (intent.Ask o to n m) out lawful = tt
fits_lawful s pages c (intent.Answers o n m asked) out lawful = tt
fits_lawful s pages c (intent.Status member) out lawful = tt
fits_lawful s pages c (intent.Take past) out lawful = tt
fits_lawful s pages c (intent.Answer asker n m) out lawful = tt
fits_lawful s pages c (intent.ReleaseLock o) out lawful = tt
fits_lawful s pages c (intent.ReleasePage page) out lawful = tt
fits_lawful s pages c (intent.Purge n) out lawful = tt
fits_lawful s pages c (intent.End o) out lawful = not_drawn s o lawful.may
fits_lawful s pages c (intent.Wait slot holder flag) out lawful = tt
fits_lawful s pages c (intent.Unwait slot) out lawful = tt
fits_lawful s pages c (intent.Waits slots) out lawful = tt
fits_lawful s pages c (intent.Flag flag) out lawful = tt
fits_lawful s pages c (intent.Raise flag) out lawful = tt
fits_lawful s pages c intent.LoseCache out lawful = tt
fits_lawful s pages c (intent.Read at) out lawful = tt
fits_lawful s pages c (intent.ReadPage at) out lawful = tt
fits_lawful s pages c (intent.Test at slot gives) out lawful = tt
fits_lawful s pages c (intent.WritePage at) out lawful = tt
fits_lawful s pages c (intent.Unregister at) out lawful = tt
fits_lawful s pages c (intent.Change slot action frames) out lawful = lawful.may.forward
fits_lawful s pages c (intent.Undo o at) out lawful = lawful.undoing
fits_lawful s pages c (intent.Commit slot) out lawful = lawful.may.forward
fits_lawful s pages c intent.Append out lawful = tt
fits_lawful s pages c (intent.NextChanged past) out lawful = tt
fits_lawful s pages c (intent.CastoutRead page) out lawful = tt
fits_lawful s pages c intent.CastoutWrite out lawful = tt
fits_lawful s pages c intent.CastoutDone out lawful = tt
fits_lawful s pages c intent.PhaseDone out lawful = tt

-- ---- only the append appends
none_append : sent.AppendLog ≡ sent.None → ⊥
none_append e = cc

command_append : (k : Command) → sent.AppendLog ≡ sent.Command k → ⊥
command_append k e = cc

page_append : (page : PageId) → sent.AppendLog ≡ sent.ReadPage page → ⊥
page_append page e = cc

cast_append : (b : Bool) (page : PageId) → sent.AppendLog ≡ (if b then sent.WritePage page else done page) → ⊥
cast_append true page e = cc
cast_append false page e = cc

end_append : (s : MarksState) (o : Owner) → sent.AppendLog ≡ end_sent s o → ⊥
end_append s o e = by ((id_of s o).number == 0) e
  where
    by : (b : Bool) → sent.AppendLog ≡ (if b then sent.None else sent.Command (command.End (id_of s o))) → ⊥
    by true q = cc
    by false q = cc

other_sent : (s : MarksState) (pages : List (List ℕ)) (c : Setting) (i : Intent) (out : Sent) → (out ≡ sent.AppendLog → ⊥) → Lawful s pages c i out → IsOther i
other_sent s pages c intent.Step out never lawful = tt
other_sent s pages c (intent.Obtain o n m) out never lawful = tt
other_sent s pages c (intent.Grant o n m) out never lawful = tt
other_sent s pages c (intent.Ask o to n m) out never lawful = tt
other_sent s pages c (intent.Answers o n m asked) out never lawful = tt
other_sent s pages c (intent.Status member) out never lawful = tt
other_sent s pages c (intent.Take past) out never lawful = tt
other_sent s pages c (intent.Answer asker n m) out never lawful = tt
other_sent s pages c (intent.ReleaseLock o) out never lawful = tt
other_sent s pages c (intent.ReleasePage page) out never lawful = tt
other_sent s pages c (intent.Purge n) out never lawful = tt
other_sent s pages c (intent.End o) out never lawful = tt
other_sent s pages c (intent.Wait slot holder flag) out never lawful = tt
other_sent s pages c (intent.Unwait slot) out never lawful = tt
other_sent s pages c (intent.Waits slots) out never lawful = tt
other_sent s pages c (intent.Flag flag) out never lawful = tt
other_sent s pages c (intent.Raise flag) out never lawful = tt
other_sent s pages c intent.LoseCache out never lawful = tt
other_sent s pages c (intent.Read at) out never lawful = tt
other_sent s pages c (intent.ReadPage at) out never lawful = tt
other_sent s pages c (intent.Test at slot gives) out never lawful = tt
other_sent s pages c (intent.WritePage at) out never lawful = tt
other_sent s pages c (intent.Unregister at) out never lawful = tt
other_sent s pages c (intent.Change slot action frames) out never lawful = tt
other_sent s pages c (intent.Undo o at) out never lawful = tt
other_sent s pages c (intent.Commit slot) out never lawful = tt
other_sent s pages c intent.Append out never lawful = never lawful.is
other_sent s pages c (intent.NextChanged past) out never lawful = tt
other_sent s pages c (intent.CastoutRead page) out never lawful = tt
other_sent s pages c intent.CastoutWrite out never lawful = tt
other_sent s pages c intent.CastoutDone out never lawful = tt
other_sent s pages c intent.PhaseDone out never lawful = tt

append_sent : (s : MarksState) (pages : List (List ℕ)) (c : Setting) (i : Intent) → Lawful s pages c i sent.AppendLog → i ≡ intent.Append
append_sent s pages c intent.Step lawful = absurd (none_append lawful)
append_sent s pages c (intent.Obtain o n m) lawful = absurd (command_append _ lawful.is)
append_sent s pages c (intent.Grant o n m) lawful = absurd (command_append _ lawful.is)
append_sent s pages c (intent.Ask o to n m) lawful = absurd (command_append _ lawful)
append_sent s pages c (intent.Answers o n m asked) lawful = absurd (command_append _ lawful)
append_sent s pages c (intent.Status member) lawful = absurd (command_append _ lawful)
append_sent s pages c (intent.Take past) lawful = absurd (command_append _ lawful)
append_sent s pages c (intent.Answer asker n m) lawful = absurd (command_append _ lawful.is)
append_sent s pages c (intent.ReleaseLock o) lawful = absurd (command_append _ lawful.is)
append_sent s pages c (intent.ReleasePage page) lawful = absurd (command_append _ lawful.is)
append_sent s pages c (intent.Purge n) lawful = absurd (command_append _ lawful.is)
append_sent s pages c (intent.End o) lawful = absurd (end_append s o lawful.is)
append_sent s pages c (intent.Wait slot holder flag) lawful = absurd (command_append _ lawful.is)
append_sent s pages c (intent.Unwait slot) lawful = absurd (command_append _ lawful.is)
append_sent s pages c (intent.Waits slots) lawful = absurd (command_append _ lawful)
append_sent s pages c (intent.Flag flag) lawful = absurd (command_append _ lawful)
append_sent s pages c (intent.Raise flag) lawful = absurd (command_append _ lawful)
append_sent s pages c intent.LoseCache lawful = absurd (command_append _ lawful)
append_sent s pages c (intent.Read at) lawful = absurd (command_append _ lawful.is)
append_sent s pages c (intent.ReadPage at) lawful = absurd (page_append lawful.page lawful.is)
append_sent s pages c (intent.Test at slot gives) lawful = absurd (command_append _ lawful.is)
append_sent s pages c (intent.WritePage at) lawful = absurd (command_append _ lawful.is)
append_sent s pages c (intent.Unregister at) lawful = absurd (command_append _ lawful.is)
append_sent s pages c (intent.Change slot action frames) lawful = absurd (command_append _ lawful.is)
append_sent s pages c (intent.Undo o at) lawful = absurd (command_append _ lawful.is)
append_sent s pages c (intent.Commit slot) lawful = absurd (command_append _ lawful.is)
append_sent s pages c intent.Append lawful = refl
append_sent s pages c (intent.NextChanged past) lawful = absurd (command_append _ lawful)
append_sent s pages c (intent.CastoutRead page) lawful = absurd (command_append _ lawful)
append_sent s pages c intent.CastoutWrite lawful = absurd (cast_append c.is_holder lawful.cast.page lawful.is)
append_sent s pages c intent.CastoutDone lawful = absurd (command_append _ lawful.is)
append_sent s pages c intent.PhaseDone lawful = absurd (command_append _ lawful)

-- ---- what an undo draws
drawn_above : (o : Option ℕ) (counter low : ℕ) → low ≤ counter → IsAbove low (drawn_reply o counter)
drawn_above None counter low le = omega arith
drawn_above (Some index) counter low le = tt

undo_sent : (k : Command) (at : ℕ) → sent.Command k ≡ sent.Command (command.DrawUndo (record { count = 1; at = at ∷ 0 ∷ 0 ∷ [] })) → k ≡ command.DrawUndo (record { count = 1; at = at ∷ 0 ∷ 0 ∷ [] })
undo_sent k at e = cc

undo_above : (s : MarksState) (w v : Facility) (m at : ℕ) (k : Command) (page after : List ℕ) (answer : Reply) → sent.Command k ≡ sent.Command (command.DrawUndo (record { count = 1; at = at ∷ 0 ∷ 0 ∷ [] })) → Executes w m k page answer v after → s.log.stable ≤ w.counter → IsAbove s.log.stable answer
undo_above s w v m at k page after answer is e low =
    let indexes : Indexes = record { count = 1; at = at ∷ 0 ∷ 0 ∷ [] } in
    let draws = subst (λ (z : Command). Executes w m z page answer v after) (undo_sent k at is) e in
    subst (λ (z : Reply). IsAbove s.log.stable z) (sym draws.0.0) (drawn_above (first_stale w.directory m (given indexes)) w.counter s.log.stable low)

above_sent : (s : MarksState) (pages : List (List ℕ)) (c : Setting) (i : Intent) (k : Command) (w v : Facility) (who : ℕ) (lent left : List ℕ) (answer : Reply) → Lawful s pages c i (sent.Command k) → Executes w who k lent answer v left → s.log.stable ≤ w.counter → AboveFor i s.log.stable answer
above_sent s pages c intent.Step k w v who lent left answer lawful e low = tt
above_sent s pages c (intent.Obtain o n m) k w v who lent left answer lawful e low = tt
above_sent s pages c (intent.Grant o n m) k w v who lent left answer lawful e low = tt
above_sent s pages c (intent.Ask o to n m) k w v who lent left answer lawful e low = tt
above_sent s pages c (intent.Answers o n m asked) k w v who lent left answer lawful e low = tt
above_sent s pages c (intent.Status member) k w v who lent left answer lawful e low = tt
above_sent s pages c (intent.Take past) k w v who lent left answer lawful e low = tt
above_sent s pages c (intent.Answer asker n m) k w v who lent left answer lawful e low = tt
above_sent s pages c (intent.ReleaseLock o) k w v who lent left answer lawful e low = tt
above_sent s pages c (intent.ReleasePage page) k w v who lent left answer lawful e low = tt
above_sent s pages c (intent.Purge n) k w v who lent left answer lawful e low = tt
above_sent s pages c (intent.End o) k w v who lent left answer lawful e low = tt
above_sent s pages c (intent.Wait slot holder flag) k w v who lent left answer lawful e low = tt
above_sent s pages c (intent.Unwait slot) k w v who lent left answer lawful e low = tt
above_sent s pages c (intent.Waits slots) k w v who lent left answer lawful e low = tt
above_sent s pages c (intent.Flag flag) k w v who lent left answer lawful e low = tt
above_sent s pages c (intent.Raise flag) k w v who lent left answer lawful e low = tt
above_sent s pages c intent.LoseCache k w v who lent left answer lawful e low = tt
above_sent s pages c (intent.Read at) k w v who lent left answer lawful e low = tt
above_sent s pages c (intent.ReadPage at) k w v who lent left answer lawful e low = tt
above_sent s pages c (intent.Test at slot gives) k w v who lent left answer lawful e low = tt
above_sent s pages c (intent.WritePage at) k w v who lent left answer lawful e low = tt
above_sent s pages c (intent.Unregister at) k w v who lent left answer lawful e low = tt
above_sent s pages c (intent.Change slot action frames) k w v who lent left answer lawful e low = tt
above_sent s pages c (intent.Undo o at) k w v who lent left answer lawful e low = undo_above s w v who at k lent left answer lawful.is e low
above_sent s pages c (intent.Commit slot) k w v who lent left answer lawful e low = tt
above_sent s pages c intent.Append k w v who lent left answer lawful e low = tt
above_sent s pages c (intent.NextChanged past) k w v who lent left answer lawful e low = tt
above_sent s pages c (intent.CastoutRead page) k w v who lent left answer lawful e low = tt
above_sent s pages c intent.CastoutWrite k w v who lent left answer lawful e low = tt
above_sent s pages c intent.CastoutDone k w v who lent left answer lawful e low = tt
above_sent s pages c intent.PhaseDone k w v who lent left answer lawful e low = tt

-- ---- a new event begins
event_tran : (t : TransState) (place : ℕ) (o : Owner) → tran_in (after_event t place) o ≡ tran_in t o
event_tran t place (owner.Slot slot) = refl
event_tran t place (owner.Rollback id) = refl

fits_event : (s : MarksState) (place : ℕ) (i : Intent) → Fits s i → Fits (with_trans s (after_event s.trans place)) i
fits_event s place intent.Step fits = fits
fits_event s place (intent.Obtain o n m) fits = fits
fits_event s place (intent.Grant o n m) fits = fits
fits_event s place (intent.Ask o to n m) fits = fits
fits_event s place (intent.Answers o n m asked) fits = fits
fits_event s place (intent.Status member) fits = fits
fits_event s place (intent.Take past) fits = fits
fits_event s place (intent.Answer asker n m) fits = fits
fits_event s place (intent.ReleaseLock o) fits = fits
fits_event s place (intent.ReleasePage page) fits = fits
fits_event s place (intent.Purge n) fits = fits
fits_event s place (intent.End o) fits = subst (λ (z : TranState). is_drawn z.stage ≡ false) (sym (event_tran s.trans place o)) fits
fits_event s place (intent.Wait slot holder flag) fits = fits
fits_event s place (intent.Unwait slot) fits = fits
fits_event s place (intent.Waits slots) fits = fits
fits_event s place (intent.Flag flag) fits = fits
fits_event s place (intent.Raise flag) fits = fits
fits_event s place intent.LoseCache fits = fits
fits_event s place (intent.Read at) fits = fits
fits_event s place (intent.ReadPage at) fits = fits
fits_event s place (intent.Test at slot gives) fits = fits
fits_event s place (intent.WritePage at) fits = fits
fits_event s place (intent.Unregister at) fits = fits
fits_event s place (intent.Change slot action frames) fits = fits
fits_event s place (intent.Undo o at) fits = subst (λ (z : TranState). is_undoing z.stage ≡ true) (sym (event_tran s.trans place o)) fits
fits_event s place (intent.Commit slot) fits = fits
fits_event s place intent.Append fits = fits
fits_event s place (intent.NextChanged past) fits = fits
fits_event s place (intent.CastoutRead page) fits = fits
fits_event s place intent.CastoutWrite fits = fits
fits_event s place intent.CastoutDone fits = fits
fits_event s place intent.PhaseDone fits = fits

fits_ready : (h ready : Held) (i : Intent) → Fits h.marks i → Reserves i h ready → Fits ready.marks i
fits_ready h ready intent.Step fits e = tt
fits_ready h ready (intent.Obtain o n m) fits e = tt
fits_ready h ready (intent.Grant o n m) fits e = tt
fits_ready h ready (intent.Ask o to n m) fits e = tt
fits_ready h ready (intent.Answers o n m asked) fits e = tt
fits_ready h ready (intent.Status member) fits e = tt
fits_ready h ready (intent.Take past) fits e = tt
fits_ready h ready (intent.Answer asker n m) fits e = tt
fits_ready h ready (intent.ReleaseLock o) fits e = tt
fits_ready h ready (intent.ReleasePage page) fits e = tt
fits_ready h ready (intent.Purge n) fits e = tt
fits_ready h ready (intent.End o) fits e = subst (λ (z : Held). Fits z.marks (intent.End o)) (sym e) fits
fits_ready h ready (intent.Wait slot holder flag) fits e = tt
fits_ready h ready (intent.Unwait slot) fits e = tt
fits_ready h ready (intent.Waits slots) fits e = tt
fits_ready h ready (intent.Flag flag) fits e = tt
fits_ready h ready (intent.Raise flag) fits e = tt
fits_ready h ready intent.LoseCache fits e = tt
fits_ready h ready (intent.Read at) fits e = tt
fits_ready h ready (intent.ReadPage at) fits e = tt
fits_ready h ready (intent.Test at slot gives) fits e = tt
fits_ready h ready (intent.WritePage at) fits e = tt
fits_ready h ready (intent.Unregister at) fits e = tt
fits_ready h ready (intent.Change slot action frames) fits e = subst (λ (z : Held). is_forward (tran_in z.marks.trans (owner.Slot slot)).stage ≡ true) (sym e) (ap (λ (z : TranState). is_forward z.stage) (put_there h.marks.trans.slots slot (with_room (slot_tran h.marks slot)) fits) ∙ fits)
fits_ready h ready (intent.Undo o at) fits e = subst (λ (z : Held). Fits z.marks (intent.Undo o at)) (sym e) fits
fits_ready h ready (intent.Commit slot) fits e = subst (λ (z : Held). Fits z.marks (intent.Commit slot)) (sym e) fits
fits_ready h ready intent.Append fits e = tt
fits_ready h ready (intent.NextChanged past) fits e = tt
fits_ready h ready (intent.CastoutRead page) fits e = tt
fits_ready h ready intent.CastoutWrite fits e = tt
fits_ready h ready intent.CastoutDone fits e = tt
fits_ready h ready intent.PhaseDone fits e = tt

ready_stays : (h ready : Held) (i : Intent) → Reserves i h ready → Stays h.marks ready.marks
ready_stays h ready intent.Step e = stays_as h.marks ready.marks h.marks (ap (λ (z : Held). z.marks) e) (stays_itself h.marks)
ready_stays h ready (intent.Obtain o n m) e = stays_as h.marks ready.marks (with_spare h ready.marks.locks.spare).marks (ap (λ (z : Held). z.marks) e.2) (stays_locks h.marks (record h.marks.locks { spare = ready.marks.locks.spare }))
ready_stays h ready (intent.Grant o n m) e = stays_as h.marks ready.marks (with_spare h ready.marks.locks.spare).marks (ap (λ (z : Held). z.marks) e.2) (stays_locks h.marks (record h.marks.locks { spare = ready.marks.locks.spare }))
ready_stays h ready (intent.Ask o to n m) e = stays_as h.marks ready.marks h.marks (ap (λ (z : Held). z.marks) e) (stays_itself h.marks)
ready_stays h ready (intent.Answers o n m asked) e = stays_as h.marks ready.marks h.marks (ap (λ (z : Held). z.marks) e) (stays_itself h.marks)
ready_stays h ready (intent.Status member) e = stays_as h.marks ready.marks h.marks (ap (λ (z : Held). z.marks) e) (stays_itself h.marks)
ready_stays h ready (intent.Take past) e = stays_as h.marks ready.marks h.marks (ap (λ (z : Held). z.marks) e) (stays_itself h.marks)
ready_stays h ready (intent.Answer asker n m) e = stays_as h.marks ready.marks h.marks (ap (λ (z : Held). z.marks) e) (stays_itself h.marks)
ready_stays h ready (intent.ReleaseLock o) e = stays_as h.marks ready.marks h.marks (ap (λ (z : Held). z.marks) e) (stays_itself h.marks)
ready_stays h ready (intent.ReleasePage page) e = stays_as h.marks ready.marks h.marks (ap (λ (z : Held). z.marks) e) (stays_itself h.marks)
ready_stays h ready (intent.Purge n) e = stays_as h.marks ready.marks h.marks (ap (λ (z : Held). z.marks) e) (stays_itself h.marks)
ready_stays h ready (intent.End o) e = stays_as h.marks ready.marks h.marks (ap (λ (z : Held). z.marks) e) (stays_itself h.marks)
ready_stays h ready (intent.Wait slot holder flag) e = stays_as h.marks ready.marks h.marks (ap (λ (z : Held). z.marks) e) (stays_itself h.marks)
ready_stays h ready (intent.Unwait slot) e = stays_as h.marks ready.marks h.marks (ap (λ (z : Held). z.marks) e) (stays_itself h.marks)
ready_stays h ready (intent.Waits slots) e = stays_as h.marks ready.marks h.marks (ap (λ (z : Held). z.marks) e) (stays_itself h.marks)
ready_stays h ready (intent.Flag flag) e = stays_as h.marks ready.marks h.marks (ap (λ (z : Held). z.marks) e) (stays_itself h.marks)
ready_stays h ready (intent.Raise flag) e = stays_as h.marks ready.marks h.marks (ap (λ (z : Held). z.marks) e) (stays_itself h.marks)
ready_stays h ready intent.LoseCache e = stays_as h.marks ready.marks h.marks (ap (λ (z : Held). z.marks) e) (stays_itself h.marks)
ready_stays h ready (intent.Read at) e = stays_as h.marks ready.marks h.marks (ap (λ (z : Held). z.marks) e) (stays_itself h.marks)
ready_stays h ready (intent.ReadPage at) e = stays_as h.marks ready.marks h.marks (ap (λ (z : Held). z.marks) e) (stays_itself h.marks)
ready_stays h ready (intent.Test at slot gives) e = stays_as h.marks ready.marks h.marks (ap (λ (z : Held). z.marks) e) (stays_itself h.marks)
ready_stays h ready (intent.WritePage at) e = stays_as h.marks ready.marks h.marks (ap (λ (z : Held). z.marks) e) (stays_itself h.marks)
ready_stays h ready (intent.Unregister at) e = stays_as h.marks ready.marks h.marks (ap (λ (z : Held). z.marks) e) (stays_itself h.marks)
ready_stays h ready (intent.Change slot action frames) e = stays_as h.marks ready.marks (with_change_room h slot).marks (ap (λ (z : Held). z.marks) e) (stays_trans h.marks (with_tran h.marks.trans slot (with_room (slot_tran h.marks slot))) (λ disk pend a. set_like disk pend h.marks.log.stable h.marks.trans (owner.Slot slot) (with_room (slot_tran h.marks slot)) refl refl refl refl a))
ready_stays h ready (intent.Undo o at) e = stays_as h.marks ready.marks h.marks (ap (λ (z : Held). z.marks) e) (stays_itself h.marks)
ready_stays h ready (intent.Commit slot) e = stays_as h.marks ready.marks h.marks (ap (λ (z : Held). z.marks) e) (stays_itself h.marks)
ready_stays h ready intent.Append e = stays_as h.marks ready.marks h.marks (ap (λ (z : Held). z.marks) e) (stays_itself h.marks)
ready_stays h ready (intent.NextChanged past) e = stays_as h.marks ready.marks h.marks (ap (λ (z : Held). z.marks) e) (stays_itself h.marks)
ready_stays h ready (intent.CastoutRead page) e = stays_as h.marks ready.marks h.marks (ap (λ (z : Held). z.marks) e) (stays_itself h.marks)
ready_stays h ready intent.CastoutWrite e = stays_as h.marks ready.marks h.marks (ap (λ (z : Held). z.marks) e) (stays_itself h.marks)
ready_stays h ready intent.CastoutDone e = stays_as h.marks ready.marks h.marks (ap (λ (z : Held). z.marks) e) (stays_itself h.marks)
ready_stays h ready intent.PhaseDone e = stays_as h.marks ready.marks h.marks (ap (λ (z : Held). z.marks) e) (stays_itself h.marks)

ready_log : (h ready : Held) (i : Intent) → Reserves i h ready → ready.marks.log ≡ h.marks.log
ready_log h ready intent.Step e = ap (λ (z : Held). z.marks.log) e
ready_log h ready (intent.Obtain o n m) e = ap (λ (z : Held). z.marks.log) e.2
ready_log h ready (intent.Grant o n m) e = ap (λ (z : Held). z.marks.log) e.2
ready_log h ready (intent.Ask o to n m) e = ap (λ (z : Held). z.marks.log) e
ready_log h ready (intent.Answers o n m asked) e = ap (λ (z : Held). z.marks.log) e
ready_log h ready (intent.Status member) e = ap (λ (z : Held). z.marks.log) e
ready_log h ready (intent.Take past) e = ap (λ (z : Held). z.marks.log) e
ready_log h ready (intent.Answer asker n m) e = ap (λ (z : Held). z.marks.log) e
ready_log h ready (intent.ReleaseLock o) e = ap (λ (z : Held). z.marks.log) e
ready_log h ready (intent.ReleasePage page) e = ap (λ (z : Held). z.marks.log) e
ready_log h ready (intent.Purge n) e = ap (λ (z : Held). z.marks.log) e
ready_log h ready (intent.End o) e = ap (λ (z : Held). z.marks.log) e
ready_log h ready (intent.Wait slot holder flag) e = ap (λ (z : Held). z.marks.log) e
ready_log h ready (intent.Unwait slot) e = ap (λ (z : Held). z.marks.log) e
ready_log h ready (intent.Waits slots) e = ap (λ (z : Held). z.marks.log) e
ready_log h ready (intent.Flag flag) e = ap (λ (z : Held). z.marks.log) e
ready_log h ready (intent.Raise flag) e = ap (λ (z : Held). z.marks.log) e
ready_log h ready intent.LoseCache e = ap (λ (z : Held). z.marks.log) e
ready_log h ready (intent.Read at) e = ap (λ (z : Held). z.marks.log) e
ready_log h ready (intent.ReadPage at) e = ap (λ (z : Held). z.marks.log) e
ready_log h ready (intent.Test at slot gives) e = ap (λ (z : Held). z.marks.log) e
ready_log h ready (intent.WritePage at) e = ap (λ (z : Held). z.marks.log) e
ready_log h ready (intent.Unregister at) e = ap (λ (z : Held). z.marks.log) e
ready_log h ready (intent.Change slot action frames) e = ap (λ (z : Held). z.marks.log) e
ready_log h ready (intent.Undo o at) e = ap (λ (z : Held). z.marks.log) e
ready_log h ready (intent.Commit slot) e = ap (λ (z : Held). z.marks.log) e
ready_log h ready intent.Append e = ap (λ (z : Held). z.marks.log) e
ready_log h ready (intent.NextChanged past) e = ap (λ (z : Held). z.marks.log) e
ready_log h ready (intent.CastoutRead page) e = ap (λ (z : Held). z.marks.log) e
ready_log h ready intent.CastoutWrite e = ap (λ (z : Held). z.marks.log) e
ready_log h ready intent.CastoutDone e = ap (λ (z : Held). z.marks.log) e
ready_log h ready intent.PhaseDone e = ap (λ (z : Held). z.marks.log) e

begun_stays : (h : Held) (place : ℕ) → Stays h.marks (begun h place).marks
begun_stays h place = stays_lists h.marks (begun h place).marks refl refl refl refl refl

-- ---- the append
decided_stands : (disk : List LogRecord) (now : ℕ) (t : TranState) → (t.first ≢ 0 → is_closed disk t.first ≡ true) → TranStands disk [] now (decided_tran t)
decided_stands disk now t closed = record { changed = λ e. absurd cc; decided = λ e n. closed n; undone = λ e. absurd cc }

abbrev IsNamed : List LogRecord → TranState → Type 0
IsNamed disk t = t.first ≢ 0 → is_closed disk t.first ≡ true

named_set : (disk : List LogRecord) (ts : List TranState) (slot : ℕ) (x : TranState) → (IsNamed disk (slice_index_or ts slot free_tran) → IsNamed disk x)
    → (k : ℕ) → IsNamed disk (slice_index_or ts k free_tran) → IsNamed disk (slice_index_or (slice_set ts slot x) k free_tran)
named_set disk [] slot x on k h = h
named_set disk (t ∷ ts) zero x on zero h = on h
named_set disk (t ∷ ts) zero x on (suc k) h = h
named_set disk (t ∷ ts) (suc slot) x on zero h = h
named_set disk (t ∷ ts) (suc slot) x on (suc k) h = named_set disk ts slot x on k h

decided_all : (disk : List LogRecord) (now : ℕ) (ts : List TranState) (slots : List ℕ) → AllByRecursion (TranStands disk [] now) ts → AllByRecursion (λ (slot : ℕ). IsNamed disk (slice_index_or ts slot free_tran)) slots
    → AllByRecursion (TranStands disk [] now) (all_decided ts slots)
decided_all disk now ts [] h named = h
decided_all disk now ts (slot ∷ slots) h named =
    let x : TranState = decided_tran (slice_index_or ts slot free_tran) in
    decided_all disk now (slice_set ts slot x) slots (all_set (TranStands disk [] now) ts slot x h (decided_stands disk now (slice_index_or ts slot free_tran) named.0))
    (all_as (λ (k : ℕ). IsNamed disk (slice_index_or ts k free_tran)) (λ (k : ℕ). IsNamed disk (slice_index_or (slice_set ts slot x) k free_tran)) slots (named_set disk ts slot x (λ n. n)) named.1)

appended : BothTell → (disk pend : List LogRecord) (s : MarksState) → Closes disk pend s → Closes (disk ++ pend) [] (after_append s)
appended law disk pend s c = record {
  spelled = refl;
  all = record {
    slots = decided_all (disk ++ pend) s.log.last s.trans.slots s.trans.commits
        (all_as (TranStands disk pend s.log.stable) (TranStands (disk ++ pend) [] s.log.last) s.trans.slots (stands_stored law disk pend s.log.stable s.log.last) c.all.slots)
        (all_as (λ (slot : ℕ). Waits pend (tran_at s.trans slot)) (λ (slot : ℕ). IsNamed (disk ++ pend) (tran_at s.trans slot)) s.trans.commits (λ slot w n. closed_last law disk pend (tran_at s.trans slot).first (w.closed n)) c.all.commits);
    rollbacks = all_as (TranStands disk pend s.log.stable) (TranStands (disk ++ pend) [] s.log.last) s.trans.rollbacks (stands_stored law disk pend s.log.stable s.log.last) c.all.rollbacks;
    commits = tt;
  };
}

module _ (base : List ℕ) where
  -- ---- the log on disk
  same_log : (w v : Drive) (member other : ℕ) (disk : List LogRecord) → v ≡ w → other ≡ member → LogIs base w member disk → LogIs base v other disk
  same_log w v member other disk drive is l = subst (λ (z : ℕ). LogIs base v z disk) (sym is) (subst (λ (z : Drive). LogIs base z member disk) (sym drive) l)

  none_more : (disk : List LogRecord) → disk ++ [] ≡ disk
  none_more disk = append-nil disk

  stays_closed : (disk pend new : List LogRecord) (G : ℕ → Spot → Type 0) (drive : Drive) (s : MarksState) → ArePlain new → ((id : ℕ) (x : Spot) → has_changed new id x ≡ true → G id x) → LogIs base drive s.member disk → Closes disk (pend ++ new) s → StillCloses base disk pend new G drive s
  stays_closed disk pend new G drive s plain rows l c = record {
    more = [];
    left = pend ++ new;
    goes = inl (refl, record { is = refl; plain = plain; rows = rows });
    log = subst (λ (z : List LogRecord). LogIs base drive s.member z) (sym (none_more disk)) l;
    closes = subst (λ (z : List LogRecord). Closes z (pend ++ new) s) (sym (none_more disk)) c;
  }

  puts_closed : (disk pend new : List LogRecord) (G : ℕ → Spot → Type 0) (drive : Drive) (s t : MarksState) → PutsRows G s t new → LogIs base drive t.member disk → Closes disk pend s → StillCloses base disk pend new G drive t
  puts_closed disk pend new G drive s t k l c = stays_closed disk pend new G drive t k.plain k.rows l (k.closes disk pend c)

  -- what a call leaves told
  told_after : (before after : Option Contents) (c : Contents) (P : Contents → Contents → Type 0) → before ≡ Some c → Becomes before after P → (d : Contents) × (after ≡ Some d) × P c d
  told_after before after c P is b = by after (subst (λ (z : Option Contents). Becomes z after P) is b)
    where
      by : (o : Option Contents) → Becomes (Some c) o P → (d : Contents) × (o ≡ Some d) × P c d
      by None e = absurd e
      by (Some d) e = (d, refl, e)

  -- the logs stay, or one of them is longer
  keeps_logs : (w v : Drive) (member : ℕ) (disk : List LogRecord) (l : LogIs base w member disk) → ((d : Contents) × (v.contents ≡ Some d) × (d.logs ≡ l.contents.logs)) → LogIs base v member disk
  keeps_logs w v member disk l d = record {
    contents = d.0;
    told = d.1;
    there = subst (λ (z : List (List ℕ)). nat_lt (member - 1) (length z) ≡ true) (sym d.2) l.there;
    log = ap (λ (z : List (List ℕ)). log_of z member) d.2 ∙ l.log;
  }

  longer : (w v : Drive) (member : ℕ) (disk pend : List LogRecord) (bytes : List ℕ) (l : LogIs base w member disk) → bytes ≡ log_bytes pend
      → ((d : Contents) × (v.contents ≡ Some d) × (d ≡ with_log l.contents member (log_of l.contents.logs member ++ bytes))) → LogIs base v member (disk ++ pend)
  longer w v member disk pend bytes l spelled d = record {
    contents = d.0;
    told = d.1;
    there = subst (λ (z : ℕ). nat_lt (member - 1) z ≡ true) (sym (ap (λ (z : Contents). length z.logs) d.2 ∙ length-set l.contents.logs (member - 1) (log_of l.contents.logs member ++ bytes))) l.there;
    log = ap (λ (z : Contents). log_of z.logs member) d.2
        ∙ (get_or-set_same l.contents.logs (member - 1) (log_of l.contents.logs member ++ bytes) [] (ltb-true (member - 1) (length l.contents.logs) l.there)
        ∙ (ap (λ (z : List ℕ). z ++ bytes) l.log ∙ (append_assoc base (log_bytes disk) bytes ∙ ap (λ (z : List ℕ). base ++ z) (ap (λ (z : List ℕ). log_bytes disk ++ z) spelled ∙ sym (flat_map-append record_bytes disk pend)))));
  }

  -- ---- a call that was made
  stored_is : (h k : Held) (i : Intent) (done : Result (Unit {0}) DiskError) (a : Answered) (told : Told) → IsUnfailed a → Stores h i done a told k → k ≡ stored h i
  stored_is h k i (Ok x) a told well e = e.2
  stored_is h k i (Err disk_error.Failed) a told well e = absurd (subst (λ (z : Answered). IsUnfailed z) e.0 well)
  stored_is h k i (Err disk_error.NoMemory) a told well e = absurd e

  stored_done : (h k : Held) (i : Intent) (done : Result (Unit {0}) DiskError) (a : Answered) (told : Told) → IsUnfailed a → Stores h i done a told k → a ≡ answered.Done
  stored_done h k i (Ok x) a told well e = e.0
  stored_done h k i (Err disk_error.Failed) a told well e = absurd (subst (λ (z : Answered). IsUnfailed z) e.0 well)
  stored_done h k i (Err disk_error.NoMemory) a told well e = absurd e

  made_ok : (h k : Held) (i : Intent) (done : Result (Unit {0}) DiskError) (a : Answered) (told : Told) → IsUnfailed a → Stores h i done a told k → (P : Unit {0} → Type 0) → IfOk done P → (x : Unit {0}) × P x
  made_ok h k i (Ok x) a told well e P ok = (x, ok)
  made_ok h k i (Err disk_error.Failed) a told well e P ok = absurd (subst (λ (z : Answered). IsUnfailed z) e.0 well)
  made_ok h k i (Err disk_error.NoMemory) a told well e P ok = absurd e

  read_logs : (w v : Drive) (h k : Held) (page : PageId) (done : Result (Unit {0}) DiskError) (o : Option ℕ) (c : Contents) → w.contents ≡ Some c → ((P : Unit {0} → Type 0) → IfOk done P → (x : Unit {0}) × P x)
      → ReadsAs o w h page done v k → (d : Contents) × (v.contents ≡ Some d) × (d.logs ≡ c.logs)
  read_logs w v h k page done None c told got e = (c, ap (λ (z : Drive). z.contents) e.1 ∙ told, refl)
  read_logs w v h k page done (Some at) c told got e = by (nat_lt at (length h.pages)) e
    where
      by : (b : Bool) → ReadsFrame b w h at page done v k → (d : Contents) × (v.contents ≡ Some d) × (d.logs ≡ c.logs)
      by true r =
          let ok = got _ r.0.ok in
          let t = told_after w.contents v.contents c _ told ok.1.2 in
          (t.0, t.1, ap (λ (z : Contents). z.logs) t.2.0)
      by false r = (c, ap (λ (z : Drive). z.contents) r.1 ∙ told, refl)

  -- ---- by what is sent
  none_closes : (disk pend new : List LogRecord) (G : ℕ → Spot → Type 0) (w v : World) (h k : Held) → v.drive ≡ w.drive → PutsRows G h.marks k.marks new → LogIs base w.drive h.marks.member disk → Closes disk pend h.marks → StillCloses base disk pend new G v.drive k.marks
  none_closes disk pend new G w v h k drive kept l c = puts_closed disk pend new G v.drive h.marks k.marks kept (same_log w.drive v.drive h.marks.member k.marks.member disk drive kept.member l) c

  -- by what was answered
  answered_closes : (disk pend : List LogRecord) (G : ℕ → Spot → Type 0) (v : World) (s t : MarksState) (i : Intent) (p : Plan) (a b : Answered) → a ≡ b → StillCloses base disk pend (event_records s i p b) G v.drive t → StillCloses base disk pend (event_records s i p a) G v.drive t
  answered_closes disk pend G v s t i p a b e k = subst (λ (z : Answered). StillCloses base disk pend (event_records s i p z) G v.drive t) (sym e) k

  quiet_closes : BothTell → (disk pend : List LogRecord) (G : ℕ → Spot → Type 0) (w v : World) (h ready k : Held) (c : Setting) (i : Intent) (x : Command) (p : Plan) (place : ℕ) (a : Answered) (told : Told) → IsQuiet i → Lawful h.marks h.pages c i (sent.Command x) → Reserves i h ready
      → Fits (begun ready place).marks i → Runs w (begun ready place) i (sent.Command x) p place a told v k → h.marks.log.stable ≤ w.facility.counter → LogIs base w.drive (begun ready place).marks.member disk → Closes disk pend (begun ready place).marks → StillCloses base disk pend (event_records (begun ready place).marks i p a) G v.drive k.marks
  quiet_closes law disk pend G w v h ready k c i x p place a told quiet lawful reserves fits r low l closes =
      answered_closes disk pend G v (begun ready place).marks k.marks i p a (answered.Reply r.0.answer) r.0.is (none_closes disk pend (reply_records (begun ready place).marks i p r.0.answer) G w v (begun ready place) k r.1
      (puts_adds G (begun ready place).marks k.marks _ (command_kept law w v (begun ready place) k i x p place a told quiet fits r.0
      (subst (λ (z : LogBuffer). AboveFor i z.stable r.0.answer) (sym (ready_log h ready i reserves)) (above_sent h.marks h.pages c i x w.facility v.facility (begun ready place).marks.member _ _ r.0.answer lawful r.0.gives.executed.executes low))))
      l closes)

  command_closes : BothTell → (disk pend : List LogRecord) (G : ℕ → Spot → Type 0) (w v : World) (h ready k : Held) (c : Setting) (i : Intent) (x : Command) (p : Plan) (place : ℕ) (a : Answered) (told : Told) → Lawful h.marks h.pages c i (sent.Command x) → Reserves i h ready
      → Fits (begun ready place).marks i → Runs w (begun ready place) i (sent.Command x) p place a told v k → h.marks.log.stable ≤ w.facility.counter → ((id : ℕ) (spot : Spot) → ChangedIn i p k.marks id spot → G id spot)
      → LogIs base w.drive (begun ready place).marks.member disk → Closes disk pend (begun ready place).marks → StillCloses base disk pend (event_records (begun ready place).marks i p a) G v.drive k.marks
  command_closes law disk pend G w v h ready k c intent.Step x p place a told lawful reserves fits r low give l closes = quiet_closes law disk pend G w v h ready k c intent.Step x p place a told tt lawful reserves fits r low l closes
  command_closes law disk pend G w v h ready k c (intent.Obtain o n m) x p place a told lawful reserves fits r low give l closes = quiet_closes law disk pend G w v h ready k c (intent.Obtain o n m) x p place a told tt lawful reserves fits r low l closes
  command_closes law disk pend G w v h ready k c (intent.Grant o n m) x p place a told lawful reserves fits r low give l closes = quiet_closes law disk pend G w v h ready k c (intent.Grant o n m) x p place a told tt lawful reserves fits r low l closes
  command_closes law disk pend G w v h ready k c (intent.Ask o to n m) x p place a told lawful reserves fits r low give l closes = quiet_closes law disk pend G w v h ready k c (intent.Ask o to n m) x p place a told tt lawful reserves fits r low l closes
  command_closes law disk pend G w v h ready k c (intent.Answers o n m asked) x p place a told lawful reserves fits r low give l closes = quiet_closes law disk pend G w v h ready k c (intent.Answers o n m asked) x p place a told tt lawful reserves fits r low l closes
  command_closes law disk pend G w v h ready k c (intent.Status member) x p place a told lawful reserves fits r low give l closes = quiet_closes law disk pend G w v h ready k c (intent.Status member) x p place a told tt lawful reserves fits r low l closes
  command_closes law disk pend G w v h ready k c (intent.Take past) x p place a told lawful reserves fits r low give l closes = quiet_closes law disk pend G w v h ready k c (intent.Take past) x p place a told tt lawful reserves fits r low l closes
  command_closes law disk pend G w v h ready k c (intent.Answer asker n m) x p place a told lawful reserves fits r low give l closes = quiet_closes law disk pend G w v h ready k c (intent.Answer asker n m) x p place a told tt lawful reserves fits r low l closes
  command_closes law disk pend G w v h ready k c (intent.ReleaseLock o) x p place a told lawful reserves fits r low give l closes = quiet_closes law disk pend G w v h ready k c (intent.ReleaseLock o) x p place a told tt lawful reserves fits r low l closes
  command_closes law disk pend G w v h ready k c (intent.ReleasePage page) x p place a told lawful reserves fits r low give l closes = quiet_closes law disk pend G w v h ready k c (intent.ReleasePage page) x p place a told tt lawful reserves fits r low l closes
  command_closes law disk pend G w v h ready k c (intent.Purge n) x p place a told lawful reserves fits r low give l closes = quiet_closes law disk pend G w v h ready k c (intent.Purge n) x p place a told tt lawful reserves fits r low l closes
  command_closes law disk pend G w v h ready k c (intent.End o) x p place a told lawful reserves fits r low give l closes = quiet_closes law disk pend G w v h ready k c (intent.End o) x p place a told tt lawful reserves fits r low l closes
  command_closes law disk pend G w v h ready k c (intent.Wait slot holder flag) x p place a told lawful reserves fits r low give l closes = quiet_closes law disk pend G w v h ready k c (intent.Wait slot holder flag) x p place a told tt lawful reserves fits r low l closes
  command_closes law disk pend G w v h ready k c (intent.Unwait slot) x p place a told lawful reserves fits r low give l closes = quiet_closes law disk pend G w v h ready k c (intent.Unwait slot) x p place a told tt lawful reserves fits r low l closes
  command_closes law disk pend G w v h ready k c (intent.Waits slots) x p place a told lawful reserves fits r low give l closes = quiet_closes law disk pend G w v h ready k c (intent.Waits slots) x p place a told tt lawful reserves fits r low l closes
  command_closes law disk pend G w v h ready k c (intent.Flag flag) x p place a told lawful reserves fits r low give l closes = quiet_closes law disk pend G w v h ready k c (intent.Flag flag) x p place a told tt lawful reserves fits r low l closes
  command_closes law disk pend G w v h ready k c (intent.Raise flag) x p place a told lawful reserves fits r low give l closes = quiet_closes law disk pend G w v h ready k c (intent.Raise flag) x p place a told tt lawful reserves fits r low l closes
  command_closes law disk pend G w v h ready k c intent.LoseCache x p place a told lawful reserves fits r low give l closes = quiet_closes law disk pend G w v h ready k c intent.LoseCache x p place a told tt lawful reserves fits r low l closes
  command_closes law disk pend G w v h ready k c (intent.Read at) x p place a told lawful reserves fits r low give l closes = quiet_closes law disk pend G w v h ready k c (intent.Read at) x p place a told tt lawful reserves fits r low l closes
  command_closes law disk pend G w v h ready k c (intent.ReadPage at) x p place a told lawful reserves fits r low give l closes = quiet_closes law disk pend G w v h ready k c (intent.ReadPage at) x p place a told tt lawful reserves fits r low l closes
  command_closes law disk pend G w v h ready k c (intent.Test at slot gives) x p place a told lawful reserves fits r low give l closes = quiet_closes law disk pend G w v h ready k c (intent.Test at slot gives) x p place a told tt lawful reserves fits r low l closes
  command_closes law disk pend G w v h ready k c (intent.WritePage at) x p place a told lawful reserves fits r low give l closes = quiet_closes law disk pend G w v h ready k c (intent.WritePage at) x p place a told tt lawful reserves fits r low l closes
  command_closes law disk pend G w v h ready k c (intent.Unregister at) x p place a told lawful reserves fits r low give l closes = quiet_closes law disk pend G w v h ready k c (intent.Unregister at) x p place a told tt lawful reserves fits r low l closes
  command_closes law disk pend G w v h ready k c (intent.Change slot action frames) x p place a told lawful reserves fits r low give l closes =
      answered_closes disk pend G v (begun ready place).marks k.marks (intent.Change slot action frames) p a (answered.Reply r.0.answer) r.0.is
      (none_closes disk pend (reply_records (begun ready place).marks (intent.Change slot action frames) p r.0.answer) G w v (begun ready place) k r.1 (command_puts law G w v (begun ready place) k slot action frames x p place a told fits give r.0) l closes)
  command_closes law disk pend G w v h ready k c (intent.Undo o at) x p place a told lawful reserves fits r low give l closes = quiet_closes law disk pend G w v h ready k c (intent.Undo o at) x p place a told tt lawful reserves fits r low l closes
  command_closes law disk pend G w v h ready k c (intent.Commit slot) x p place a told lawful reserves fits r low give l closes = quiet_closes law disk pend G w v h ready k c (intent.Commit slot) x p place a told tt lawful reserves fits r low l closes
  command_closes law disk pend G w v h ready k c intent.Append x p place a told lawful reserves fits r low give l closes = quiet_closes law disk pend G w v h ready k c intent.Append x p place a told tt lawful reserves fits r low l closes
  command_closes law disk pend G w v h ready k c (intent.NextChanged past) x p place a told lawful reserves fits r low give l closes = quiet_closes law disk pend G w v h ready k c (intent.NextChanged past) x p place a told tt lawful reserves fits r low l closes
  command_closes law disk pend G w v h ready k c (intent.CastoutRead page) x p place a told lawful reserves fits r low give l closes = quiet_closes law disk pend G w v h ready k c (intent.CastoutRead page) x p place a told tt lawful reserves fits r low l closes
  command_closes law disk pend G w v h ready k c intent.CastoutWrite x p place a told lawful reserves fits r low give l closes = quiet_closes law disk pend G w v h ready k c intent.CastoutWrite x p place a told tt lawful reserves fits r low l closes
  command_closes law disk pend G w v h ready k c intent.CastoutDone x p place a told lawful reserves fits r low give l closes = quiet_closes law disk pend G w v h ready k c intent.CastoutDone x p place a told tt lawful reserves fits r low l closes
  command_closes law disk pend G w v h ready k c intent.PhaseDone x p place a told lawful reserves fits r low give l closes = quiet_closes law disk pend G w v h ready k c intent.PhaseDone x p place a told tt lawful reserves fits r low l closes

  read_closes : (disk pend : List LogRecord) (G : ℕ → Spot → Type 0) (w v : World) (h k : Held) (i : Intent) (page : PageId) (p : Plan) (a : Answered) (told : Told) → IsOther i → IsUnfailed a → RunsCall w.drive h i (sent.ReadPage page) a told v.drive k → LogIs base w.drive h.marks.member disk → Closes disk pend h.marks → StillCloses base disk pend (event_records h.marks i p a) G v.drive k.marks
  read_closes disk pend G w v h k i page p a told other well r l closes =
      let kept = puts_kept G h.marks k.marks (called_kept w.drive v.drive h k i (sent.ReadPage page) a told other r) in
      answered_closes disk pend G v h.marks k.marks i p a answered.Done (stored_done r.after k i r.done a told well r.stores) (puts_closed disk pend [] G v.drive h.marks k.marks kept
      (subst (λ (z : ℕ). LogIs base v.drive z disk) (sym kept.member) (keeps_logs w.drive v.drive h.marks.member disk l (read_logs w.drive v.drive h r.after page r.done (frame_read i) l.contents l.told (made_ok r.after k i r.done a told well r.stores) r.calls)))
      closes)

  write_closes : (disk pend : List LogRecord) (G : ℕ → Spot → Type 0) (w v : World) (h k : Held) (i : Intent) (page : PageId) (p : Plan) (a : Answered) (told : Told) → IsOther i → IsUnfailed a → RunsCall w.drive h i (sent.WritePage page) a told v.drive k → LogIs base w.drive h.marks.member disk → Closes disk pend h.marks → StillCloses base disk pend (event_records h.marks i p a) G v.drive k.marks
  write_closes disk pend G w v h k i page p a told other well r l closes =
      let kept = puts_kept G h.marks k.marks (called_kept w.drive v.drive h k i (sent.WritePage page) a told other r) in
      let ok = made_ok r.after k i r.done a told well r.stores _ r.calls.0.ok in
      let t = told_after w.drive.contents v.drive.contents l.contents _ l.told ok.1.2 in
      answered_closes disk pend G v h.marks k.marks i p a answered.Done (stored_done r.after k i r.done a told well r.stores) (puts_closed disk pend [] G v.drive h.marks k.marks kept
      (subst (λ (z : ℕ). LogIs base v.drive z disk) (sym kept.member) (keeps_logs w.drive v.drive h.marks.member disk l (t.0, t.1, ap (λ (z : Contents). z.logs) t.2)))
      closes)

  abbrev stored_by : Held → Intent → Held
  stored_by x y = stored x y

  append_closes : BothTell → (disk pend new : List LogRecord) (G : ℕ → Spot → Type 0) (w v : World) (h k : Held) (i : Intent) (a : Answered) (told : Told) → i ≡ intent.Append → IsUnfailed a → RunsCall w.drive h i sent.AppendLog a told v.drive k → LogIs base w.drive h.marks.member disk → Closes disk pend h.marks → StillCloses base disk pend new G v.drive k.marks
  append_closes law disk pend new G w v h k i a told is well r l closes =
      let ok = made_ok r.after k i r.done a told well r.stores _ r.calls.0.ok in
      let t = told_after w.drive.contents v.drive.contents l.contents _ l.told ok.1.2 in
      let marks : k.marks ≡ after_append h.marks = ap (λ (z : Held). z.marks) (stored_is r.after k i r.done a told well r.stores) ∙ (ap (λ (z : Intent). (stored_by r.after z).marks) is ∙ ap (λ (z : Held). after_append z.marks) r.calls.1) in
      record {
        more = pend;
        left = [];
        goes = inr (refl, refl);
        log = subst (λ (z : MarksState). LogIs base v.drive z.member (disk ++ pend)) (sym marks) (longer w.drive v.drive h.marks.member disk pend h.marks.log.pending l closes.spelled t);
        closes = subst (λ (z : MarksState). Closes (disk ++ pend) [] z) (sym marks) (appended law disk pend h.marks closes);
      }

  runs_close : BothTell → (disk pend : List LogRecord) (G : ℕ → Spot → Type 0) (w v : World) (h ready k : Held) (c : Setting) (i : Intent) (s : Sent) (p : Plan) (place : ℕ) (a : Answered) (told : Told) → Lawful h.marks h.pages c i s → Reserves i h ready → IsUnfailed a
      → Fits (begun ready place).marks i → Runs w (begun ready place) i s p place a told v k → h.marks.log.stable ≤ w.facility.counter → ((id : ℕ) (spot : Spot) → ChangedIn i p k.marks id spot → G id spot)
      → LogIs base w.drive (begun ready place).marks.member disk → Closes disk pend (begun ready place).marks → StillCloses base disk pend (event_records (begun ready place).marks i p a) G v.drive k.marks
  runs_close law disk pend G w v h ready k c i sent.None p place a told lawful reserves well fits r low give l closes =
      answered_closes disk pend G v (begun ready place).marks k.marks i p a answered.None r.is (none_closes disk pend [] G w v (begun ready place) k (ap (λ (z : World). z.drive) r.world) (puts_kept G (begun ready place).marks k.marks (nothing_kept (begun ready place) k i fits r.held)) l closes)
  runs_close law disk pend G w v h ready k c i (sent.Command x) p place a told lawful reserves well fits r low give l closes = command_closes law disk pend G w v h ready k c i x p place a told lawful reserves fits r low give l closes
  runs_close law disk pend G w v h ready k c i sent.AppendLog p place a told lawful reserves well fits r low give l closes =
      append_closes law disk pend (event_records (begun ready place).marks i p a) G w v (begun ready place) k i a told (append_sent h.marks h.pages c i lawful) well r.0 l closes
  runs_close law disk pend G w v h ready k c i (sent.ReadPage page) p place a told lawful reserves well fits r low give l closes =
      read_closes disk pend G w v (begun ready place) k i page p a told (other_sent h.marks h.pages c i (sent.ReadPage page) (λ e. absurd cc) lawful) well r.0 l closes
  runs_close law disk pend G w v h ready k c i (sent.WritePage page) p place a told lawful reserves well fits r low give l closes =
      write_closes disk pend G w v (begun ready place) k i page p a told (other_sent h.marks h.pages c i (sent.WritePage page) (λ e. absurd cc) lawful) well r.0 l closes

  -- ---- the whole event
  abbrev sent_in : Result Prepared Test → Result Sent Test
  sent_in (Ok x) = Ok x.sent
  sent_in (Err test) = Err test

  needs_sent : (x : Result Sent Test) (y : Result Plan Test) (s : Sent) (p : Plan) → needed x y ≡ Ok (record { sent = s; plan = p }) → x ≡ Ok s
  needs_sent (Err test) y s p e = absurd cc
  needs_sent (Ok t) (Err test) s p e = absurd cc
  needs_sent (Ok t) (Ok q) s p e = ap sent_in e

  -- local moves change neither
  reached : (disk pend new : List LogRecord) (G : ℕ → Spot → Type 0) (drive : Drive) (s t : MarksState) → Stays s t → StillCloses base disk pend new G drive s → StillCloses base disk pend new G drive t
  reached disk pend new G drive s t k c = record {
    more = c.more;
    left = c.left;
    goes = c.goes;
    log = same_log drive drive s.member t.member (disk ++ c.more) refl k.member c.log;
    closes = k.closes (disk ++ c.more) c.left c.closes;
  }

  -- nor does the begin of the event, with the memory that is taken
  begun_closes : (h ready : Held) (i : Intent) (place : ℕ) → Reserves i h ready → Stays h.marks (begun ready place).marks
  begun_closes h ready i place e = stays_on h.marks ready.marks (begun ready place).marks (ready_stays h ready i e) (begun_stays ready place)

  pub stay_closed : BothTell → SendsLawfully → (disk pend : List LogRecord) (w v : World) (h k : Held) (i : Intent) (place : ℕ) (sent : Sent) (a : Answered)
      → (happens : Happens w h i place sent a v k) → IsUnfailed a → h.marks.log.stable ≤ w.facility.counter → LogIs base w.drive h.marks.member disk → Closes disk pend h.marks
      → StillCloses base disk pend (event_records (begun happens.ready place).marks i happens.plan a) (ChangedIn i happens.plan happens.after.marks) v.drive k.marks
  stay_closed law sends disk pend w v h k i place s a happens well low l closes =
      let c : Setting = setting_of h (holder_in w.facility h.cast) place in
      let lawful : Lawful h.marks h.pages c i s = sends h.marks h.pages c i s (needs_sent (need_of h.marks h.pages c i) (intent_plan h.marks h.pages h.limit i) s happens.plan happens.lawful) in
      let first : Stays h.marks (begun happens.ready place).marks = begun_closes h happens.ready i place happens.reserves in
      let fits : Fits (begun happens.ready place).marks i = fits_event happens.ready.marks place i (fits_ready h happens.ready i (fits_lawful h.marks h.pages c i s lawful) happens.reserves) in
      reached disk pend (event_records (begun happens.ready place).marks i happens.plan a) (ChangedIn i happens.plan happens.after.marks) v.drive happens.after.marks k.marks (reach_stays happens.after.marks k.marks happens.ends.0)
      (runs_close law disk pend (ChangedIn i happens.plan happens.after.marks) w v h happens.ready happens.after c i s happens.plan place a happens.said lawful happens.reserves well fits happens.runs low (λ id spot given. given)
      (same_log w.drive w.drive h.marks.member (begun happens.ready place).marks.member disk refl first.member l) (first.closes disk pend closes))

pub closes_stay : BothTell → SendsLawfully → ClosesStay
closes_stay law sends base disk pend w v h k i place s a happens well low l closes = stay_closed base law sends disk pend w v h k i place s a happens well low l closes
