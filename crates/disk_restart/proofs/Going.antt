-- What a restart makes of an answer, from the last stage to the first: where it goes on, the logs stand for the stage that it goes to, and where it is done, they end where it says.
use Rattle.std.proofs.Common.{◌≡◌, ℕ, ◌+◌, ◌-◌, ◌^◌, Bool, true, false, List, [], ◌∷◌, length, drop, Option, Some, None, Result, Ok, Err, refl, sym, ap, subst, ◌∙◌}
use Rattle.std.specs.Prelude.{nat_lt, slice_get, not, ◌==◌}
use Rattle.std.proofs.lemmas.Bool.{cond_both, eq-eqb}
use Rattle.ds_base.specs.declared.names.PageId.{PageId}
use Rattle.ds_model.specs.RecordBytes.{record_bytes}
use Rattle.ds_disk.specs.Contents.{log_of}
use Rattle.log_record.specs.declared.log.Log.{Log}
use Rattle.log_trans.specs.declared.damage.Damaged.{Damaged}
use Rattle.page_format.specs.declared.header.NotAPage.{NotAPage}
use Rattle.page_redo.specs.declared.fault.FieldFault.{FieldFault}
use Rattle.page_records.specs.declared.places.PageRecords.{PageRecords}
use Rattle.restart_plan.specs.declared.opened.Closing.{Closing}
use Rattle.restart_plan.specs.declared.opened.Undo.{Undo}
use Rattle.restart_plan.specs.declared.tails.Tail.{Tail}
use Rattle.restart_plan.specs.Ends.{end_of}
use Rattle.restart_plan.specs.Plans.{plan_of}
use Rattle.group_restart.specs.declared.stage.Stage.{Stage}
use Rattle.group_restart.specs.declared.stage.Stage.TheVariants as stage
use Rattle.group_restart.specs.Machine.{Restart}
use Rattle.group_restart.specs.Records.{ended, ending, compensation}
use Rattle.group_restart.specs.Undo.{undo_fault, undoing}
use Rattle.group_restart.specs.Renewal.{first_page, last_behind, page_behind}
use Rattle.page_format.specs.Fields.{is_old, renewed}
use Rattle.group_restart.specs.Course.{go, with_plan, rest_tails, rest_pages, rest_closings, rest_undo, rest_endings, ending_or, next_ending, renewal_or, next_renewal, begin_renewal, undo_or, next_undo, closing_or, next_closing, too_few_numbers, has_numbers, numbered, counted, begin_undo, page_or, next_redo, tail_or, next_tail, raised, numbered_by, take_raised, forwarded, page_brought, take_page, undone, undo_at, undo_unless, undo_one, undo_first, take_undone, renew_page, looked_at, take_old, appended, take_done, found_damage, plan_read, planned, take_logs}
use Rattle.disk_restart.proofs.Whole.{ReadsSound, AreAdded}
use Rattle.disk_restart.proofs.Cutting.{Logs, AreFrom, count_all, due_all}
use Rattle.disk_restart.proofs.Stages.{Cuts, Stands, Adds, AfterCall, Good}

-- ---- ends

same_number : (a b : ℕ) → a ≡ b → not (a == b) ≡ false
same_number a b is = ap not (eq-eqb a b is)

-- the Checkpoint is appended where it says
ending_adds : (o d : Logs) (ends : List ℕ) (lrsn member : ℕ) → Stands o d ends → Adds o d ends member (ending lrsn (end_of ends member))
ending_adds o d ends lrsn member s = record { stands = s; added = (same_number (end_of ends member) (length (log_of d member)) (s.whole (member - 1)).size_is, (refl, tt)) }

ending_good : (o d : Logs) (h : Restart) (next : Option ℕ) → Stands o d h.plan.ends → Good o d (ending_or h next)
ending_good o d h None s = s
ending_good o d h (Some member) s = ending_adds o d h.plan.ends h.counter member s

next_ending_good : (o d : Logs) (h : Restart) → Stands o d h.plan.ends → Good o d (next_ending h)
unfolding next_ending
next_ending_good o d h s = ending_good o d (with_plan h (rest_endings h.plan)) (slice_get h.plan.endings 0) s

-- ---- renewal

renewal_good : (o d : Logs) (h : Restart) (next : Option PageId) → Stands o d h.plan.ends → Good o d (renewal_or h next)
renewal_good o d h None s = next_ending_good o d h s
renewal_good o d h (Some page) s = s

next_renewal_good : (o d : Logs) (h : Restart) (id : PageId) → Stands o d h.plan.ends → Good o d (next_renewal h id)
unfolding next_renewal
next_renewal_good o d h id s = renewal_good o d h (page_behind h.last id) s

begin_renewal_good : (o d : Logs) (h : Restart) → Stands o d h.plan.ends → Good o d (begin_renewal h)
unfolding begin_renewal
begin_renewal_good o d h s = cond_both h.renews (go h (stage.RenewRead first_page)) (next_ending h) (Good o d) (λ _. s) (λ _. next_ending_good o d h s)

renew_page_good : (o d : Logs) (h : Restart) (id : PageId) → Stands o d h.plan.ends → Good o d (renew_page h id)
unfolding renew_page
renew_page_good o d h id s = cond_both (is_old h.page) (go (record h { page = renewed h.page }) (stage.RenewWrite id)) (next_renewal h id) (Good o d) (λ _. s) (λ _. next_renewal_good o d h id s)

looked_at_good : (o d : Logs) (h : Restart) (id : PageId) (last : Result ℕ NotAPage) → Stands o d h.plan.ends → Good o d (looked_at h id last)
looked_at_good o d h id (Err fault) s = tt
looked_at_good o d h id (Ok last) s = renew_page_good o d (record h { last = last }) id s

take_old_good : (o d : Logs) (h : Restart) (id : PageId) → Stands o d h.plan.ends → Good o d (take_old h id)
unfolding take_old
take_old_good o d h id s = looked_at_good o d h id (last_behind h.last id h.page) s

-- ---- undo

undo_good : (o d : Logs) (h : Restart) (next : Option Undo) → Stands o d h.plan.ends → Good o d (undo_or h next)
undo_good o d h None s = begin_renewal_good o d h s
undo_good o d h (Some u) s = s

next_undo_good : (o d : Logs) (h : Restart) → Stands o d h.plan.ends → Good o d (next_undo h)
unfolding next_undo
next_undo_good o d h s = undo_good o d h (slice_get h.plan.undo 0) s

-- of what is appended nothing is a Checkpoint
undoing_adds : (o d : Logs) (ends : List ℕ) (u : Undo) (lrsn : ℕ) → Stands o d ends → Adds o d ends u.member (undoing u lrsn)
undoing_adds o d ends u lrsn s = record {
  stands = s;
  added = (refl, cond_both u.is_last (ended lrsn u.tran ∷ []) [] (AreAdded (length (log_of d u.member) + length (record_bytes (compensation u lrsn)))) (λ _. (refl, tt)) (λ _. tt));
}

undone_good : (o d : Logs) (h : Restart) (u : Undo) (lrsn : ℕ) → Stands o d h.plan.ends → Good o d (undone h u lrsn)
unfolding undone
undone_good o d h u lrsn s = undoing_adds o d h.plan.ends u lrsn s

undo_at_good : (o d : Logs) (h : Restart) (u : Undo) (lrsn : ℕ) → Stands o d h.plan.ends → Good o d (undo_at h u lrsn)
undo_at_good o d h u lrsn s = cond_both (nat_lt lrsn (2 ^ 80)) (undone h u lrsn) (too_few_numbers h) (Good o d) (λ _. undone_good o d h u lrsn s) (λ _. tt)

undo_unless_good : (o d : Logs) (h : Restart) (u : Undo) (fault : Option ℕ) → Stands o d h.plan.ends → Good o d (undo_unless h u fault)
undo_unless_good o d h u (Some at) s = tt
undo_unless_good o d h u None s = undo_at_good o d h u (h.counter + 1) s

undo_one_good : (o d : Logs) (h : Restart) (u : Undo) → Stands o d h.plan.ends → Good o d (undo_one h u)
unfolding undo_one
undo_one_good o d h u s = undo_unless_good o d h u (undo_fault u.change h.page) s

undo_first_good : (o d : Logs) (h : Restart) (next : Option Undo) → Stands o d h.plan.ends → Good o d (undo_first h next)
undo_first_good o d h None s = begin_renewal_good o d h s
undo_first_good o d h (Some u) s = undo_one_good o d h u s

take_undone_good : (o d : Logs) (h : Restart) → Stands o d h.plan.ends → Good o d (take_undone h)
unfolding take_undone
take_undone_good o d h s = undo_first_good o d (with_plan h (rest_undo h.plan)) (slice_get h.plan.undo 0) s

-- ---- closings

closing_good : (o d : Logs) (h : Restart) (next : Option Closing) → Stands o d h.plan.ends → Good o d (closing_or h next)
closing_good o d h None s = next_undo_good o d h s
closing_good o d h (Some c) s = record { stands = s; added = (refl, tt) }

next_closing_good : (o d : Logs) (h : Restart) → Stands o d h.plan.ends → Good o d (next_closing h)
unfolding next_closing
next_closing_good o d h s = closing_good o d (with_plan h (rest_closings h.plan)) (slice_get h.plan.closings 0) s

numbered_good : (o d : Logs) (h : Restart) → Stands o d h.plan.ends → Good o d (numbered h)
numbered_good o d h s = cond_both (has_numbers h) (next_closing h) (too_few_numbers h) (Good o d) (λ _. next_closing_good o d h s) (λ _. tt)

begin_undo_good : (o d : Logs) (h : Restart) → Stands o d h.plan.ends → Good o d (begin_undo h)
unfolding begin_undo
begin_undo_good o d h s = numbered_good o d (counted h) s

-- ---- redo

page_good : (o d : Logs) (h : Restart) (next : Option PageRecords) → Stands o d h.plan.ends → Good o d (page_or h next)
page_good o d h None s = begin_undo_good o d h s
page_good o d h (Some p) s = s

next_redo_good : (o d : Logs) (h : Restart) → Stands o d h.plan.ends → Good o d (next_redo h)
unfolding next_redo
next_redo_good o d h s = page_good o d (with_plan h (rest_pages h.plan)) (slice_get h.plan.pages 0) s

raised_good : (o d : Logs) (h : Restart) (id : PageId) (is_raised : Bool) → Stands o d h.plan.ends → Good o d (raised h id is_raised)
raised_good o d h id true s = s
raised_good o d h id false s = next_redo_good o d h s

take_raised_good : (o d : Logs) (h : Restart) (id : PageId) (is_raised : Bool) → Stands o d h.plan.ends → Good o d (take_raised h id is_raised)
unfolding take_raised
take_raised_good o d h id is_raised s = raised_good o d (numbered_by h id) id is_raised s

forwarded_good : (o d : Logs) (h : Restart) (id : PageId) (outcome : Result Bool FieldFault) → Stands o d h.plan.ends → Good o d (forwarded h id outcome)
forwarded_good o d h id (Err fault) s = tt
forwarded_good o d h id (Ok is_raised) s = take_raised_good o d h id is_raised s

take_page_good : (o d : Logs) (h : Restart) (id : PageId) → Stands o d h.plan.ends → Good o d (take_page h id)
unfolding take_page
take_page_good o d h id s = forwarded_good o d (record h { page = (page_brought h id).page }) id (page_brought h id).outcome s

-- ---- tails

first_cut : (o d : Logs) (ends : List ℕ) (tails : List Tail) (t : Tail) → Cuts o d ends tails → slice_get tails 0 ≡ Some t → Cuts o d ends (t ∷ drop 1 tails)
first_cut o d ends [] t c e = absurd cc
first_cut o d ends (x ∷ ts) t c e = let same : x ≡ t = cc in subst (λ (z : Tail). Cuts o d ends (z ∷ ts)) same c

none_cut : (o d : Logs) (ends : List ℕ) (tails : List Tail) → Cuts o d ends tails → slice_get tails 0 ≡ None → Stands o d ends
none_cut o d ends [] c e = record { keeps = c.keeps; count = c.count; whole = c.due }
none_cut o d ends (x ∷ ts) c e = absurd cc

tail_good : (o d : Logs) (h : Restart) (next : Option Tail) → ((t : Tail) → next ≡ Some t → Cuts o d h.plan.ends (t ∷ h.plan.tails)) → (next ≡ None → Stands o d h.plan.ends) → Good o d (tail_or h next)
tail_good o d h None cuts stands = next_redo_good o d h (stands refl)
tail_good o d h (Some tail) cuts stands = cuts tail refl

next_tail_good : (o d : Logs) (h : Restart) → Cuts o d h.plan.ends h.plan.tails → Good o d (next_tail h)
unfolding next_tail
next_tail_good o d h c = tail_good o d (with_plan h (rest_tails h.plan)) (slice_get h.plan.tails 0) (λ t e. first_cut o d h.plan.ends h.plan.tails t c e) (λ e. none_cut o d h.plan.ends h.plan.tails c e)

-- ---- all logs are read

plan_cuts : ReadsSound → (logs : List Log) (o : Logs) → AreFrom 0 logs o → length o ≡ length logs → Cuts o o (plan_read logs).ends (plan_read logs).tails
unfolding plan_of
plan_cuts sound logs o are long = record { keeps = λ i. refl; count = count_all logs ∙ sym long; due = due_all sound logs o are long }

planned_good : ReadsSound → (o : Logs) (h : Restart) (damage : Option Damaged) → AreFrom 0 h.logs o → length o ≡ length h.logs → Good o o (planned h damage)
planned_good sound o h (Some d) are long = tt
planned_good sound o h None are long = next_tail_good o o (record h { plan = plan_read h.logs; logs = [] }) (plan_cuts sound h.logs o are long)

pub take_logs_good : ReadsSound → (o : Logs) (h : Restart) → AreFrom 0 h.logs o → length o ≡ length h.logs → Good o o (take_logs h)
unfolding take_logs
take_logs_good sound o h are long = planned_good sound o h (found_damage h.logs) are long

-- ---- a call was done

pub done_good : (st : Stage) (o d : Logs) (h : Restart) → AfterCall st o h d → Good o d (take_done h st)
done_good stage.ReadLog o d h after = absurd after
done_good (stage.CutTail tail) o d h after = next_tail_good o d h after
done_good (stage.RedoRead page) o d h after = take_page_good o d h page after
done_good (stage.RedoWrite page) o d h after = next_redo_good o d h after
done_good (stage.CloseAppend member) o d h after = next_closing_good o d (appended h member) after
done_good (stage.UndoRead page) o d h after = take_undone_good o d h after
done_good (stage.UndoAppend member page) o d h after = after
done_good (stage.UndoWrite page) o d h after = next_undo_good o d h after
done_good (stage.RenewRead page) o d h after = take_old_good o d h page after
done_good (stage.RenewWrite page) o d h after = next_renewal_good o d h page after
done_good (stage.EndAppend member) o d h after = next_ending_good o d (appended h member) after
done_good stage.End o d h after = after
