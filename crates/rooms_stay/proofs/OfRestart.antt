-- What is left of the facility's conditions for the commands of a restart.
use Rattle.std.proofs.Common.{ℕ, zero, suc, ◌<◌, ◌≤◌, subst, arith, false, [], ◌∷◌, Option, Some, None, Result, Ok, Err}
use Rattle.std.specs.Prelude.{slice_index_or}
use Rattle.ds_base.specs.declared.names.PageId.{PageId}
use Rattle.ds_model.specs.declared.lock.Name.TheVariants as name
use Rattle.lock_names.specs.declared.mode.Mode.TheVariants.{X}
use Rattle.list_structure.specs.declared.standing.MemberStatus.TheVariants.{Up}
use Rattle.facility.specs.declared.command.Command.{Command}
use Rattle.facility.specs.declared.command.Command.TheVariants as command
use Rattle.facility.specs.Commands.{CanExecute}
use Rattle.facility.specs.Counting.{AreFrames}
use Rattle.facility.specs.States.{Held as Facility}
use Rattle.log_reader.specs.declared.calls.LogCall.{LogCall}
use Rattle.log_reader.specs.declared.calls.LogCall.TheVariants as call
use Rattle.restart_marks.specs.declared.intent.RestartIntent.{RestartIntent}
use Rattle.restart_marks.specs.declared.intent.RestartIntent.TheVariants as intent
use Rattle.restart_marks.specs.declared.intent.RestartSent.{RestartSent}
use Rattle.restart_marks.specs.declared.intent.RestartSent.TheVariants as sent
use Rattle.restart_marks.specs.Needs.{need_of}
use Rattle.restart_marks.specs.State.{RestartState}
use Rattle.restart_marks.specs.declared.intent.RestartTest.{RestartTest}
use Rattle.restart_marks.specs.HandNeeds.{purges_page, reads, reads_page, writes}
use Rattle.restart_marks.specs.LockNeeds.{commands, lock_test, page_asked, releases, undo_command, undo_with}
use Rattle.restart_marks.specs.OwnNeeds.{call_sent}
use Rattle.restart_marks.specs.Tested.{Tested, after, sends}
use Rattle.restart_records.specs.declared.trans.Newest.{Newest}
use Rattle.restart_records.specs.Own.{next_in}
use Rattle.restart_records.specs.Trans.{newest}
use Rattle.rooms_stay.specs.Left.{IsLeftOfRestart, RestartsExecute}

module _ (w : Facility) (m : ℕ) (some : 1 ≤ w.directory.frames) where
  abbrev FitsSent : RestartSent → Type 0
  FitsSent sent.None = Unit {0}
  FitsSent (sent.Command c) = IsLeftOfRestart w m c → CanExecute w m c
  FitsSent sent.LogLength = Unit {0}
  FitsSent (sent.ReadLog at count) = Unit {0}
  FitsSent (sent.CutLog long) = Unit {0}
  FitsSent sent.AppendLog = Unit {0}
  FitsSent (sent.ReadPage page) = Unit {0}

  abbrev FitsNeed : Result RestartSent RestartTest → Type 0
  FitsNeed (Ok s) = FitsSent s
  FitsNeed (Err test) = Unit {0}

  -- ---- tests in their order
  behind : (t : Tested) (r : Result RestartSent RestartTest) → FitsNeed r → FitsNeed (after t r)
  behind (Ok x) r h = h
  behind (Err test) r h = tt

  sent_behind : (t : Tested) (s : RestartSent) → FitsSent s → FitsNeed (sends t s)
  sent_behind t s h = behind t (Ok s) h

  commanded : (f : PageId → Command) (r : Result PageId RestartTest) → ((page : PageId) → FitsSent (sent.Command (f page))) → FitsNeed (commands f r)
  commanded f (Err test) h = tt
  commanded f (Ok page) h = h page

  called : (o : Option LogCall) → FitsNeed (call_sent o)
  called None = tt
  called (Some call.Length) = tt
  called (Some (call.Read at count)) = tt

  -- ---- the frame and the slot
  first_there : 0 < w.directory.frames
  first_there = omega (arith, some)

  one_there : AreFrames w.directory (record { count = 1; at = 0 ∷ 0 ∷ 0 ∷ [] })
  one_there = record { few = omega arith; frames = each }
    where
      each : (k : ℕ) → k < 1 → slice_index_or (0 ∷ 0 ∷ 0 ∷ []) k 0 < w.directory.frames
      each zero below = first_there
      each (suc k) below = absurd (omega (arith, below))

  -- ---- by what is optional
  reading : (o : Option PageId) → FitsNeed (reads o)
  reading None = tt
  reading (Some page) = λ l. first_there

  filling : (s : RestartState) (o : Option PageId) → FitsNeed (reads_page s o)
  filling s None = tt
  filling s (Some page) = sent_behind _ (sent.ReadPage page) tt

  writing : (s : RestartState) (o : Option PageId) → FitsNeed (writes s o)
  writing s None = tt
  writing s (Some page) = sent_behind _ (sent.Command (command.Write page 0)) (λ l. first_there)

  freeing : (s : RestartState) (o : Option PageId) → FitsNeed (purges_page s o)
  freeing s None = tt
  freeing s (Some page) = sent_behind _ (sent.Command (command.Purge (name.Page page))) (λ l. l)

  undoing : (s : RestartState) (o : Option Newest) → FitsNeed (undo_with s o)
  undoing s None = tt
  undoing s (Some it) = sent_behind _ (sent.Command undo_command) (λ l. (one_there, l))

  releasing : (s : RestartState) (o : Option PageId) → FitsNeed (releases s o)
  releasing s None = tt
  releasing s (Some page) = sent_behind _ (sent.Command (command.Release (name.Page page) (record { share = false; exclusive = false }))) (λ l. l)

  -- ---- any intent
  fits : (s : RestartState) (i : RestartIntent) → FitsNeed (need_of s i)
  fits s intent.Step = tt
  fits s intent.ReadLog = behind _ (call_sent (next_in s.own.reader)) (called (next_in s.own.reader))
  fits s intent.CutTail = sent_behind _ (sent.CutLog s.own.long) tt
  fits s intent.RetainedAt = sent_behind _ (sent.Command (command.RetainedAt s.listed)) (λ l. tt)
  fits s intent.Read = reading s.hand.page
  fits s intent.ReadPage = filling s s.hand.page
  fits s intent.Test = sent_behind _ (sent.Command (command.Test 0)) (λ l. first_there)
  fits s intent.WritePage = writing s s.hand.page
  fits s intent.PurgePage = freeing s s.hand.page
  fits s (intent.Purge n) = sent_behind _ (sent.Command (command.Purge n)) (λ l. l)
  fits s intent.Append = sent_behind _ sent.AppendLog tt
  fits s (intent.Obtain id) = commanded (λ page. command.Obtain (name.Page page) X) (lock_test s id) (λ page l. l)
  fits s (intent.Ask id to) = commanded (λ page. command.Ask 0 to (name.Page page) X) (page_asked s id) (λ page l. omega arith)
  fits s (intent.Answers id asked) = commanded (λ page. command.Answers 0) (page_asked s id) (λ page l. omega arith)
  fits s (intent.Grant id) = commanded (λ page. command.Grant 0 (name.Page page) X) (lock_test s id) (λ page l. (omega arith, l))
  fits s (intent.Status member) = λ l. tt
  fits s (intent.Undo id) = undoing s (newest s.trans id)
  fits s intent.ReleasePage = releasing s s.claim
  fits s intent.Unregister = sent_behind _ (sent.Command (command.Unregister 0)) (λ l. first_there)
  fits s intent.Up = sent_behind _ (sent.Command (command.SetStatus Up)) (λ l. l)

pub restarts_execute : RestartsExecute
restarts_execute w m s i c some e left = subst (λ z. FitsNeed w m some z) e (fits w m some s i) left
