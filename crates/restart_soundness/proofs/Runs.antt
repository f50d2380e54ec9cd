-- A whole run of a group restart, step after step.
use Rattle.std.proofs.Common.{◌≡◌, ℕ, zero, suc, Bool, true, List, [], length, Option, None, Some, Result, Ok, Err, inl, inr, refl, sym, ap, subst, ◌∙◌}
use Rattle.std.specs.Prelude.{IfOk, if◌then◌else◌}
use Rattle.ds_base.specs.declared.fault.NoMemory.{NoMemory}
use Rattle.ds_disk.specs.Contents.{Contents, Becomes}
use Rattle.ds_disk.specs.Pages.{page_at}
use Rattle.ds_model.specs.declared.log.LogRecord.{LogRecord}
use Rattle.ds_model.specs.Logs.{rows_of_logs}
use Rattle.page_format.specs.Fields.{renewed}
use Rattle.log_record.specs.declared.log.Log.{Log}
use Rattle.group_restart.specs.declared.calls.State.{State}
use Rattle.group_restart.specs.declared.calls.State.TheVariants as state
use Rattle.group_restart.specs.Disk.{Drive}
use Rattle.group_restart.specs.Machine.{Restart}
use Rattle.group_restart.specs.Steps.{WantsMemory}
use Rattle.disk_restart.specs.Keeping.{KeepsRecords}
use Rattle.disk_restart.specs.Runs.{AllGo, IsRun}
use Rattle.disk_restart.proofs.Reading.{ReaderLaws}
use Rattle.disk_restart.proofs.Steps.{Alive, begun, step_goes, step_keeps, alive_keeps}
use Rattle.disk_restart.proofs.Told.{told_as}
use Rattle.disk_restart.proofs.Whole.{ReadsSound}
use Rattle.sound_disk.specs.Laws.{records_of, LogsStand}
use Rattle.sound_disk.specs.Settled.{has_ended}
use Rattle.sound_disk.specs.Sound.{IsSoundWith}
use Rattle.sound_plans.specs.Opens.{EndsWhereNothingIsLeft}
use Rattle.sound_plans.specs.Queues.{records_for, IsSettled, QueueFits, EmptyQueueSettles}
use Rattle.sound_steps.specs.Given.{IsLeftSound}
use Rattle.sound_steps.specs.Grown.{HaveEnded, HasGrownBefore}
use Rattle.sound_steps.proofs.Grown.{all_ended}
use Rattle.read_plans.specs.Ends.{OpensAreTaken}
use Rattle.restart_soundness.specs.Soundness.{to_end, Runs, IsDone, Tells, LeavesSound, RestartBegins, StepLeavesSound}
use Rattle.restart_soundness.specs.Runs.{KeepsRows, IsAtRest, EndsWith, IsLeft, RunsLeaveSound, RestartsLeaveSound}
use Rattle.restart_soundness.proofs.Closed.{closed_behind}
use Rattle.restart_soundness.proofs.Closes.{LogLaws}
use Rattle.restart_soundness.proofs.Kept.{kept_closed}
use Rattle.restart_soundness.proofs.Rows.{rows_stay}
use Rattle.restart_soundness.proofs.Steps.{runs_kept}

-- what is proved of steps
pub record StepLaws : Type 0 where
  pub begins : RestartBegins
  pub step : StepLeavesSound
  pub reads : ReadsSound
  pub reader : ReaderLaws
  pub stand : LogsStand
  pub settles : EmptyQueueSettles
  pub ended : EndsWhereNothingIsLeft
  pub opens : OpensAreTaken
  pub before : HasGrownBefore
  pub logs : LogLaws

-- ---- the records that last

drive_as : (P : Drive → Restart → Type 0) (w v : Drive) (h k : Restart) → v ≡ w → k ≡ h → P w h → P v k
drive_as P w v h k drive restart p = subst (λ (z : Drive). P z k) (sym drive) (subst (λ (z : Restart). P w z) (sym restart) p)

all_alive : StepLaws → (before : Option Contents) (n : ℕ) (w v : Drive) (h k : Restart) → Alive before h w.contents → AllGo n w h v k → Alive before k v.contents
all_alive l before zero w v h k alive all = drive_as (λ (z : Drive) (x : Restart). Alive before x z.contents) w v h k all.0 all.1 alive
all_alive l before (suc n) w v h k alive all =
    all_alive l before n all.0 v all.1.0 k (step_goes l.reads l.reader before w all.0 h all.1.0 (Ok state.Going) alive all.1.1.0 refl) all.1.1.1

run_keeps : StepLaws → (w v : Drive) (h k : Restart) (result : Result State NoMemory) → Alive w.contents h w.contents → IsRun w h result v k → Becomes w.contents v.contents KeepsRecords
run_keeps l w v h k result alive (inl e) = step_keeps l.reads w.contents e.mid v e.between k result (all_alive l w.contents e.gone.count w e.mid h e.between alive e.gone.go) e.last
run_keeps l w v h k result alive (inr g) = alive_keeps w.contents v.contents k (all_alive l w.contents g.0.count w v h k alive g.0.go)

-- ---- the disk is left sound

-- between two steps
abbrev Between : List Log → Restart → Contents → Type 0
Between first k d = IsLeftSound d × Runs first k d

run_on : (c : Contents) (e v : Option Contents) (P Q : Contents → Type 0) → Becomes (Some c) e (λ _ d. P d) → ((d : Contents) → e ≡ Some d → P d → Becomes (Some d) v (λ _ f. Q f)) → Becomes (Some c) v (λ _ f. Q f)
run_on c None v P Q p next = absurd p
run_on c (Some d) None P Q p next = absurd (next d refl p)
run_on c (Some d) (Some f) P Q p next = next d refl p

here : (c : Contents) (e : Option Contents) (P : Contents → Type 0) → e ≡ Some c → P c → Becomes (Some c) e (λ _ d. P d)
here c e P is p = subst (λ (z : Option Contents). Becomes (Some c) z (λ _ d. P d)) (sym is) p

all_between : StepLaws → (first : List Log) (n : ℕ) (w v : Drive) (h k : Restart) (c : Contents) → w.contents ≡ Some c → Between first h c → AllGo n w h v k → Becomes (Some c) v.contents (λ _ d. Between first k d)
all_between l first zero w v h k c is stands all =
    here c v.contents (Between first k) (ap (λ (z : Drive). z.contents) all.0 ∙ is) (stands.0, subst (λ (x : Restart). Runs first x c) (sym all.1) stands.1)
all_between l first (suc n) w v h k c is stands all =
    run_on c all.0.contents v.contents (LeavesSound first (Ok state.Going) all.1.0) (Between first k) (l.step first w all.0 h all.1.0 (Ok state.Going) c is stands.1 all.1.1.0)
    (λ d told left. all_between l first n all.0 v all.1.0 k d told (left.left, left.tells) all.1.1.1)

wants_ends : (first : List Log) (result : Result State NoMemory) (k : Restart) (d : Contents) → WantsMemory result → IfOk result (λ s. Tells first s k d)
wants_ends first (Ok s) k d wants = absurd wants
wants_ends first (Err e) k d wants = tt

run_leaves : StepLaws → (first : List Log) (w v : Drive) (h k : Restart) (result : Result State NoMemory) (c : Contents) → w.contents ≡ Some c → Between first h c → IsRun w h result v k → Becomes (Some c) v.contents (λ _ d. LeavesSound first result k d)
run_leaves l first w v h k result c is stands (inl e) =
    run_on c e.mid.contents v.contents (Between first e.between) (LeavesSound first result k) (all_between l first e.gone.count w e.mid h e.between c is stands e.gone.go)
    (λ d told left. l.step first e.mid v e.between k result d told left.1 e.last)
run_leaves l first w v h k result c is stands (inr g) =
    told_as c v.contents (Between first k) (LeavesSound first result k) (λ d left. record { left = left.0; kept = runs_kept l.before first k d left.1; tells = wants_ends first result k d g.1 }) (all_between l first g.0.count w v h k c is stands g.0.go)

-- ---- where all is done

settled_ended : StepLaws → (logs : List Log) (member tran : ℕ) → IsSettled logs member tran → has_ended (records_for logs member) tran ≡ true
settled_ended l logs member tran (inl e) = l.ended (records_for logs member) tran (inl e)
settled_ended l logs member tran (inr e) = l.ended (records_for logs member) tran (inr (ap (λ (u : List LogRecord). length u) e))

at_rest : StepLaws → (c : Contents) (first : List Log) → IsSoundWith c first → (k : Restart) (counter : ℕ) (d : Contents) → length c.logs ≡ length d.logs → KeepsRecords c d → IsDone first k counter d → IsAtRest c counter d
at_rest l c first sound k counter d as_many keeps t =
    let e = t.ended in
    let same : state.Done counter ≡ state.Done k.counter = e.tells in
    let number : counter ≡ k.counter = cc in
    let none : QueueFits t.logs [] = subst (QueueFits t.logs) e.nothing.none e.nothing.owes.queue in
    let ends : HaveEnded (to_end first t.reads) t.logs = all_ended (to_end first t.reads) [] k.plan.undo t.logs e.nothing.owes.ends (refl, e.nothing.none) in
    record {
      logs = t.logs;
      sound = e.rests.stands.sound.now.sound;
      ended = λ member tran. settled_ended l t.logs member tran (l.settles t.logs none member tran);
      closed = closed_behind l.reads l.opens c d first t.logs t.reads sound e.rests.stands.sound.now.sound.whole_logs t.are_read as_many keeps ends;
      no_tails = e.rests.stands.sound.tails;
      pages = λ id. sym (ap (λ (b : Bool). if b then renewed (page_at d.pages id) else page_at d.pages id) (e.new id)) ∙ e.rests.last id;
      none_old = e.new;
      number = number ∙ e.nothing.owes.number;
    }

ends_with : StepLaws → (c : Contents) (first : List Log) → IsSoundWith c first → (s : State) (k : Restart) (d : Contents) → length c.logs ≡ length d.logs → KeepsRecords c d → Tells first s k d → EndsWith c s d
ends_with l c first sound state.Going k d as_many keeps t = tt
ends_with l c first sound (state.Done counter) k d as_many keeps t = at_rest l c first sound k counter d as_many keeps t
ends_with l c first sound (state.Damaged volume at) k d as_many keeps t = t
ends_with l c first sound state.Failed k d as_many keeps t = tt

ends_so : StepLaws → (c : Contents) (first : List Log) → IsSoundWith c first → (result : Result State NoMemory) (k : Restart) (d : Contents) → length c.logs ≡ length d.logs → KeepsRecords c d → IfOk result (λ s. Tells first s k d) → IfOk result (λ s. EndsWith c s d)
ends_so l c first sound (Ok s) k d as_many keeps t = ends_with l c first sound s k d as_many keeps t
ends_so l c first sound (Err e) k d as_many keeps t = tt

-- ---- the same rows

keeps_rows : StepLaws → (c d : Contents) → length c.logs ≡ 32 → length d.logs ≡ 32 → KeepsRecords c d → IsLeftSound d → KeepsRows c d
keeps_rows l c d all left keeps sound rows were =
    rows_stay l.reads c d rows (rows_of_logs (records_of sound.logs)) (all ∙ sym left) keeps were (l.stand d sound.logs sound.now.sound)

left_so : StepLaws → (result : Result State NoMemory) (k : Restart) (c d : Contents) (first : List Log) → IsSoundWith c first → length c.logs ≡ 32 → length d.logs ≡ 32 → KeepsRecords c d → LeavesSound first result k d → IsLeft result c d
left_so l result k c d first sound all left keeps s = record {
  sound = s.left;
  keeps = keeps;
  rows = keeps_rows l c d all left keeps s.left;
  ends = ends_so l c first sound result k d (all ∙ sym left) keeps s.tells;
  closed = λ before. kept_closed l.logs l.opens c d first sound (all ∙ sym left) keeps before s.kept;
}

-- ---- a run

abbrev AllLogs : Option Contents → Type 0
AllLogs a = (c : Contents) → a ≡ Some c → length c.logs ≡ 32

-- what is proved of the disk behind it, and of the records that it keeps
joined : StepLaws → (result : Result State NoMemory) (k : Restart) (a b : Option Contents) → AllLogs a → AllLogs b → Becomes a b KeepsRecords
    → ((c : Contents) → a ≡ Some c → (sound : IsLeftSound c) → Becomes (Some c) b (λ _ d. LeavesSound sound.logs result k d)) → Becomes a b (λ c d. IsLeftSound c → IsLeft result c d)
joined l result k None b before behind keeps leaves = tt
joined l result k (Some c) None before behind keeps leaves = absurd keeps
joined l result k (Some c) (Some d) before behind keeps leaves = λ sound. left_so l result k c d sound.logs sound.now.sound (before c refl) (behind d refl) keeps (leaves c refl sound)

pub runs_leave_sound : StepLaws → RunsLeaveSound
runs_leave_sound l w v h k result before behind is run =
    joined l result k w.contents v.contents before behind
    (run_keeps l w v h k result (begun l.reader w.contents h before is) run)
    (λ c told sound. run_leaves l sound.logs w v h k result c told (sound, l.begins c sound.logs h sound.now (before c told) is) run)

-- ---- a restart that is made for the disk

stays : StepLaws → (result : Result State NoMemory) (a b : Option Contents) → WantsMemory result → b ≡ a → Becomes a b (λ c d. IsLeftSound c → IsLeft result c d)
stays l (Ok s) a b wants same = absurd wants
stays l (Err e) None b wants same = tt
stays l (Err e) (Some c) b wants same = subst (λ (z : Option Contents). Becomes (Some c) z (λ c d. IsLeftSound c → IsLeft (Err e) c d)) (sym same) (λ sound. record { sound = sound; keeps = λ member. refl; rows = λ rows were. were; ends = tt; closed = λ before. before })

pub restarts_leave_sound : StepLaws → RestartsLeaveSound
restarts_leave_sound l w v result before behind (inl r) = runs_leave_sound l w v r.begun r.left result before behind r.begins r.run
restarts_leave_sound l w v result before behind (inr n) = stays l result w.contents v.contents n.1 (ap (λ (z : Drive). z.contents) n.0)
