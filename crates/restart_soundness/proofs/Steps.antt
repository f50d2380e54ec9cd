-- Each step of a group restart over a sound disk leaves a sound disk.
use Rattle.std.proofs.Common.{◌≡◌, zero, suc, List, length, Option, Some, None, Result, Ok, Err, inl, inr, refl, sym, subst}
use Rattle.std.specs.Prelude.{◌≢◌, IfOk}
use Rattle.ds_base.specs.declared.fault.NoMemory.{NoMemory}
use Rattle.ds_disk.specs.Contents.{Contents, Becomes}
use Rattle.ds_disk.specs.declared.disk.DiskError.{DiskError}
use Rattle.ds_disk.specs.declared.disk.DiskError.TheVariants as failures
use Rattle.disk_restart.proofs.Told.{told_as, left_by}
use Rattle.log_record.specs.declared.log.Log.{Log}
use Rattle.log_reader.specs.declared.calls.LogCall.{LogCall}
use Rattle.log_reader.specs.declared.calls.LogCall.TheVariants as asked
use Rattle.log_reader.specs.Readers.{next_call}
use Rattle.group_restart.specs.declared.calls.State.{State}
use Rattle.group_restart.specs.declared.calls.State.TheVariants as state
use Rattle.group_restart.specs.declared.reply.Reply.{Reply}
use Rattle.group_restart.specs.declared.stage.Stage.{Stage}
use Rattle.group_restart.specs.declared.stage.Stage.TheVariants as stage
use Rattle.group_restart.specs.Machine.{Restart}
use Rattle.group_restart.specs.Calls.{log_call, call_in, call_of}
use Rattle.group_restart.specs.Course.{plan_read}
use Rattle.group_restart.specs.Disk.{Drive, Calls}
use Rattle.group_restart.specs.Steps.{WantsMemory, Takes, Steps}
use Rattle.restart_reads.specs.Reading.{ReadingLeads, ReadingBegins, ReadingGoes}
use Rattle.sound_plans.specs.Ends.{ToEnd}
use Rattle.sound_reads.specs.Reads.{AreReadOf}
use Rattle.sound_restarts.specs.Redo.{IsSoundNow}
use Rattle.sound_steps.specs.Given.{IsLeftSound}
use Rattle.sound_steps.specs.Given.{HasEnded}
use Rattle.sound_steps.specs.Grown.{IsGrown, HasGrownBefore, CallGrows}
use Rattle.sound_steps.specs.Whole.{SoundLeads, GoesOnWith, CallLeavesSound, AnswerGoesOn}
use Rattle.restart_soundness.specs.Soundness.{to_end, IsReading, IsFollowing, Runs, Tells, HasKept, LeavesSound, RestartBegins, StepLeavesSound, RunLeavesSound}
use Rattle.restart_soundness.proofs.Planned.{PlanLaws, read_leads}

-- what is proved of calls
pub record CallLaws : Type 0 where
  pub plans : PlanLaws
  pub begins : ReadingBegins
  pub reads : ReadingGoes
  pub leaves : CallLeavesSound
  pub answer : AnswerGoesOn
  pub grows : CallGrows

-- ---- where it leads

tells_of : (first reads : List Log) → AreReadOf first reads → (s : State) (k : Restart) (d : Contents) (logs : List Log) → SoundLeads (to_end first reads) (k, s) (plan_read reads) d logs → Tells first s k d
tells_of first reads are s k d logs (inl g) = subst (λ (z : State). Tells first z k d) (sym g.0) (inr (record { reads = reads; are_read = are; logs = logs; before = g.1 }))
tells_of first reads are s k d logs (inr e) =
    subst (λ (z : State). Tells first z k d) (sym e.tells) (record { reads = reads; are_read = are; logs = logs; ended = subst (λ (z : State). HasEnded (to_end first reads) (k, z) d logs) e.tells e })

reading_tells : CallLaws → (c d : Contents) (logs : List Log) (s : State) (k : Restart) → IsSoundNow c logs → length c.logs ≡ 32 → d ≡ c → ReadingLeads c logs s k → Tells logs s k d
reading_tells l c d logs s k now all same (inl g) =
    subst (λ (z : State). Tells logs z k d) (sym g.0) (subst (λ (z : Contents). Runs logs k z) (sym same) (inl (record { now = now; all = all; next = g.1 })))
reading_tells l c d logs s k now all same (inr r) =
    subst (λ (z : Contents). Tells logs s k z) (sym same) (tells_of logs r.behind.logs r.are_read s k c logs (read_leads l.plans c logs s k now r))

-- ---- what a call leaves

both : (c : Contents) (e : Option Contents) (P Q : Contents → Type 0) → Becomes (Some c) e (λ _ d. P d) → Becomes (Some c) e (λ _ d. Q d) → Becomes (Some c) e (λ _ d. P d × Q d)
both c None P Q p q = absurd p
both c (Some d) P Q p q = (p, q)

-- the logs are read: the disk is as it was
asks_left : (P : Contents → Type 0) (w v : Drive) (h x : Restart) (made : Result Reply DiskError) (c : Contents) (q : LogCall) → w.contents ≡ Some c → P c → Calls h (log_call h.reader.member q) w made v x → Becomes (Some c) v.contents (λ _ d. P d)
asks_left P w v h x made c asked.Length is here calls = left_by c made P is calls.0 here (λ r d e. subst P (sym e.0) here) (λ d e. subst P (sym e) here)
asks_left P w v h x made c (asked.Read from count) is here calls = left_by c made P is calls.0 here (λ r d e. subst P (sym e.0) here) (λ d e. subst P (sym e) here)

reading_left : (P : Contents → Type 0) (w v : Drive) (h x : Restart) (made : Result Reply DiskError) (c : Contents) → h.stage ≡ stage.ReadLog → w.contents ≡ Some c → P c → Calls h (call_of h) w made v x → Becomes (Some c) v.contents (λ _ d. P d)
reading_left P w v h x made c at is here calls =
    let asks : Calls h (call_in stage.ReadLog h) w made v x = subst (λ (st : Stage). Calls h (call_in st h) w made v x) at calls in
    asks_left P w v h x made c (next_call h.reader) is here asks

-- it is left sound, with logs that were kept or have grown
abbrev IsLeftWith : List Log → Contents → Type 0
IsLeftWith first d = IsLeftSound d × HasKept first d

-- ---- a step

abbrev Ends : List Log → Result State NoMemory → Restart → Contents → Type 0
Ends first result k d = IfOk result (λ s. Tells first s k d)

with_tells : (first : List Log) (result : Result State NoMemory) (k : Restart) (c : Contents) (e : Option Contents) → Becomes (Some c) e (λ _ d. IsLeftWith first d) → Becomes (Some c) e (λ _ d. Ends first result k d) → Becomes (Some c) e (λ _ d. LeavesSound first result k d)
with_tells first result k c e left ends = told_as c e (λ d. IsLeftWith first d × Ends first result k d) (LeavesSound first result k) (λ d h. record { left = h.0.0; kept = h.0.1; tells = h.1 }) (both c e (IsLeftWith first) (Ends first result k) left ends)

-- where nothing is told of the state, the disk is left sound at least
only_left : (first : List Log) (result : Result State NoMemory) (k : Restart) (c : Contents) (e : Option Contents) → ((d : Contents) → Ends first result k d) → Becomes (Some c) e (λ _ d. IsLeftWith first d) → Becomes (Some c) e (λ _ d. LeavesSound first result k d)
only_left first result k c e ends left = told_as c e (IsLeftWith first) (LeavesSound first result k) (λ d h. record { left = h.0; kept = h.1; tells = ends d }) left

no_memory_ends : (first : List Log) (result : Result State NoMemory) (k : Restart) → WantsMemory result → (d : Contents) → Ends first result k d
no_memory_ends first (Ok s) k h d = absurd h
no_memory_ends first (Err e) k h d = tt

failed_ends : (first : List Log) (result : Result State NoMemory) (k : Restart) → result ≡ Ok state.Failed → (d : Contents) → Ends first result k d
failed_ends first result k e d = subst (λ (r : Result State NoMemory). Ends first r k d) (sym e) tt

-- whatever its call comes to
follows_left : CallLaws → (first : List Log) (w v : Drive) (h x : Restart) (made : Result Reply DiskError) (c : Contents) → w.contents ≡ Some c → IsFollowing first h c → Calls h (call_of h) w made v x → Becomes (Some c) v.contents (λ _ d. IsLeftWith first d)
follows_left l first w v h x made c is f calls =
    let ts : ToEnd = to_end first f.reads in
    told_as c v.contents (λ d. IsLeftSound d × (IsLeftSound d → IsGrown ts d)) (IsLeftWith first) (λ d g. (g.0, inr (record { reads = f.reads; are_read = f.are_read; grown = g.1 g.0 })))
    (both c v.contents IsLeftSound (λ d. IsLeftSound d → IsGrown ts d)
    (l.leaves ts w v h x made (plan_read f.reads) c f.logs is f.before calls) (l.grows ts w v h x made (plan_read f.reads) c f.logs is f.before calls))

followed : CallLaws → (first : List Log) (w v : Drive) (h x k : Restart) (made : Result Reply DiskError) (result : Result State NoMemory) (c : Contents) → w.contents ≡ Some c → IsFollowing first h c → Calls h (call_of h) w made v x → Takes x made result k
    → Becomes (Some c) v.contents (λ _ d. LeavesSound first result k d)
followed l first w v h x k (Ok r) (Ok s) c is f calls takes =
    with_tells first (Ok s) k c v.contents (follows_left l first w v h x (Ok r) c is f calls)
    (told_as c v.contents (GoesOnWith (to_end first f.reads) (k, s) (plan_read f.reads)) (Tells first s k) (λ d g. tells_of first f.reads f.are_read s k d g.logs g.leads)
    (l.answer (to_end first f.reads) w v h x k r s (plan_read f.reads) c f.logs is f.before calls takes))
followed l first w v h x k (Ok r) (Err e) c is f calls takes = only_left first (Err e) k c v.contents (λ d. tt) (follows_left l first w v h x (Ok r) c is f calls)
followed l first w v h x k (Err failures.Failed) result c is f calls takes = only_left first result k c v.contents (failed_ends first result k takes.0) (follows_left l first w v h x (Err failures.Failed) c is f calls)
followed l first w v h x k (Err failures.NoMemory) result c is f calls takes = only_left first result k c v.contents (no_memory_ends first result k takes.0) (follows_left l first w v h x (Err failures.NoMemory) c is f calls)

read_goes : CallLaws → (first : List Log) (w v : Drive) (h k : Restart) (s : State) (c : Contents) → w.contents ≡ Some c → (r : IsReading first h c) → Steps w h (Ok s) v k → s ≢ state.Failed → Becomes (Some c) v.contents (λ _ d. LeavesSound first (Ok s) k d)
read_goes l first w v h k s c is r step unfailed =
    with_tells first (Ok s) k c v.contents (reading_left (IsLeftWith first) w v h step.after step.made c r.next.stage_is is (record { logs = first; now = r.now }, inl r.now.sound.whole_logs) step.calls)
    (told_as c v.contents (λ d. (d ≡ c) × ReadingLeads c first s k) (Tells first s k) (λ d g. reading_tells l c d first s k r.now r.all g.0 g.1)
    (l.reads w v h k (Ok s) s c first r.now.sound r.all is r.next step refl unfailed))

read_stays : (first : List Log) (w v : Drive) (h k : Restart) (result : Result State NoMemory) (c : Contents) → w.contents ≡ Some c → (r : IsReading first h c) → Steps w h result v k → ((d : Contents) → Ends first result k d) → Becomes (Some c) v.contents (λ _ d. LeavesSound first result k d)
read_stays first w v h k result c is r step ends =
    only_left first result k c v.contents ends (reading_left (IsLeftWith first) w v h step.after step.made c r.next.stage_is is (record { logs = first; now = r.now }, inl r.now.sound.whole_logs) step.calls)

read_step : CallLaws → (first : List Log) (w v : Drive) (h k : Restart) (result : Result State NoMemory) (c : Contents) → w.contents ≡ Some c → (r : IsReading first h c) → Steps w h result v k → Becomes (Some c) v.contents (λ _ d. LeavesSound first result k d)
read_step l first w v h k (Ok state.Going) c is r step = read_goes l first w v h k state.Going c is r step (λ e. cc)
read_step l first w v h k (Ok (state.Done counter)) c is r step = read_goes l first w v h k (state.Done counter) c is r step (λ e. cc)
read_step l first w v h k (Ok (state.Damaged volume at)) c is r step = read_goes l first w v h k (state.Damaged volume at) c is r step (λ e. cc)
read_step l first w v h k (Ok state.Failed) c is r step = read_stays first w v h k (Ok state.Failed) c is r step (λ d. tt)
read_step l first w v h k (Err e) c is r step = read_stays first w v h k (Err e) c is r step (λ d. tt)

step_from : CallLaws → (first : List Log) (w v : Drive) (h k : Restart) (result : Result State NoMemory) (c : Contents) → w.contents ≡ Some c → Runs first h c → Steps w h result v k → Becomes (Some c) v.contents (λ _ d. LeavesSound first result k d)
step_from l first w v h k result c is (inl r) step = read_step l first w v h k result c is r step
step_from l first w v h k result c is (inr f) step = followed l first w v h step.after k step.made result c is f step.calls step.takes

pub step_leaves_sound : CallLaws → StepLeavesSound
step_leaves_sound l first w v h k result c is runs step = step_from l first w v h k result c is runs step

pub restart_begins : CallLaws → RestartBegins
restart_begins l c first h now all begun = inl (record { now = now; all = all; next = l.begins c first h now.sound all begun })

-- ---- several steps

-- the rest of the run, from a step on that left this
run_on : (c : Contents) (e v : Option Contents) (P Q : Contents → Type 0) → Becomes (Some c) e (λ _ d. P d) → ((d : Contents) → e ≡ Some d → P d → Becomes (Some d) v (λ _ f. Q f)) → Becomes (Some c) v (λ _ f. Q f)
run_on c None v P Q p next = absurd p
run_on c (Some d) None P Q p next = absurd (next d refl p)
run_on c (Some d) (Some f) P Q p next = next d refl p

same_drive : (w mid : Drive) (c : Contents) → mid ≡ w → w.contents ≡ Some c → mid.contents ≡ Some c
same_drive w mid c e is = subst (λ (z : Drive). z.contents ≡ Some c) (sym e) is

pub run_leaves_sound : CallLaws → RunLeavesSound
run_leaves_sound l first zero w mid v h between k result c is runs all step =
    step_from l first mid v between k result c (same_drive w mid c all.0 is) (subst (λ (z : Restart). Runs first z c) (sym all.1) runs) step
run_leaves_sound l first (suc n) w mid v h between k result c is runs all step =
    run_on c all.0.contents v.contents (LeavesSound first (Ok state.Going) all.1.0) (LeavesSound first result k) (step_from l first w all.0 h all.1.0 (Ok state.Going) c is runs all.1.1.0)
    (λ d here left. run_leaves_sound l first n all.0 mid v all.1.0 between k result d here left.tells all.1.1.1 step)

-- ---- between two steps

pub runs_kept : HasGrownBefore → (first : List Log) (h : Restart) (c : Contents) → Runs first h c → HasKept first c
runs_kept before first h c (inl r) = inl r.now.sound.whole_logs
runs_kept before first h c (inr f) = inr (record { reads = f.reads; are_read = f.are_read; grown = before (to_end first f.reads) h.stage (plan_read f.reads) h c f.logs f.before })
