-- The log of a member behind any event of it: its own, that of its restart or of its rebuild, or a failure.
use Rattle.std.proofs.Common.{◌≡◌, ℕ, ◌≤◌, refl, sym, ◌∙◌, ap, subst, Bool, true, false, inl, inr, List, Option, Some, None, Result, Ok, Err}
use Rattle.std.specs.Prelude.{◌||◌, IfSome}
use Rattle.std.specs.FinMap as map
use Rattle.std.proofs.lemmas.Bool.{cases_Bool}
use Rattle.ds_base.specs.declared.names.Sizes.{Sizes}
use Rattle.ds_disk.specs.Contents.{Becomes, Contents}
use Rattle.ds_disk.specs.declared.disk.DiskError.{DiskError}
use Rattle.ds_disk.specs.declared.disk.DiskError.TheVariants.{Failed, NoMemory}
use Rattle.ds_model.specs.declared.script.Script.{Script}
use Rattle.checkpoint_reader.specs.Readers.{ReaderState}
use Rattle.member_intents.specs.declared.outcome.Answered.{Answered}
use Rattle.member_intents.specs.declared.outcome.Sent.{Sent}
use Rattle.member_resources.specs.Events.{World, Drive as OwnDrive}
use Rattle.restart_marks.specs.declared.intent.RestartIntent.{RestartIntent}
use Rattle.restart_marks.specs.declared.intent.RestartSent.{RestartSent}
use Rattle.restart_marks.specs.declared.intent.RestartSent.TheVariants as sent
use Rattle.restart_marks.specs.declared.told.RestartTold.{RestartTold}
use Rattle.restart_resources.specs.declared.calls.Got.{Got}
use Rattle.restart_resources.specs.Calls as call
use Rattle.restart_resources.specs.Calls.{Drive, ReadsBy, RunsCall}
use Rattle.restart_resources.specs.Events as event
use Rattle.restart_resources.specs.Held.{Held}
use Rattle.rebuild_resources.specs.declared.calls.Got.{Got as RebuildGot}
use Rattle.rebuild_resources.specs.declared.intent.RebuildIntent.{RebuildIntent}
use Rattle.rebuild_resources.specs.declared.intent.RebuildSent.{RebuildSent}
use Rattle.rebuild_resources.specs.declared.intent.RebuildSent.TheVariants as rebuild
use Rattle.rebuild_resources.specs.declared.told.RebuildTold.{RebuildTold}
use Rattle.rebuild_resources.specs.Calls as rebuild_call
use Rattle.rebuild_resources.specs.Events as rebuild_event
use Rattle.rebuild_resources.specs.State.{RebuildState}
use Rattle.script_fates.specs.Fated.{FatesState}
use Rattle.group_member.specs.declared.restarting.Restarting.{Restarting}
use Rattle.group_member.specs.declared.stepped.Stepped.{Stepped}
use Rattle.group_member.specs.declared.stepped.Stepped.TheVariants as steps
use Rattle.group_member.specs.Happening.{Breaks, Comes, RebuildMakes, RestartMakes, as_rebuilding, as_restarting}
use Rattle.group_member.specs.Members.{Member}
use Rattle.group_member.specs.Stepping.{has_failed, is_failure, is_over}
use Rattle.group_logs.specs.Changes.{MadeGo, MembersGo}
use Rattle.group_logs.specs.Logs.{Appends, IsCut, IsNumbered, LogGoes, OneGoes, OwnGoes, RestartGoes, buffer_of}
use Rattle.group_logs.proofs.Calls.{Ended, appended, cut, goes_as, no_call, quiet, written}
use Rattle.group_logs.proofs.Own.{happens}

same_logs : (c d : Contents) → d ≡ c → d.logs ≡ c.logs
same_logs c d e = ap (λ (z : Contents). z.logs) e

-- ---- of the restart
stored_end : (h k : Held) (s : RestartSent) (done : Result Got DiskError) (a : Answered) (said : RestartTold) → call.Stores h s done a said k → Ended done (is_failure a)
stored_end h k s (Ok x) a said e = ap is_failure e.0
stored_end h k s (Err Failed) a said e = ap is_failure e.0
stored_end h k s (Err NoMemory) a said e = absurd e

abbrev Leaves : Drive → Drive → Held → RestartSent → Bool → Type 0
Leaves w v h s failed = Becomes w.contents v.contents (OneGoes h.marks.member (RestartGoes s h.marks.log.pending failed))

reads : (o : Option ReaderState) (w v : Drive) (h k : Held) (at count : ℕ) (done : Result Got DiskError) (failed : Bool) → ReadsBy o w h at count done v k → Ended done failed → Leaves w v h (sent.ReadLog at count) failed
reads None w v h k at count done failed e ends = no_call h.marks.member (RestartGoes (sent.ReadLog at count) h.marks.log.pending failed) w.contents v.contents (ap (λ (z : Drive). z.contents) e.1) (λ log. refl)
reads (Some r) w v h k at count done failed e ends =
    quiet h.marks.member (RestartGoes (sent.ReadLog at count) h.marks.log.pending) w.alive v.alive w.contents v.contents done _ _ e.reads (λ x c d q. same_logs c d q.0) same_logs (λ b log. refl) failed ends

calls : (w v : Drive) (h k : Held) (s : RestartSent) (done : Result Got DiskError) (failed : Bool) → 1 ≤ h.marks.member → call.Calls w h s done v k → Ended done failed → Leaves w v h s failed
calls w v h k sent.None done failed one e ends = no_call h.marks.member (RestartGoes sent.None h.marks.log.pending failed) w.contents v.contents (ap (λ (z : Drive). z.contents) e.1) (λ log. refl)
calls w v h k (sent.Command c) done failed one e ends = no_call h.marks.member (RestartGoes (sent.Command c) h.marks.log.pending failed) w.contents v.contents (ap (λ (z : Drive). z.contents) e.1) (λ log. refl)
calls w v h k sent.LogLength done failed one e ends =
    quiet h.marks.member (RestartGoes sent.LogLength h.marks.log.pending) w.alive v.alive w.contents v.contents done _ _ e.0 (λ x c d q. same_logs c d q.0) same_logs (λ b log. refl) failed ends
calls w v h k (sent.ReadLog at count) done failed one e ends = reads h.marks.own.reader w v h k at count done failed e ends
calls w v h k (sent.CutLog long) done failed one e ends =
    goes_as w.contents v.contents h.marks.member (IsCut long failed) (RestartGoes (sent.CutLog long) h.marks.log.pending failed) (λ old new q. q)
    (cut h.marks.member long w.alive v.alive w.contents v.contents done _ e.0 (λ x c d q. q.1) one failed ends)
calls w v h k sent.AppendLog done failed one e ends =
    goes_as w.contents v.contents h.marks.member (Appends h.marks.log.pending failed) (RestartGoes sent.AppendLog h.marks.log.pending failed) (λ old new q. q)
    (appended h.marks.member h.marks.log.pending w.alive v.alive w.contents v.contents done _ e.0 (λ x c d q. q.1) one failed ends)
calls w v h k (sent.ReadPage page) done failed one e ends =
    quiet h.marks.member (RestartGoes (sent.ReadPage page) h.marks.log.pending) w.alive v.alive w.contents v.contents done _ _ e.0 (λ x c d q. same_logs c d q.1) same_logs (λ b log. refl) failed ends

called : (w v : Drive) (h k : Held) (s : RestartSent) (a : Answered) (said : RestartTold) → 1 ≤ h.marks.member → RunsCall w h s a said v k → Leaves w v h s (is_failure a)
called w v h k s a said one r = calls w v h r.after s r.done (is_failure a) one r.calls (stored_end r.after k s r.done a said r.stores)

runs : (w v : event.World) (h k : Held) (i : RestartIntent) (s : RestartSent) (a : Answered) (said : RestartTold) → 1 ≤ h.marks.member → event.Runs w h i s a said v k → Leaves w.drive v.drive h s (is_failure a)
runs w v h k i sent.None a said one e = no_call h.marks.member (RestartGoes sent.None h.marks.log.pending (is_failure a)) w.drive.contents v.drive.contents (ap (λ (z : event.World). z.drive.contents) e.world) (λ log. refl)
runs w v h k i (sent.Command c) a said one e = no_call h.marks.member (RestartGoes (sent.Command c) h.marks.log.pending (is_failure a)) w.drive.contents v.drive.contents (ap (λ (z : Drive). z.contents) e.1) (λ log. refl)
runs w v h k i sent.LogLength a said one e = called w.drive v.drive h k sent.LogLength a said one e.0
runs w v h k i (sent.ReadLog at count) a said one e = called w.drive v.drive h k (sent.ReadLog at count) a said one e.0
runs w v h k i (sent.CutLog long) a said one e = called w.drive v.drive h k (sent.CutLog long) a said one e.0
runs w v h k i sent.AppendLog a said one e = called w.drive v.drive h k sent.AppendLog a said one e.0
runs w v h k i (sent.ReadPage page) a said one e = called w.drive v.drive h k (sent.ReadPage page) a said one e.0

restarts : (number : ℕ) (m : Member) (w v : World) (s : RestartSent) (a : Answered) (q : Restarting) → 1 ≤ number → IsNumbered number m → RestartMakes m w s a v q
    → Becomes w.drive.contents v.drive.contents (OneGoes number (RestartGoes s (buffer_of m.restart) (is_failure a)))
restarts number m w v s a q one is e =
    subst (λ (z : ℕ). Becomes w.drive.contents v.drive.contents (OneGoes z (RestartGoes s (buffer_of m.restart) (is_failure a)))) own
    (subst (λ (z : Option Restarting). Becomes w.drive.contents v.drive.contents (OneGoes e.before.resources.marks.member (RestartGoes s (buffer_of z) (is_failure a)))) (sym e.had)
    (runs (as_restarting w) (as_restarting v) e.before.resources e.happens.after e.happens.intent s a e.happens.said (subst (λ (z : ℕ). 1 ≤ z) (sym own) one) e.happens.runs))
  where
    own : e.before.resources.marks.member ≡ number
    own = subst (λ (z : Option Restarting). IfSome z (λ q. q.resources.marks.member ≡ number)) e.had is.restart

-- ---- of the rebuild
abbrev Stays : Option Contents → Option Contents → ℕ → Type 0
Stays before after number = Becomes before after (OneGoes number (λ old new. new ≡ old))

rebuild_end : (h k : RebuildState) (s : RebuildSent) (done : Result RebuildGot DiskError) (a : Answered) (said : RebuildTold) → rebuild_call.Stores h s done a said k → Ended done (is_failure a)
rebuild_end h k s (Ok x) a said e = ap is_failure e.0
rebuild_end h k s (Err Failed) a said e = ap is_failure e.0
rebuild_end h k s (Err NoMemory) a said e = absurd e

rebuild_calls : (number : ℕ) (w v : rebuild_call.Drive) (h k : RebuildState) (s : RebuildSent) (done : Result RebuildGot DiskError) (failed : Bool) → rebuild_call.Calls w h s done v k → Ended done failed → Stays w.contents v.contents number
rebuild_calls number w v h k rebuild.None done failed e ends = no_call number (λ old new. new ≡ old) w.contents v.contents (ap (λ (z : rebuild_call.Drive). z.contents) e.1) (λ log. refl)
rebuild_calls number w v h k (rebuild.Command c) done failed e ends = no_call number (λ old new. new ≡ old) w.contents v.contents (ap (λ (z : rebuild_call.Drive). z.contents) e.1) (λ log. refl)
rebuild_calls number w v h k (rebuild.LogLength member) done failed e ends =
    quiet number (λ b old new. new ≡ old) w.alive v.alive w.contents v.contents done _ _ e.0 (λ x c d q. same_logs c d q.0) same_logs (λ b log. refl) failed ends
rebuild_calls number w v h k (rebuild.ReadLog member at count) done failed e ends =
    quiet number (λ b old new. new ≡ old) w.alive v.alive w.contents v.contents done _ _ e.0 (λ x c d q. same_logs c d q.0) same_logs (λ b log. refl) failed ends
rebuild_calls number w v h k (rebuild.ReadPage page) done failed e ends =
    quiet number (λ b old new. new ≡ old) w.alive v.alive w.contents v.contents done _ _ e.0 (λ x c d q. same_logs c d q.1) same_logs (λ b log. refl) failed ends
rebuild_calls number w v h k (rebuild.WritePage page) done failed e ends =
    quiet number (λ b old new. new ≡ old) w.alive v.alive w.contents v.contents done _ _ e.0 (λ x c d q. ap (λ (z : Contents). z.logs) q.1) (λ c d q. written c d (map.insert c.pages page h.page) q) (λ b log. refl) failed ends

rebuild_called : (number : ℕ) (w v : rebuild_call.Drive) (h k : RebuildState) (s : RebuildSent) (a : Answered) (said : RebuildTold) → rebuild_call.RunsCall w h s a said v k → Stays w.contents v.contents number
rebuild_called number w v h k s a said r = rebuild_calls number w v h r.after s r.done (is_failure a) r.calls (rebuild_end r.after k s r.done a said r.stores)

rebuild_runs : (number : ℕ) (w v : rebuild_event.World) (h k : RebuildState) (i : RebuildIntent) (s : RebuildSent) (a : Answered) (said : RebuildTold) → rebuild_event.Runs w h i s a said v k → Stays w.drive.contents v.drive.contents number
rebuild_runs number w v h k i rebuild.None a said e = no_call number (λ old new. new ≡ old) w.drive.contents v.drive.contents (ap (λ (z : rebuild_event.World). z.drive.contents) e.world) (λ log. refl)
rebuild_runs number w v h k i (rebuild.Command c) a said e = no_call number (λ old new. new ≡ old) w.drive.contents v.drive.contents (ap (λ (z : rebuild_call.Drive). z.contents) e.1) (λ log. refl)
rebuild_runs number w v h k i (rebuild.LogLength member) a said e = rebuild_called number w.drive v.drive h k (rebuild.LogLength member) a said e.0
rebuild_runs number w v h k i (rebuild.ReadLog member at count) a said e = rebuild_called number w.drive v.drive h k (rebuild.ReadLog member at count) a said e.0
rebuild_runs number w v h k i (rebuild.ReadPage page) a said e = rebuild_called number w.drive v.drive h k (rebuild.ReadPage page) a said e.0
rebuild_runs number w v h k i (rebuild.WritePage page) a said e = rebuild_called number w.drive v.drive h k (rebuild.WritePage page) a said e.0

-- ---- any event of a member
pub makes : MadeGo
makes number m n w v place (steps.Sent s a) e one is =
    goes_as w.drive.contents v.drive.contents number (OwnGoes s m.holds.marks.log.pending (is_failure a)) (LogGoes m (steps.Sent s a)) (λ old new q. q) (happens number w v m.holds e.after e.intent place s a one is.own e.happens)
makes number m n w v place (steps.Restart s a) e one is =
    goes_as w.drive.contents v.drive.contents number (RestartGoes s (buffer_of m.restart) (is_failure a)) (LogGoes m (steps.Restart s a)) (λ old new q. q) (restarts number m w v s a e.reached one is e.makes)
makes number m n w v place (steps.Rebuild s a) e one is =
    goes_as w.drive.contents v.drive.contents number (λ old new. new ≡ old) (LogGoes m (steps.Rebuild s a)) (λ old new q. q)
    (rebuild_runs number (as_rebuilding w) (as_rebuilding v) e.makes.before.resources e.reached.resources e.makes.happens.intent s a e.makes.happens.said e.makes.happens.runs)
makes number m n w v place steps.Failed e one is = absurd e

failed_so : (b : Bool) → (b || false) ≡ true → b ≡ true
failed_so true e = refl
failed_so false e = e

never : true ≡ false → ⊥
never e = cc

over : (script : Script) (begun : ℕ) (sizes : Sizes) (choice number : ℕ) (m n : Member) (w v : World) (f g : FatesState) (place : ℕ) (stepped : Stepped)
    → Comes script begun sizes choice m w f place stepped n v g → 1 ≤ number → IsNumbered number m → is_over stepped ≡ true → Becomes w.drive.contents v.drive.contents (OneGoes number (LogGoes m stepped))
over script begun sizes choice number m n w v f g place (steps.Sent s a) c one is e =
    let broken : Breaks m w place (steps.Sent s a) (record v { facility = w.facility }) = c.breaks (failed_so (is_failure a) e) in
    makes number m broken.mid w (record v { facility = w.facility }) place (steps.Sent s a) broken.makes one is
over script begun sizes choice number m n w v f g place (steps.Restart s a) c one is e =
    let broken : Breaks m w place (steps.Restart s a) (record v { facility = w.facility }) = c.breaks (failed_so (is_failure a) e) in
    makes number m broken.mid w (record v { facility = w.facility }) place (steps.Restart s a) broken.makes one is
over script begun sizes choice number m n w v f g place (steps.Rebuild s a) c one is e =
    let broken : Breaks m w place (steps.Rebuild s a) (record v { facility = w.facility }) = c.breaks (failed_so (is_failure a) e) in
    makes number m broken.mid w (record v { facility = w.facility }) place (steps.Rebuild s a) broken.makes one is
over script begun sizes choice number m n w v f g place steps.Failed c one is e =
    no_call number (LogGoes m steps.Failed) w.drive.contents v.drive.contents (ap (λ (z : OwnDrive). z.contents) (c.silent refl)) (λ log. refl)

pub members_go : MembersGo
members_go script begun sizes choice number m n w v f g place stepped c one is = elim (cases_Bool (is_over stepped)) [
  | inl on ↦ over script begun sizes choice number m n w v f g place stepped c one is on
  | inr isnt ↦ let made = c.steps isnt in makes number m made.mid w v place stepped made.makes one is
]
