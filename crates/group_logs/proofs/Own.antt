-- The log of a member that is up, behind an event of it.
use Rattle.std.proofs.Common.{◌≡◌, ℕ, ◌≤◌, refl, sym, ◌∙◌, ap, subst, Bool, true, false, inl, inr, List, length, Option, Some, None, Result, Ok, Err}
use Rattle.std.specs.Prelude.{nat_lt}
use Rattle.std.specs.FinMap as map
use Rattle.ds_base.specs.declared.names.PageId.{PageId}
use Rattle.ds_disk.specs.Contents.{Becomes, Contents}
use Rattle.ds_disk.specs.declared.disk.DiskError.{DiskError}
use Rattle.ds_disk.specs.declared.disk.DiskError.TheVariants.{Failed, NoMemory}
use Rattle.member_intents.specs.declared.intent.Intent.{Intent}
use Rattle.member_intents.specs.declared.intent.Intent.TheVariants as intent
use Rattle.member_intents.specs.declared.outcome.Answered.{Answered}
use Rattle.member_intents.specs.declared.outcome.Sent.{Sent}
use Rattle.member_intents.specs.declared.outcome.Sent.TheVariants as sent
use Rattle.member_resources.specs.Events.{Calls, Drive, Happens, Plan, ReadsAs, ReadsFrame, Runs, RunsCall, Stores, Told, World, frame_read}
use Rattle.member_resources.specs.Held.{Held, begun}
use Rattle.member_resources.specs.Prepared.{Reserves}
use Rattle.group_member.specs.Stepping.{is_failure}
use Rattle.group_logs.specs.Logs.{Appends, OneGoes, OwnGoes}
use Rattle.group_logs.proofs.Calls.{Ended, appended, goes_as, no_call, quiet, written}

stored_end : (h k : Held) (i : Intent) (done : Result (Unit {0}) DiskError) (a : Answered) (said : Told) → Stores h i done a said k → Ended done (is_failure a)
stored_end h k i (Ok x) a said e = ap is_failure e.0
stored_end h k i (Err Failed) a said e = ap is_failure e.0
stored_end h k i (Err NoMemory) a said e = absurd e

-- ---- the calls
frame_reads : (b : Bool) (w v : Drive) (h k : Held) (at : ℕ) (page : PageId) (done : Result (Unit {0}) DiskError) (failed : Bool) → ReadsFrame b w h at page done v k → Ended done failed
    → Becomes w.contents v.contents (OneGoes h.marks.member (OwnGoes (sent.ReadPage page) h.marks.log.pending failed))
frame_reads true w v h k at page done failed e ends =
    quiet h.marks.member (OwnGoes (sent.ReadPage page) h.marks.log.pending) w.alive v.alive w.contents v.contents done _ _ e.0 (λ x c d q. ap (λ (z : Contents). z.logs) q.0) (λ c d q. ap (λ (z : Contents). z.logs) q) (λ b log. refl) failed ends
frame_reads false w v h k at page done failed e ends =
    no_call h.marks.member (OwnGoes (sent.ReadPage page) h.marks.log.pending failed) w.contents v.contents (ap (λ (z : Drive). z.contents) e.1) (λ log. refl)

reads : (o : Option ℕ) (w v : Drive) (h k : Held) (page : PageId) (done : Result (Unit {0}) DiskError) (failed : Bool) → ReadsAs o w h page done v k → Ended done failed
    → Becomes w.contents v.contents (OneGoes h.marks.member (OwnGoes (sent.ReadPage page) h.marks.log.pending failed))
reads None w v h k page done failed e ends = no_call h.marks.member (OwnGoes (sent.ReadPage page) h.marks.log.pending failed) w.contents v.contents (ap (λ (z : Drive). z.contents) e.1) (λ log. refl)
reads (Some at) w v h k page done failed e ends = frame_reads (nat_lt at (length h.pages)) w v h k at page done failed e ends

calls : (w v : Drive) (h k : Held) (i : Intent) (s : Sent) (done : Result (Unit {0}) DiskError) (failed : Bool) → 1 ≤ h.marks.member → Calls w h i s done v k → Ended done failed
    → Becomes w.contents v.contents (OneGoes h.marks.member (OwnGoes s h.marks.log.pending failed))
calls w v h k i sent.None done failed one e ends = no_call h.marks.member (OwnGoes sent.None h.marks.log.pending failed) w.contents v.contents (ap (λ (z : Drive). z.contents) e.1) (λ log. refl)
calls w v h k i (sent.Command c) done failed one e ends = no_call h.marks.member (OwnGoes (sent.Command c) h.marks.log.pending failed) w.contents v.contents (ap (λ (z : Drive). z.contents) e.1) (λ log. refl)
calls w v h k i sent.AppendLog done failed one e ends =
    goes_as w.contents v.contents h.marks.member (Appends h.marks.log.pending failed) (OwnGoes sent.AppendLog h.marks.log.pending failed) (λ old new q. q)
    (appended h.marks.member h.marks.log.pending w.alive v.alive w.contents v.contents done _ e.0 (λ x c d q. q) one failed ends)
calls w v h k i (sent.ReadPage page) done failed one e ends = reads (frame_read i) w v h k page done failed e ends
calls w v h k i (sent.WritePage page) done failed one e ends =
    quiet h.marks.member (OwnGoes (sent.WritePage page) h.marks.log.pending) w.alive v.alive w.contents v.contents done _ _ e.0 (λ x c d q. ap (λ (z : Contents). z.logs) q) (λ c d q. written c d (map.insert c.pages page h.buffer) q) (λ b log. refl) failed ends

called : (w v : Drive) (h k : Held) (i : Intent) (s : Sent) (a : Answered) (said : Told) → 1 ≤ h.marks.member → RunsCall w h i s a said v k
    → Becomes w.contents v.contents (OneGoes h.marks.member (OwnGoes s h.marks.log.pending (is_failure a)))
called w v h k i s a said one r = calls w v h r.after i s r.done (is_failure a) one r.calls (stored_end r.after k i r.done a said r.stores)

runs : (w v : World) (h k : Held) (i : Intent) (s : Sent) (p : Plan) (place : ℕ) (a : Answered) (said : Told) → 1 ≤ h.marks.member → Runs w h i s p place a said v k
    → Becomes w.drive.contents v.drive.contents (OneGoes h.marks.member (OwnGoes s h.marks.log.pending (is_failure a)))
runs w v h k i sent.None p place a said one e = no_call h.marks.member (OwnGoes sent.None h.marks.log.pending (is_failure a)) w.drive.contents v.drive.contents (ap (λ (z : World). z.drive.contents) e.world) (λ log. refl)
runs w v h k i (sent.Command c) p place a said one e = no_call h.marks.member (OwnGoes (sent.Command c) h.marks.log.pending (is_failure a)) w.drive.contents v.drive.contents (ap (λ (z : Drive). z.contents) e.1) (λ log. refl)
runs w v h k i sent.AppendLog p place a said one e = called w.drive v.drive h k i sent.AppendLog a said one e.0
runs w v h k i (sent.ReadPage page) p place a said one e = called w.drive v.drive h k i (sent.ReadPage page) a said one e.0
runs w v h k i (sent.WritePage page) p place a said one e = called w.drive v.drive h k i (sent.WritePage page) a said one e.0

-- ---- the event
-- the same log buffer, of the same member
record SameLog (h k : Held) : Type 0 where
  member : k.marks.member ≡ h.marks.member
  pending : k.marks.log.pending ≡ h.marks.log.pending

same_as : (h ready k : Held) → ready ≡ k → SameLog h k → SameLog h ready
same_as h ready k e s = subst (λ (z : Held). SameLog h z) (sym e) s

ready_same : (h ready : Held) (i : Intent) → Reserves i h ready → SameLog h ready
ready_same h ready intent.Step e = same_as h ready _ e (record { member = refl; pending = refl })
ready_same h ready (intent.Obtain o n m) e = same_as h ready _ e.2 (record { member = refl; pending = refl })
ready_same h ready (intent.Grant o n m) e = same_as h ready _ e.2 (record { member = refl; pending = refl })
ready_same h ready (intent.Ask o to n m) e = same_as h ready _ e (record { member = refl; pending = refl })
ready_same h ready (intent.Answers o n m asked) e = same_as h ready _ e (record { member = refl; pending = refl })
ready_same h ready (intent.Status member) e = same_as h ready _ e (record { member = refl; pending = refl })
ready_same h ready (intent.Take past) e = same_as h ready _ e (record { member = refl; pending = refl })
ready_same h ready (intent.Answer asker n m) e = same_as h ready _ e (record { member = refl; pending = refl })
ready_same h ready (intent.ReleaseLock o) e = same_as h ready _ e (record { member = refl; pending = refl })
ready_same h ready (intent.ReleasePage page) e = same_as h ready _ e (record { member = refl; pending = refl })
ready_same h ready (intent.Purge n) e = same_as h ready _ e (record { member = refl; pending = refl })
ready_same h ready (intent.End o) e = same_as h ready _ e (record { member = refl; pending = refl })
ready_same h ready (intent.Wait slot holder flag) e = same_as h ready _ e (record { member = refl; pending = refl })
ready_same h ready (intent.Unwait slot) e = same_as h ready _ e (record { member = refl; pending = refl })
ready_same h ready (intent.Waits slots) e = same_as h ready _ e (record { member = refl; pending = refl })
ready_same h ready (intent.Flag flag) e = same_as h ready _ e (record { member = refl; pending = refl })
ready_same h ready (intent.Raise flag) e = same_as h ready _ e (record { member = refl; pending = refl })
ready_same h ready intent.LoseCache e = same_as h ready _ e (record { member = refl; pending = refl })
ready_same h ready (intent.Read at) e = same_as h ready _ e (record { member = refl; pending = refl })
ready_same h ready (intent.ReadPage at) e = same_as h ready _ e (record { member = refl; pending = refl })
ready_same h ready (intent.Test at slot gives) e = same_as h ready _ e (record { member = refl; pending = refl })
ready_same h ready (intent.WritePage at) e = same_as h ready _ e (record { member = refl; pending = refl })
ready_same h ready (intent.Unregister at) e = same_as h ready _ e (record { member = refl; pending = refl })
ready_same h ready (intent.Change slot action frames) e = same_as h ready _ e (record { member = refl; pending = refl })
ready_same h ready (intent.Undo o at) e = same_as h ready _ e (record { member = refl; pending = refl })
ready_same h ready (intent.Commit slot) e = same_as h ready _ e (record { member = refl; pending = refl })
ready_same h ready intent.Append e = same_as h ready _ e (record { member = refl; pending = refl })
ready_same h ready (intent.NextChanged past) e = same_as h ready _ e (record { member = refl; pending = refl })
ready_same h ready (intent.CastoutRead page) e = same_as h ready _ e (record { member = refl; pending = refl })
ready_same h ready intent.CastoutWrite e = same_as h ready _ e (record { member = refl; pending = refl })
ready_same h ready intent.CastoutDone e = same_as h ready _ e (record { member = refl; pending = refl })
ready_same h ready intent.PhaseDone e = same_as h ready _ e (record { member = refl; pending = refl })

pub happens : (number : ℕ) (w v : World) (h k : Held) (i : Intent) (place : ℕ) (s : Sent) (a : Answered) → 1 ≤ number → h.marks.member ≡ number → Happens w h i place s a v k
    → Becomes w.drive.contents v.drive.contents (OneGoes number (OwnGoes s h.marks.log.pending (is_failure a)))
happens number w v h k i place s a one own e =
    subst (λ (z : ℕ). Becomes w.drive.contents v.drive.contents (OneGoes z (OwnGoes s h.marks.log.pending (is_failure a)))) is
    (subst (λ (z : List ℕ). Becomes w.drive.contents v.drive.contents (OneGoes e.ready.marks.member (OwnGoes s z (is_failure a)))) same.pending
    (runs w v (begun e.ready place) e.after i s e.plan place a e.said (subst (λ (z : ℕ). 1 ≤ z) (sym is) one) e.runs))
  where
    same : SameLog h e.ready
    same = ready_same h e.ready i e.reserves

    is : e.ready.marks.member ≡ number
    is = same.member ∙ own
