-- The logs on disk behind an event in which no call of the disk failed.
use Rattle.std.proofs.Common.{◌≡◌, ◌≢◌, ℕ, ◌-◌, refl, sym, ap, subst, ◌∙◌, Bool, true, false, List, ◌++◌, length, Option, Some, None, Result, Ok, Err, slice_set}
use Rattle.std.specs.Prelude.{nat_lt}
use Rattle.std.proofs.lemmas.Bool.{false≢true}
use Rattle.ds_base.specs.declared.names.PageId.{PageId}
use Rattle.ds_disk.specs.Contents.{Becomes, Contents, log_of}
use Rattle.ds_disk.specs.declared.disk.DiskError.{DiskError}
use Rattle.ds_disk.specs.declared.disk.DiskError.TheVariants.{Failed, NoMemory}
use Rattle.member_intents.specs.declared.intent.Intent.{Intent}
use Rattle.member_intents.specs.declared.outcome.Answered.{Answered}
use Rattle.member_intents.specs.declared.outcome.Answered.TheVariants as answered
use Rattle.member_intents.specs.declared.outcome.Sent.{Sent}
use Rattle.member_intents.specs.declared.outcome.Sent.TheVariants as sent
use Rattle.member_needs.specs.declared.plans.Plan.{Plan}
use Rattle.member_effects.specs.declared.told.Told.{Told}
use Rattle.member_resources.specs.Held.{Held}
use Rattle.member_resources.specs.Events as event
use Rattle.member_resources.specs.Events.{Appends, Drive, Reads, ReadsAs, ReadsFrame, Runs, Stores, WritesPage, frame_read}
use Rattle.page_events.proofs.Calls.{was_done}
use Rattle.told_pages.proofs.Commands.{is_log_sent}

-- what the disk tells goes on
told_on : (d e : Drive) (c : Contents) (P : Contents → Contents → Type 0) → d.contents ≡ Some c → Becomes d.contents e.contents P → (x : Contents) × (e.contents ≡ Some x) × P c x
told_on d e c P told b = by e.contents refl (subst (λ z. Becomes z e.contents P) told b)
  where
    by : (o : Option Contents) → e.contents ≡ o → Becomes (Some c) o P → (x : Contents) × (e.contents ≡ Some x) × P c x
    by None is b = absurd b
    by (Some x) is b = (x, is, b)

-- the log buffer stands behind the member's log, or no log is another
abbrev pub logs_behind : Bool → Held → List (List ℕ) → List (List ℕ)
logs_behind true h logs = slice_set logs (h.marks.member - 1) (log_of logs h.marks.member ++ h.marks.log.pending)
logs_behind false h logs = logs

pub record Behind (appends : Bool) (h : Held) (c : Contents) (e : Drive) : Type 0 where
  pub contents : Contents
  pub told : e.contents ≡ Some contents
  pub logs : contents.logs ≡ logs_behind appends h c.logs

behind_as : (b : Bool) (h : Held) (c : Contents) (d e : Drive) → d.contents ≡ Some c → e ≡ d → b ≡ false → Behind b h c e
behind_as true h c d e told same is = absurd (false≢true (sym is))
behind_as false h c d e told same is = record { contents = c; told = ap (λ (z : Drive). z.contents) same ∙ told; logs = refl }

frame_logs : (b : Bool) (d e : Drive) (h k : Held) (at : ℕ) (page : PageId) (c : Contents) → d.contents ≡ Some c → ReadsFrame b d h at page (Ok tt) e k → Behind false h c e
frame_logs true d e h k at page c told r =
    let x = told_on d e c _ told r.0.ok.2 in
    record { contents = x.0; told = x.1; logs = ap (λ (z : Contents). z.logs) x.2.0 }
frame_logs false d e h k at page c told r = behind_as false h c d e told r.1 refl

read_logs : (d e : Drive) (h k : Held) (page : PageId) (o : Option ℕ) (c : Contents) → d.contents ≡ Some c → ReadsAs o d h page (Ok tt) e k → Behind false h c e
read_logs d e h k page None c told r = behind_as false h c d e told r.1 refl
read_logs d e h k page (Some at) c told r = frame_logs (nat_lt at (length h.pages)) d e h k at page c told r

pub runs_logs : (u v : event.World) (h k : Held) (i : Intent) (s : Sent) (p : Plan) (place : ℕ) (a : Answered) (said : Told) (c : Contents) → u.drive.contents ≡ Some c → a ≢ answered.Failed → Runs u h i s p place a said v k → Behind (is_log_sent s) h c v.drive
runs_logs u v h k i sent.None p place a said c told works r = behind_as false h c u.drive v.drive told (ap (λ (z : event.World). z.drive) r.world) refl
runs_logs u v h k i (sent.Command x) p place a said c told works r = behind_as false h c u.drive v.drive told r.1 refl
runs_logs u v h k i sent.AppendLog p place a said c told works r =
    let x = r.0 in
    let done = was_done x.after k i x.done a said works x.stores in
    let calls = subst (λ z. Appends u.drive h z v.drive x.after) done.0 x.calls in
    let next = told_on u.drive v.drive c _ told calls.0.ok.2 in
    record { contents = next.0; told = next.1; logs = ap (λ (z : Contents). z.logs) next.2 }
runs_logs u v h k i (sent.ReadPage page) p place a said c told works r =
    let x = r.0 in
    let done = was_done x.after k i x.done a said works x.stores in
    read_logs u.drive v.drive h x.after page (frame_read i) c told (subst (λ z. Reads u.drive h i page z v.drive x.after) done.0 x.calls)
runs_logs u v h k i (sent.WritePage page) p place a said c told works r =
    let x = r.0 in
    let done = was_done x.after k i x.done a said works x.stores in
    let calls = subst (λ z. WritesPage u.drive h page z v.drive x.after) done.0 x.calls in
    let next = told_on u.drive v.drive c _ told calls.0.ok.2 in
    record { contents = next.0; told = next.1; logs = ap (λ (z : Contents). z.logs) next.2 }

-- an append that didn't fail was done
stored_done : (h k : Held) (i : Intent) (x : Result (Unit {0}) DiskError) (a : Answered) (said : Told) → a ≢ answered.Failed → Stores h i x a said k → a ≡ answered.Done
stored_done h k i (Ok y) a said works e = e.0
stored_done h k i (Err Failed) a said works e = absurd (works e.0)
stored_done h k i (Err NoMemory) a said works e = absurd e

pub runs_done : (u v : event.World) (h k : Held) (i : Intent) (s : Sent) (p : Plan) (place : ℕ) (a : Answered) (said : Told) → a ≢ answered.Failed → is_log_sent s ≡ true → Runs u h i s p place a said v k → a ≡ answered.Done
runs_done u v h k i sent.None p place a said works e r = absurd (false≢true e)
runs_done u v h k i (sent.Command x) p place a said works e r = absurd (false≢true e)
runs_done u v h k i sent.AppendLog p place a said works e r = stored_done r.0.after k i r.0.done a said works r.0.stores
runs_done u v h k i (sent.ReadPage page) p place a said works e r = absurd (false≢true e)
runs_done u v h k i (sent.WritePage page) p place a said works e r = absurd (false≢true e)
