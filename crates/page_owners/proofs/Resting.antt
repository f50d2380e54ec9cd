-- What a member does itself while its restart is in hand leaves the pages.
use Rattle.std.proofs.Common.{◌≡◌, ℕ, refl, sym, ap, subst, Bool, true, false, Option}
use Rattle.std.specs.Prelude.{◌==◌, if◌then◌else◌}
use Rattle.facility.specs.declared.command.Command.{Command}
use Rattle.facility.specs.declared.command.Command.TheVariants as command
use Rattle.facility.specs.States.{Held as Facility}
use Rattle.member_intents.specs.declared.intent.Intent.{Intent}
use Rattle.member_intents.specs.declared.intent.Intent.TheVariants as intent
use Rattle.member_intents.specs.declared.outcome.Answered.{Answered}
use Rattle.member_intents.specs.declared.outcome.Sent.{Sent}
use Rattle.member_intents.specs.declared.outcome.Sent.TheVariants as sent
use Rattle.member_intents.specs.Cells.{cell_slot}
use Rattle.member_marks.specs.Claims.{answer_to}
use Rattle.member_marks.specs.State.{id_of, slot_id}
use Rattle.member_needs.specs.declared.plans.Plan.{Plan}
use Rattle.member_effects.specs.declared.told.Told.{Told}
use Rattle.needs_law.specs.Lawful.{Lawful, SendsLawfully}
use Rattle.member_resources.specs.Held.{Held, begun}
use Rattle.member_resources.specs.Events as event
use Rattle.member_resources.specs.Events.{Runs, holder_in}
use Rattle.member_resources.specs.Lending.{lent_bytes, lent_of}
use Rattle.member_resources.specs.Prepared.{setting_of}
use Rattle.page_world.specs.Holdings.{KeepsPages}
use Rattle.page_members.specs.Members.{CommandsLeave, leaves_pages}
use Rattle.group_member.specs.Resting.{touches_pages}
use Rattle.page_owners.specs.Resting.{RestsLeave, casts_out}
use Rattle.page_owners.proofs.InX.{is_lawful}

-- what goes out leaves the pages
pub data Quietly (s : Sent) : Type 0 where
  Nothing : s ≡ sent.None → Quietly s
  Commands : (c : Command) → leaves_pages c ≡ true → s ≡ sent.Command c → Quietly s

ended : (b : Bool) (c : Command) (s : Sent) → leaves_pages c ≡ true → s ≡ (if b then sent.None else sent.Command c) → Quietly s
ended true c s leaves e = Nothing e
ended false c s leaves e = Commands c leaves e

-- a page in a frame isn't touched, nor the log, nor the cache
never : {A : Type 0} → true ≡ false → A
never e = absurd (cc e)

module _ (h : Held) (place : ℕ) (holder : Option ℕ) (s : Sent) where
  pub quiet : (i : Intent) → touches_pages i ≡ false → casts_out i ≡ false → Lawful h.marks h.pages (setting_of h holder place) i s → Quietly s
  quiet intent.Step leaves uncast l = Nothing l
  quiet (intent.Obtain o n m) leaves uncast l = Commands (command.Obtain n m) refl l.is
  quiet (intent.Grant o n m) leaves uncast l = Commands (command.Grant (cell_slot o n) n m) refl l.is
  quiet (intent.Ask o to n m) leaves uncast l = Commands (command.Ask (cell_slot o n) to n m) refl l
  quiet (intent.Answers o n m asked) leaves uncast l = Commands (command.Answers (cell_slot o n)) refl l
  quiet (intent.Status member) leaves uncast l = Commands (command.Status member) refl l
  quiet (intent.Take past) leaves uncast l = Commands (command.Take past) refl l
  quiet (intent.Answer asker n m) leaves uncast l = Commands (command.Answer asker n m (answer_to h.marks n m) place) refl l.is
  quiet (intent.ReleaseLock o) leaves uncast l = Commands (command.Release l.told.0 l.told.1) refl l.is
  quiet (intent.ReleasePage page) leaves uncast l = Commands (command.Release l.told.0 l.told.1) refl l.is
  quiet (intent.Purge n) leaves uncast l = Commands (command.Purge n) refl l.is
  quiet (intent.End o) leaves uncast l = ended ((id_of h.marks o).number == 0) (command.End (id_of h.marks o)) s refl l.is
  quiet (intent.Wait slot by flag) leaves uncast l = Commands (command.Wait (slot_id h.marks slot) by flag) refl l.is
  quiet (intent.Unwait slot) leaves uncast l = Commands (command.Unwait (slot_id h.marks slot)) refl l.is
  quiet (intent.Waits slots) leaves uncast l = Commands command.Waits refl l
  quiet (intent.Flag flag) leaves uncast l = Commands (command.Flag flag) refl l
  quiet (intent.Raise flag) leaves uncast l = Commands (command.Raise flag) refl l
  quiet intent.LoseCache leaves uncast l = never leaves
  quiet (intent.Read at) leaves uncast l = never leaves
  quiet (intent.ReadPage at) leaves uncast l = never leaves
  quiet (intent.Test at slot gives) leaves uncast l = never leaves
  quiet (intent.WritePage at) leaves uncast l = never leaves
  quiet (intent.Unregister at) leaves uncast l = never leaves
  quiet (intent.Change slot action frames) leaves uncast l = never leaves
  quiet (intent.Undo o at) leaves uncast l = never leaves
  quiet (intent.Commit slot) leaves uncast l = never leaves
  quiet intent.Append leaves uncast l = never leaves
  quiet (intent.NextChanged past) leaves uncast l = Commands (command.NextChanged past) refl l
  quiet (intent.CastoutRead page) leaves uncast l = never uncast
  quiet intent.CastoutWrite leaves uncast l = never uncast
  quiet intent.CastoutDone leaves uncast l = never uncast
  quiet intent.PhaseDone leaves uncast l = Commands command.PhaseDone refl l

same_facility : (f g : Facility) → g ≡ f → KeepsPages f g
same_facility f g e = subst (λ z. KeepsPages f z) (sym e) (record { directory = refl; counter = refl; members = refl; statuses = refl })

quietly : CommandsLeave → (u v : event.World) (h k : Held) (i : Intent) (s : Sent) (p : Plan) (place : ℕ) (a : Answered) (told : Told) → Quietly s → Runs u h i s p place a told v k → KeepsPages u.facility v.facility × (v.drive ≡ u.drive)
quietly law u v h k i s p place a told (Nothing e) r =
    let q = subst (λ z. Runs u h i z p place a told v k) e r in
    (same_facility u.facility v.facility (ap (λ (z : event.World). z.facility) q.world), ap (λ (z : event.World). z.drive) q.world)
quietly law u v h k i s p place a told (Commands c leaves e) r =
    let q = subst (λ z. Runs u h i z p place a told v k) e r in
    (law u.facility v.facility h.marks.member c (lent_bytes h (lent_of h c)) (lent_bytes q.0.after (lent_of h c)) q.0.answer leaves q.0.gives.executed.executes, q.1)

pub rests_leave : SendsLawfully → CommandsLeave → RestsLeave
rests_leave lawful law m n u v place s a rests acts uncast =
    let h = m.holds in
    let happens = acts.happens in
    let l = is_lawful lawful u h acts.intent place s happens.plan happens.lawful in
    quietly law u v (begun happens.ready place) happens.after acts.intent s happens.plan place a happens.said (quiet h place (holder_in u.facility h.cast) s acts.intent (acts.leaves rests) uncast l) happens.runs
