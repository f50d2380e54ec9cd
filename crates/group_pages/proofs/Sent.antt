-- What an event of a member sends, and what it leaves of retained locks.
use Rattle.std.proofs.Common.{◌≡◌, ◌≢◌, ℕ, refl, sym, ◌∙◌, ap, subst, Bool, true, false, inl, inr, Option}
use Rattle.std.specs.Prelude.{◌⊎◌, if◌then◌else◌}
use Rattle.ds_base.specs.declared.names.PageId.{PageId}
use Rattle.ds_model.specs.declared.lock.Name.{Name}
use Rattle.facility.specs.declared.command.Command.{Command}
use Rattle.facility.specs.declared.command.Command.TheVariants as command
use Rattle.facility.specs.States.{Held as Facility}
use Rattle.member_intents.specs.declared.intent.Intent.{Intent}
use Rattle.member_intents.specs.declared.intent.Intent.TheVariants as intent
use Rattle.member_intents.specs.declared.outcome.Answered.{Answered}
use Rattle.member_intents.specs.declared.outcome.Sent.{Sent}
use Rattle.member_intents.specs.declared.outcome.Sent.TheVariants as sent
use Rattle.member_intents.specs.Cells.{cell_slot}
use Rattle.member_marks.specs.Claims.{answer_to}
use Rattle.member_marks.specs.State.{slot_id}
use Rattle.page_owners.specs.Given.{Happens, Held, Lawful, Plan, Reserves, Resources, Runs, SendsLawfully, Told, begun, cast_done as done, changes_locks, holder_in, is_holder, lent_bytes, lent_of, setting_of, touches_pages}
use Rattle.page_owners.proofs.InX.{is_lawful}
use Rattle.retained_pages.specs.Retained.{CommandsRetain, CommandsSpare, KeepsOwn, Retains, SparesOthers, purges}
use Rattle.group_pages.proofs.Carry.{spares_itself}

never : {A : Type 0} → true ≡ false → A
never e = absurd (cc e)

-- ---- what is taken before
ready_as : (h k x : Held) → k ≡ x → x.marks.member ≡ h.marks.member → k.marks.member ≡ h.marks.member
ready_as h k x e same = ap (λ (z : Held). z.marks.member) e ∙ same

pub ready_by : (h k : Held) (i : Intent) → Reserves i h k → k.marks.member ≡ h.marks.member
ready_by h k intent.Step e = ready_as h k h e refl
ready_by h k (intent.Obtain o n m) e = ready_as h k _ e.2 refl
ready_by h k (intent.Grant o n m) e = ready_as h k _ e.2 refl
ready_by h k (intent.Ask o to n m) e = ready_as h k h e refl
ready_by h k (intent.Answers o n m asked) e = ready_as h k h e refl
ready_by h k (intent.Status member) e = ready_as h k h e refl
ready_by h k (intent.Take past) e = ready_as h k h e refl
ready_by h k (intent.Answer asker n m) e = ready_as h k h e refl
ready_by h k (intent.ReleaseLock o) e = ready_as h k h e refl
ready_by h k (intent.ReleasePage page) e = ready_as h k h e refl
ready_by h k (intent.Purge n) e = ready_as h k h e refl
ready_by h k (intent.End o) e = ready_as h k h e refl
ready_by h k (intent.Wait slot by flag) e = ready_as h k h e refl
ready_by h k (intent.Unwait slot) e = ready_as h k h e refl
ready_by h k (intent.Waits slots) e = ready_as h k h e refl
ready_by h k (intent.Flag flag) e = ready_as h k h e refl
ready_by h k (intent.Raise flag) e = ready_as h k h e refl
ready_by h k intent.LoseCache e = ready_as h k h e refl
ready_by h k (intent.Read at) e = ready_as h k h e refl
ready_by h k (intent.ReadPage at) e = ready_as h k h e refl
ready_by h k (intent.Test at slot gives) e = ready_as h k h e refl
ready_by h k (intent.WritePage at) e = ready_as h k h e refl
ready_by h k (intent.Unregister at) e = ready_as h k h e refl
ready_by h k (intent.Change slot action frames) e = ready_as h k _ e refl
ready_by h k (intent.Undo o at) e = ready_as h k h e refl
ready_by h k (intent.Commit slot) e = ready_as h k h e refl
ready_by h k intent.Append e = ready_as h k h e refl
ready_by h k (intent.NextChanged past) e = ready_as h k h e refl
ready_by h k (intent.CastoutRead page) e = ready_as h k h e refl
ready_by h k intent.CastoutWrite e = ready_as h k h e refl
ready_by h k intent.CastoutDone e = ready_as h k h e refl
ready_by h k intent.PhaseDone e = ready_as h k h e refl

-- ---- all others' records stay
pub spares_own : CommandsSpare → (u v : Resources) (h k : Held) (i : Intent) (s : Sent) (p : Plan) (place : ℕ) (a : Answered) (told : Told) → Runs u h i s p place a told v k → SparesOthers u.facility v.facility h.marks.member
spares_own law u v h k i sent.None p place a told r = spares_itself u.facility v.facility h.marks.member (ap (λ (z : Resources). z.facility) r.world)
spares_own law u v h k i (sent.Command c) p place a told r = (law u.facility v.facility h.marks.member c (lent_bytes h (lent_of h c)) (lent_bytes r.0.after (lent_of h c)) r.0.answer r.0.gives.executed.executes).0
spares_own law u v h k i sent.AppendLog p place a told r = spares_itself u.facility v.facility h.marks.member r.1
spares_own law u v h k i (sent.ReadPage page) p place a told r = spares_itself u.facility v.facility h.marks.member r.1
spares_own law u v h k i (sent.WritePage page) p place a told r = spares_itself u.facility v.facility h.marks.member r.1

pub spares_event : CommandsSpare → (u v : Resources) (h k : Held) (i : Intent) (place : ℕ) (s : Sent) (a : Answered) → Happens u h i place s a v k → SparesOthers u.facility v.facility h.marks.member
spares_event law u v h k i place s a x =
    subst (λ z. SparesOthers u.facility v.facility z) (ready_by h x.ready i x.reserves)
    (spares_own law u v (begun x.ready place) x.after i s x.plan place a x.said x.runs)

-- ---- a member whose restart is in hand frees no record
data Quietly (s : Sent) : Type 0 where
  Nothing : s ≡ sent.None → Quietly s
  Commands : (c : Command) → ((p : PageId) → purges c p ≡ false) → ((n : Name) → c ≢ command.Purge n) → s ≡ sent.Command c → Quietly s
  Writes : (page : PageId) → s ≡ sent.WritePage page → Quietly s

module _ (h : Held) (place : ℕ) (holder : Option ℕ) (s : Sent) where
  written : (b : Bool) (page : PageId) → s ≡ (if b then sent.WritePage page else done page) → Quietly s
  written true page e = Writes page e
  written false page e = Commands (command.CastoutDone page) (λ p. refl) (λ q x. cc x) e

  quiet : (i : Intent) → changes_locks i ≡ false → touches_pages i ≡ false → Lawful h.marks h.pages (setting_of h holder place) i s → Quietly s
  quiet intent.Step unlocked leaves l = Nothing l
  quiet (intent.Obtain o n m) unlocked leaves l = never unlocked
  quiet (intent.Grant o n m) unlocked leaves l = never unlocked
  quiet (intent.Ask o to n m) unlocked leaves l = Commands (command.Ask (cell_slot o n) to n m) (λ p. refl) (λ q e. cc e) l
  quiet (intent.Answers o n m asked) unlocked leaves l = Commands (command.Answers (cell_slot o n)) (λ p. refl) (λ q e. cc e) l
  quiet (intent.Status member) unlocked leaves l = Commands (command.Status member) (λ p. refl) (λ q e. cc e) l
  quiet (intent.Take past) unlocked leaves l = Commands (command.Take past) (λ p. refl) (λ q e. cc e) l
  quiet (intent.Answer asker n m) unlocked leaves l = Commands (command.Answer asker n m (answer_to h.marks n m) place) (λ p. refl) (λ q e. cc e) l.is
  quiet (intent.ReleaseLock o) unlocked leaves l = never unlocked
  quiet (intent.ReleasePage page) unlocked leaves l = never unlocked
  quiet (intent.Purge n) unlocked leaves l = never unlocked
  quiet (intent.End o) unlocked leaves l = never unlocked
  quiet (intent.Wait slot by flag) unlocked leaves l = Commands (command.Wait (slot_id h.marks slot) by flag) (λ p. refl) (λ q e. cc e) l.is
  quiet (intent.Unwait slot) unlocked leaves l = Commands (command.Unwait (slot_id h.marks slot)) (λ p. refl) (λ q e. cc e) l.is
  quiet (intent.Waits slots) unlocked leaves l = Commands command.Waits (λ p. refl) (λ q e. cc e) l
  quiet (intent.Flag flag) unlocked leaves l = Commands (command.Flag flag) (λ p. refl) (λ q e. cc e) l
  quiet (intent.Raise flag) unlocked leaves l = Commands (command.Raise flag) (λ p. refl) (λ q e. cc e) l
  quiet intent.LoseCache unlocked leaves l = never leaves
  quiet (intent.Read at) unlocked leaves l = never leaves
  quiet (intent.ReadPage at) unlocked leaves l = never leaves
  quiet (intent.Test at slot gives) unlocked leaves l = never leaves
  quiet (intent.WritePage at) unlocked leaves l = never leaves
  quiet (intent.Unregister at) unlocked leaves l = never leaves
  quiet (intent.Change slot action frames) unlocked leaves l = never leaves
  quiet (intent.Undo o at) unlocked leaves l = never leaves
  quiet (intent.Commit slot) unlocked leaves l = never leaves
  quiet intent.Append unlocked leaves l = never leaves
  quiet (intent.NextChanged past) unlocked leaves l = Commands (command.NextChanged past) (λ p. refl) (λ q e. cc e) l
  quiet (intent.CastoutRead page) unlocked leaves l = Commands (command.CastoutRead page) (λ p. refl) (λ q e. cc e) l
  quiet intent.CastoutWrite unlocked leaves l = written (is_holder h holder) l.cast.page l.is
  quiet intent.CastoutDone unlocked leaves l = Commands (command.CastoutDone l.cast.page) (λ p. refl) (λ q e. cc e) l.is
  quiet intent.PhaseDone unlocked leaves l = Commands command.PhaseDone (λ p. refl) (λ q e. cc e) l

-- what it leaves of the member's own records
pub record KeepsRecords (f v : Facility) (m : ℕ) : Type 0 where
  pub retains : (p : PageId) → Retains f m p → Retains v m p
  pub own : (v ≡ f) ⊎ ((c : Command) × KeepsOwn f v m c × ((n : Name) → c ≢ command.Purge n))

same_records : (f v : Facility) (m : ℕ) → v ≡ f → KeepsRecords f v m
same_records f v m e = record { retains = λ p r. subst (λ (z : Facility). Retains z m p) (sym e) r; own = inl e }

runs_quietly : CommandsRetain → CommandsSpare → (u v : Resources) (h k : Held) (i : Intent) (s : Sent) (p : Plan) (place : ℕ) (a : Answered) (told : Told) → Quietly s → Runs u h i s p place a told v k → KeepsRecords u.facility v.facility h.marks.member
runs_quietly retain spare u v h k i s p place a told (Nothing e) x =
    let r = subst (λ z. Runs u h i z p place a told v k) e x in same_records u.facility v.facility h.marks.member (ap (λ (z : Resources). z.facility) r.world)
runs_quietly retain spare u v h k i s p place a told (Writes page e) x = same_records u.facility v.facility h.marks.member (subst (λ z. Runs u h i z p place a told v k) e x).1
runs_quietly retain spare u v h k i s p place a told (Commands c keeps none e) x =
    let r = (subst (λ z. Runs u h i z p place a told v k) e x).0 in
    let m = h.marks.member in
    let page = lent_bytes h (lent_of h c) in
    let after = lent_bytes r.after (lent_of h c) in
    let executes = r.gives.executed.executes in
    record {
      retains = λ q z. retain u.facility v.facility m c page after r.answer m q executes (λ same. keeps q) z;
      own = inr (c, (spare u.facility v.facility m c page after r.answer executes).1, none);
    }

-- ---- such an event
pub keeps_records : CommandsRetain → CommandsSpare → SendsLawfully → (u v : Resources) (h k : Held) (i : Intent) (place : ℕ) (s : Sent) (a : Answered)
    → changes_locks i ≡ false → touches_pages i ≡ false → Happens u h i place s a v k → KeepsRecords u.facility v.facility h.marks.member
keeps_records retain spare lawful u v h k i place s a unlocked leaves x =
    subst (λ z. KeepsRecords u.facility v.facility z) (ready_by h x.ready i x.reserves)
    (runs_quietly retain spare u v (begun x.ready place) x.after i s x.plan place a x.said (quiet h place (holder_in u.facility h.cast) s i unlocked leaves (is_lawful lawful u h i place s x.plan x.lawful)) x.runs)
