-- What a member casts out stays as it is in all its events but those of a castout, while its restart is in hand.
use Rattle.std.proofs.Common.{◌≡◌, ℕ, refl, sym, ◌∙◌, subst, Bool, true, false, List, [], ◌∷◌, Option, Some, None}
use Rattle.std.specs.Prelude.{is_some}
use Rattle.list_structure.specs.declared.query.Cell.{Cell}
use Rattle.list_structure.specs.declared.wait.Wait.{Wait}
use Rattle.facility.specs.declared.command.Command.{Command}
use Rattle.facility.specs.declared.command.Command.TheVariants as command
use Rattle.facility.specs.declared.command.Reply.{Reply}
use Rattle.log_trans.specs.declared.opened.OpenTran.{OpenTran}
use Rattle.member_intents.specs.declared.intent.Intent.{Intent}
use Rattle.member_intents.specs.declared.intent.Intent.TheVariants as intent
use Rattle.member_intents.specs.declared.outcome.Answered.{Answered}
use Rattle.member_intents.specs.declared.outcome.Sent.{Sent}
use Rattle.member_intents.specs.declared.outcome.Sent.TheVariants as sent
use Rattle.member_marks.specs.State.{MarksState}
use Rattle.member_needs.specs.declared.plans.Plan.{Plan}
use Rattle.needs_law.specs.Lawful.{SendsLawfully}
use Rattle.member_effects.specs.Answers.{answered_after}
use Rattle.member_effects.specs.declared.told.Told.{Told}
use Rattle.member_resources.specs.Held.{Held, begun, with_marks}
use Rattle.member_resources.specs.Events as event
use Rattle.member_resources.specs.Events.{Ends, Runs, SettlesAs, holder_in, waits_in}
use Rattle.member_resources.specs.Lending.{lent_bytes, lent_of, with_bytes}
use Rattle.member_resources.specs.Prepared.{Reserves}
use Rattle.member_resources.specs.Settled.{unsent}
use Rattle.restart_marks.specs.declared.adopt.Adopted.{Adopted}
use Rattle.group_member.specs.declared.rebuilding.Rebuilding.{Rebuilding}
use Rattle.group_member.specs.declared.restarting.Restarting.{Restarting}
use Rattle.group_member.specs.declared.stepped.Stepped.{Stepped}
use Rattle.group_member.specs.declared.stepped.Stepped.TheVariants as steps
use Rattle.group_member.specs.Adopting.{Adopts, AdoptsAll}
use Rattle.group_member.specs.Happening.{Acts, AdoptsLeft, GoesOn, Makes, RebuildEnds, RestartEnds, Tells}
use Rattle.group_member.specs.Members.{Member}
use Rattle.group_member.specs.Resting.{changes_locks, touches_pages}
use Rattle.group_member.specs.Stepping.{is_failure}
use Rattle.page_members.specs.Members.{leaves_pages}
use Rattle.page_owners.specs.Casting.{CastsNothing, DownCastsNone, RestsKeepCast, SameCast}
use Rattle.page_owners.specs.Resting.{casts_out}
use Rattle.page_owners.proofs.InX.{is_lawful}
use Rattle.page_owners.proofs.Resting.{Commands, Nothing, Quietly, quiet}

itself : (h : Held) → SameCast h h
itself h = record { cast = refl; buffer = refl }

same_as : (h k : Held) → k ≡ h → SameCast h k
same_as h k e = subst (λ z. SameCast h z) (sym e) (itself h)

marks_as : (h k : Held) (s : MarksState) → k ≡ with_marks h s → SameCast h k
marks_as h k s e = subst (λ z. SameCast h z) (sym e) (record { cast = refl; buffer = refl })

same_on : (h k l : Held) → SameCast h k → SameCast k l → SameCast h l
same_on h k l a b = record { cast = b.cast ∙ a.cast; buffer = b.buffer ∙ a.buffer }

-- ---- what is lent isn't the castout's buffer
as_spare : (h k : Held) (page : List ℕ) → k ≡ record h { spare = page } → SameCast h k
as_spare h k page e = subst (λ z. SameCast h z) (sym e) (record { cast = refl; buffer = refl })

never : {A : Type 0} → false ≡ true → A
never e = absurd (cc e)

lent_keeps : (h k : Held) (c : Command) (page : List ℕ) → leaves_pages c ≡ true → k ≡ with_bytes h (lent_of h c) page → SameCast h k
lent_keeps h k (command.Obtain n mode) page leaves e = as_spare h k page e
lent_keeps h k (command.Grant slot n mode) page leaves e = as_spare h k page e
lent_keeps h k (command.Release n keeps) page leaves e = as_spare h k page e
lent_keeps h k (command.Purge n) page leaves e = as_spare h k page e
lent_keeps h k (command.RetainedAt n) page leaves e = as_spare h k page e
lent_keeps h k (command.Read id index) page leaves e = never leaves
lent_keeps h k (command.Write id index) page leaves e = never leaves
lent_keeps h k (command.Unregister index) page leaves e = never leaves
lent_keeps h k (command.Test index) page leaves e = as_spare h k page e
lent_keeps h k (command.CastoutRead id) page leaves e = never leaves
lent_keeps h k (command.CastoutDone id) page leaves e = never leaves
lent_keeps h k (command.NextChanged past) page leaves e = as_spare h k page e
lent_keeps h k command.Lose page leaves e = never leaves
lent_keeps h k command.Rebuilt page leaves e = never leaves
lent_keeps h k (command.Ask slot to n mode) page leaves e = as_spare h k page e
lent_keeps h k (command.Take past) page leaves e = as_spare h k page e
lent_keeps h k (command.Answer asker n mode said event) page leaves e = as_spare h k page e
lent_keeps h k (command.Answers slot) page leaves e = as_spare h k page e
lent_keeps h k (command.Wait tran holder flag) page leaves e = as_spare h k page e
lent_keeps h k (command.Unwait tran) page leaves e = as_spare h k page e
lent_keeps h k command.Waits page leaves e = as_spare h k page e
lent_keeps h k (command.End tran) page leaves e = as_spare h k page e
lent_keeps h k (command.Raise flag) page leaves e = as_spare h k page e
lent_keeps h k (command.Flag flag) page leaves e = as_spare h k page e
lent_keeps h k (command.SetStatus status) page leaves e = never leaves
lent_keeps h k (command.Status member) page leaves e = as_spare h k page e
lent_keeps h k command.Claim page leaves e = as_spare h k page e
lent_keeps h k command.Unclaim page leaves e = as_spare h k page e
lent_keeps h k command.PhaseDone page leaves e = as_spare h k page e
lent_keeps h k (command.Draw indexes) page leaves e = never leaves
lent_keeps h k (command.DrawUndo indexes) page leaves e = never leaves

-- ---- what is settled
record Keeps (i : Intent) : Type 0 where
  unsent : (h : Held) → SameCast h (unsent h i)
  reserves : (h k : Held) → Reserves i h k → k ≡ h
  settles : (h k : Held) (p : Plan) (waits : List Wait) (cells : List Cell) (answer : Reply) (place : ℕ) (told : Told) → SettlesAs (waits_in i) h i p waits cells answer place told k → SameCast h k

wrong : {A : Type 0} → true ≡ false → A
wrong e = absurd (cc e)

keeps : (i : Intent) → changes_locks i ≡ false → touches_pages i ≡ false → casts_out i ≡ false → Keeps i
keeps intent.Step locks leaves uncast = record { unsent = λ h. itself h; reserves = λ h k e. e; settles = λ h k p waits cells answer place said e. same_as h k e.1 }
keeps (intent.Obtain o n m) locks leaves uncast = wrong locks
keeps (intent.Grant o n m) locks leaves uncast = wrong locks
keeps (intent.Ask o to n m) locks leaves uncast = record { unsent = λ h. itself h; reserves = λ h k e. e; settles = λ h k p waits cells answer place said e. same_as h k e.1 }
keeps (intent.Answers o n m asked) locks leaves uncast = record { unsent = λ h. itself h; reserves = λ h k e. e; settles = λ h k p waits cells answer place said e. marks_as h k (answered_after h.marks o n m asked cells) e.1 }
keeps (intent.Status member) locks leaves uncast = record { unsent = λ h. itself h; reserves = λ h k e. e; settles = λ h k p waits cells answer place said e. same_as h k e.1 }
keeps (intent.Take past) locks leaves uncast = record { unsent = λ h. itself h; reserves = λ h k e. e; settles = λ h k p waits cells answer place said e. same_as h k e.1 }
keeps (intent.Answer asker n m) locks leaves uncast = record { unsent = λ h. itself h; reserves = λ h k e. e; settles = λ h k p waits cells answer place said e. same_as h k e.1 }
keeps (intent.ReleaseLock o) locks leaves uncast = wrong locks
keeps (intent.ReleasePage page) locks leaves uncast = wrong locks
keeps (intent.Purge n) locks leaves uncast = wrong locks
keeps (intent.End o) locks leaves uncast = wrong locks
keeps (intent.Wait slot by flag) locks leaves uncast = record { unsent = λ h. itself h; reserves = λ h k e. e; settles = λ h k p waits cells answer place said e. same_as h k e.1 }
keeps (intent.Unwait slot) locks leaves uncast = record { unsent = λ h. itself h; reserves = λ h k e. e; settles = λ h k p waits cells answer place said e. same_as h k e.1 }
keeps (intent.Waits slots) locks leaves uncast = record { unsent = λ h. itself h; reserves = λ h k e. e; settles = λ h k p waits cells answer place said e. marks_as h k k.marks e.1 }
keeps (intent.Flag flag) locks leaves uncast = record { unsent = λ h. itself h; reserves = λ h k e. e; settles = λ h k p waits cells answer place said e. same_as h k e.1 }
keeps (intent.Raise flag) locks leaves uncast = record { unsent = λ h. itself h; reserves = λ h k e. e; settles = λ h k p waits cells answer place said e. same_as h k e.1 }
keeps intent.LoseCache locks leaves uncast = wrong leaves
keeps (intent.Read at) locks leaves uncast = wrong leaves
keeps (intent.ReadPage at) locks leaves uncast = wrong leaves
keeps (intent.Test at slot gives) locks leaves uncast = wrong leaves
keeps (intent.WritePage at) locks leaves uncast = wrong leaves
keeps (intent.Unregister at) locks leaves uncast = wrong leaves
keeps (intent.Change slot action frames) locks leaves uncast = wrong leaves
keeps (intent.Undo o at) locks leaves uncast = wrong leaves
keeps (intent.Commit slot) locks leaves uncast = wrong leaves
keeps intent.Append locks leaves uncast = wrong leaves
keeps (intent.NextChanged past) locks leaves uncast = record { unsent = λ h. itself h; reserves = λ h k e. e; settles = λ h k p waits cells answer place said e. same_as h k e.1 }
keeps (intent.CastoutRead page) locks leaves uncast = wrong uncast
keeps intent.CastoutWrite locks leaves uncast = wrong uncast
keeps intent.CastoutDone locks leaves uncast = wrong uncast
keeps intent.PhaseDone locks leaves uncast = record { unsent = λ h. itself h; reserves = λ h k e. e; settles = λ h k p waits cells answer place said e. same_as h k e.1 }

ran_keeps : (u v : event.World) (h k : Held) (i : Intent) (s : Sent) (p : Plan) (place : ℕ) (a : Answered) (told : Told) → Keeps i → Quietly s → Runs u h i s p place a told v k → SameCast h k
ran_keeps u v h k i s p place a told x (Nothing e) r =
    let q = subst (λ z. Runs u h i z p place a told v k) e r in
    same_on h (unsent h i) k (x.unsent h) (same_as (unsent h i) k q.held)
ran_keeps u v h k i s p place a told x (Commands c leaves e) r =
    let q = (subst (λ z. Runs u h i z p place a told v k) e r).0 in
    same_on h q.after k (lent_keeps h q.after c (lent_bytes q.after (lent_of h c)) leaves q.gives.executed.back) (x.settles q.after k p _ _ q.answer place told q.settles)

-- the policy's local moves
ends_keep : (h k : Held) → Ends h k → SameCast h k
ends_keep h k e = marks_as h k k.marks e.1

told_keeps : (h k : Held) (place : ℕ) → Tells h place k → SameCast h k
told_keeps h k place e = same_on h (begun h place) k (record { cast = refl; buffer = refl }) (ends_keep (begun h place) k e)

-- ---- each kind of event
acts_keep : SendsLawfully → (m n : Member) (u v : event.World) (place : ℕ) (s : Sent) (a : Answered) → is_some m.restart ≡ true → (acts : Acts m u place s a v n) → casts_out acts.intent ≡ false → SameCast m.holds n.holds
acts_keep lawful m n u v place s a rests acts uncast =
    let h = m.holds in
    let i = acts.intent in
    let e = acts.happens in
    let x = keeps i (acts.rests rests) (acts.leaves rests) uncast in
    let now = begun e.ready place in
    let ready : SameCast h now = same_on h e.ready now (same_as h e.ready (x.reserves h e.ready e.reserves)) (record { cast = refl; buffer = refl }) in
    let sends = quiet h place (holder_in u.facility h.cast) s i (acts.leaves rests) uncast (is_lawful lawful u h i place s e.plan e.lawful) in
    let ran = ran_keeps u v now e.after i s e.plan place a e.said x sends e.runs in
    let left : SameCast h acts.after = same_on h e.after acts.after (same_on h now e.after ready ran) (ends_keep e.after acts.after e.ends) in
    subst (λ (z : Member). SameCast m.holds z.holds) (sym acts.member) left

adopts_keep : (h k : Held) (by : ℕ) (ts : List OpenTran) → AdoptsAll h by ts k → SameCast h k
adopts_keep h k by [] e = same_as h k e
adopts_keep h k by (t ∷ ts) e = same_on h e.0 k (adopts_keep h e.0 by ts e.1) (one e.0 k by t e.2)
  where
    one : (h k : Held) (by : ℕ) (t : OpenTran) → Adopts h by t k → SameCast h k
    one h k by t e = subst (λ z. SameCast h z) (sym e.holds) (record { cast = refl; buffer = refl })

left_keeps : (o : Option Adopted) (h k : Held) → AdoptsLeft o h k → SameCast h k
left_keeps None h k e = same_as h k e
left_keeps (Some left) h k e = adopts_keep h k left.by left.trans e

on_keeps : (up : Bool) (q : Restarting) (h k : Held) (r : Option Restarting) → GoesOn up q h r k → SameCast h k
on_keeps true q h k r e = same_as h k e.1
on_keeps false q h k r e = left_keeps e.left h k e.adopts

restart_keeps : (failed : Bool) (q : Restarting) (m n : Member) (place : ℕ) → RestartEnds failed q m place n → SameCast m.holds n.holds
restart_keeps true q m n place e = subst (λ (z : Member). SameCast m.holds z.holds) (sym e) (itself m.holds)
restart_keeps false q m n place e =
    subst (λ (z : Member). SameCast m.holds z.holds) (sym e.member) (same_on m.holds e.left e.after (on_keeps q.resources.marks.is_up q m.holds e.left n.restart e.goes_on) (told_keeps e.left e.after place e.tells))

rebuild_keeps : (failed : Bool) (q : Rebuilding) (m n : Member) (place : ℕ) → RebuildEnds failed q m place n → SameCast m.holds n.holds
rebuild_keeps true q m n place e = subst (λ (z : Member). SameCast m.holds z.holds) (sym e) (itself m.holds)
rebuild_keeps false q m n place e = subst (λ (z : Member). SameCast m.holds z.holds) (sym e.member) (told_keeps m.holds e.after place e.tells)

makes_keep : SendsLawfully → (stepped : Stepped) (m n : Member) (u v : event.World) (place : ℕ) → is_some m.restart ≡ true → (e : Makes m u place stepped v n) → CastsNothing m u place stepped v n e → SameCast m.holds n.holds
makes_keep lawful (steps.Sent s a) m n u v place rests e uncast = acts_keep lawful m n u v place s a rests e uncast
makes_keep lawful (steps.Restart s a) m n u v place rests e uncast = restart_keeps (is_failure a) e.reached m n place e.ends
makes_keep lawful (steps.Rebuild s a) m n u v place rests e uncast = rebuild_keeps (is_failure a) e.reached m n place e.ends
makes_keep lawful steps.Failed m n u v place rests e uncast = absurd e

pub rests_keep_cast : SendsLawfully → RestsKeepCast
rests_keep_cast lawful m n u v f g place stepped rests e uncast =
    let mid = makes_keep lawful stepped m e.mid u v place rests e.makes uncast in
    subst (λ (z : Member). SameCast m.holds z.holds) (sym e.enters.member) (record { cast = mid.cast; buffer = mid.buffer })

pub down_casts_none : DownCastsNone
down_casts_none sizes m down = down.holds.cast
