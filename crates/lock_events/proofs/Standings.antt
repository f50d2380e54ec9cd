-- What each command leaves of the standings.
use Rattle.std.proofs.Common.{◌≡◌, ℕ, refl, sym, ap, subst, Bool, true, false, List, Result, Ok, Err}
use Rattle.std.specs.Prelude.{if◌then◌else◌, ◌==◌}
use Rattle.std.proofs.lemmas.Bool.{cond_both}
use Rattle.ds_model.specs.declared.lock.Name.{Name}
use Rattle.lock_names.specs.declared.mode.Mode.{Mode}
use Rattle.list_structure.specs.declared.query.Asker.{Asker}
use Rattle.list_structure.specs.declared.query.CellAnswer.{CellAnswer}
use Rattle.list_structure.specs.States.{ListsState}
use Rattle.facility.specs.declared.command.Command.{Command}
use Rattle.facility.specs.declared.command.Command.TheVariants as command
use Rattle.facility.specs.declared.command.Reply.{Reply}
use Rattle.facility.specs.declared.command.Reply.TheVariants as reply
use Rattle.facility.specs.Commands.{Executes}
use Rattle.facility.specs.ListCommands.{AnswersQuery}
use Rattle.facility.specs.States.{Held as Facility}
use Rattle.member_intents.specs.declared.intent.Intent.{Intent}
use Rattle.member_intents.specs.declared.intent.Intent.TheVariants as intent
use Rattle.member_intents.specs.declared.outcome.Answered.{Answered}
use Rattle.member_intents.specs.declared.outcome.Sent.{Sent}
use Rattle.member_intents.specs.declared.outcome.Sent.TheVariants as sent
use Rattle.member_marks.specs.State.{MarksState, id_of}
use Rattle.member_needs.specs.Castout.{done}
use Rattle.member_needs.specs.Needs.{need_of}
use Rattle.member_needs.specs.Plans.{intent_plan}
use Rattle.member_needs.specs.declared.needs.Setting.{Setting}
use Rattle.member_needs.specs.declared.plans.Plan.{Plan}
use Rattle.member_effects.specs.declared.told.Told.{Told}
use Rattle.needs_law.specs.Lawful.{Lawful, SendsLawfully}
use Rattle.member_resources.specs.Events.{World, Runs, holder_in}
use Rattle.member_resources.specs.Held.{Held, begun}
use Rattle.member_resources.specs.Prepared.{setting_of}
use Rattle.lock_events.specs.Standings.{SameStandings, StandingsStay}
use Rattle.lock_events.specs.Quiet.{Quiet, SameLists, is_quiet}
use Rattle.lock_events.proofs.Quiet.{quiet_command}
use Rattle.lock_events.proofs.Events.{needs_sent}

same_by : (f g l : ListsState) → g ≡ l → SameStandings f l → SameStandings f g
same_by f g l e s = subst (λ z. SameStandings f z) (sym e) s

same_in : (f g h : Facility) → g ≡ h → SameStandings f.lists h.lists → SameStandings f.lists g.lists
same_in f g h e s = subst (λ (z : Facility). SameStandings f.lists z.lists) (sym e) s

both : (f g : ListsState) → g.statuses ≡ f.statuses → g.members ≡ f.members → SameStandings f g
both f g statuses members = record { statuses = statuses; members = members }

by_quiet : (f g : Facility) → Quiet f g → SameStandings f.lists g.lists
by_quiet f g q = record { statuses = q.lists.statuses; members = q.lists.members }

answers_same : (f g : Facility) (m : ℕ) (asker : Asker) (n : Name) (mode : Mode) (said : CellAnswer) (event : ℕ) (answer : Reply) → AnswersQuery f m asker n mode said event answer g → SameStandings f.lists g.lists
answers_same f g m asker n mode said event (reply.Granted version) e = absurd e
answers_same f g m asker n mode said event (reply.Retained by) e = absurd e
answers_same f g m asker n mode said event (reply.RecordsFull limit) e = absurd e
answers_same f g m asker n mode said event (reply.Contention share exclusive version) e = absurd e
answers_same f g m asker n mode said event (reply.Moved version) e = absurd e
answers_same f g m asker n mode said event (reply.RetainedLock other least) e = absurd e
answers_same f g m asker n mode said event reply.Done e = same_in f g _ e.1.1 (both f.lists _ refl refl)
answers_same f g m asker n mode said event reply.Nothing e = absurd e
answers_same f g m asker n mode said event reply.Found e = absurd e
answers_same f g m asker n mode said event reply.NoData e = absurd e
answers_same f g m asker n mode said event reply.CacheFull e = absurd e
answers_same f g m asker n mode said event reply.Lost e = absurd e
answers_same f g m asker n mode said event reply.Written e = absurd e
answers_same f g m asker n mode said event reply.Valid e = absurd e
answers_same f g m asker n mode said event reply.Invalid e = absurd e
answers_same f g m asker n mode said event reply.Taken e = absurd e
answers_same f g m asker n mode said event reply.NotChanged e = absurd e
answers_same f g m asker n mode said event (reply.Locked by) e = absurd e
answers_same f g m asker n mode said event reply.NotHeld e = absurd e
answers_same f g m asker n mode said event (reply.ChangedPage page) e = absurd e
answers_same f g m asker n mode said event (reply.Query query) e = absurd e
answers_same f g m asker n mode said event reply.Gone e = same_in f g f e.1 (both f.lists f.lists refl refl)
answers_same f g m asker n mode said event reply.Cells e = absurd e
answers_same f g m asker n mode said event reply.Waits e = absurd e
answers_same f g m asker n mode said event reply.Raised e = absurd e
answers_same f g m asker n mode said event reply.NotRaised e = absurd e
answers_same f g m asker n mode said event (reply.Status status) e = absurd e
answers_same f g m asker n mode said event reply.NotLost e = absurd e
answers_same f g m asker n mode said event (reply.ClaimTaken by) e = absurd e
answers_same f g m asker n mode said event reply.Claimed e = absurd e
answers_same f g m asker n mode said event (reply.Drawn lrsn) e = absurd e
answers_same f g m asker n mode said event (reply.Stale index) e = absurd e
answers_same f g m asker n mode said event (reply.LrsnEnd at) e = absurd e

-- but for a member that is up again
abbrev pub sets_status : Command → Bool
sets_status (command.Obtain n mode) = false
sets_status (command.Grant slot n mode) = false
sets_status (command.Release n keeps) = false
sets_status (command.Purge n) = false
sets_status (command.RetainedAt n) = false
sets_status (command.Read id index) = false
sets_status (command.Write id index) = false
sets_status (command.Unregister index) = false
sets_status (command.Test index) = false
sets_status (command.CastoutRead id) = false
sets_status (command.CastoutDone id) = false
sets_status (command.NextChanged past) = false
sets_status command.Lose = false
sets_status command.Rebuilt = false
sets_status (command.Ask slot to n mode) = false
sets_status (command.Take past) = false
sets_status (command.Answer asker n mode said event) = false
sets_status (command.Answers slot) = false
sets_status (command.Wait tran holder flag) = false
sets_status (command.Unwait tran) = false
sets_status command.Waits = false
sets_status (command.End tran) = false
sets_status (command.Raise flag) = false
sets_status (command.Flag flag) = false
sets_status (command.SetStatus status) = true
sets_status (command.Status member) = false
sets_status command.Claim = false
sets_status command.Unclaim = false
sets_status command.PhaseDone = false
sets_status (command.Draw indexes) = false
sets_status (command.DrawUndo indexes) = false

pub standings_command : (f g : Facility) (m : ℕ) (c : Command) (page after : List ℕ) (answer : Reply) → sets_status c ≡ false → Executes f m c page answer g after → SameStandings f.lists g.lists
standings_command f g m (command.Obtain n mode) page after answer none e = same_in f g _ e.0.1 (both f.lists f.lists refl refl)
standings_command f g m (command.Grant slot n mode) page after answer none e = same_in f g _ e.0.2 (both f.lists _ refl refl)
standings_command f g m (command.Release n keeps) page after answer none e = same_in f g _ e.0.2 (both f.lists _ refl refl)
standings_command f g m (command.Purge n) page after answer none e = same_in f g _ e.0.2 (both f.lists _ refl refl)
standings_command f g m (command.RetainedAt n) page after answer none e = by_quiet f g (quiet_command f g m (command.RetainedAt n) page after answer refl e)
standings_command f g m (command.Read id index) page after answer none e = by_quiet f g (quiet_command f g m (command.Read id index) page after answer refl e)
standings_command f g m (command.Write id index) page after answer none e = by_quiet f g (quiet_command f g m (command.Write id index) page after answer refl e)
standings_command f g m (command.Unregister index) page after answer none e = by_quiet f g (quiet_command f g m (command.Unregister index) page after answer refl e)
standings_command f g m (command.Test index) page after answer none e = by_quiet f g (quiet_command f g m (command.Test index) page after answer refl e)
standings_command f g m (command.CastoutRead id) page after answer none e = by_quiet f g (quiet_command f g m (command.CastoutRead id) page after answer refl e)
standings_command f g m (command.CastoutDone id) page after answer none e = by_quiet f g (quiet_command f g m (command.CastoutDone id) page after answer refl e)
standings_command f g m (command.NextChanged past) page after answer none e = by_quiet f g (quiet_command f g m (command.NextChanged past) page after answer refl e)
standings_command f g m command.Lose page after answer none e = by_quiet f g (quiet_command f g m command.Lose page after answer refl e)
standings_command f g m command.Rebuilt page after answer none e = by_quiet f g (quiet_command f g m command.Rebuilt page after answer refl e)
standings_command f g m (command.Ask slot to n mode) page after answer none e = same_in f g _ e.0.1.1 (both f.lists _ refl refl)
standings_command f g m (command.Take past) page after answer none e = by_quiet f g (quiet_command f g m (command.Take past) page after answer refl e)
standings_command f g m (command.Answer asker n mode said event) page after answer none e = answers_same f g m asker n mode said event answer e.0
standings_command f g m (command.Answers slot) page after answer none e = by_quiet f g (quiet_command f g m (command.Answers slot) page after answer refl e)
standings_command f g m (command.Wait tran holder flag) page after answer none e = by_quiet f g (quiet_command f g m (command.Wait tran holder flag) page after answer refl e)
standings_command f g m (command.Unwait tran) page after answer none e = by_quiet f g (quiet_command f g m (command.Unwait tran) page after answer refl e)
standings_command f g m command.Waits page after answer none e = by_quiet f g (quiet_command f g m command.Waits page after answer refl e)
standings_command f g m (command.End tran) page after answer none e = by_quiet f g (quiet_command f g m (command.End tran) page after answer refl e)
standings_command f g m (command.Raise flag) page after answer none e = by_quiet f g (quiet_command f g m (command.Raise flag) page after answer refl e)
standings_command f g m (command.Flag flag) page after answer none e = by_quiet f g (quiet_command f g m (command.Flag flag) page after answer refl e)
standings_command f g m (command.SetStatus status) page after answer none e = absurd cc
standings_command f g m (command.Status member) page after answer none e = by_quiet f g (quiet_command f g m (command.Status member) page after answer refl e)
standings_command f g m command.Claim page after answer none e = by_quiet f g (quiet_command f g m command.Claim page after answer refl e)
standings_command f g m command.Unclaim page after answer none e = by_quiet f g (quiet_command f g m command.Unclaim page after answer refl e)
standings_command f g m command.PhaseDone page after answer none e = by_quiet f g (quiet_command f g m command.PhaseDone page after answer refl e)
standings_command f g m (command.Draw indexes) page after answer none e = by_quiet f g (quiet_command f g m (command.Draw indexes) page after answer refl e)
standings_command f g m (command.DrawUndo indexes) page after answer none e = by_quiet f g (quiet_command f g m (command.DrawUndo indexes) page after answer refl e)

-- ---- what is sent sets none
abbrev pub SetsNone : Sent → Type 0
SetsNone sent.None = Unit {0}
SetsNone (sent.Command c) = sets_status c ≡ false
SetsNone sent.AppendLog = Unit {0}
SetsNone (sent.ReadPage page) = Unit {0}
SetsNone (sent.WritePage page) = Unit {0}

none_as : (s t : Sent) → s ≡ t → SetsNone t → SetsNone s
none_as s t e q = subst (λ z. SetsNone z) (sym e) q

sets_none : (s : MarksState) (pages : List (List ℕ)) (c : Setting) (i : Intent) (out : Sent) → Lawful s pages c i out → SetsNone out
sets_none s pages c intent.Step out lawful = none_as out _ lawful tt
sets_none s pages c (intent.Obtain o n m) out lawful = none_as out _ lawful.is refl
sets_none s pages c (intent.Grant o n m) out lawful = none_as out _ lawful.is refl
sets_none s pages c (intent.Ask o to n m) out lawful = none_as out _ lawful refl
sets_none s pages c (intent.Answers o n m asked) out lawful = none_as out _ lawful refl
sets_none s pages c (intent.Status member) out lawful = none_as out _ lawful refl
sets_none s pages c (intent.Take past) out lawful = none_as out _ lawful refl
sets_none s pages c (intent.Answer asker n m) out lawful = none_as out _ lawful.is refl
sets_none s pages c (intent.ReleaseLock o) out lawful = none_as out _ lawful.is refl
sets_none s pages c (intent.ReleasePage page) out lawful = none_as out _ lawful.is refl
sets_none s pages c (intent.Purge n) out lawful = none_as out _ lawful.is refl
sets_none s pages c (intent.End o) out lawful = none_as out _ lawful.is (cond_both ((id_of s o).number == 0) sent.None (sent.Command (command.End (id_of s o))) (λ z. SetsNone z) (λ e. tt) (λ e. refl))
sets_none s pages c (intent.Wait slot holder flag) out lawful = none_as out _ lawful.is refl
sets_none s pages c (intent.Unwait slot) out lawful = none_as out _ lawful.is refl
sets_none s pages c (intent.Waits slots) out lawful = none_as out _ lawful refl
sets_none s pages c (intent.Flag flag) out lawful = none_as out _ lawful refl
sets_none s pages c (intent.Raise flag) out lawful = none_as out _ lawful refl
sets_none s pages c intent.LoseCache out lawful = none_as out _ lawful refl
sets_none s pages c (intent.Read at) out lawful = none_as out _ lawful.is refl
sets_none s pages c (intent.ReadPage at) out lawful = none_as out _ lawful.is tt
sets_none s pages c (intent.Test at slot gives) out lawful = none_as out _ lawful.is refl
sets_none s pages c (intent.WritePage at) out lawful = none_as out _ lawful.is refl
sets_none s pages c (intent.Unregister at) out lawful = none_as out _ lawful.is refl
sets_none s pages c (intent.Change slot action frames) out lawful = none_as out _ lawful.is refl
sets_none s pages c (intent.Undo o at) out lawful = none_as out _ lawful.is refl
sets_none s pages c (intent.Commit slot) out lawful = none_as out _ lawful.is refl
sets_none s pages c intent.Append out lawful = none_as out _ lawful.is tt
sets_none s pages c (intent.NextChanged past) out lawful = none_as out _ lawful refl
sets_none s pages c (intent.CastoutRead page) out lawful = none_as out _ lawful refl
sets_none s pages c intent.CastoutWrite out lawful = none_as out _ lawful.is (cond_both c.is_holder (sent.WritePage lawful.cast.page) (done lawful.cast.page) (λ z. SetsNone z) (λ e. tt) (λ e. refl))
sets_none s pages c intent.CastoutDone out lawful = none_as out _ lawful.is refl
sets_none s pages c intent.PhaseDone out lawful = none_as out _ lawful refl

runs_same : (u v : World) (h k : Held) (i : Intent) (s : Sent) (p : Plan) (place : ℕ) (a : Answered) (told : Told) → SetsNone s → Runs u h i s p place a told v k → SameStandings u.facility.lists v.facility.lists
runs_same u v h k i sent.None p place a told none r = same_in u.facility v.facility u.facility (ap (λ (z : World). z.facility) r.world) (both u.facility.lists u.facility.lists refl refl)
runs_same u v h k i (sent.Command c) p place a told none r = standings_command u.facility v.facility h.marks.member c _ _ r.0.answer none r.0.gives.executed.executes
runs_same u v h k i sent.AppendLog p place a told none r = same_in u.facility v.facility u.facility r.1 (both u.facility.lists u.facility.lists refl refl)
runs_same u v h k i (sent.ReadPage page) p place a told none r = same_in u.facility v.facility u.facility r.1 (both u.facility.lists u.facility.lists refl refl)
runs_same u v h k i (sent.WritePage page) p place a told none r = same_in u.facility v.facility u.facility r.1 (both u.facility.lists u.facility.lists refl refl)

pub standings_stay : SendsLawfully → StandingsStay
standings_stay law u v h k i place s a happens =
    let c : Setting = setting_of h (holder_in u.facility h.cast) place in
    let may : Lawful h.marks h.pages c i s = law h.marks h.pages c i s (needs_sent (need_of h.marks h.pages c i) (intent_plan h.marks h.pages h.limit i) s happens.plan happens.lawful) in
    runs_same u v (begun happens.ready place) happens.after i s happens.plan place a happens.said (sets_none h.marks h.pages c i s may) happens.runs
