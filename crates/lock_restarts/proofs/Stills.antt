-- Events of a restart that change neither locks, queries nor standings.
use Rattle.std.proofs.Common.{◌≡◌, ℕ, refl, sym, ◌∙◌, ap, subst, Bool, true, false, List, [], Ok}
use Rattle.ds_model.specs.declared.lock.Name.{Name}
use Rattle.ds_model.specs.declared.lock.Name.TheVariants as name
use Rattle.lock_names.specs.declared.mode.Mode.{Mode}
use Rattle.lock_names.specs.declared.mode.Mode.TheVariants.{X}
use Rattle.lock_names.specs.declared.mode.Interest.{Interest}
use Rattle.cache_structure.specs.Directory.{Directory}
use Rattle.list_structure.specs.declared.standing.MemberStatus.{MemberStatus}
use Rattle.list_structure.specs.declared.standing.MemberStatus.TheVariants.{Up}
use Rattle.facility.specs.declared.command.Command.{Command}
use Rattle.facility.specs.declared.command.Command.TheVariants as command
use Rattle.facility.specs.declared.command.Reply.{Reply}
use Rattle.facility.specs.Commands.{Executes}
use Rattle.facility.specs.States.{Held as Facility}
use Rattle.member_intents.specs.declared.outcome.Answered.{Answered}
use Rattle.restart_marks.specs.declared.intent.RestartIntent.{RestartIntent}
use Rattle.restart_marks.specs.declared.intent.RestartIntent.TheVariants as intent
use Rattle.restart_marks.specs.declared.intent.RestartSent.{RestartSent}
use Rattle.restart_marks.specs.declared.intent.RestartSent.TheVariants as sent
use Rattle.restart_marks.specs.declared.told.RestartTold.{RestartTold}
use Rattle.restart_marks.specs.Needs.{need_of}
use Rattle.restart_marks.specs.State.{RestartState}
use Rattle.restart_resources.specs.Events as event
use Rattle.restart_resources.specs.Events.{Happens, Runs}
use Rattle.restart_resources.specs.Held.{Held}
use Rattle.restart_resources.specs.Lending.{is_hand, lent_bytes}
use Rattle.restart_resources.specs.Settled.{settled}
use Rattle.lock_protocol.specs.Machine.{no_interest}
use Rattle.lock_world.specs.Standing.{StaysTied}
use Rattle.lock_world.specs.Tied.{Moved}
use Rattle.lock_world.specs.Views.{entry_in}
use Rattle.lock_restarts.specs.Changes.{gone_by}
use Rattle.lock_restarts.specs.Events.{StillsStay}
use Rattle.lock_restarts.specs.Sent.{IsStill, Sends, SendsLawfully, is_still}
use Rattle.lock_restarts.specs.Stands.{LocalsStay, SameClaim}
use Rattle.lock_restarts.proofs.Courses.{lists_read, name_purged, page_purged}
use Rattle.lock_restarts.proofs.Near.{lists, near, near_same, reads, tests, undoes}
use Rattle.lock_restarts.proofs.Reading.{calls}
use Rattle.lock_restarts.proofs.Spares.{no_move}
use Rattle.lock_restarts.proofs.Stands.{ended, same_marks, stay_claims}

pub never : false ≡ true → ⊥
never e = cc

-- ---- the facility
pub record Quiet (f g : Facility) : Type 0 where
  pub locks : g.locks ≡ f.locks
  pub cells : g.lists.cells ≡ f.lists.cells
  pub statuses : g.lists.statuses ≡ f.lists.statuses
  pub members : g.lists.members ≡ f.lists.members

pub quiet_same : (f g : Facility) → g ≡ f → Quiet f g
quiet_same f g e = subst (λ z. Quiet f z) (sym e) (record { locks = refl; cells = refl; statuses = refl; members = refl })

quiet_directory : (f g : Facility) (d : Directory) → g ≡ record f { directory = d } → Quiet f g
quiet_directory f g d e = subst (λ z. Quiet f z) (sym e) (record { locks = refl; cells = refl; statuses = refl; members = refl })

quiet_counter : (f g : Facility) (n : ℕ) → g ≡ record f { counter = n } → Quiet f g
quiet_counter f g n e = subst (λ z. Quiet f z) (sym e) (record { locks = refl; cells = refl; statuses = refl; members = refl })

still_command : (f g : Facility) (m : ℕ) (c : Command) (page back : List ℕ) (answer : Reply) → is_still c ≡ true → Executes f m c page answer g back → Quiet f g
still_command f g m (command.Obtain n mode) page back answer still e = absurd (never still)
still_command f g m (command.Grant slot n mode) page back answer still e = absurd (never still)
still_command f g m (command.Release n keeps) page back answer still e = absurd (never still)
still_command f g m (command.Purge n) page back answer still e = absurd (never still)
still_command f g m (command.RetainedAt n) page back answer still e = quiet_same f g e.0.1
still_command f g m (command.Read id index) page back answer still e = quiet_directory f g _ e.1
still_command f g m (command.Write id index) page back answer still e = quiet_directory f g _ e.0.1
still_command f g m (command.Unregister index) page back answer still e = quiet_directory f g _ e.0.1
still_command f g m (command.Test index) page back answer still e = quiet_same f g e.0.1
still_command f g m (command.CastoutRead id) page back answer still e = absurd (never still)
still_command f g m (command.CastoutDone id) page back answer still e = absurd (never still)
still_command f g m (command.NextChanged past) page back answer still e = absurd (never still)
still_command f g m command.Lose page back answer still e = absurd (never still)
still_command f g m command.Rebuilt page back answer still e = absurd (never still)
still_command f g m (command.Ask slot to n mode) page back answer still e = absurd (never still)
still_command f g m (command.Take past) page back answer still e = absurd (never still)
still_command f g m (command.Answer asker n mode said event) page back answer still e = absurd (never still)
still_command f g m (command.Answers slot) page back answer still e = quiet_same f g e.0.1
still_command f g m (command.Wait tran holder flag) page back answer still e = absurd (never still)
still_command f g m (command.Unwait tran) page back answer still e = absurd (never still)
still_command f g m command.Waits page back answer still e = absurd (never still)
still_command f g m (command.End tran) page back answer still e = absurd (never still)
still_command f g m (command.Raise flag) page back answer still e = absurd (never still)
still_command f g m (command.Flag flag) page back answer still e = absurd (never still)
still_command f g m (command.SetStatus status) page back answer still e = absurd (never still)
still_command f g m (command.Status member) page back answer still e = quiet_same f g e.0.1
still_command f g m command.Claim page back answer still e = absurd (never still)
still_command f g m command.Unclaim page back answer still e = absurd (never still)
still_command f g m command.PhaseDone page back answer still e = absurd (never still)
still_command f g m (command.Draw indexes) page back answer still e = absurd (never still)
still_command f g m (command.DrawUndo indexes) page back answer still e = quiet_counter f g _ e.0.1

pub still_runs : (u v : event.World) (h k : Held) (i : RestartIntent) (x : RestartSent) (a : Answered) (said : RestartTold) → IsStill x → Runs u h i x a said v k → Quiet u.facility v.facility
still_runs u v h k i sent.None a said still r = quiet_same u.facility v.facility (ap (λ (z : event.World). z.facility) r.world)
still_runs u v h k i (sent.Command c) a said still r =
    still_command u.facility v.facility h.marks.member c (lent_bytes h (is_hand h c)) (lent_bytes r.0.after (is_hand h c)) r.0.answer still r.0.gives.executed.executes
still_runs u v h k i sent.LogLength a said still r = quiet_same u.facility v.facility r.1
still_runs u v h k i (sent.ReadLog at count) a said still r = quiet_same u.facility v.facility r.1
still_runs u v h k i (sent.CutLog long) a said still r = quiet_same u.facility v.facility r.1
still_runs u v h k i sent.AppendLog a said still r = quiet_same u.facility v.facility r.1
still_runs u v h k i (sent.ReadPage page) a said still r = quiet_same u.facility v.facility r.1

-- ---- the restart

-- commands that neither claim a page, give one up nor set a standing
pub record Mild (f : Command → Bool) : Type 0 where
  pub obtain : (n : Name) (mode : Mode) → f (command.Obtain n mode) ≡ false
  pub grant : (slot : ℕ) (n : Name) (mode : Mode) → f (command.Grant slot n mode) ≡ false
  pub release : (n : Name) (keeps : Interest) → f (command.Release n keeps) ≡ false
  pub status : (status : MemberStatus) → f (command.SetStatus status) ≡ false

abbrev pub IsMild : (Command → Bool) → RestartSent → Type 0
IsMild f (sent.Command c) = f c ≡ true
IsMild f _ = Unit {0}

against : (f : Command → Bool) (c d : Command) → f c ≡ true → sent.Command c ≡ sent.Command d → f d ≡ false → ⊥
against f c d is e isnt = never (sym isnt ∙ subst (λ z. IsMild f z) e is)

itself : (s : RestartState) → SameClaim s s
itself s = near_same s s (near s)

mild_settles : (f : Command → Bool) (mild : Mild f) (h : Held) (i : RestartIntent) (c : Command) (answer : Reply) → f c ≡ true → need_of h.marks i ≡ Ok (sent.Command c) → Sends h.marks i (sent.Command c) → SameClaim h.marks (settled h i answer).marks
mild_settles f mild h intent.Step c answer is e sends = itself h.marks
mild_settles f mild h intent.ReadLog c answer is e sends = itself h.marks
mild_settles f mild h intent.CutTail c answer is e sends = itself h.marks
mild_settles f mild h intent.RetainedAt c answer is e sends = near_same h.marks (settled h intent.RetainedAt answer).marks (lists h.marks answer (lists_read h.marks (sent.Command c) e))
mild_settles f mild h intent.Read c answer is e sends = near_same h.marks (settled h intent.Read answer).marks (reads h answer)
mild_settles f mild h intent.ReadPage c answer is e sends = itself h.marks
mild_settles f mild h intent.Test c answer is e sends = near_same h.marks (settled h intent.Test answer).marks (tests h answer)
mild_settles f mild h intent.WritePage c answer is e sends = near_same h.marks (settled h intent.WritePage answer).marks (near h.marks)
mild_settles f mild h intent.PurgePage c answer is e sends = near_same h.marks (settled h intent.PurgePage answer).marks (page_purged h.marks answer)
mild_settles f mild h (intent.Purge n) c answer is e sends = near_same h.marks (settled h (intent.Purge n) answer).marks (name_purged h.marks n answer)
mild_settles f mild h intent.Append c answer is e sends = itself h.marks
mild_settles f mild h (intent.Obtain id) c answer is e sends = absurd (against f c (command.Obtain (name.Page sends.0) X) is sends.1 (mild.obtain (name.Page sends.0) X))
mild_settles f mild h (intent.Ask id to) c answer is e sends = itself h.marks
mild_settles f mild h (intent.Answers id asked) c answer is e sends = itself h.marks
mild_settles f mild h (intent.Grant id) c answer is e sends = absurd (against f c (command.Grant 0 (name.Page sends.0) X) is sends.1 (mild.grant 0 (name.Page sends.0) X))
mild_settles f mild h (intent.Status m) c answer is e sends = itself h.marks
mild_settles f mild h (intent.Undo id) c answer is e sends = near_same h.marks (settled h (intent.Undo id) answer).marks (undoes h id answer)
mild_settles f mild h intent.ReleasePage c answer is e sends = absurd (against f c (command.Release (name.Page sends.0) no_interest) is sends.1 (mild.release (name.Page sends.0) no_interest))
mild_settles f mild h intent.Unregister c answer is e sends = itself h.marks
mild_settles f mild h intent.Up c answer is e sends = absurd (against f c (command.SetStatus Up) is sends.0 (mild.status Up))

mild_from : (f : Command → Bool) (mild : Mild f) (law : SendsLawfully) (h k : Held) (i : RestartIntent) (c : Command) (answer : Reply) → f c ≡ true → k.marks ≡ h.marks → need_of h.marks i ≡ Ok (sent.Command c) → SameClaim h.marks (settled k i answer).marks
mild_from f mild law h k i c answer is same e =
    let lawful : need_of k.marks i ≡ Ok (sent.Command c) = ap (λ (z : RestartState). need_of z i) same ∙ e in
    subst (λ (z : RestartState). SameClaim z (settled k i answer).marks) same (mild_settles f mild k i c answer is lawful (law k.marks i (sent.Command c) lawful))

pub mild_runs : (f : Command → Bool) (mild : Mild f) (law : SendsLawfully) (u v : event.World) (h k : Held) (i : RestartIntent) (x : RestartSent) (a : Answered) (said : RestartTold) → IsMild f x → need_of h.marks i ≡ Ok x → Runs u h i x a said v k → SameClaim h.marks k.marks
mild_runs f mild law u v h k i sent.None a said is lawful r = subst (λ (z : Held). SameClaim h.marks z.marks) (sym r.held) (itself h.marks)
mild_runs f mild law u v h k i (sent.Command c) a said is lawful r =
    subst (λ (z : Held). SameClaim h.marks z.marks) (sym r.0.settles)
    (mild_from f mild law h r.0.after i c r.0.answer is (same_marks h r.0.after (is_hand h c) (lent_bytes r.0.after (is_hand h c)) r.0.gives.executed.back) lawful)
mild_runs f mild law u v h k i sent.LogLength a said is lawful r = (calls u.drive v.drive h k sent.LogLength a said r.0).same
mild_runs f mild law u v h k i (sent.ReadLog at count) a said is lawful r = (calls u.drive v.drive h k (sent.ReadLog at count) a said r.0).same
mild_runs f mild law u v h k i (sent.CutLog long) a said is lawful r = (calls u.drive v.drive h k (sent.CutLog long) a said r.0).same
mild_runs f mild law u v h k i sent.AppendLog a said is lawful r = (calls u.drive v.drive h k sent.AppendLog a said r.0).same
mild_runs f mild law u v h k i (sent.ReadPage page) a said is lawful r = (calls u.drive v.drive h k (sent.ReadPage page) a said r.0).same

pub still_mild : Mild is_still
still_mild = record { obtain = λ n mode. refl; grant = λ slot n mode. refl; release = λ n keeps. refl; status = λ status. refl }

pub mild_still : (x : RestartSent) → IsStill x → IsMild is_still x
mild_still sent.None e = tt
mild_still (sent.Command c) e = e
mild_still sent.LogLength e = tt
mild_still (sent.ReadLog at count) e = tt
mild_still (sent.CutLog long) e = tt
mild_still sent.AppendLog e = tt
mild_still (sent.ReadPage page) e = tt

-- ---- the event
pub record Facts : Type 0 where
  pub lawful : SendsLawfully
  pub local : LocalsStay
  pub stay : StaysTied

pub stills_stay : Facts → StillsStay
stills_stay facts w u v held left own h k x a tied knows still e leads =
    let q = still_runs u v h e.after e.intent x a e.said still e.runs in
    let runs = mild_runs is_still still_mild facts.lawful u v h e.after e.intent x a e.said (mild_still x still) e.lawful e.runs in
    let ends = facts.local e.after.marks k.marks e.ends.0 in
    let moved : Moved w [] u.facility.locks v.facility.locks v.facility.lists left =
    ended facts.stay w [] u.facility.locks u.facility.locks u.facility.lists v.facility held left
    (facts.stay w u.facility.locks u.facility.lists u.facility.lists held held tied (record { cells = refl; statuses = refl; members = refl; claims = λ k o c. refl }))
    q.locks q.cells q.statuses q.members (stay_claims held left own h.marks k.marks knows leads (ends.claim ∙ runs.claim)) in
    record { moves = []; own = tt; moved = moved; spares = no_move (entry_in u.facility.locks) w moved.world h.marks.member (gone_by x) moved.run }
