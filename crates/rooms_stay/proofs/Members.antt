-- What an event of any kind leaves of the frames and slots of its member, and of those that the cache structure knows.
use Rattle.std.proofs.Common.{◌≡◌, ℕ, refl, ◌∙◌, ap, Bool, true, false, inl, inr, List, [], ◌∷◌, Option, Some, None}
use Rattle.std.proofs.lemmas.Bool.{cases_Bool}
use Rattle.ds_base.specs.declared.names.Sizes.{Sizes}
use Rattle.ds_model.specs.declared.script.Script.{Script}
use Rattle.cache_structure.specs.Directory.{Directory}
use Rattle.facility.specs.States.{Held as Facility}
use Rattle.log_trans.specs.declared.opened.OpenTran.{OpenTran}
use Rattle.member_intents.specs.declared.intent.Intent.{Intent}
use Rattle.member_intents.specs.declared.outcome.Answered.{Answered}
use Rattle.member_intents.specs.declared.outcome.Sent.{Sent}
use Rattle.member_intents.specs.declared.outcome.Sent.TheVariants as sent
use Rattle.member_marks.specs.State.{MarksState}
use Rattle.member_effects.specs.Given.{Plan}
use Rattle.member_effects.specs.declared.told.Told.{Told}
use Rattle.member_resources.specs.Held.{Held, begun}
use Rattle.member_resources.specs.Lending.{lent_of, lent_bytes}
use Rattle.member_resources.specs.Events.{World, Runs}
use Rattle.member_marks.specs.Rollbacks.{after_adopt, with_room_of}
use Rattle.restart_marks.specs.declared.adopt.Adopted.{Adopted}
use Rattle.restart_marks.specs.declared.intent.RestartIntent.{RestartIntent}
use Rattle.restart_marks.specs.declared.told.RestartTold.{RestartTold}
use Rattle.restart_resources.specs.Events as restarting
use Rattle.restart_resources.specs.Held as restart
use Rattle.restart_resources.specs.Lending as bytes
use Rattle.rebuild_resources.specs.declared.intent.RebuildIntent.{RebuildIntent}
use Rattle.rebuild_resources.specs.declared.told.RebuildTold.{RebuildTold}
use Rattle.rebuild_resources.specs.Events as rebuilding
use Rattle.rebuild_resources.specs.State.{RebuildState}
use Rattle.script_fates.specs.Fated.{FatesState}
use Rattle.group_member.specs.declared.rebuilding.Rebuilding.{Rebuilding}
use Rattle.group_member.specs.declared.restarting.Restarting.{Restarting}
use Rattle.group_member.specs.declared.stepped.Stepped.{Stepped}
use Rattle.group_member.specs.declared.stepped.Stepped.TheVariants as steps
use Rattle.group_member.specs.Adopting.{AdoptsAll, changes_left, rows_left}
use Rattle.group_member.specs.Entering.{told_once}
use Rattle.group_member.specs.Happening.{AdoptsLeft, Comes, GoesOn, Makes, RebuildEnds, RebuildSent, RestartEnds, RestartSent, Steps, Tells, as_rebuilding, as_restarting}
use Rattle.group_member.specs.Happening.rebuild_sent as rebuild_sent
use Rattle.group_member.specs.Happening.restart_sent as restart_sent
use Rattle.group_member.specs.Members.{Member}
use Rattle.group_member.specs.Stepping.{is_failure, is_over}
use Rattle.rooms_stay.specs.Rooms.{HasRooms, SameRoom}
use Rattle.rooms_stay.proofs.Commands.{commands_keep}
use Rattle.rooms_stay.proofs.Events.{events_keep, rooms_begin, starts}
use Rattle.rooms_stay.proofs.Locals.{adoptions_keep, locals_keep, room_taken}
use Rattle.rooms_stay.proofs.Room.{itself, moved_to, on}

-- ---- the cache structure
abbrev Knows : Facility → Facility → Type 0
Knows f g = g.directory.frames ≡ f.directory.frames

same_facility : (f g : Facility) → g ≡ f → Knows f g
same_facility f g e = ap (λ (z : Facility). z.directory.frames) e

own_knows : (w v : World) (h k : Held) (i : Intent) (s : Sent) (p : Plan) (place : ℕ) (a : Answered) (told : Told) → Runs w h i s p place a told v k → Knows w.facility v.facility
own_knows w v h k i sent.None p place a told r = ap (λ (z : World). z.facility.directory.frames) r.world
own_knows w v h k i (sent.Command c) p place a told r =
    commands_keep w.facility v.facility h.marks.member c (lent_bytes h (lent_of h c)) (lent_bytes r.0.after (lent_of h c)) r.0.answer r.0.gives.executed.executes
own_knows w v h k i sent.AppendLog p place a told r = same_facility w.facility v.facility r.1
own_knows w v h k i (sent.ReadPage page) p place a told r = same_facility w.facility v.facility r.1
own_knows w v h k i (sent.WritePage page) p place a told r = same_facility w.facility v.facility r.1

restart_runs : (w v : restarting.World) (h k : restart.Held) (i : RestartIntent) (s : RestartSent) (a : Answered) (told : RestartTold) → restarting.Runs w h i s a told v k → Knows w.facility v.facility
restart_runs w v h k i restart_sent.None a told r = ap (λ (z : restarting.World). z.facility.directory.frames) r.world
restart_runs w v h k i (restart_sent.Command c) a told r =
    commands_keep w.facility v.facility h.marks.member c (bytes.lent_bytes h (bytes.is_hand h c)) (bytes.lent_bytes r.0.after (bytes.is_hand h c)) r.0.answer r.0.gives.executed.executes
restart_runs w v h k i restart_sent.LogLength a told r = same_facility w.facility v.facility r.1
restart_runs w v h k i (restart_sent.ReadLog at count) a told r = same_facility w.facility v.facility r.1
restart_runs w v h k i (restart_sent.CutLog long) a told r = same_facility w.facility v.facility r.1
restart_runs w v h k i restart_sent.AppendLog a told r = same_facility w.facility v.facility r.1
restart_runs w v h k i (restart_sent.ReadPage page) a told r = same_facility w.facility v.facility r.1

rebuild_runs : (w v : rebuilding.World) (h k : RebuildState) (i : RebuildIntent) (s : RebuildSent) (a : Answered) (told : RebuildTold) → rebuilding.Runs w h i s a told v k → Knows w.facility v.facility
rebuild_runs w v h k i rebuild_sent.None a told r = ap (λ (z : rebuilding.World). z.facility.directory.frames) r.world
rebuild_runs w v h k i (rebuild_sent.Command c) a told r = commands_keep w.facility v.facility h.member c h.page r.0.after.page r.0.answer r.0.gives.executes
rebuild_runs w v h k i (rebuild_sent.LogLength member) a told r = same_facility w.facility v.facility r.1
rebuild_runs w v h k i (rebuild_sent.ReadLog member at count) a told r = same_facility w.facility v.facility r.1
rebuild_runs w v h k i (rebuild_sent.ReadPage page) a told r = same_facility w.facility v.facility r.1
rebuild_runs w v h k i (rebuild_sent.WritePage page) a told r = same_facility w.facility v.facility r.1

knows : (m n : Member) (w v : World) (place : ℕ) (stepped : Stepped) → Makes m w place stepped v n → Knows w.facility v.facility
knows m n w v place (steps.Sent s a) e =
    let h = e.happens in
    own_knows w v (begun h.ready place) h.after e.intent s h.plan place a h.said h.runs
knows m n w v place (steps.Restart s a) e =
    let h = e.makes.happens in
    restart_runs (as_restarting w) (as_restarting v) e.makes.before.resources h.after h.intent s a h.said h.runs
knows m n w v place (steps.Rebuild s a) e =
    let h = e.makes.happens in
    rebuild_runs (as_rebuilding w) (as_rebuilding v) e.makes.before.resources e.reached.resources h.intent s a h.said h.runs
knows m n w v place steps.Failed e = absurd e

-- ---- the member
abbrev Same : Held → Held → Type 0
Same h k = SameRoom h.marks k.marks

same_held : (h k : Held) → k ≡ h → Same h k
same_held h k e = moved_to h.marks k.marks h.marks (ap (λ (z : Held). z.marks) e) (itself h.marks)

told : (h : Held) (place : ℕ) (k : Held) → Tells h place k → Same h k
told h place k e = on h.marks (begun h place).marks k.marks (starts h place) (locals_keep (begun h place).marks k.marks e.0)

adopts_all : (h : Held) (by : ℕ) (ts : List OpenTran) (k : Held) → AdoptsAll h by ts k → Same h k
adopts_all h by [] k e = same_held h k e
adopts_all h by (t ∷ ts) k e =
    let mid = e.0.marks in
    let adopted = after_adopt mid t.id by (changes_left t) (rows_left t) in
    on h.marks mid k.marks (adopts_all h by ts e.0 e.1)
    (moved_to mid k.marks (with_room_of adopted k.marks) (ap (λ (z : Held). z.marks) e.2.holds)
    (on mid adopted (with_room_of adopted k.marks) (adoptions_keep mid t.id by (changes_left t) (rows_left t)) (room_taken adopted k.marks)))

adopts_left : (left : Option Adopted) (h k : Held) → AdoptsLeft left h k → Same h k
adopts_left None h k e = same_held h k e
adopts_left (Some left) h k e = adopts_all h left.by left.trans k e

goes_on : (b : Bool) (q : Restarting) (h : Held) (r : Option Restarting) (k : Held) → GoesOn b q h r k → Same h k
goes_on true q h r k e = same_held h k e.1
goes_on false q h r k e = adopts_left e.left h k e.adopts

abbrev holds_of : Member → MarksState
holds_of m = m.holds.marks

restart_ends : (b : Bool) (q : Restarting) (m n : Member) (place : ℕ) → RestartEnds b q m place n → Same m.holds n.holds
restart_ends true q m n place e = moved_to (holds_of m) (holds_of n) (holds_of m) (ap holds_of e) (itself (holds_of m))
restart_ends false q m n place e =
    moved_to (holds_of m) (holds_of n) e.after.marks (ap holds_of e.member)
    (on (holds_of m) e.left.marks e.after.marks (goes_on q.resources.marks.is_up q m.holds n.restart e.left e.goes_on) (told e.left place e.after e.tells))

rebuild_ends : (b : Bool) (q : Rebuilding) (m n : Member) (place : ℕ) → RebuildEnds b q m place n → Same m.holds n.holds
rebuild_ends true q m n place e = moved_to (holds_of m) (holds_of n) (holds_of m) (ap holds_of e) (itself (holds_of m))
rebuild_ends false q m n place e = moved_to (holds_of m) (holds_of n) e.after.marks (ap holds_of e.member) (told m.holds place e.after e.tells)

makes : (m n : Member) (w v : World) (place : ℕ) (stepped : Stepped) → Makes m w place stepped v n → Same m.holds n.holds
makes m n w v place (steps.Sent s a) e = moved_to (holds_of m) (holds_of n) e.after.marks (ap holds_of e.member) (events_keep w v m.holds e.after e.intent place s a e.happens)
makes m n w v place (steps.Restart s a) e = restart_ends (is_failure a) e.reached m n place e.ends
makes m n w v place (steps.Rebuild s a) e = rebuild_ends (is_failure a) e.reached m n place e.ends
makes m n w v place steps.Failed e = absurd e

-- ---- with the fates of its transactions
carries : (sizes : Sizes) (s t : MarksState) → SameRoom s t → HasRooms sizes s → HasRooms sizes t
carries sizes s t same h = record { frames = same.frames ∙ h.frames; slots = same.slots ∙ h.slots }

step_keeps : (m n : Member) (w v : World) (f g : FatesState) (place : ℕ) (stepped : Stepped) → Steps m w f place stepped n v g → Same m.holds n.holds
step_keeps m n w v f g place stepped e =
    on (holds_of m) (holds_of e.mid) (holds_of n) (makes m e.mid w v place stepped e.makes)
    (moved_to (holds_of e.mid) (holds_of n) (told_once e.mid.holds).marks (ap holds_of e.enters.member) (record { frames = refl; slots = refl }))

-- as many frames and slots as the sizes say, and as many known of
pub record Fits (sizes : Sizes) (m : Member) (f : Facility) : Type 0 where
  pub rooms : HasRooms sizes m.holds.marks
  pub known : f.directory.frames ≡ sizes.pool

pub comes_fit : (script : Script) (last : ℕ) (sizes : Sizes) (choice : ℕ) (m n : Member) (w v : World) (f g : FatesState) (place : ℕ) (stepped : Stepped) → Comes script last sizes choice m w f place stepped n v g
    → Fits sizes m w.facility → Fits sizes n v.facility
comes_fit script last sizes choice m n w v f g place stepped e fits = elim (cases_Bool (is_over stepped)) [
  | inr on_goes ↦ let s = e.steps on_goes in record {
    rooms = carries sizes (holds_of m) (holds_of n) (step_keeps m n w v f g place stepped s) fits.rooms;
    known = knows m s.mid w v place stepped s.makes ∙ fits.known;
  }
  | inl over ↦ record {
    rooms = rooms_begin n.id sizes n.holds (e.down over).holds;
    known = ap (λ (z : Directory). z.frames) (e.fails over).directory ∙ fits.known;
  }
]
