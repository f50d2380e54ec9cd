-- A run that follows the lines of a trace.
use Rattle.std.specs.Prelude.{◌≡◌, ℕ, ◌+◌, ◌-◌, ◌*◌, ◌%◌, ◌==◌, ◌&&◌, Bool, true, false, List, [], ◌∷◌, length, take, Option, Some, None, slice_get}
use Rattle.std.specs.Global.{Global}
use Rattle.std.specs.Prelude.{Vec}
use Rattle.std.specs.Str.{bytes_eq}
use Rattle.ds_disk.specs.Contents.{Contents}
use Rattle.cache_structure.specs.Directory.{Directory}
use Rattle.ds_model.specs.declared.report.EventLine.{EventLine}
use Rattle.group_core.specs.declared.group.Group.{Group}
use Rattle.group_core.specs.Events.{takes}
use Rattle.group_core.specs.Takes.{Line, Takes}
use Rattle.run_replay.specs.declared.fault.ReplayFault.{ReplayFault}
use Rattle.run_replay.specs.declared.fault.ReplayFault.TheVariants as faults

-- the number of the event of a line
abbrev pub number_of : EventLine → ℕ
number_of event = event.choice % 64 * 64 + event.member % 64

-- both say the same
abbrev pub is_line : Line → EventLine → Bool
is_line line event = line.place == event.place && (line.member == event.member && (line.choice == event.choice && (bytes_eq line.command.now event.command && bytes_eq line.reply.now event.reply)))

abbrev pub are_one : Option Line → EventLine → Bool
are_one None event = false
are_one (Some line) event = is_line line event

abbrev pub kept : Option (Vec Line Global) → List Line
kept None = []
kept (Some lines) = lines.items

-- the last line that is kept says the same
abbrev pub was_line : Option (Vec Line Global) → EventLine → Bool
was_line lines event = are_one (slice_get (kept lines) (length (kept lines) - 1)) event

-- The event of the line was ready, and the group took it, and it was what the line says; or it is said that it wasn't so. The parameters are what is told of a cache's directory, of whether
-- a disk is alive, of what it holds, and of how many faults it has counted.
pub record Follows {C D P : Type 0} (directory : C → Directory) (alive : D → Bool) (contents : D → Option Contents) (count : D → ℕ) (said : Bool) (old : Group D C P) (event : EventLine) (new : Group D C P) : Type 0 where
  pub step : Takes directory alive contents count old (number_of event) new
  pub says : (takes old (number_of event) && was_line new.lines event) ≡ said

-- one after the other, each of which was what its line says
abbrev pub FollowsAll : {C D P : Type 0} → (C → Directory) → (D → Bool) → (D → Option Contents) → (D → ℕ) → Group D C P → List EventLine → Group D C P → Type 0
FollowsAll {C} {D} {P} directory alive contents count old [] new = new ≡ old
FollowsAll {C} {D} {P} directory alive contents count old (event ∷ events) new =
    (mid : Group D C P) × Follows directory alive contents count true old event mid × FollowsAll directory alive contents count mid events new

-- the lines up to one at this place were what they say, and that one isn't
pub record PartsAt {C D P : Type 0} (directory : C → Directory) (alive : D → Bool) (contents : D → Option Contents) (count : D → ℕ) (start : Group D C P) (events : List EventLine) (place : ℕ) : Type 0 where
  pub taken : ℕ
  pub group : Group D C P
  pub follows : FollowsAll directory alive contents count start (take taken events) group
  pub event : EventLine
  pub there : slice_get events taken ≡ Some event
  pub new : Group D C P
  pub parts : Follows directory alive contents count false group event new
  pub place_is : place ≡ event.place

-- ---- why a line, or all of them, can't be followed

abbrev pub Stops : {C D P : Type 0} → (C → Directory) → (D → Bool) → (D → Option Contents) → (D → ℕ) → Group D C P → EventLine → Group D C P → ReplayFault → Type 0
Stops {C} {D} {P} directory alive contents count old event new faults.NoMemory = Unit {0}
Stops {C} {D} {P} directory alive contents count old event new faults.NoTransaction = ⊥
Stops {C} {D} {P} directory alive contents count old event new (faults.Parted place) = Follows directory alive contents count false old event new × (place ≡ event.place)

abbrev pub StopsIn : {C D P : Type 0} → (C → Directory) → (D → Bool) → (D → Option Contents) → (D → ℕ) → Group D C P → List EventLine → ReplayFault → Type 0
StopsIn {C} {D} {P} directory alive contents count start events faults.NoMemory = Unit {0}
StopsIn {C} {D} {P} directory alive contents count start events faults.NoTransaction = ⊥
StopsIn {C} {D} {P} directory alive contents count start events (faults.Parted place) = PartsAt directory alive contents count start events place
