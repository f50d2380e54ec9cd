-- What an event of a group is in the world of locks.
use Rattle.std.specs.Prelude.{◌≡◌, ℕ, ◌%◌, ◌==◌, not, Bool, true, false, List, [], ◌∷◌, length}
use Rattle.group_core.specs.Given.{CrewState}
use Rattle.lock_protocol.specs.Machine.{World}
use Rattle.lock_protocol.specs.Moves.{Move, Restart, Run}
use Rattle.lock_protocol.specs.Own.{AreOf}
use Rattle.lock_world.specs.Views.{entry_in}
use Rattle.group_locks.specs.Stands.{LocksTied}

-- ---- whose moves they are: those of one member; the restarts of the members that a phase brings back; or those of the whole group
pub data Whose : Type 0 where
  OfMember : ℕ → Whose
  OfPhase : Whose
  OfGroup : Whose

abbrev pub AreRestarts : List Move → Type 0
AreRestarts [] = Unit {0}
AreRestarts (Restart m ∷ moves) = AreRestarts moves
AreRestarts (_ ∷ moves) = ⊥

abbrev pub AreBy : Whose → List Move → Type 0
AreBy (OfMember m) moves = AreOf m moves
AreBy OfPhase moves = AreRestarts moves
AreBy OfGroup moves = Unit {0}

-- by the number of the event
abbrev pub IsFor : ℕ → Whose → Type 0
IsFor event (OfMember m) = m ≡ event % 64
IsFor event OfPhase = event % 64 ≡ 0
IsFor event OfGroup = event ≡ 128

-- ---- moves lead to a world beside which the group still stands; its lock table has the size that it had
pub record Moves (by : Whose) (old new : CrewState) (w : World) : Type 0 where
  pub entries : length new.facility.locks.entries ≡ length old.facility.locks.entries
  pub moves : List Move
  pub are : AreBy by moves
  pub world : World
  pub run : Run (entry_in old.facility.locks) w moves world
  pub tied : LocksTied new world

-- whose claims they leave
abbrev pub spared : Whose → ℕ → Bool
spared (OfMember m) k = not (k == m)
spared OfPhase k = true
spared OfGroup k = false

abbrev pub MovesSpare : Type 0
MovesSpare = (by : Whose) (old new : CrewState) (w : World) (m : Moves by old new w) (k o c : ℕ) → spared by k ≡ true → m.world.claims k o c ≡ w.claims k o c
