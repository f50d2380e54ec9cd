-- What holds of the locks after every move.
use Rattle.std.specs.Prelude.{◌≡◌, ◌≢◌, ◌⊎◌, ℕ, ◌≤◌, Bool, true, List, Option, Some, None}
use Rattle.lock_names.specs.declared.mode.Mode.{Mode}
use Rattle.lock_names.specs.declared.mode.Interest.{Interest}
use Rattle.lock_names.specs.Modes.{class_of, is_recorded}
use Rattle.lock_protocol.specs.Machine.{World, Record, Clean, backs, both_allowed, RecordCovers, RetainedCovers, IsClear, start}
use Rattle.lock_protocol.specs.Moves.{Move, Step, Run}

-- a claim stands behind its live member's interest in the entry, or behind a retained record of the name
abbrev pub IsCovered : Option Mode → Bool → Interest → Option Record → Type 0
IsCovered None live i r = Unit {0}
IsCovered (Some m) live i r = ((live ≡ true) × (backs (class_of m) i ≡ true)) ⊎ RetainedCovers r m

-- a claim that is recorded has a record that covers it
abbrev pub IsRecorded : Option Mode → Option Record → Type 0
IsRecorded None r = Unit {0}
IsRecorded (Some m) r = is_recorded m ≡ true → RecordCovers r m

pub record Sound (entry : ℕ → ℕ) (w : World) : Type 0 where
  -- no two claims of different members conflict, nor of different owners of a member
  pub across : (k l o q n : ℕ) → k ≢ l → both_allowed (w.claims k o n) (w.claims l q n) ≡ true
  pub within : (k o q n : ℕ) → o ≢ q → both_allowed (w.claims k o n) (w.claims k q n) ≡ true
  pub covered : (k o n : ℕ) → IsCovered (w.claims k o n) (w.live k) (w.interest k (entry n)) (w.records k n)
  pub recorded : (k o n : ℕ) → IsRecorded (w.claims k o n) (w.records k n)
  -- a clean answer has no stamp of the future, and where its stamp is of the present each claim that is in the way has a
  -- retained record
  pub stamped : (m o k n v : ℕ) (mode : Mode) → w.cells m o k ≡ Clean n mode v → v ≤ w.version (entry n)
  pub fresh : (m o k q n v : ℕ) (mode : Mode) → m ≢ k → w.cells m o k ≡ Clean n mode v → v ≡ w.version (entry n) → IsClear (w.claims k q n) (w.records k n) mode

abbrev pub KeepsSound : Type 0
KeepsSound = (entry : ℕ → ℕ) (w v : World) (e : Move) → Sound entry w → Step entry w e v → Sound entry v

abbrev pub RunKeepsSound : Type 0
RunKeepsSound = (entry : ℕ → ℕ) (moves : List Move) (w v : World) → Sound entry w → Run entry w moves v → Sound entry v

abbrev pub StartsSound : Type 0
StartsSound = (entry : ℕ → ℕ) → Sound entry start

abbrev pub AlwaysSound : Type 0
AlwaysSound = (entry : ℕ → ℕ) (moves : List Move) (w : World) → Run entry start moves w → Sound entry w
