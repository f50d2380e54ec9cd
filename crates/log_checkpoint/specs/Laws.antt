-- What the search comes to.
use Rattle.std.specs.Prelude.{◌≡◌, ℕ, ◌+◌, ◌<◌, ◌≤◌, List, length, Some}
use Rattle.ds_model.specs.RecordBytes.{record_limit}
use Rattle.log_checkpoint.specs.declared.found.Found.{Found}
use Rattle.log_checkpoint.specs.declared.found.Found.TheVariants as found
use Rattle.log_checkpoint.specs.Backwards.{SearchState, told_of, after_step, AreWanted, filled}
use Rattle.log_checkpoint.specs.Passed.{AreBefore, IsOf, IsTold}

-- a record that is passed is the log's, and no checkpoint
abbrev pub StepIsOf : Type 0
StepIsOf = (log : List ℕ) (end : ℕ) (s : SearchState) → IsOf log end s → IsOf log end (after_step s)

-- what is told is so
abbrev pub TellsSo : Type 0
TellsSo = (log : List ℕ) (end : ℕ) (s : SearchState) (found : Found) → IsOf log end s → told_of s ≡ Some found → IsTold log end found

-- bytes of the log before those in hand are in hand then
abbrev pub FillIsOf : Type 0
FillIsOf = (log : List ℕ) (end : ℕ) (s : SearchState) (bytes : List ℕ) → IsOf log end s → AreWanted (told_of s) (length bytes) → AreBefore log s bytes → IsOf log end (filled s bytes)

-- the bytes that are wanted end where those in hand begin, and aren't more than may be asked for
abbrev pub WantedIsBefore : Type 0
WantedIsBefore = (s : SearchState) (at count : ℕ) → told_of s ≡ Some (found.Wants at count) → (at + count ≡ s.low) × (count ≤ s.block)

-- where bytes are wanted, those in hand are fewer than a record may have
abbrev pub WantedIsFew : Type 0
WantedIsFew = (s : SearchState) (count : ℕ) → AreWanted (told_of s) count → length s.hand < record_limit
