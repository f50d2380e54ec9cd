-- The first log that breaks off.
use Rattle.std.specs.Prelude.{◌≡◌, ℕ, ◌+◌, List, ◌∷◌, ◌++◌, length}
use Rattle.log_record.specs.declared.log.Log.{Log}
use Rattle.sound_disk.specs.Whole_logs.{AreWholeLogs}
use Rattle.whole_logs.specs.Breaks.{BreaksOff}

-- the logs before this one are whole records, and this one breaks off
pub record IsFirstBroken (logs : List (List ℕ)) (member at : ℕ) : Type 0 where
  pub front : List (List ℕ)
  pub bytes : List ℕ
  pub back : List (List ℕ)
  pub split : logs ≡ front ++ bytes ∷ back
  pub whole : List Log
  pub are : AreWholeLogs 1 front whole
  pub member_is : member ≡ length front + 1
  pub off : BreaksOff bytes at

-- then there are no whole logs of these bytes
abbrev pub BrokenArentWhole : Type 0
BrokenArentWhole = (logs : List (List ℕ)) (member at : ℕ) (whole : List Log) → IsFirstBroken logs member at → AreWholeLogs 1 logs whole → ⊥
