-- Where the first row change out of turn stands.
use Rattle.std.specs.Prelude.{◌≡◌, ℕ, List, [], Option, None, Some}
use Rattle.log_record.specs.declared.log.Log.{Log}
use Rattle.disk_spots.specs.declared.spot.Spot.{Spot}
use Rattle.disk_spots.specs.Spots.{drawn_spot_of}
use Rattle.sound_disk.specs.Turns.{ChangeInTurn}
use Rattle.sound_disk.specs.Versions.{merged}
use Rattle.row_turns.specs.Turns.{out_of_turn}

abbrev pub located : List Log → Option ℕ → Option Spot
located logs None = None
located logs (Some number) = drawn_spot_of number logs

abbrev pub out_spot : List Log → Option Spot
out_spot logs = located logs (out_of_turn [] (merged logs))

-- rows are not changed in turn, and this is the first record, by the numbers of all logs, that is out of turn
pub record IsOutOfTurn (logs : List Log) (spot : Spot) : Type 0 where
  pub lacking : ChangeInTurn logs → ⊥
  pub spot_is : out_spot logs ≡ Some spot
