-- What is told where too few numbers are left.
use Rattle.std.specs.Prelude.{◌≡◌, ℕ, ◌+◌, List, length, Option, None, Some}
use Rattle.ds_base.specs.Ids.{IsLrsn}
use Rattle.log_record.specs.declared.log.Log.{Log}
use Rattle.log_merge.specs.Merging.{all_records}
use Rattle.log_trans.specs.Numbers.{greatest}
use Rattle.disk_spots.specs.declared.spot.Spot.{Spot}
use Rattle.disk_spots.specs.Spots.{spot_of}
use Rattle.sound_disk.specs.Numbers_left.{open_changes, NumbersAreLeft}

-- too few are, and this is the first record with the greatest number
pub record LackNumbers (logs : List Log) (spot : Spot) : Type 0 where
  pub lacking : NumbersAreLeft logs → ⊥
  pub spot_is : spot_of (greatest (all_records logs)) logs ≡ Some spot

-- enough are left, or this is the first record with the greatest number
abbrev pub AreNumbersTold : List Log → Option Spot → Type 0
AreNumbersTold logs None = NumbersAreLeft logs
AreNumbersTold logs (Some spot) = LackNumbers logs spot

-- where so many above the greatest one aren't numbers any more, its spot tells
abbrev pub NumbersTell : Type 0
NumbersTell = (logs : List Log) (great open_count : ℕ) (found : Option Spot) → great ≡ greatest (all_records logs) → open_count ≡ length (open_changes (all_records logs)) → (IsLrsn (great + open_count) → ⊥)
    → found ≡ spot_of great logs → AreNumbersTold logs found
