-- What is told of whole logs that are read by blocks.
use Rattle.std.specs.Prelude.{◌≡◌, ℕ, true, List, [], Option, None, Some}
use Rattle.ds_model.specs.Logs.{by_lrsn}
use Rattle.log_record.specs.declared.log.Log.{Log}
use Rattle.log_merge.specs.Merging.{all_records}
use Rattle.log_trans.specs.Numbers.{greatest}
use Rattle.restart_plan.specs.Renewal.{must_renew}
use Rattle.disk_spots.specs.declared.spot.Spot.{Spot}
use Rattle.disk_spots.specs.Spots.{spot_of, drawn_spot_of}
use Rattle.sound_disk.specs.Transactions.{AreTransactions}
use Rattle.fitting_records.specs.Breaches.{IsFirstBreach, IsRecordOf}
use Rattle.fitting_records.specs.Passed.{are_early}
use Rattle.fitting_records.specs.declared.summary.Summary.{Summary}

-- what the records come to: that they fit each other is told of such alone, which change rows before the Commit of their transaction
pub record IsSummary (s : Summary) (logs : List Log) : Type 0 where
  pub fit : s.fits ≡ true → AreTransactions logs
  pub early : s.fits ≡ true → are_early [] (by_lrsn (all_records logs)) ≡ true
  pub greatest_is : s.greatest ≡ greatest (all_records logs)
  pub renews_is : s.renews ≡ must_renew logs

abbrev pub IsSpotOf : ℕ → Option Spot → List Log → Type 0
IsSpotOf number found logs = found ≡ spot_of number logs

abbrev pub IsDrawnSpotOf : ℕ → Option Spot → List Log → Type 0
IsDrawnSpotOf number found logs = found ≡ drawn_spot_of number logs

-- the second clause of a sound disk holds, or this is the first record with which it doesn't
abbrev pub AreFitTold : Option Spot → List Log → Type 0
AreFitTold None logs = AreTransactions logs
AreFitTold (Some spot) logs = (AreTransactions logs → ⊥) × IsRecordOf (IsFirstBreach AreTransactions logs) spot
