-- The survey of all logs.
use Rattle.std.specs.Prelude.{◌≡◌, ℕ, Bool, false, List, map}
use Rattle.log_record.specs.declared.log.Log.{Log}
use Rattle.log_merge.specs.Merging.{all_records, NoneFalls}
use Rattle.opening_rows.specs.Reading.{AreLogsOf}
use Rattle.opening_rows.specs.Opening.{record_counts}
use Rattle.opening_rows.specs.Pending.{is_pending}

abbrev pub lengths_of : List Log → List ℕ
lengths_of logs = map (λ (l : Log). l.length) logs

-- The bytes are those of logs whose numbers don't fall: where the whole records of each end, how many they are, and which transactions are
-- pending behind all records, one log after the other.
pub record AreSurveyed (bytes : List (List ℕ)) (ends had : List ℕ) (now : ℕ → Bool) : Type 0 where
  pub logs : List Log
  pub are : AreLogsOf bytes logs
  pub rise : NoneFalls logs
  pub ends_are : ends ≡ lengths_of logs
  pub had_are : had ≡ record_counts logs
  pub pending_are : (tran : ℕ) → now tran ≡ is_pending tran false (all_records logs)
