-- What holds of a sound disk whose logs are whole.
use Rattle.std.specs.Prelude.{◌≡◌, ℕ, List, length}
use Rattle.ds_model.specs.Rows.{listed}
use Rattle.ds_model.specs.Logs.{rows_of_logs}
use Rattle.log_record.specs.declared.log.Log.{Log}
use Rattle.page_images.specs.Images.{Images}
use Rattle.sound_disk.specs.Laws.{records_of}
use Rattle.sound_disk.specs.Transactions.{AreTransactions}
use Rattle.sound_disk.specs.Tables.{AreTables}
use Rattle.sound_disk.specs.Turns.{ChangeInTurn}
use Rattle.sound_disk.specs.Numbers_left.{NumbersAreLeft}
use Rattle.sound_disk.specs.Checkpoints.{AreCheckpointed}
use Rattle.disk_versions.specs.Told.{AreAllPlaced}

-- they hold of the logs and of the pages that are read; so many of these aren't zeros, and the logs stand for so many rows
pub record AreRight (at : Images) (logs : List Log) (behind pages rows : ℕ) : Type 0 where
  pub transactions : AreTransactions logs
  pub placed : AreAllPlaced at logs behind pages
  pub tables : AreTables logs
  pub turns : ChangeInTurn logs
  pub numbers : NumbersAreLeft logs
  pub checkpoints : AreCheckpointed at logs
  pub rows_are : rows ≡ length (listed (rows_of_logs (records_of logs)))
