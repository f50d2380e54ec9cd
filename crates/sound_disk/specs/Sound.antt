-- A sound disk, in seven clauses.
use Rattle.std.specs.Prelude.{ℕ, List}
use Rattle.ds_disk.specs.Contents.{Contents}
use Rattle.ds_disk.specs.Pages.{page_at}
use Rattle.log_record.specs.declared.log.Log.{Log}
use Rattle.sound_disk.specs.Whole_logs.{AreWholeLogs}
use Rattle.sound_disk.specs.Transactions.{AreTransactions}
use Rattle.sound_disk.specs.Versions.{AreVersions}
use Rattle.sound_disk.specs.Tables.{AreTables}
use Rattle.sound_disk.specs.Turns.{ChangeInTurn}
use Rattle.sound_disk.specs.Numbers_left.{NumbersAreLeft}
use Rattle.sound_disk.specs.Checkpoints.{AreCheckpointed}

-- the disk is sound, and these are its logs
pub record IsSoundWith (c : Contents) (logs : List Log) : Type 0 where
  pub whole_logs : AreWholeLogs 1 c.logs logs
  pub transactions : AreTransactions logs
  pub versions : AreVersions (page_at c.pages) logs
  pub tables : AreTables logs
  pub turns : ChangeInTurn logs
  pub numbers : NumbersAreLeft logs
  pub checkpoints : AreCheckpointed (page_at c.pages) logs

pub record IsSoundDisk (c : Contents) : Type 0 where
  pub logs : List Log
  pub sound : IsSoundWith c logs
