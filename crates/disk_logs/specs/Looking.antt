-- How the logs of a disk are read.
use Rattle.std.specs.Prelude.{ℕ, ◌≤◌, List, Option, Result, IfOk, IsErrOf}
use Rattle.std.specs.List.{AllByRecursion}
use Rattle.ds_base.specs.Causes.{Rose}
use Rattle.ds_disk.specs.Contents.{Contents, WhenTold, Becomes, Same}
use Rattle.ds_disk.specs.declared.disk.DiskError.{DiskError}
use Rattle.ds_disk.specs.declared.disk.DiskError.TheVariants.{Failed}
use Rattle.ds_model.specs.RecordBytes.{IsAllowed}
use Rattle.sound_disk.specs.Whole_logs.{IsWholeLog, AreWholeLogs}
use Rattle.log_record.specs.declared.log.Log.{Log}
use Rattle.whole_logs.specs.Breaks.{BreaksOff}
use Rattle.disk_logs.specs.declared.log.Looked.{Looked}
use Rattle.disk_logs.specs.declared.log.Looked.TheVariants as looked
use Rattle.disk_logs.specs.declared.logs.Found.{Found}
use Rattle.disk_logs.specs.declared.logs.Found.TheVariants as found
use Rattle.disk_logs.specs.Broken.{IsFirstBroken}

-- the answer holds of what the disk told before the call, which stays as it was; the call failed only where the disk counted a fault
pub record Reads {T : Type 0} (before after : Option Contents) (faults faults_now : ℕ) (Is : T → Contents → Type 0) (result : Result T DiskError) : Type 0 where
  pub ok : IfOk result (λ x. WhenTold before (Is x))
  pub failed : IsErrOf result Failed → Rose faults faults_now
  pub same : Becomes before after Same
  pub later : faults ≤ faults_now

-- the bytes are a whole log of the member, or break off there
abbrev pub IsLooked : ℕ → List ℕ → Looked → Type 0
IsLooked member bytes (looked.Whole log) = IsWholeLog member bytes log
IsLooked member bytes (looked.Broken at) = BreaksOff bytes at

abbrev pub IsLookedAllowed : Looked → Type 0
IsLookedAllowed (looked.Whole log) = AllByRecursion IsAllowed log.records
IsLookedAllowed (looked.Broken at) = Unit {0}

-- a log is the whole log of the member for some bytes, whether the disk tells them or not
pub record IsOfSome (member : ℕ) (log : Log) : Type 0 where
  pub bytes : List ℕ
  pub is : IsWholeLog member bytes log

abbrev pub IsLookedOfSome : ℕ → Looked → Type 0
IsLookedOfSome member (looked.Whole log) = IsOfSome member log
IsLookedOfSome member (looked.Broken at) = Unit {0}

-- these are whole logs of the members 1, 2, .. for some bytes
pub record AreOfSome (logs : List Log) : Type 0 where
  pub bytes : List (List ℕ)
  pub are : AreWholeLogs 1 bytes logs

abbrev pub AreFoundOfSome : Found → Type 0
AreFoundOfSome (found.Whole whole) = AreOfSome whole
AreFoundOfSome (found.Broken member at) = Unit {0}

-- these are whole logs of the members 1, 2, .., or the first that isn't whole breaks off there
abbrev pub AreFound : List (List ℕ) → Found → Type 0
AreFound logs (found.Whole whole) = AreWholeLogs 1 logs whole
AreFound logs (found.Broken member at) = IsFirstBroken logs member at
