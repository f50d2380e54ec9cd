-- How the logs of a disk stand between two calls of a restart.
use Rattle.std.proofs.Common.{◌≡◌, ℕ, List, ◌∷◌, length}
use Rattle.ds_model.specs.declared.log.LogRecord.{LogRecord}
use Rattle.ds_disk.specs.Contents.{log_of}
use Rattle.log_record.specs.declared.log.Log.{Log}
use Rattle.log_reader.specs.Readers.{ReaderState}
use Rattle.restart_plan.specs.declared.tails.Tail.{Tail}
use Rattle.group_restart.specs.declared.calls.State.{State}
use Rattle.group_restart.specs.declared.calls.State.TheVariants as state
use Rattle.group_restart.specs.declared.stage.Stage.{Stage}
use Rattle.group_restart.specs.declared.stage.Stage.TheVariants as stage
use Rattle.group_restart.specs.Machine.{Restart}
use Rattle.group_restart.specs.Course.{Next, appended}
use Rattle.disk_restart.proofs.Whole.{AreAdded}
use Rattle.disk_restart.proofs.Cutting.{Logs, Keeps, AreWhole, CutsDue}
use Rattle.disk_restart.proofs.Reading.{Reads}

-- nothing has changed, and these logs are read
pub record IsReadingLogs (o c : Logs) (r : ReaderState) (logs : List Log) : Type 0 where
  pub same : c ≡ o
  pub all : length o ≡ 32
  pub reads : Reads o r logs

-- these tails are still to be cut, and then the logs end there
pub record Cuts (o c : Logs) (ends : List ℕ) (tails : List Tail) : Type 0 where
  pub keeps : Keeps o c
  pub count : length ends ≡ length c
  pub due : CutsDue ends tails c

-- all tails are cut, and the logs end there
pub record Stands (o c : Logs) (ends : List ℕ) : Type 0 where
  pub keeps : Keeps o c
  pub count : length ends ≡ length c
  pub whole : AreWhole ends c

-- none of the records that are appended next to the member's log is lasting there
pub record Adds (o c : Logs) (ends : List ℕ) (member : ℕ) (records : List LogRecord) : Type 0 where
  pub stands : Stands o c ends
  pub added : AreAdded (length (log_of c member)) records

-- before the call of a stage: o were the logs at the start, and c are the logs now
abbrev pub InStage : Stage → Logs → Restart → Logs → Type 0
InStage stage.ReadLog o h c = IsReadingLogs o c h.reader h.logs
InStage (stage.CutTail tail) o h c = Cuts o c h.plan.ends (tail ∷ h.plan.tails)
InStage (stage.RedoRead page) o h c = Stands o c h.plan.ends
InStage (stage.RedoWrite page) o h c = Stands o c h.plan.ends
InStage (stage.CloseAppend member) o h c = Adds o c h.plan.ends member h.added
InStage (stage.UndoRead page) o h c = Stands o c h.plan.ends
InStage (stage.UndoAppend member page) o h c = Adds o c h.plan.ends member h.added
InStage (stage.UndoWrite page) o h c = Stands o c h.plan.ends
InStage (stage.RenewRead page) o h c = Stands o c h.plan.ends
InStage (stage.RenewWrite page) o h c = Stands o c h.plan.ends
InStage (stage.EndAppend member) o h c = Adds o c h.plan.ends member h.added
InStage stage.End o h c = Stands o c h.plan.ends

abbrev pub Runs : Logs → Restart → Logs → Type 0
Runs o h c = InStage h.stage o h c

-- after the call of a stage was done
abbrev pub AfterCall : Stage → Logs → Restart → Logs → Type 0
AfterCall stage.ReadLog o h d = ⊥
AfterCall (stage.CutTail tail) o h d = Cuts o d h.plan.ends h.plan.tails
AfterCall (stage.RedoRead page) o h d = Stands o d h.plan.ends
AfterCall (stage.RedoWrite page) o h d = Stands o d h.plan.ends
AfterCall (stage.CloseAppend member) o h d = Stands o d (appended h member).plan.ends
AfterCall (stage.UndoRead page) o h d = Stands o d h.plan.ends
AfterCall (stage.UndoAppend member page) o h d = Stands o d (appended h member).plan.ends
AfterCall (stage.UndoWrite page) o h d = Stands o d h.plan.ends
AfterCall (stage.RenewRead page) o h d = Stands o d h.plan.ends
AfterCall (stage.RenewWrite page) o h d = Stands o d h.plan.ends
AfterCall (stage.EndAppend member) o h d = Stands o d (appended h member).plan.ends
AfterCall stage.End o h d = Stands o d h.plan.ends

-- where it goes on, the logs stand for the stage that it goes to; where it is done, they end where it says
abbrev pub IsGood : State → Logs → Restart → Logs → Type 0
IsGood state.Going o h d = Runs o h d
IsGood (state.Done counter) o h d = Stands o d h.plan.ends
IsGood (state.Damaged volume at) o h d = Unit {0}
IsGood state.Failed o h d = Unit {0}

abbrev pub Good : Logs → Logs → Next → Type 0
Good o d n = IsGood n.1 o n.0 d
