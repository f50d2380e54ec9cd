-- The log on disk of a member that waits for its restart, or restarts.
use Rattle.std.specs.Prelude.{◌≡◌, ◌⊎◌, ℕ, true, List, [], ◌++◌}
use Rattle.std.specs.List.{AllByRecursion}
use Rattle.ds_model.specs.declared.log.LogRecord.{LogRecord}
use Rattle.log_reader.specs.Keeping.{AreWhole}
use Rattle.log_appends.specs.Appends.{AreLastFrom}
use Rattle.log_appends.specs.Rests.{IsRest}
use Rattle.member_marks.specs.State.{MarksState}
use Rattle.restart_records.specs.declared.trans.RestartStage.TheVariants as stage
use Rattle.restart_records.specs.declared.trans.RestartTran.{RestartTran}
use Rattle.restart_marks.specs.State.{RestartState}
use Rattle.restart_closing.specs.Closing.{OpensAlike, RestartCloses}
use Rattle.restart_closing.specs.Resting.{Rests}
use Rattle.failed_logs.specs.Given.{LogLocked}
use Rattle.claimed_logs.specs.Commits.{commits_last}

-- It leaves the same open wherever reading of it may begin, and no transaction changes a row behind its Commit.
pub record StandsAlike (log : List ℕ) : Type 0 where
  pub opens : OpensAlike log
  pub commits : (start : ℕ) (back : List LogRecord) → AreLastFrom log start back → commits_last back ≡ true

-- So do these whole records of it, behind which a rest stands that is none.
pub record LeavesAlike (log : List ℕ) : Type 0 where
  pub whole : List ℕ
  pub rest : List ℕ
  pub is : log ≡ whole ++ rest
  pub are : AreWhole whole
  pub is_rest : IsRest rest
  pub alike : StandsAlike whole

-- ---- a restart

-- It hasn't handed over. Its member has no transaction, and nothing waits in the member's own log buffer: so what that holds stands beside a log
-- of no bytes, too.
pub record RestartOpen (whole rest : List ℕ) (s : RestartState) (own : MarksState) : Type 0 where
  pub pend : List LogRecord
  pub closes : RestartCloses whole rest pend s
  pub idle : LogLocked [] [] own

-- It has: it puts no record any more, and the rows of the log are locked.
pub record RestartHanded (whole rest : List ℕ) (s : RestartState) (own : MarksState) : Type 0 where
  pub is_rest : IsRest rest
  pub rests : Rests whole rest s
  pub locked : LogLocked whole [] own

-- The one or the other, where the log has these whole records, and then this rest.
pub record RestartCourse (log : List ℕ) (s : RestartState) (own : MarksState) : Type 0 where
  pub whole : List ℕ
  pub rest : List ℕ
  pub is : log ≡ whole ++ rest
  pub alike : StandsAlike whole
  pub goes : RestartOpen whole rest s own ⊎ RestartHanded whole rest s own

-- Nothing is left of it: its log is read, no rest follows the whole records, and each of its transactions is over.
pub record LeavesNothing (s : RestartState) : Type 0 where
  pub read : s.own.is_read ≡ true
  pub tail : s.own.tail ≡ 0
  pub over : AllByRecursion (λ (x : RestartTran). x.stage ≡ stage.Over) s.trans.list
