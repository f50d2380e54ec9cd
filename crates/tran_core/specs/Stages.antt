-- What a stage asks for.
use Rattle.std.specs.Prelude.{Bool, true, false}
use Rattle.tran_core.specs.declared.stage.Update.{Update}
use Rattle.tran_core.specs.declared.stage.Update.TheVariants as update
use Rattle.tran_core.specs.declared.stage.Step.{Step}
use Rattle.tran_core.specs.declared.stage.Step.TheVariants as step
use Rattle.tran_core.specs.declared.stage.Stage.{Stage}
use Rattle.tran_core.specs.declared.stage.Stage.TheVariants as stage

abbrev pub changes_row : Update → Bool
changes_row update.FormatIndex = false
changes_row update.FormatHeap = false
changes_row (update.GiveSlot leaf) = false
changes_row (update.Split left branch) = false
changes_row (update.BranchEntry branch low child) = false
changes_row (update.RowChange place back) = true

abbrev pub step_changes_row : Step → Bool
step_changes_row step.Space = false
step_changes_row step.Row = false
step_changes_row (step.Read reading) = false
step_changes_row (step.Change update) = changes_row update

-- whether a row change is wanted
abbrev pub wants_row_change : Stage → Bool
wants_row_change (stage.Work task step) = step_changes_row step
wants_row_change (stage.Raise flag) = false
wants_row_change (stage.Await flag) = false
wants_row_change stage.LoseCache = false
wants_row_change stage.Commit = false
wants_row_change stage.Undo = false
wants_row_change stage.Ended = false

abbrev pub step_locks_space : Step → Bool
step_locks_space step.Space = true
step_locks_space step.Row = false
step_locks_space (step.Read reading) = false
step_locks_space (step.Change update) = false

-- whether the lock of a table space is wanted
abbrev pub locks_space : Stage → Bool
locks_space (stage.Work task step) = step_locks_space step
locks_space (stage.Raise flag) = false
locks_space (stage.Await flag) = false
locks_space stage.LoseCache = false
locks_space stage.Commit = false
locks_space stage.Undo = false
locks_space stage.Ended = false

abbrev pub step_reads_page : Step → Bool
step_reads_page step.Space = false
step_reads_page step.Row = false
step_reads_page (step.Read reading) = true
step_reads_page (step.Change update) = false

-- whether a page is wanted
abbrev pub reads_page : Stage → Bool
reads_page (stage.Work task step) = step_reads_page step
reads_page (stage.Raise flag) = false
reads_page (stage.Await flag) = false
reads_page stage.LoseCache = false
reads_page stage.Commit = false
reads_page stage.Undo = false
reads_page stage.Ended = false
