-- The plan of sound logs fits them.
use Rattle.std.specs.Prelude.{ℕ, ◌+◌, ◌<◌, ◌^◌, List, ◌++◌, length}
use Rattle.log_record.specs.declared.log.Log.{Log}
use Rattle.log_trans.specs.Numbers.{greatest}
use Rattle.log_merge.specs.Merging.{all_records}
use Rattle.restart_plan.specs.Plans.{plan_of}
use Rattle.sound_disk.specs.Numbers_left.{NumbersAreLeft}
use Rattle.sound_disk.specs.Transactions.{AreTransactions}
use Rattle.sound_disk.specs.Whole_logs.{AreWholeLogs}
use Rattle.sound_appends.specs.Appends.{AppendsAll}
use Rattle.sound_plans.specs.Queues.{closing_writes, undo_writes, ClosingsFit, QueueFits}

abbrev pub ClosingsOfPlanFit : Type 0
ClosingsOfPlanFit = (bytes : List (List ℕ)) (logs : List Log) → AreWholeLogs 1 bytes logs → AreTransactions logs → ClosingsFit logs (plan_of logs).closings

abbrev pub QueueOfPlanFits : Type 0
QueueOfPlanFits = (bytes : List (List ℕ)) (logs : List Log) → AreWholeLogs 1 bytes logs → AreTransactions logs → QueueFits logs (plan_of logs).undo

-- all that the plan closes and undoes is appended, one record after the other, if there are numbers for it
abbrev pub PlanAppends : Type 0
PlanAppends = (bytes : List (List ℕ)) (logs : List Log) → AreWholeLogs 1 bytes logs → AreTransactions logs → greatest (all_records logs) + length (plan_of logs).undo < 2 ^ 80
    → (after : List Log) × AppendsAll logs (closing_writes (plan_of logs).closings ++ undo_writes (greatest (all_records logs)) (plan_of logs).undo) after

-- there are, where numbers are left for the row changes that are open
abbrev pub NumbersSuffice : Type 0
NumbersSuffice = (bytes : List (List ℕ)) (logs : List Log) → AreWholeLogs 1 bytes logs → AreTransactions logs → NumbersAreLeft logs → greatest (all_records logs) + length (plan_of logs).undo < 2 ^ 80
