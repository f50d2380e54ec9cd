-- What is told: a status, its text and its report.
use Rattle.std.specs.Prelude.{◌≡◌, ◌⊎◌, ℕ, true, false, Bool, cond, nat_eq, List, [], Option, Some, None, Result, Ok, Err}
use Rattle.ds_base.specs.declared.row.Row.{Row}
use Rattle.ds_model.specs.declared.report.Report.{Report}
use Rattle.ds_model.specs.ReportText.{report_text}
use Rattle.ds_model.specs.ScriptText.{script_text}
use Rattle.work_maker.specs.Made.{made}
use Rattle.checked_run.specs.Outcomes.{RunFault}
use Rattle.checked_run.specs.Outcomes.fault as fault
use Rattle.checked_run.specs.declared.ended.Ended.{Ended}
use Rattle.checked_run.specs.declared.ended.Ended.TheVariants as ending
use Rattle.checked_run.specs.declared.ended.Outcome.{Outcome}
use Rattle.checked_run.specs.declared.ended.Outcome.TheVariants as outcome
use Rattle.disk_orders.specs.declared.checks.Checked.{Checked}
use Rattle.disk_orders.specs.declared.checks.Checked.TheVariants as checked
use Rattle.disk_orders.specs.Copying.{CopyFault}
use Rattle.disk_orders.specs.Copying.fault as copy_fault
use Rattle.group_run.specs.declared.status.Status.{Status}
use Rattle.group_run.specs.declared.status.Status.TheVariants as status
use Rattle.group_run.specs.declared.telling.Telling.{Telling}
use Rattle.group_run.specs.Reports.{empty_report}
use Rattle.group_run.specs.Statuses.{short_text, number_of}
use Rattle.group_run.specs.Summary.{summary_text}

-- a status without a report
abbrev pub short_telling : Status → Telling
short_telling met = record { status = met; text = short_text met; report = empty_report (number_of met) }

-- the script of a number
abbrev pub script_telling : ℕ → Telling
script_telling n = record { status = status.Done; text = script_text (made n); report = empty_report 0 }

-- the status that a report ends with
abbrev pub met_by : Report → Status
met_by report = cond (nat_eq report.status 5) status.DiskFailed status.Done

-- a report whole; or, of the work of a number, the line of its fates
abbrev pub told_text : Option ℕ → Report → List ℕ
told_text None report = report_text report
told_text (Some n) report = summary_text n report

-- what a disk came to that was opened
abbrev pub telling_of : Option ℕ → Ended → Telling
telling_of work (ending.Told report) = record { status = met_by report; text = told_text work report; report = report }
telling_of work (ending.Damaged volume at) = short_telling (status.Damaged volume at)
telling_of work (ending.Unsound event) = short_telling (status.SelfCheckFailed event)
telling_of work ending.NoMemory = short_telling status.NoMemory

-- why a disk was not opened
abbrev pub fault_status : RunFault → Status
fault_status fault.Failed = status.DiskFailed
fault_status (fault.Damaged volume at) = status.Damaged volume at
fault_status (fault.Unlawful place) = status.SelfCheckFailed place
fault_status fault.NoMemory = status.NoMemory

-- what the check of a disk came to
abbrev pub checked_status : Checked → Status
checked_status (checked.Sound pages rows) = status.Sound pages rows
checked_status (checked.Unsound breach) = status.Unsound breach
checked_status checked.Failed = status.DiskFailed
checked_status checked.NoMemory = status.NoMemory

-- why a table was not copied or recovered
abbrev pub copy_status : CopyFault → Status
copy_status copy_fault.Source = status.SourceFailed
copy_status copy_fault.Sink = status.SinkFailed
copy_status copy_fault.Disk = status.DiskFailed
copy_status (copy_fault.Damaged volume at) = status.Damaged volume at
copy_status (copy_fault.Image at) = status.ImageRefused at
copy_status copy_fault.NoMemory = status.NoMemory

-- what the recovery of this table came to
abbrev pub recovered_status : ℕ → Result ℕ CopyFault → Status
recovered_status table (Ok pages) = status.Recovered table pages
recovered_status table (Err why) = copy_status why

-- it is this that is told; or memory is wanting
abbrev pub IsOrWanting : Telling → Telling → Type 0
IsOrWanting wanted told = (told ≡ wanted) ⊎ (told ≡ short_telling status.NoMemory)

-- what is told of what became of a disk: whether it was opened, and with which rows
abbrev pub TellsOutcome : Option ℕ → Outcome → Bool → List Row → Telling → Type 0
TellsOutcome work (outcome.Unopened why) opened opening told = (opened ≡ false) × (opening ≡ []) × IsOrWanting (short_telling (fault_status why)) told
TellsOutcome work (outcome.Opened rows ended) opened opening told = (opened ≡ true) × (opening ≡ rows) × IsOrWanting (telling_of work ended) told
