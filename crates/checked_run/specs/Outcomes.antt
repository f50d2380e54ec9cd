-- What became of a disk that was to be opened.
use Rattle.std.specs.Prelude.{◌≡◌, ◌≢◌, ◌⊎◌, ℕ, Bool, List, Option}
use Rattle.ds_base.specs.Causes.{Rose}
use Rattle.ds_base.specs.declared.row.Row.{Row}
use Rattle.ds_disk.specs.Contents.{Contents, WhenTold, Becomes}
use Rattle.disk_restart.specs.Keeping.{KeepsRecords}
use Rattle.ds_model.specs.declared.script.Script.{Script}
use Rattle.ds_model.specs.declared.report.Report.{Report}
use Rattle.ds_model.specs.Rows.{AreSorted}
-- given out again: why a run ends before its script
pub use Rattle.group_core.specs.declared.fault.RunFault.{RunFault}
pub use Rattle.group_core.specs.declared.fault.RunFault.TheVariants as fault
use Rattle.opening_rows.specs.declared.opening.Opening.{Opening}
use Rattle.opening_rows.specs.Opening.{OpensAs, OpensWith}
use Rattle.checked_run.specs.declared.account.Account.{Account}
use Rattle.checked_run.specs.declared.ended.Ended.{Ended}
use Rattle.checked_run.specs.declared.ended.Ended.TheVariants as ended
use Rattle.checked_run.specs.declared.ended.Outcome.{Outcome}
use Rattle.checked_run.specs.declared.ended.Outcome.TheVariants as outcome
use Rattle.checked_run.specs.Accounts.{no_account}
use Rattle.checked_run.specs.Leading.{ComesTo, Kind}
use Rattle.checked_run.specs.Settled.{Settles}
use Rattle.checked_run.specs.Told.{plain_report}

-- these rows are in order, and the logs of the disk stood for them, where it told what it held
abbrev pub IsOpening : Option Contents → List Row → Type 0
IsOpening was rows = AreSorted rows × WhenTold was (λ c. OpensWith c rows)

-- a disk isn't opened for a failed call only where its count rose, and never for an event that may not be done
pub record HasCause (before now : ℕ) (why : RunFault) : Type 0 where
  pub failed : why ≡ fault.Failed → Rose before now
  pub lawful : (place : ℕ) → why ≢ fault.Unlawful place

-- a disk that wasn't opened has the row changes, the page changes for no transaction and the commits that it had, and no others
abbrev pub IsLeft : Outcome → Option Contents → Option Contents → Type 0
IsLeft (outcome.Unopened why) before after = Becomes before after KeepsRecords
IsLeft (outcome.Opened opening ended) before after = Unit {0}

-- Over how often the disk had failed before and has failed now: it wasn't opened, and nothing was played; or it was, its logs stood for the
-- rows, and this came of it.
abbrev pub Comes : Option Contents → ℕ → ℕ → Account → (List Row → Ended → Type 0) → Outcome → Type 0
Comes was before now account Keeps (outcome.Unopened why) = HasCause before now why × (account ≡ no_account)
Comes was before now account Keeps (outcome.Opened opening ended) = IsOpening was opening × Keeps opening ended

-- the same where the logs were read, and stand for these rows
abbrev pub ComesFrom : List Row → ℕ → ℕ → Account → (List Row → Ended → Type 0) → Outcome → Type 0
ComesFrom rows before now account Keeps (outcome.Unopened why) = HasCause before now why × (account ≡ no_account)
ComesFrom rows before now account Keeps (outcome.Opened opening ended) = (opening ≡ rows) × Keeps rows ended

-- A script was played from these rows, and what came of it is what the end comes to to which its journal leads. `was` is what the disk
-- told before.
pub record Plays (kind : Kind) (script : Script) (seed : Option ℕ) (traced : Bool) (was : Option Contents) (before now : ℕ) (after : Option Contents) (account : Account) (rows : List Row) (ended : Ended) : Type 0 where
  pub opening : Opening
  pub opens : WhenTold was (λ c. OpensAs c opening)
  pub rows_are : opening.rows ≡ rows
  pub comes : ComesTo (kind.leads was script seed account) (Settles kind.tells script traced opening before now after account) ended

-- the rows were shown, and where a call of the closing group restart failed, the disk counted it
pub record ShowsRows (before now : ℕ) (rows : List Row) (report : Report) : Type 0 where
  pub report_is : report ≡ plain_report rows report.status
  pub status : (report.status ≡ 0) ⊎ (report.status ≡ 5)
  pub cause : report.status ≡ 5 → Rose before now

-- a report of these rows alone is told, or memory is wanting
abbrev pub IsShown : List Row → ℕ → Ended → Type 0
IsShown rows status (ended.Told report) = report ≡ plain_report rows status
IsShown rows status (ended.Damaged volume at) = ⊥
IsShown rows status (ended.Unsound event) = ⊥
IsShown rows status ended.NoMemory = Unit {0}

-- they were shown, or a page or a log is damaged, or memory is wanting
abbrev pub Shows : ℕ → ℕ → List Row → Ended → Type 0
Shows before now rows (ended.Told report) = ShowsRows before now rows report
Shows before now rows (ended.Damaged volume at) = Unit {0}
Shows before now rows (ended.Unsound event) = ⊥
Shows before now rows ended.NoMemory = Unit {0}
