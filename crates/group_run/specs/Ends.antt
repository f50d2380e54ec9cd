-- How a call of `play` ends.
use Rattle.std.specs.Prelude.{◌≡◌, ◌⊎◌, ℕ, ◌<◌, Bool, true, false, List, [], length, take, Option, Some, None, Result}
use Rattle.std.specs.Io.KnownBytes.{Appends}
use Rattle.ds_base.specs.Causes.{Rose}
use Rattle.ds_base.specs.declared.names.Volume.{Volume}
use Rattle.ds_base.specs.declared.row.Row.{Row}
use Rattle.ds_disk.specs.Contents.{Contents, Becomes, Same}
use Rattle.ds_model.specs.declared.script.Script.{Script}
use Rattle.ds_model.specs.declared.report.Report.{Report}
use Rattle.ds_model.specs.ScriptText.{script_text}
use Rattle.work_maker.specs.Made.{made}
use Rattle.checked_run.specs.Accounts.{no_account}
use Rattle.checked_run.specs.Leading.{Kind}
use Rattle.checked_run.specs.declared.account.Account.{Account}
use Rattle.checked_run.specs.declared.ended.Ended.{Ended}
use Rattle.checked_run.specs.declared.ended.Ended.TheVariants as ending
use Rattle.checked_run.specs.declared.ended.Outcome.{Outcome}
use Rattle.checked_run.specs.Outcomes.{Comes, IsOpening, Plays, Shows}
use Rattle.disk_orders.specs.Checks.{IsSound, IsUnsound, IsChecked}
use Rattle.disk_orders.specs.declared.checks.Checked.{Checked}
use Rattle.disk_orders.specs.Copying.{IsCopied, CopyFault}
use Rattle.disk_orders.specs.Recovering.{RecoversTable, SourceAround}
use Rattle.disk_orders.specs.declared.copies.Copied.{Copied}
use Rattle.disk_orders.specs.declared.copies.Copied.TheVariants as copied
use Rattle.group_words.specs.declared.order.Order.{Order}
use Rattle.group_words.specs.declared.order.Order.TheVariants as order
use Rattle.group_run.specs.declared.status.Status.{Status}
use Rattle.group_run.specs.declared.status.Status.TheVariants as status
use Rattle.group_run.specs.Statuses.{short_text}
use Rattle.group_run.specs.Outside.{Outside, DiskIsUntouched}
use Rattle.group_run.specs.Read.{IsRead}
use Rattle.group_run.specs.Prepares.{MetBySource, ReadsNothing}
use Rattle.group_run.specs.Reports.{empty_report}
use Rattle.group_run.specs.Tellings.{told_text, short_telling, checked_status, copy_status, recovered_status, IsOrWanting, TellsOutcome}
use Rattle.group_run.specs.declared.telling.Telling.{Telling}

-- ---- what holds where a call meets a status and opens no disk

-- the disk was touched, and not opened; where the damage was met is told by `IsLeftByRestarts`
abbrev pub MetByDisk : Status → Outside → Outside → Type 0
MetByDisk status.Done before after = ⊥
MetByDisk status.WordsRefused before after = ⊥
MetByDisk (status.ScriptRefused fault) before after = ⊥
MetByDisk status.SourceFailed before after = ⊥
MetByDisk status.SinkFailed before after = ⊥
MetByDisk status.DiskFailed before after = Rose before.disk_faults after.disk_faults
MetByDisk status.NoMemory before after = Unit {0}
MetByDisk (status.Damaged volume at) before after = Unit {0}
MetByDisk (status.Sound pages rows) before after = ⊥
MetByDisk (status.Unsound breach) before after = ⊥
MetByDisk (status.Recovered table pages) before after = ⊥
MetByDisk (status.ImageRefused at) before after = ⊥
MetByDisk (status.SelfCheckFailed event) before after = ⊥

-- the disk was checked: it is sound, with so many pages and rows, or this clause is the first that doesn't hold
abbrev pub MetByCheck : Status → Outside → Outside → Type 0
MetByCheck status.Done before after = ⊥
MetByCheck status.WordsRefused before after = ⊥
MetByCheck (status.ScriptRefused fault) before after = ⊥
MetByCheck status.SourceFailed before after = ⊥
MetByCheck status.SinkFailed before after = ⊥
MetByCheck status.DiskFailed before after = Rose before.disk_faults after.disk_faults
MetByCheck status.NoMemory before after = Unit {0}
MetByCheck (status.Damaged volume at) before after = ⊥
MetByCheck (status.Sound pages rows) before after = IsSound before.contents pages rows
MetByCheck (status.Unsound breach) before after = IsUnsound before.contents breach
MetByCheck (status.Recovered table pages) before after = ⊥
MetByCheck (status.ImageRefused at) before after = ⊥
MetByCheck (status.SelfCheckFailed event) before after = ⊥

-- the source gave no script, and the disk wasn't touched; or it gave one
abbrev pub MetByPlay : ℕ → Status → Outside → Outside → Type 0
MetByPlay members met before after =
    (MetBySource members met before.left after.left before.source_faults after.source_faults × DiskIsUntouched before after)
    ⊎ (((script : Script) × IsRead members before.left after.left script) × MetByDisk met before after)

-- by the order of the words, if there is one
abbrev pub MetBy : Option Order → Status → Outside → Outside → Type 0
MetBy None met before after = met ≡ status.WordsRefused
MetBy (Some (order.Play sizes seed trace)) met before after = MetByPlay sizes.members met before after
MetBy (Some order.Show) met before after = MetByDisk met before after
MetBy (Some (order.Make n)) met before after = met ≡ status.Done
MetBy (Some (order.Work n sizes)) met before after = MetByDisk met before after
MetBy (Some order.Check) met before after = MetByCheck met before after
MetBy (Some (order.Copy table)) met before after = ⊥
MetBy (Some (order.Recover table)) met before after = ⊥

-- ---- what holds where a call has opened the disk and meets a status

-- a report of which this is known, or none that is told for a reason of which it is
abbrev pub RunsTo : (Ended → Type 0) → Status → Report → Type 0
RunsTo Keeps status.Done report = Keeps (ending.Told report) × (report.status ≡ 0)
RunsTo Keeps status.WordsRefused report = ⊥
RunsTo Keeps (status.ScriptRefused fault) report = ⊥
RunsTo Keeps status.SourceFailed report = ⊥
RunsTo Keeps status.SinkFailed report = ⊥
RunsTo Keeps status.DiskFailed report = Keeps (ending.Told report) × (report.status ≡ 5)
RunsTo Keeps status.NoMemory report = report ≡ empty_report 6
RunsTo Keeps (status.Damaged volume at) report = Keeps (ending.Damaged volume at) × (report ≡ empty_report 7)
RunsTo Keeps (status.Sound pages rows) report = ⊥
RunsTo Keeps (status.Unsound breach) report = ⊥
RunsTo Keeps (status.Recovered table pages) report = ⊥
RunsTo Keeps (status.ImageRefused at) report = ⊥
RunsTo Keeps (status.SelfCheckFailed event) report = Keeps (ending.Unsound event) × (report ≡ empty_report 11)

-- what a script comes to that is played by this seed from these rows
abbrev pub PlaysFrom : Kind → Script → Option ℕ → Bool → Outside → Outside → Account → List Row → Ended → Type 0
PlaysFrom kind script seed trace before after account opening = Plays kind script seed trace before.contents before.disk_faults after.disk_faults after.contents account opening

-- The script that was read, or that of the number, was played: its journal leads to the end of the script, and a report tells the fates to
-- which it leads, is sound for the script, for the rows before and for the logs that are left on a disk of a type that tells always; or the
-- run was stuck at an event, or the check said no to its entries. Or the rows before were shown.
abbrev pub RanBy : Kind → Option Order → Status → Outside → Outside → List Row → Account → Report → Type 0
RanBy kind None met before after opening account report = ⊥
RanBy kind (Some (order.Play sizes seed trace)) met before after opening account report =
    (script : Script) × IsRead sizes.members before.left after.left script × RunsTo (PlaysFrom kind script seed trace before after account opening) met report
RanBy kind (Some order.Show) met before after opening account report = RunsTo (Shows before.disk_faults after.disk_faults opening) met report
RanBy kind (Some (order.Make n)) met before after opening account report = ⊥
RanBy kind (Some (order.Work n sizes)) met before after opening account report = RunsTo (PlaysFrom kind (made n) (Some n) false before after account opening) met report
RanBy kind (Some order.Check) met before after opening account report = ⊥
RanBy kind (Some (order.Copy table)) met before after opening account report = ⊥
RanBy kind (Some (order.Recover table)) met before after opening account report = ⊥

-- ---- what is written

-- the number whose work is ordered
abbrev pub work_of : Option Order → Option ℕ
work_of None = None
work_of (Some (order.Play sizes seed trace)) = None
work_of (Some order.Show) = None
work_of (Some (order.Make n)) = None
work_of (Some (order.Work n sizes)) = Some n
work_of (Some order.Check) = None
work_of (Some (order.Copy table)) = None
work_of (Some (order.Recover table)) = None

-- where the disk was opened: the report, or its line for the work of a number; or the text of a status without one
abbrev pub run_text : Option ℕ → Status → Report → List ℕ
run_text work status.Done report = told_text work report
run_text work status.WordsRefused report = short_text status.WordsRefused
run_text work (status.ScriptRefused fault) report = short_text (status.ScriptRefused fault)
run_text work status.SourceFailed report = short_text status.SourceFailed
run_text work status.SinkFailed report = short_text status.SinkFailed
run_text work status.DiskFailed report = told_text work report
run_text work status.NoMemory report = short_text status.NoMemory
run_text work (status.Damaged volume at) report = short_text (status.Damaged volume at)
run_text work (status.Sound pages rows) report = short_text (status.Sound pages rows)
run_text work (status.Unsound breach) report = short_text (status.Unsound breach)
run_text work (status.Recovered table pages) report = short_text (status.Recovered table pages)
run_text work (status.ImageRefused at) report = short_text (status.ImageRefused at)
run_text work (status.SelfCheckFailed event) report = short_text (status.SelfCheckFailed event)

-- where it wasn't: the script of a number, or the text of the status
abbrev pub text_for : Option Order → Status → List ℕ
text_for (Some (order.Make n)) status.Done = script_text (made n)
text_for o met = short_text met

abbrev pub text_by : Option Order → Bool → Status → Report → List ℕ
text_by o true met report = run_text (work_of o) met report
text_by o false met report = text_for o met

-- the sink took the whole text; or it failed, as it counted, and took a front of it
pub record Tells (met ended : Status) (text : List ℕ) (taken taken_now : Option (List ℕ)) (faults faults_now : ℕ) : Type 0 where
  pub whole : (ended ≡ status.SinkFailed → ⊥) → (ended ≡ met) × Appends taken taken_now text
  pub front : ended ≡ status.SinkFailed → Rose faults faults_now × ((n : ℕ) × (n < length text) × Appends taken taken_now (take n text))

-- ---- the work of a number

-- what became of a disk that told this and had failed so often, and what is told of it
pub record Works (kind : Kind) (n : ℕ) (was : Option Contents) (before now : ℕ) (after : Option Contents) (opened : Bool) (opening : List Row) (account : Account) (told : Telling) : Type 0 where
  pub outcome : Outcome
  pub comes : Comes was before now account (Plays kind (made n) (Some n) false was before now after account) outcome
  pub told_is : TellsOutcome (Some n) outcome opened opening told

-- ---- the check of a disk

-- what the check of a disk came to that told this and had failed so often, and what is told of it
pub record Checks (before after : Option Contents) (faults faults_now : ℕ) (told : Telling) : Type 0 where
  pub came : Checked
  pub checked : IsChecked before after faults faults_now came
  pub told_is : IsOrWanting (short_telling (checked_status came)) told

-- ---- how a call ends

-- the order is one for which no disk is touched
abbrev pub TouchesNoDisk : Option Order → Type 0
TouchesNoDisk None = Unit {0}
TouchesNoDisk (Some (order.Play sizes seed trace)) = ⊥
TouchesNoDisk (Some order.Show) = ⊥
TouchesNoDisk (Some (order.Make n)) = Unit {0}
TouchesNoDisk (Some (order.Work n sizes)) = ⊥
TouchesNoDisk (Some order.Check) = ⊥
TouchesNoDisk (Some (order.Copy table)) = ⊥
TouchesNoDisk (Some (order.Recover table)) = ⊥

-- the order is one for which nothing is written to a disk
abbrev pub WritesNothing : Option Order → Type 0
WritesNothing None = Unit {0}
WritesNothing (Some (order.Play sizes seed trace)) = ⊥
WritesNothing (Some order.Show) = ⊥
WritesNothing (Some (order.Make n)) = Unit {0}
WritesNothing (Some (order.Work n sizes)) = ⊥
WritesNothing (Some order.Check) = Unit {0}
WritesNothing (Some (order.Copy table)) = ⊥
WritesNothing (Some (order.Recover table)) = ⊥

-- the order is one for which nothing but group restarts writes to the disk: where it plays a script, unless a run has opened
abbrev pub RestartsAlone : Option Order → Bool → Type 0
RestartsAlone None opened = Unit {0}
RestartsAlone (Some (order.Play sizes seed trace)) opened = opened ≡ false
RestartsAlone (Some order.Show) opened = Unit {0}
RestartsAlone (Some (order.Make n)) opened = Unit {0}
RestartsAlone (Some (order.Work n sizes)) opened = opened ≡ false
RestartsAlone (Some order.Check) opened = Unit {0}
RestartsAlone (Some (order.Copy table)) opened = ⊥
RestartsAlone (Some (order.Recover table)) opened = ⊥

-- the status tells of this damage
abbrev pub TellsDamage : Status → Volume → ℕ → Type 0
TellsDamage met v at = met ≡ status.Damaged v at

-- the order is one for which nothing is played
abbrev pub PlaysNothing : Option Order → Type 0
PlaysNothing None = Unit {0}
PlaysNothing (Some (order.Play sizes seed trace)) = ⊥
PlaysNothing (Some order.Show) = Unit {0}
PlaysNothing (Some (order.Make n)) = Unit {0}
PlaysNothing (Some (order.Work n sizes)) = ⊥
PlaysNothing (Some order.Check) = Unit {0}
PlaysNothing (Some (order.Copy table)) = Unit {0}
PlaysNothing (Some (order.Recover table)) = Unit {0}

-- over a kind of disks: which status a call meets with which text, by what the words order and by whether the disk was opened, and what is
-- kept of the events of a run
pub record Meets (kind : Kind) (o : Option Order) (before after : Outside) (met : Status) (text : List ℕ) (opened : Bool) (opening : List Row) (account : Account) (report : Report) : Type 0 where
  pub ran : opened ≡ true → RanBy kind o met before after opening account report
  pub short : opened ≡ false → (met ≡ status.NoMemory → ⊥) → MetBy o met before after
  pub text_is : text ≡ text_by o opened met report
  pub opens : opened ≡ true → IsOpening before.contents opening
  pub unopened : opened ≡ false → (report.entries ≡ []) × ((opening ≡ []) × (account ≡ no_account))
  pub unfailed : met ≡ status.Done → account.faults ≡ []
  pub unplayed : PlaysNothing o → account ≡ no_account
  pub untouched : TouchesNoDisk o → DiskIsUntouched before after
  pub unwritten : WritesNothing o → Becomes before.contents after.contents Same
  pub unread : ReadsNothing o → after.left ≡ before.left

-- the same, and it is told; where memory is wanting nothing is written
pub record Ends (kind : Kind) (o : Option Order) (before after : Outside) (ended : Status) (opened : Bool) (opening : List Row) (account : Account) (report : Report) (taken taken_now : Option (List ℕ)) (faults faults_now : ℕ) : Type 0 where
  pub met : Status
  pub text : List ℕ
  pub meets : Meets kind o before after met text opened opening account report
  pub told : Tells met ended text taken taken_now faults faults_now
  pub wanting : ended ≡ status.NoMemory → Appends taken taken_now []

-- ---- how a copy of a table ends, and its recovery

-- the line of a status was told; or memory was wanting for it
abbrev pub TellsLine : Status → Status → Option (List ℕ) → Option (List ℕ) → ℕ → ℕ → Type 0
TellsLine met ended taken taken_now faults faults_now = Tells met ended (short_text met) taken taken_now faults faults_now ⊎ ((ended ≡ status.NoMemory) × Appends taken taken_now [])

-- what is told behind a copy: nothing, or, where nothing of the image was written, the text of a status; or memory is wanting for it
abbrev pub TellsCopy : Copied → Status → Option (List ℕ) → Option (List ℕ) → ℕ → ℕ → Type 0
TellsCopy (copied.Whole pages) ended taken taken_now faults faults_now = (ended ≡ status.Done) × ((taken_now ≡ taken) × (faults_now ≡ faults))
TellsCopy (copied.Broken why) ended taken taken_now faults faults_now = (ended ≡ copy_status why) × ((taken_now ≡ taken) × (faults_now ≡ faults))
TellsCopy (copied.Unopened why) ended taken taken_now faults faults_now = TellsLine (copy_status why) ended taken taken_now faults faults_now

-- A group restart, and then the image, of which the sink has taken what it took, and nothing behind it.
pub record FinishesCopy (table : ℕ) (contents contents_now : Option Contents) (disk_faults disk_faults_now : ℕ) (taken taken_now : Option (List ℕ)) (faults faults_now : ℕ) (ended : Status) : Type 0 where
  pub came : Copied
  pub taken_by : Option (List ℕ)
  pub faults_by : ℕ
  pub copied_is : IsCopied table (record { contents = contents; disk_faults = disk_faults; taken = taken; sink_faults = faults })
      (record { contents = contents_now; disk_faults = disk_faults_now; taken = taken_by; sink_faults = faults_by }) came
  pub told : TellsCopy came ended taken_by taken_now faults_by faults_now

-- no run opens, and the source isn't read
pub record EndsCopy (table : ℕ) (before after : Outside) (ended : Status) (opened : Bool) (opening : List Row) (account : Account) (report : Report) (taken taken_now : Option (List ℕ)) (faults faults_now : ℕ) : Type 0 where
  pub copies : FinishesCopy table before.contents after.contents before.disk_faults after.disk_faults taken taken_now faults faults_now ended
  pub unopened : (opened ≡ false) × (opening ≡ []) × (account ≡ no_account) × (report.entries ≡ [])
  pub unread : after.left ≡ before.left

-- a disk and a source, as a recovery speaks of them
abbrev pub with_source : Outside → SourceAround
with_source o = record { contents = o.contents; disk_faults = o.disk_faults; left = o.left; source_faults = o.source_faults }

-- The recovery of a table from the image that is left of the source, and the group restart behind it, and the line that is told of what they came to.
pub record FinishesRecovery (table : ℕ) (before after : SourceAround) (taken taken_now : Option (List ℕ)) (faults faults_now : ℕ) (ended : Status) : Type 0 where
  pub came : Result ℕ CopyFault
  pub recovers : RecoversTable table before after came
  pub told : TellsLine (recovered_status table came) ended taken taken_now faults faults_now

-- no run opens
pub record EndsRecovery (table : ℕ) (before after : Outside) (ended : Status) (opened : Bool) (opening : List Row) (account : Account) (report : Report) (taken taken_now : Option (List ℕ)) (faults faults_now : ℕ) : Type 0 where
  pub recovers : FinishesRecovery table (with_source before) (with_source after) taken taken_now faults faults_now ended
  pub unopened : (opened ≡ false) × (opening ≡ []) × (account ≡ no_account) × (report.entries ≡ [])

-- by the order of the words
abbrev pub EndsBy : Kind → Option Order → Outside → Outside → Status → Bool → List Row → Account → Report → Option (List ℕ) → Option (List ℕ) → ℕ → ℕ → Type 0
EndsBy kind (Some (order.Copy table)) before after ended opened opening account report taken taken_now faults faults_now = EndsCopy table before after ended opened opening account report taken taken_now faults faults_now
EndsBy kind (Some (order.Recover table)) before after ended opened opening account report taken taken_now faults faults_now = EndsRecovery table before after ended opened opening account report taken taken_now faults faults_now
EndsBy kind o before after ended opened opening account report taken taken_now faults faults_now = Ends kind o before after ended opened opening account report taken taken_now faults faults_now
