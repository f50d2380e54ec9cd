-- What a run comes to that has ended.
use Rattle.std.specs.Prelude.{◌≡◌, ◌⊎◌, ℕ, ◌+◌, Bool, true, false, List, [], length, Option, Some, None, Result, Ok, Err}
use Rattle.ds_base.specs.Causes.{Rose}
use Rattle.ds_disk.specs.Contents.{Contents}
use Rattle.ds_model.specs.declared.script.Script.{Script}
use Rattle.ds_model.specs.declared.report.Report.{Report}
use Rattle.ds_model.specs.declared.history.Entry.{Entry}
use Rattle.group_core.specs.declared.fault.RunFault.{RunFault}
use Rattle.group_core.specs.declared.fault.RunFault.TheVariants as fault
use Rattle.group_core.specs.declared.schedule.RunEnd.{RunEnd}
use Rattle.group_core.specs.declared.schedule.RunEnd.TheVariants as ends
use Rattle.opening_rows.specs.declared.opening.Opening.{Opening}
use Rattle.checked_run.specs.declared.account.Account.{Account}
use Rattle.checked_run.specs.declared.ended.Ended.{Ended}
use Rattle.checked_run.specs.declared.ended.Ended.TheVariants as ended
use Rattle.checked_run.specs.Printed.{IsPrinted}
use Rattle.checked_run.specs.Refuted.{IsRefuted}
use Rattle.checked_run.specs.Told.{IsTold, TellsEntries}

-- the script was played to its end, or a call of the disk failed in a group restart
abbrev pub IsPlayed : RunEnd → Option RunFault → Type 0
IsPlayed end why = ((end ≡ ends.Over) × (why ≡ None)) ⊎ (why ≡ Some fault.Failed)

-- what was wanted in this event was refused; or no event was ready where this one was due, behind so many
abbrev pub IsStuck : RunEnd → Option RunFault → ℕ → ℕ → Type 0
IsStuck end why events event = (why ≡ Some (fault.Unlawful event)) ⊎ ((end ≡ ends.Stalled) × ((why ≡ None) × (event ≡ events + 1)))

-- what a run comes to that ended so behind so many events, and has nothing to be checked
abbrev pub Refuses : RunEnd → Option RunFault → ℕ → Ended → Type 0
Refuses end why events (ended.Told report) = ⊥
Refuses end why events (ended.Damaged volume at) = Unit {0}
Refuses end why events (ended.Unsound event) = IsStuck end why events event
Refuses end why events ended.NoMemory = Unit {0}

-- What a run came to that ended so, with calls of the disk that failed at these places and behind so many events: whether one has failed, as
-- the disk has counted, which ends a run in a group restart alone; or what has nothing to be checked.
abbrev pub CanSettle : ℕ → ℕ → List ℕ → ℕ → RunEnd → Option RunFault → Result Bool Ended → Type 0
CanSettle before now faults events end why (Ok failed) =
    (failed ≡ true → Rose before now) × ((failed ≡ false → (faults ≡ []) × ((end ≡ ends.Over) × (why ≡ None))) × IsPlayed end why)
CanSettle before now faults events end why (Err ended) = Refuses end why events ended

-- what the check comes to: a report that keeps this; or it said no, for which this holds
abbrev pub Checks : (Report → Type 0) → Type 0 → Ended → Type 0
Checks Keeps Refutes (ended.Told report) = Keeps report
Checks Keeps Refutes (ended.Damaged volume at) = ⊥
Checks Keeps Refutes (ended.Unsound event) = (event ≡ 0) × Refutes
Checks Keeps Refutes ended.NoMemory = ⊥

-- the check said no to these entries, in the order in which they are printed
abbrev pub RefutesEntries : Type 0 → Script → Opening → List Entry → ℕ → ℕ → Option Contents → Type 0
RefutesEntries tells script opening entries before now after = (printed : List Entry) × (IsPrinted entries printed × IsRefuted tells script opening printed before now after)

-- The report of a run that ended so, with these entries in the order of their fates: it tells them, and with status 0 the script was
-- played to its end.
pub record IsSettled (tells : Type 0) (script : Script) (traced : Bool) (opening : Opening) (before now : ℕ) (after : Option Contents) (account : Account) (end : RunEnd) (why : Option RunFault) (entries : List Entry) (report : Report) : Type 0 where
  pub told : IsTold tells script traced opening.rows before now after account report
  pub entries_are : TellsEntries script entries report.entries
  pub played : IsPlayed end why
  pub whole : report.status ≡ 0 → (end ≡ ends.Over) × (why ≡ None)

-- no report is told: the run was stuck at this event; or, where it is 0, the check said no to the entries
abbrev pub IsUnsound : Type 0 → Script → Opening → ℕ → ℕ → Option Contents → Account → RunEnd → Option RunFault → List Entry → ℕ → Type 0
IsUnsound tells script opening before now after account end why entries event =
    IsStuck end why (length account.journal) event
    ⊎ ((event ≡ 0) × (IsPlayed end why × RefutesEntries tells script opening entries before now after))

-- what a run comes to that ended so
abbrev pub Settles : Type 0 → Script → Bool → Opening → ℕ → ℕ → Option Contents → Account → RunEnd → Option RunFault → List Entry → Ended → Type 0
Settles tells script traced opening before now after account end why entries (ended.Told report) = IsSettled tells script traced opening before now after account end why entries report
Settles tells script traced opening before now after account end why entries (ended.Damaged volume at) = Unit {0}
Settles tells script traced opening before now after account end why entries (ended.Unsound event) = IsUnsound tells script opening before now after account end why entries event
Settles tells script traced opening before now after account end why entries ended.NoMemory = Unit {0}
