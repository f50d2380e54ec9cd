-- What a run comes to by what was found before it is checked, and by the check.
use Rattle.std.proofs.Common.{◌≡◌, ◌⊎◌, inl, inr, ℕ, ◌+◌, Bool, true, false, List, [], length, Option, Some, None, Result, Ok, Err, IfOk, IfErr, refl, sym, subst, ◌∙◌}
use Rattle.ds_base.specs.Causes.{Rose}
use Rattle.ds_disk.specs.Contents.{Contents}
use Rattle.ds_model.specs.declared.script.Script.{Script}
use Rattle.ds_model.specs.declared.report.Report.{Report}
use Rattle.ds_model.specs.declared.history.Entry.{Entry}
use Rattle.group_core.specs.Goes.{HasFailed, IsFailed}
use Rattle.group_core.specs.declared.closed.Closed.{Closed}
use Rattle.group_core.specs.declared.closed.Closed.TheVariants as closing
use Rattle.group_core.specs.declared.fault.RunFault.{RunFault}
use Rattle.group_core.specs.declared.schedule.RunEnd.{RunEnd}
use Rattle.group_core.specs.declared.schedule.RunEnd.TheVariants as ends
use Rattle.opening_rows.specs.declared.opening.Opening.{Opening}
use Rattle.checked_run.specs.declared.account.Account.{Account}
use Rattle.checked_run.specs.declared.ended.Ended.{Ended}
use Rattle.checked_run.specs.declared.ended.Ended.TheVariants as ended
use Rattle.checked_run.specs.Told.{IfTold, IsTold, TellsEntries}
use Rattle.checked_run.specs.Settled.{IsPlayed, Refuses, Checks, RefutesEntries, CanSettle, Settles}

caused : (faults : List ℕ) (why : Option RunFault) (closed : Closed) (failed : Bool) → (failed ≡ true → HasFailed faults) → (failed ≡ true) ⊎ (IsFailed why ⊎ (closed ≡ closing.Failed)) → HasFailed faults ⊎ (IsFailed why ⊎ (closed ≡ closing.Failed))
caused faults why closed failed called cause = elim cause [ inl is ↦ inl (called is) | inr other ↦ inr other ]

-- by what was found of the run
pub can_settle : (before now : ℕ) (faults : List ℕ) (events : ℕ) (end : RunEnd) (why : Option RunFault) (closed : Closed) (failed : Bool) (found : Result Bool Ended)
    → (failed ≡ true → HasFailed faults) → (failed ≡ false → faults ≡ [])
    → (HasFailed faults ⊎ (IsFailed why ⊎ (closed ≡ closing.Failed)) → Rose before now)
    → IfOk found (λ n. n ≡ false → (failed ≡ false) × ((why ≡ None) × (end ≡ ends.Over)))
    → IfOk found (λ n. n ≡ true → (failed ≡ true) ⊎ (IsFailed why ⊎ (closed ≡ closing.Failed)))
    → IfOk found (λ n. IsPlayed end why) → IfErr found (Refuses end why events) → CanSettle before now faults events end why found
can_settle before now faults events end why closed failed (Ok n) called none rose whole cause played refused =
    (λ e. rose (caused faults why closed failed called (cause e)), (λ e. (none (whole e).0, ((whole e).1.1, (whole e).1.0)), played))
can_settle before now faults events end why closed failed (Err out) called none rose whole cause played refused = refused

pub refused : (tells : Type 0) (script : Script) (traced : Bool) (opening : Opening) (before now : ℕ) (after : Option Contents) (account : Account) (end : RunEnd) (why : Option RunFault) (entries : List Entry) (out : Ended)
    → Refuses end why (length account.journal) out → Settles tells script traced opening before now after account end why entries out
refused tells script traced opening before now after account end why entries (ended.Told report) is = absurd is
refused tells script traced opening before now after account end why entries (ended.Damaged volume at) is = tt
refused tells script traced opening before now after account end why entries (ended.Unsound event) is = inl is
refused tells script traced opening before now after account end why entries ended.NoMemory is = tt

pub checked : (tells : Type 0) (script : Script) (traced : Bool) (opening : Opening) (before begun now : ℕ) (after : Option Contents) (account : Account) (end : RunEnd) (why : Option RunFault) (entries : List Entry) (failed : Bool) (out : Ended)
    → CanSettle before begun account.faults (length account.journal) end why (Ok failed)
    → Checks (IsTold tells script traced opening.rows before now after account) (RefutesEntries tells script opening entries before now after) out
    → IfTold out (λ report. TellsEntries script entries report.entries × (report.status ≡ 0 → failed ≡ false))
    → Settles tells script traced opening before now after account end why entries out
checked tells script traced opening before begun now after account end why entries failed (ended.Told report) can checks told = record {
  told = checks;
  entries_are = told.0;
  played = can.1.1;
  whole = λ zero. (can.1.0 (told.1 zero)).1;
}
checked tells script traced opening before begun now after account end why entries failed (ended.Damaged volume at) can checks told = tt
checked tells script traced opening before begun now after account end why entries failed (ended.Unsound event) can checks told = inr (checks.0, (can.1.1, checks.1))
checked tells script traced opening before begun now after account end why entries failed ended.NoMemory can checks told = tt
