-- What is kept of the events of a run, and what a trace tells of it.
use Rattle.std.specs.Prelude.{◌≡◌, ℕ, ◌-◌, Bool, true, false, List, [], map, slice_index_or}
use Rattle.ds_model.specs.declared.script.Script.{Script}
use Rattle.ds_model.specs.declared.report.CauseLine.{CauseLine}
use Rattle.ds_model.specs.declared.report.Trace.{Trace}
use Rattle.report_told.specs.Names.{names_in}
use Rattle.group_core.specs.declared.close.Played.{Played}
use Rattle.script_fates.specs.declared.fates.Cause.{Cause}
use Rattle.checked_run.specs.declared.account.Account.{Account}

-- nothing was played
abbrev pub no_account : Account
no_account = record { journal = []; causes = []; faults = [] }

-- what a group leaves that has played
abbrev pub account_of : Played → Account
account_of played = record { journal = played.journal.items; causes = played.causes.items; faults = played.faults.items }

abbrev pub no_trace : Trace
no_trace = record { causes = []; events = [] }

-- the transaction of a cause by its name, with the same place
abbrev pub cause_line : Script → Cause → CauseLine
cause_line script cause = record { name = slice_index_or (names_in script) (cause.number - 1) []; place = cause.place }

abbrev pub cause_lines : Script → List Cause → List CauseLine
cause_lines script causes = map (cause_line script) causes

-- whether one was wanted: no trace; or its causes are these
pub record TellsTrace (script : Script) (traced : Bool) (causes : List Cause) (trace : Trace) : Type 0 where
  pub untraced : traced ≡ false → trace ≡ no_trace
  pub causes_are : traced ≡ true → trace.causes ≡ cause_lines script causes
