-- The report of a call that has none to tell.
use Rattle.std.specs.Prelude.{ℕ, []}
use Rattle.ds_model.specs.declared.report.Report.{Report}
use Rattle.checked_run.specs.Told.{plain_report}

-- a report of nothing that was done over no rows
abbrev pub empty_report : ℕ → Report
empty_report status = plain_report [] status
