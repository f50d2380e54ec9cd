use Rattle.std.proofs.Common.{◌≡◌, map}
use Rattle.ds_model.specs.Told.{entry_of}
use Rattle.report_told.proofs.entries.tell_entries.Given as goal

abbrev pub invariant-loop-entry : goal.invariant-loop-entry
invariant-loop-entry l = l.told ≡ map (entry_of l.script) l.yielded
