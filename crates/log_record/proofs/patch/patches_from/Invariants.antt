use Rattle.std.proofs.Common.{◌≡◌, ◌-◌}
use Rattle.log_record.specs.Fields.{patches_from}
use Rattle.log_record.proofs.Patches.{joined}
use Rattle.log_record.proofs.patch.patches_from.Given as goal

abbrev pub invariant-loop : goal.invariant-loop
invariant-loop l = patches_from l.count l.fields l.start ≡ joined l.patches (patches_from (l.count - l.counter) l.fields l.at)
