use Rattle.std.proofs.lemmas.Grind.{common_steps}
use Rattle.std.proofs.Common.{◌-◌, arith, slice_set}
use Rattle.ds_disk.specs.Logs.{cut_logs_have}
use Rattle.ds_disk.proofs.log_set.LogSet.cut.Goals as goal

pub returns-clause-logged : goal.returns-clause-logged
returns-clause-logged c = cut_logs_have c.args.self.now (slice_set c.self.inside.logs.items (c.number.result - 1) c.truncate.new.self) c.args.member c.args.length (grind (arith, common_steps))
