use Rattle.std.proofs.Common.{◌∙◌, ap, length}
use Rattle.ds_disk.specs.Logs.{logs_have_bytes, empty_logs_have}
use Rattle.ds_disk.specs.Written.{have_bytes, none_have}
use Rattle.ds_disk.proofs.Writes.{nothing_told}
use Rattle.ds_disk.proofs.memory.MemoryDisk.new.Goals as goal

pub invariant_of-result : goal.invariant_of-result
invariant_of-result c = (ap length c.in_ok-new.ensures, ap have_bytes c.new.ensures ∙ none_have, ap logs_have_bytes c.in_ok-new.ensures ∙ empty_logs_have)

pub returns-clause-tells : goal.returns-clause-tells
returns-clause-tells c = nothing_told c.new.result c.in_ok-new.field-0 c.new.ensures c.in_ok-new.ensures
