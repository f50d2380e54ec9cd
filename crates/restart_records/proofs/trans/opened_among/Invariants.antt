use Rattle.std.proofs.Common.{◌≡◌}
use Rattle.restart_records.specs.Trans.{opened_among}
use Rattle.restart_records.proofs.trans.opened_among.Given as goal

abbrev pub invariant-loop-tran : goal.invariant-loop-tran
invariant-loop-tran l = l.opened ≡ opened_among l.yielded
