use Rattle.std.proofs.Common.{◌≡◌}
use Rattle.restart_records.specs.Trans.{all_added}
use Rattle.restart_records.proofs.trans.RestartTrans.add_all.Given as goal

abbrev pub invariant-loop-tran : goal.invariant-loop-tran
invariant-loop-tran l = l.self ≡ all_added l.fn.self l.yielded
