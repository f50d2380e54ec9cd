use Rattle.std.proofs.Common.{◌≡◌, drop}
use Rattle.restart_plan.specs.Opened.{with_trans}
use Rattle.restart_plan.proofs.opened.add_trans.Given as goal

abbrev pub invariant-loop-tran : goal.invariant-loop-tran
invariant-loop-tran l = with_trans l.member l.lrsn l.opened (drop l.tran-index l.trans) ≡ with_trans l.member l.lrsn l.fn.opened l.trans
