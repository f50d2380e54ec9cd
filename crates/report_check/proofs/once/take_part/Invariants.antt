use Rattle.std.proofs.Common.{◌≡◌, ◌++◌, take, map}
use Rattle.ds_model.specs.declared.script.Tran.{Tran}
use Rattle.ds_model.specs.Transactions.{Placed}
use Rattle.report_check.proofs.Onces.{placed_seen}
use Rattle.report_check.proofs.once.take_part.Given as goal

abbrev pub invariant-loop-tran : goal.invariant-loop-tran
invariant-loop-tran l = map placed_seen l.out.items ≡ map placed_seen l.fn.out.items ++ map (λ (t : Tran). let it : Placed = (l.member, t) in it) (take l.tran-index l.tran-items)
