use Rattle.std.proofs.Common.{◌≡◌, ◌++◌, map, take}
use Rattle.ds_model.specs.declared.script.Tran.{Tran}
use Rattle.report_told.proofs.names.put_part.Given as goal

abbrev pub invariant-loop-tran : goal.invariant-loop-tran
invariant-loop-tran l = map (λ n. n.now) l.names.items ≡ map (λ n. n.now) l.fn.names.items ++ map (λ (t : Tran). t.name) (take l.tran-index l.part.trans)
