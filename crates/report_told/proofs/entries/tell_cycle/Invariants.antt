use Rattle.std.proofs.Common.{◌≡◌, map, take}
use Rattle.ds_model.specs.declared.script.Script.{Script}
use Rattle.ds_model.specs.Transactions.{name_of}
use Rattle.report_told.specs.Names.{names_in}
use Rattle.report_told.proofs.entries.tell_cycle.Given as goal

abbrev pub invariant-loop-tran : goal.invariant-loop-tran
invariant-loop-tran l = (s : Script) → map (λ n. n.now) l.names ≡ names_in s → l.told ≡ map (λ t. name_of s t.number) (take l.tran-index l.cycle)
