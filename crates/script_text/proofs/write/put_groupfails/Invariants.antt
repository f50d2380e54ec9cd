use Rattle.std.proofs.Common.{◌≡◌, ◌++◌}
use Rattle.ds_model.specs.ScriptText.{groupfail_text}
use Rattle.script_text.proofs.write.put_groupfails.Given as goal

abbrev pub invariant-loop : goal.invariant-loop
invariant-loop l = l.out ≡ l.fn.out ++ groupfail_text l.counter
