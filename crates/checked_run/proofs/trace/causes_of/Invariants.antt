use Rattle.std.proofs.Common.{◌≡◌, take}
use Rattle.checked_run.specs.Accounts.{cause_lines}
use Rattle.checked_run.proofs.trace.causes_of.Given as goal

abbrev pub invariant-loop-cause : goal.invariant-loop-cause
invariant-loop-cause l = l.told ≡ cause_lines l.script (take l.cause-index l.causes)
