use Rattle.std.proofs.Common.{◌≡◌}
use Rattle.restart_records.specs.Own.{all_put}
use Rattle.restart_records.proofs.own.put_all.Given as goal

abbrev pub invariant-loop-it : goal.invariant-loop-it
invariant-loop-it l = l.places ≡ all_put l.fn.places l.yielded
