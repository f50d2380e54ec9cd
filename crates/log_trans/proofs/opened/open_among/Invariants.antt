use Rattle.std.proofs.Common.{◌≡◌}
use Rattle.log_trans.specs.Courses.{open_among}
use Rattle.log_trans.proofs.opened.open_among.Given as goal

abbrev pub invariant-loop-id : goal.invariant-loop-id
invariant-loop-id l = l.opened ≡ open_among l.yielded
