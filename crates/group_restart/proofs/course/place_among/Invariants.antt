use Rattle.std.proofs.Common.{◌≡◌, drop}
use Rattle.group_restart.specs.Course.{place_among}
use Rattle.group_restart.proofs.course.place_among.Given as goal

abbrev pub invariant-loop-log : goal.invariant-loop-log
invariant-loop-log l = place_among (drop l.log-index l.logs) l.member l.at ≡ place_among l.logs l.member l.at
