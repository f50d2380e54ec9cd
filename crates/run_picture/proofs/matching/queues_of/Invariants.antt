use Rattle.std.proofs.Common.{◌≡◌}
use Rattle.run_picture.specs.Matches.{queues_to}
use Rattle.run_picture.proofs.Taking.{queues}
use Rattle.run_picture.proofs.matching.queues_of.Given as goal

abbrev pub invariant-loop-member : goal.invariant-loop-member
invariant-loop-member l = queues l.queues.items ≡ queues_to l.read.spans.items l.read.commits.items l.member
