use Rattle.std.proofs.Common.{◌≡◌, ◌++◌, filter, take}
use Rattle.run_picture.specs.Matches.{is_committed_of}
use Rattle.run_picture.proofs.matching.put_committed.Given as goal

abbrev pub invariant-loop-number : goal.invariant-loop-number
invariant-loop-number l = l.queue.items ≡ l.fn.queue.items ++ filter (is_committed_of l.spans l.member) (take l.number-index l.commits)
