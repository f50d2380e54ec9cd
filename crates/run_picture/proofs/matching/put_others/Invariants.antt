use Rattle.std.proofs.Common.{◌≡◌, ◌++◌, filter}
use Rattle.run_picture.specs.Matches.{below, is_other_of}
use Rattle.run_picture.proofs.matching.put_others.Given as goal

abbrev pub invariant-loop-number : goal.invariant-loop-number
invariant-loop-number l = l.queue.items ≡ l.fn.queue.items ++ filter (is_other_of l.spans l.member) (below l.number)
