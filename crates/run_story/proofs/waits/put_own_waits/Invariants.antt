use Rattle.std.proofs.Common.{◌≡◌, ◌++◌, take}
use Rattle.std.specs.List.{flat_map}
use Rattle.run_story.specs.Facts.{facts_of}
use Rattle.run_story.specs.Stories.{wait_if}
use Rattle.run_story.proofs.waits.put_own_waits.Given as goal

abbrev pub invariant-loop-wait : goal.invariant-loop-wait
invariant-loop-wait l = l.out ≡ l.fn.out ++ flat_map (wait_if l.report (facts_of l.known) l.number) (take l.wait-index l.known.read.waits.items)
