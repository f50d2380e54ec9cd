use Rattle.std.proofs.Common.{◌≡◌, ◌++◌, drop}
use Rattle.run_story.specs.Facts.{facts_of}
use Rattle.run_story.specs.Stories.{cycle_text}
use Rattle.run_story.proofs.named.put_cycle.Given as goal

abbrev pub invariant-loop-next : goal.invariant-loop-next
invariant-loop-next l =
    l.out ++ cycle_text l.report (facts_of l.known) l.place l.first l.one (drop l.next-index l.others)
    ≡ l.fn.out ++ cycle_text l.report (facts_of l.known) l.place l.first l.first l.others
