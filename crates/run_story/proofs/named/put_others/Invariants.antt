use Rattle.std.proofs.Common.{◌≡◌, ◌++◌, take}
use Rattle.std.specs.List.{flat_map}
use Rattle.run_story.specs.Facts.{facts_of}
use Rattle.run_story.specs.Stories.{other_named}
use Rattle.run_story.proofs.named.put_others.Given as goal

abbrev pub invariant-loop-name : goal.invariant-loop-name
invariant-loop-name l = l.out ≡ l.fn.out ++ flat_map (other_named l.report (facts_of l.known)) (take l.name-index l.names)
