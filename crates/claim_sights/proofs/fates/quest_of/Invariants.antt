use Rattle.std.proofs.Common.{◌≡◌, drop}
use Rattle.claim_sights.specs.Quests.{quest_of}
use Rattle.claim_sights.proofs.fates.quest_of.Given as goal

abbrev pub invariant-loop-entry : goal.invariant-loop-entry
invariant-loop-entry l = quest_of l.number (drop l.entry-index l.entries) l.causes ≡ quest_of l.number l.entries l.causes
