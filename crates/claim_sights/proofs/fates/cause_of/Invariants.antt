use Rattle.std.proofs.Common.{◌≡◌, drop}
use Rattle.claim_sights.specs.Quests.{cause_of}
use Rattle.claim_sights.proofs.fates.cause_of.Given as goal

abbrev pub invariant-loop-cause : goal.invariant-loop-cause
invariant-loop-cause l = cause_of (drop l.cause-index l.causes) l.number ≡ cause_of l.causes l.number
