use Rattle.std.proofs.Common.{arith}
use Rattle.std.proofs.lemmas.Grind.{common_steps}
use Rattle.claim_sights.proofs.Slots.{slots_more}
use Rattle.claim_sights.proofs.grips.put_slots.Goals as goal

pub loop-at-preserved : goal.loop-at-preserved
loop-at-preserved c = grind (arith, common_steps, slots_more)
