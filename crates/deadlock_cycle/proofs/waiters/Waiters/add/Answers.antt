use Rattle.std.proofs.Common.{arith}
use Rattle.std.proofs.lemmas.Grind.{common_steps}
use Rattle.deadlock_cycle.proofs.Lists.{added}
use Rattle.deadlock_cycle.proofs.waiters.Waiters.add.Goals as goal

pub returns : goal.returns
returns c = added c.args.self.now.lists.entries _ c.args.wait c.push.new.self (λ q. grind (arith, common_steps)) (grind (arith, common_steps))
