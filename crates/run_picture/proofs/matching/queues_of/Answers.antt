use Rattle.run_picture.proofs.Taking.{queues_push}
use Rattle.run_picture.proofs.matching.queues_of.Goals as goal

pub loop-member-preserved : goal.loop-member-preserved
loop-member-preserved c = queues_push c.args.read.now.spans.items c.args.read.now.commits.items c.loop-member.member c.loop-member.queues.items c.in_ok-numbers_of.field-0 c.push.new.self.items c.loop-member.invariant c.in_ok-numbers_of.ensures c.in_ok-push.ensures.items
