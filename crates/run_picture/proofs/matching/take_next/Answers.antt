use Rattle.run_picture.proofs.Taking.{next_taken, left_taken, next_none, left_none}
use Rattle.run_picture.proofs.matching.take_next.Goals as goal

pub returns-then-member-queues-clause-taken : goal.returns-then-member-queues-clause-taken
returns-then-member-queues-clause-taken c = next_taken c.args.spans.now c.args.cause c.args.queues.now c.args.entry.now c.number-member.result c.index-queues-member.result c.take_first.result c.number-member.ensures.value c.if-member-queues.true c.take_first.ensures.taken

pub returns-then-member-queues-clause-left : goal.returns-then-member-queues-clause-left
returns-then-member-queues-clause-left c = left_taken c.args.spans.now c.args.cause c.args.queues.now c.args.entry.now c.number-member.result c.index-queues-member.result c.take_first.new.queue c.number-member.ensures.value c.if-member-queues.true c.take_first.ensures.left

pub returns-else-member-queues-clause-taken : goal.returns-else-member-queues-clause-taken
returns-else-member-queues-clause-taken c = next_none c.args.spans.now c.args.cause c.args.queues.now c.args.entry.now c.number-member.result c.number-member.ensures.value c.if-member-queues.false

pub returns-else-member-queues-clause-left : goal.returns-else-member-queues-clause-left
returns-else-member-queues-clause-left c = left_none c.args.spans.now c.args.cause c.args.queues.now c.args.entry.now c.number-member.result c.number-member.ensures.value c.if-member-queues.false
