use Rattle.report_check.proofs.Noting.{queue_taken}
use Rattle.report_check.proofs.commits.next_commit.Goals as goal

pub returns-then-place-commits-clause-left : goal.returns-then-place-commits-clause-left
returns-then-place-commits-clause-left c =
    queue_taken c.args.commits.now c.number.result c.args.member c.index-commits-place.result c.pop_front.new.self c.number.ensures.value c.if-place-commits.true c.pop_front.ensures.rest
