use Rattle.failed_logs.proofs.failures_claim.Goals as goal
use Rattle.failed_logs.proofs.Claimed.{fails_claimed, fails_locked, fails_unread}

pub returns : goal.returns
returns c = record {
  up = fails_claimed c.failures_hand_over.ensures c.left_is_locked.ensures;
  unread = fails_unread c.failures_keep.ensures;
  locked = fails_locked c.failures_keep.ensures c.left_is_locked.ensures;
}
