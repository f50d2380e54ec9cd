use Rattle.failed_logs.proofs.failures_keep.Goals as goal
use Rattle.failed_logs.proofs.Restarting.{down_hands_over}

pub returns : goal.returns
returns c = down_hands_over c.keeps_sound.ensures.run c.members_fail.ensures c.member_failures_go.ensures c.failures_leave.ensures.rows
