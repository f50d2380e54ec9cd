use Rattle.failed_logs.proofs.failures_hand_over.Goals as goal
use Rattle.failed_logs.proofs.Failing.{up_hands_over}

pub returns : goal.returns
returns c = up_hands_over (record { run = c.keeps_sound.ensures.run; fails = c.members_fail.ensures; go = c.member_failures_go.ensures; leaves = c.failures_leave.ensures.leaves; hands = c.claims_handed_over.ensures })
