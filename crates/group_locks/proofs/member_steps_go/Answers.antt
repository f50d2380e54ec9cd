use Rattle.group_locks.proofs.member_steps_go.Goals as goal
use Rattle.group_locks.proofs.Members.{member_steps}

pub returns : goal.returns
returns c = member_steps (record { run = c.keeps_sound.ensures.run; steps = c.members_go.ensures; keep = c.members_keep_free.ensures })
