use Rattle.lock_members.proofs.members_keep_free.Goals as goal
use Rattle.lock_members.proofs.Free.{steps_keep_free}

pub returns : goal.returns
returns c = steps_keep_free (record { event = c.free_slots_stay.ensures.event; local = c.free_slots_stay.ensures.local; adopted = c.free_slots_stay.ensures.adopted })
