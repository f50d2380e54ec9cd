use Rattle.lock_members.proofs.members_go.Goals as goal
use Rattle.lock_members.proofs.Steps.{steps_go}

pub returns : goal.returns
returns c = steps_go (record {
  local = c.slots_stay.ensures.local;
  slots = c.slots_stay.ensures.event;
  event = c.events_go.ensures.event;
  told = c.events_go.ensures.told;
  standings = c.standings_stay.ensures;
  command = c.commands_stay.ensures.command;
  stay = c.commands_stay.ensures.goes;
})
