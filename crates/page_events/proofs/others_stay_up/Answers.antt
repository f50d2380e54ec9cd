use Rattle.page_events.proofs.others_stay_up.Goals as goal
use Rattle.page_events.proofs.Made.{others_stay_up}

pub returns : goal.returns
returns c = others_stay_up
