use Rattle.retained_pages.proofs.retained_pages_keep_out.Goals as goal
use Rattle.retained_pages.proofs.Commands.{grants_none, obtains_none}

pub returns : goal.returns
returns c = record { obtain = obtains_none; grant = grants_none }
