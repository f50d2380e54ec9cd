use Rattle.page_world.proofs.group_failures_are_moves.Goals as goal
use Rattle.page_world.proofs.Grounding.{falls, falls_again, forwards, appends, compensates}

pub returns : goal.returns
returns c = record { falls = falls c.logs_have_prefixes.ensures.group_failure; falls_again = falls_again c.logs_have_prefixes.ensures.group_failure; forwards = forwards; appends = appends; compensates = compensates }
