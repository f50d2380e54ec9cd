use Rattle.lock_world.proofs.names_have_numbers.Goals as goal
use Rattle.lock_world.proofs.Numbers.{are_numbered}

pub returns : goal.returns
returns c = are_numbered
