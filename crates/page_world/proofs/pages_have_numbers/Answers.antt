use Rattle.page_world.proofs.pages_have_numbers.Goals as goal
use Rattle.page_world.proofs.Numbers.{are_numbered}

pub returns : goal.returns
returns c = are_numbered
