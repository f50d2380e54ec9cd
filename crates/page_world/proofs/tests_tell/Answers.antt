use Rattle.page_world.proofs.tests_tell.Goals as goal
use Rattle.page_world.proofs.Placing.{tests_tell}

pub returns : goal.returns
returns c = tests_tell
