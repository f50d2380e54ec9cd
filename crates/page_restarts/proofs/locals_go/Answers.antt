use Rattle.page_restarts.proofs.locals_go.Goals as goal
use Rattle.page_restarts.proofs.Locals.{reaches_go}

pub returns : goal.returns
returns c = reaches_go c.coherent_pages.ensures.run c.hands_go.ensures.up c.hands_go.ensures.down c.hands_go.ensures.aside
