use Rattle.page_members.proofs.failures_go.Goals as goal
use Rattle.page_members.proofs.Failing.{failures_go}

pub returns : goal.returns
returns c = failures_go c.keeps_entries_apart.ensures.fail c.coherent_pages.ensures.run c.failures_are_moves.ensures.fails
