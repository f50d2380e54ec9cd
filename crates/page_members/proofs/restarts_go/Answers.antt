use Rattle.page_members.proofs.restarts_go.Goals as goal
use Rattle.page_members.proofs.Restarting.{restarts_go, opens_go}

pub returns : goal.returns
returns c =
    let good = c.coherent_pages.ensures.run in
    record { begin = restarts_go good c.failures_are_moves.ensures.restarts; end = opens_go good c.failures_are_moves.ensures.opens }
