use Rattle.page_groups.proofs.restarts_go.Goals as goal
use Rattle.page_groups.proofs.Falling.{compensations_go, pages_go, records_go, renewals_go}

pub returns : goal.returns
returns c =
    let moves = c.group_failures_are_moves.ensures in
    let good = c.coherent_pages.ensures.run in
    record { pages = pages_go good moves.forwards c.writes_show.ensures; renewals = renewals_go c.writes_show.ensures; records = records_go good moves.appends; compensations = compensations_go good moves.compensates }
