use Rattle.fallen_pages.proofs.calls_go.Goals as goal
use Rattle.fallen_pages.proofs.Calls.{calls_go}

pub returns : goal.returns
returns c = calls_go (record { always = c.coherent_pages.ensures.run; compensates = c.group_failures_are_moves.ensures.compensates; writes = c.writes_show.ensures; numbers = c.pages_have_numbers.ensures })
