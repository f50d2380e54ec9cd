use Rattle.lock_restarts.proofs.restarts_follow.Goals as goal
use Rattle.lock_restarts.proofs.Courses.{restarts_follow}
use Rattle.lock_restarts.proofs.Standings.{Facts, standings_follow}

pub returns : goal.returns
returns c =
    let facts : Facts = record { lawful = c.sends_lawfully.ensures; local = c.local_moves_stay.ensures } in
    record { follows = restarts_follow; standings = standings_follow facts }
