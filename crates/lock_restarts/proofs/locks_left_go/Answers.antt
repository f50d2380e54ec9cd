use Rattle.lock_restarts.proofs.locks_left_go.Goals as goal
use Rattle.lock_restarts.proofs.Leaving.{Facts, purge_goes, release_goes, up_goes}

pub returns : goal.returns
returns c =
    let facts : Facts = record {
      numbers = c.names_have_numbers.ensures;
      release = c.releases_are_moves.ensures.release;
      purge = c.releases_are_moves.ensures.purge;
      rises = c.failures_are_moves.ensures.rises;
      stay = c.groups_begin.ensures.stays;
    } in
    record { release = release_goes facts; purge = purge_goes facts; up = up_goes facts }
