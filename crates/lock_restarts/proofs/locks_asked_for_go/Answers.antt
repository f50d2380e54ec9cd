use Rattle.lock_restarts.proofs.locks_asked_for_go.Goals as goal
use Rattle.lock_restarts.proofs.Asking.{Facts, ask_goes, grant_goes, obtain_goes}

pub returns : goal.returns
returns c =
    let facts : Facts = record {
      obtain = c.grants_are_moves.ensures.obtain;
      grant = c.grants_are_moves.ensures.grant;
      refuse = c.queries_are_moves.ensures.refuses;
      ask = c.queries_are_moves.ensures.asks;
      stay = c.groups_begin.ensures.stays;
    } in
    record { obtain = obtain_goes facts; grant = grant_goes facts; ask = ask_goes facts }
