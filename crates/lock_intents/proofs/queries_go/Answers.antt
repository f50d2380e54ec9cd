use Rattle.lock_intents.proofs.queries_go.Goals as goal
use Rattle.lock_intents.proofs.Asking.{Facts, ask_goes, answer_goes}

pub returns : goal.returns
returns c =
    let facts : Facts = record {
      ask = c.queries_are_moves.ensures.asks;
      clean = c.queries_are_moves.ensures.clean;
      conflict = c.queries_are_moves.ensures.conflict;
      tell = c.books_tell.ensures.answers;
      stay = c.groups_begin.ensures.stays;
    } in
    record { ask = ask_goes facts; answer = answer_goes facts }
