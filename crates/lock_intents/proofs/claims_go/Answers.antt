use Rattle.lock_intents.proofs.claims_go.Goals as goal
use Rattle.lock_intents.proofs.Claiming.{Facts, obtain_goes, grant_goes}

pub returns : goal.returns
returns c =
    let facts : Facts = record {
      obtain = c.grants_are_moves.ensures.obtain;
      grant = c.grants_are_moves.ensures.grant;
      refuse = c.queries_are_moves.ensures.refuses;
      stay = c.groups_begin.ensures.stays;
      slot = c.books_tell.ensures.slot;
      home = c.books_tell.ensures.free;
      far = c.books_tell.ensures.facility;
      given = c.books_change.ensures.given;
      page = c.books_change.ensures.page;
    } in
    record { obtain = obtain_goes facts; grant = grant_goes facts }
