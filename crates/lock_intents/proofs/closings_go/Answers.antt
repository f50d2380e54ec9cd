use Rattle.lock_intents.proofs.closings_go.Goals as goal
use Rattle.lock_intents.proofs.Closing.{Facts, release_goes, page_goes, purge_goes, end_goes}

pub returns : goal.returns
returns c =
    let facts : Facts = record {
      numbers = c.names_have_numbers.ensures;
      stay = c.groups_begin.ensures.stays;
      gives_up = c.claims_are_moves.ensures.gives_up;
      release = c.releases_are_moves.ensures.release;
      purge = c.releases_are_moves.ensures.purge;
      nobody = c.books_tell.ensures.nobody;
      frees = c.books_change.ensures.released;
      page_frees = c.books_change.ensures.page_released;
      ends = c.books_change.ensures.ended;
      rollback_frees = c.rollbacks_change.ensures.released;
      rollback_ends = c.rollbacks_change.ensures.ended;
    } in
    record { release = release_goes facts; page = page_goes facts; purge = purge_goes facts; end = end_goes facts }
