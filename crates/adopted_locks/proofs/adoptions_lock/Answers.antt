use Rattle.adopted_locks.proofs.adoptions_lock.Goals as goal
use Rattle.adopted_locks.proofs.Claims.{Facts}
use Rattle.adopted_locks.proofs.Locks.{adoptions_lock}

pub returns : goal.returns
returns c =
    let facts : Facts = record {
      numbers = c.names_have_numbers.ensures;
      given = c.books_change.ensures.given;
      ended = c.books_change.ensures.ended;
      slot = c.books_tell.ensures.slot;
      handed = c.rollbacks_change.ensures.postponed;
    } in
    adoptions_lock facts
