use Rattle.strict_locking.proofs.locks_stay.Goals as goal
use Rattle.strict_locking.proofs.Changing.{changes_lock}
use Rattle.strict_locking.proofs.Events.{Facts, events_keep}
use Rattle.strict_locking.proofs.Moving.{moves_keep}
use Rattle.strict_locking.specs.Keeping.{MovesKeep}

pub returns : goal.returns
returns c =
    let moves : MovesKeep = moves_keep (record {
      taking = record { slot = c.books_tell.ensures.slot; given = c.books_change.ensures.given; page = c.books_change.ensures.page };
      local = c.transactions_stay.ensures.local;
      postponed = c.rollbacks_change.ensures.postponed;
      waits = c.rollbacks_change.ensures.waits;
    }) in
    let facts : Facts = record {
      taking = record { slot = c.books_tell.ensures.slot; given = c.books_change.ensures.given; page = c.books_change.ensures.page };
      leaving = record { release = c.books_change.ensures.released; end = c.books_change.ensures.ended; rollback_release = c.rollbacks_change.ensures.released; rollback_end = c.rollbacks_change.ensures.ended };
      event = c.transactions_stay.ensures.event;
      moves = moves;
      lawful = c.sends_lawfully.ensures;
    } in record {
      event = events_keep facts;
      local = moves;
      change = changes_lock facts c.slots_stay.ensures.tell;
    }
