use Rattle.group_locks.proofs.adoptions_go.Goals as goal
use Rattle.group_locks.proofs.Adopting.{adoptions_go}

pub returns : goal.returns
returns c = adoptions_go (record {
  numbers = c.names_have_numbers.ensures;
  given = c.books_change.ensures.given;
  ended = c.books_change.ensures.ended;
  slot = c.books_tell.ensures.slot;
  handed = c.rollbacks_change.ensures.postponed;
  slots = c.slots_stay.ensures.adopted;
  takes_over = c.rollbacks_are_moves.ensures.take_over;
  stay = c.groups_begin.ensures.stays;
})
