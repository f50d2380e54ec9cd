use Rattle.adopted_rows.proofs.rows_taken_over.Goals as goal
use Rattle.adopted_rows.proofs.Rows.{rows_taken_over}

pub returns : goal.returns
returns c = rows_taken_over c.adoptions_lock.ensures c.slots_stay.ensures.adopted
