use Rattle.lock_world.proofs.queries_are_moves.Goals as goal
use Rattle.lock_world.proofs.Cells.{asks, refuses}
use Rattle.lock_world.proofs.Answers.{answers_clean, answers_conflict}

pub returns : goal.returns
returns c = record { asks = asks; clean = answers_clean; conflict = answers_conflict; refuses = refuses }
