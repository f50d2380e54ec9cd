use Rattle.row_turns.proofs.Merges.{merged_is}
use Rattle.row_turns.proofs.laws.merged_laws.Goals as goal

pub returns : goal.returns
returns c = merged_is
