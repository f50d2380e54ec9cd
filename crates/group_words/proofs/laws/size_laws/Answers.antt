use Rattle.group_words.proofs.Sizes.{has_sizes}
use Rattle.group_words.proofs.laws.size_laws.Goals as goal

pub returns : goal.returns
returns c = has_sizes
