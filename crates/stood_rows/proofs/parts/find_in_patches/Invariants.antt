use Rattle.std.proofs.Common.{ℕ, ◌<◌}
use Rattle.page_chain.specs.Chains.{images_of}
use Rattle.redone_pages.specs.Ranges.{has_page}
use Rattle.stood_rows.specs.Found.{StaysAt}
use Rattle.stood_rows.proofs.parts.find_in_patches.Given as goal

abbrev pub invariant-loop-k : goal.invariant-loop-k
invariant-loop-k l = (j : ℕ) → j < l.k → StaysAt (has_page l.made.range) (images_of l.made.records) l.lrsn l.patches j
