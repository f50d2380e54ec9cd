use Rattle.std.proofs.Common.{List, ℕ, ap, ◌∙◌}
use Rattle.page_chain.specs.Chains.{version_from}
use Rattle.page_versions.proofs.Fronts.{blank}
use Rattle.page_versions.proofs.front.image_of.Goals as goal

pub returns : goal.returns
returns c = c.apply_all.ensures ∙ ap (λ (p : List ℕ). version_from c.args.id p c.args.records.now) (blank c.in_ok-page.page c.in_ok-page.ensures)
