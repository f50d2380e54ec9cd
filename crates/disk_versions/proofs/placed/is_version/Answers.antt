use Rattle.std.proofs.Common.{◌∙◌, sym}
use Rattle.disk_versions.proofs.Marks.{zero_version}
use Rattle.disk_versions.proofs.placed.is_version.Goals as goal

pub returns-in-None : goal.returns-in-None
returns-in-None c = λ at met is. zero_version c.chain_laws.ensures.others at c.args.met.now c.args.id c.args.page.now c.is_zero.result (sym c.mark_of-mark.ensures ∙ c.in-None.is) c.requires met c.is_zero.ensures
