use Rattle.std.proofs.Common.{ap, ◌∙◌}
use Rattle.page_format.specs.Fields.{lrsn_of}
use Rattle.page_format.proofs.Stamps.{stamped}
use Rattle.page_format.proofs.page.Page.write.Goals as goal

pub returns-clause-number : goal.returns-clause-number
returns-clause-number c = ap lrsn_of c.stamp.ensures.bytes ∙ stamped _ c.args.lrsn c.stamp.ensures.whole c.stamp.ensures.range
