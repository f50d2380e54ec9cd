use Rattle.std.proofs.Common.{ap, ◌∙◌}
use Rattle.page_format.specs.Fields.{lrsn_of}
use Rattle.page_format.proofs.Stamps.{stamped}
use Rattle.page_format.proofs.page.Page.renew.Goals as goal

pub returns-clause-number : goal.returns-clause-number
returns-clause-number c = ap lrsn_of c.stamp.ensures.bytes ∙ stamped _ c.lrsn-lrsn.result c.stamp.ensures.whole c.stamp.ensures.range ∙ c.lrsn-lrsn.ensures
