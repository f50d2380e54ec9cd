use Rattle.std.proofs.Common.{sym, ◌∙◌}
use Rattle.table_image_text.proofs.Steps.{passed, met}
use Rattle.table_image_text.proofs.image.fault_in_pages.Goals as goal

pub returns-in-Some : goal.returns-in-Some
returns-in-Some c =
    sym (c.loop-n.invariant ∙ met c.args.bytes.now c.args.table c.args.greatest c.args.heap c.loop-n.n c.args.count c.in-Some.at c.loop-n-test.true (sym c.fault_in_page.ensures ∙ c.in-Some.is))

pub loop-n-preserved : goal.loop-n-preserved
loop-n-preserved c =
    c.loop-n.invariant ∙ passed c.args.bytes.now c.args.table c.args.greatest c.args.heap c.loop-n.n c.args.count c.loop-n-test.true (sym c.fault_in_page.ensures ∙ c.in-None.is)
