use Rattle.std.proofs.Common.{◌≡◌, false}
use Rattle.table_pages.specs.Nodes.{padding_fits}
use Rattle.table_pages.proofs.Nodes.{paddings_misfit}
use Rattle.table_pages.proofs.node.paddings_fit.Goals as goal

pub returns-then-not-padding_fits : goal.returns-then-not-padding_fits
returns-then-not-padding_fits c =
    let e : padding_fits c.args.page.now c.loop-n.n ≡ false = cc in
    paddings_misfit c.args.page.now c.args.count c.loop-n.n c.loop-n-test.true e
