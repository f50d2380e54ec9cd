use Rattle.std.proofs.Common.{◌∙◌, sym, ap, subst}
use Rattle.std.specs.FinMap as finite
use Rattle.ds_model.specs.Rows.{AreSorted, map_of, spot_of}
use Rattle.spot_map.proofs.Lists.{one_more, all_done}
use Rattle.spot_map.proofs.map.SpotMap+Value.from_rows.Goals as goal

pub loop-row-init : goal.loop-row-init
loop-row-init c = c.new-map.ensures

pub loop-row-preserved : goal.loop-row-preserved
loop-row-preserved c =
    let rows = c.as_slice-row-items.result.now in
    let sorted : AreSorted rows = subst AreSorted (sym c.as_slice-row-items.ensures) c.requires in
    c.in_ok-insert.ensures.ok
    ∙ (λ i. finite.insert (c.loop-row.invariant i) (spot_of (c.row-item.is i)) (c.row-item.is i).value)
    ∙ one_more rows c.loop-row.row-index c.row-item.result sorted c.loop-row-test.true

pub returns : goal.returns
returns c =
    let rows = c.as_slice-row-items.result.now in
    let sorted : AreSorted rows = subst AreSorted (sym c.as_slice-row-items.ensures) c.requires in
    c.loop-row.invariant ∙ all_done rows c.loop-row.row-index sorted c.loop-row-test.false ∙ ap map_of c.as_slice-row-items.ensures
