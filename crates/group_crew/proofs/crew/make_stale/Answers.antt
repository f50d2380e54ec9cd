use Rattle.std.proofs.Common.{◌<◌, length, slice_index_or, arith}
use Rattle.std.proofs.lemmas.List.{get_or_default}
use Rattle.std.proofs.lemmas.List.Edits.{map_over_more}
use Rattle.group_crew.specs.Crews.{stale}
use Rattle.group_crew.proofs.crew.make_stale.Goals as goal

pub loop-part-preserved : goal.loop-part-preserved
loop-part-preserved g c =
    let within : c.loop-part.part-index < length c.args.parts.now = omega arith in
    let there : c.loop-part.part-index < length c.loop-part.part-items = omega arith in
    let part = slice_index_or c.loop-part.part-items c.loop-part.part-index c.part-item.result in
    map_over_more stale c.args.parts.now c.loop-part.part-items c.loop-part.part-index part within c.loop-part.invariant (get_or_default c.loop-part.part-items c.loop-part.part-index c.part-item.result part there)
