use Rattle.std.proofs.Common.{◌<◌, length, ◌∙◌, arith}
use Rattle.group_crew.specs.Crews.{unlooked}
use Rattle.group_crew.proofs.Parts.{map_set}
use Rattle.group_crew.proofs.crew.find_in_all.Goals as goal

pub loop-part-preserved : goal.loop-part-preserved
loop-part-preserved g c =
    let within : c.loop-part.part-index < length c.loop-part.part-items = omega arith in
    map_set (unlooked {P = g.row.P.Denot}) c.loop-part.part-items c.loop-part.part-index c.part-item.result c.find_in.new.part within c.find_in.ensures ∙ c.loop-part.invariant
