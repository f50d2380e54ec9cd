use Rattle.std.proofs.Common.{◌≡◌, ◌<◌, ◌≤◌, length, replicate, slice_index_or, arith}
use Rattle.script_phases.specs.Phases.{raises_counted}
use Rattle.script_phases.proofs.Raises.{noted_all, noted_more, nobody, none_was}
use Rattle.script_phases.proofs.phase.raisers_of.Goals as goal

-- src/phase.rt:83:5
pub loop-part-preserved : goal.loop-part-preserved
loop-part-preserved c =
    let within : c.loop-part.part-index < length c.args.phase.now.parts = grind (arith, c.as_slice-part-items.ensures) in
    let is : c.part-item.result ≡ slice_index_or c.args.phase.now.parts c.loop-part.part-index c.part-item.result = cc in
    noted_more (raises_counted c.args.phase.now c.args.lists.now.statuses) c.args.phase.now.parts c.loop-part.part-index c.part-item.result (replicate 64 nobody) c.loop-part.raisers
    c.note_counted.new.raisers within is c.loop-part.invariant
    c.note_counted.ensures

-- src/phase.rt:79:1
pub returns : goal.returns
returns c =
    let all : length c.args.phase.now.parts ≤ c.loop-part.part-index = grind (arith, c.as_slice-part-items.ensures) in
    noted_all (raises_counted c.args.phase.now c.args.lists.now.statuses) c.args.phase.now.parts c.loop-part.part-index (replicate 64 nobody) c.loop-part.raisers all (none_was 64) c.loop-part.invariant
