use Rattle.std.proofs.Common.{◌≡◌, ◌<◌, length, slice_index_or, arith}
use Rattle.script_phases.specs.Phases.{raises_of_tran}
use Rattle.script_phases.proofs.Raises.{noted_more}
use Rattle.script_phases.proofs.phase.note_part.Goals as goal

-- src/phase.rt:40:5
pub loop-tran-preserved : goal.loop-tran-preserved
loop-tran-preserved c =
    let within : c.loop-tran.tran-index < length c.args.part.now.trans = grind (arith, c.as_slice-tran-items.ensures) in
    let is : c.tran-item.result ≡ slice_index_or c.args.part.now.trans c.loop-tran.tran-index c.tran-item.result = cc in
    noted_more (raises_of_tran c.args.part.now.member) c.args.part.now.trans c.loop-tran.tran-index c.tran-item.result c.args.raisers.now c.loop-tran.raisers c.note_tran.new.raisers within is
    c.loop-tran.invariant
    c.note_tran.ensures
