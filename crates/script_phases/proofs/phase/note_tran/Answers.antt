use Rattle.std.proofs.Common.{◌≡◌, ◌<◌, length, slice_index_or, arith}
use Rattle.ds_base.specs.declared.names.TranId.{TranId}
use Rattle.script_phases.specs.Phases.{raise_in}
use Rattle.script_phases.proofs.Raises.{noted_more}
use Rattle.script_phases.proofs.phase.note_tran.Goals as goal

-- src/phase.rt:32:5
pub loop-op-preserved : goal.loop-op-preserved
loop-op-preserved c =
    let id : TranId = record { member = c.args.member; number = c.args.tran.now.number } in
    let within : c.loop-op.op-index < length c.args.tran.now.ops = grind (arith, c.as_slice-op-items.ensures) in
    let is : c.op-item.result ≡ slice_index_or c.args.tran.now.ops c.loop-op.op-index c.op-item.result = cc in
    noted_more (raise_in id) c.args.tran.now.ops c.loop-op.op-index c.op-item.result c.args.raisers.now c.loop-op.raisers c.note_raise.new.raisers within is c.loop-op.invariant
    c.note_raise.ensures
