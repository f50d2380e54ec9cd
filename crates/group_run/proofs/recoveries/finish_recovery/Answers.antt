use Rattle.std.proofs.Common.{sym, subst, ◌∙◌}
use Rattle.ds_disk.specs.Contents.{Becomes}
use Rattle.disk_restart.specs.Keeping.{KeepsRecords}
use Rattle.group_run.specs.declared.status.Status.{Status}
use Rattle.group_run.specs.Ends.{TellsLine, FinishesRecovery}
use Rattle.group_run.proofs.Recovering.{unsunk_recovery}
use Rattle.group_run.proofs.recoveries.finish_recovery.Goals as goal

pub tell_line-status-requires : goal.tell_line-status-requires
tell_line-status-requires g c = λ e. unsunk_recovery c.args.table _ _ c.recover_table-came.result c.recover_table-came.ensures (sym c.recovered_status.ensures ∙ e)

pub returns-clause-recovers : goal.returns-clause-recovers
returns-clause-recovers g c =
    let left = g.S.Source.left c.args.source.now in
    let source_faults = g.S.Source.faults c.args.source.now in
    let left_now = g.S.Source.left c.recover_table-came.new.source in
    let source_now = g.S.Source.faults c.recover_table-came.new.source in
    let taken = g.K.Sink.taken c.args.sink.now in
    let taken_now = g.K.Sink.taken c.tell_line-status.new.sink in
    let faults = g.K.Sink.faults c.args.sink.now in
    let faults_now = g.K.Sink.faults c.tell_line-status.new.sink in
    subst
    (λ x.
    FinishesRecovery c.args.table (record { contents = g.D.Disk.contents c.args.disk; disk_faults = g.D.Disk.faults c.args.disk; left = left; source_faults = source_faults })
    (record { contents = g.D.Disk.contents x.disk; disk_faults = g.D.Disk.faults x.disk; left = left_now; source_faults = source_now }) taken taken_now faults faults_now x.status) (sym c.finish_unopened.ensures)
    (record {
      came = c.recover_table-came.result;
      recovers = c.recover_table-came.ensures;
      told = subst (λ (s : Status). TellsLine s c.tell_line-status.result taken taken_now faults faults_now) c.recovered_status.ensures c.tell_line-status.ensures;
    })

pub returns-clause-left : goal.returns-clause-left
returns-clause-left g c =
    subst (λ x. Becomes (g.D.Disk.contents c.args.disk) (g.D.Disk.contents x.disk) KeepsRecords) (sym c.finish_unopened.ensures) c.recover_table-came.ensures.keeps
