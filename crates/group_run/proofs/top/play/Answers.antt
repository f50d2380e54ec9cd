use Rattle.std.proofs.Common.{◌≡◌, false, refl, sym, subst}
use Rattle.ds_disk.specs.Contents.{Becomes}
use Rattle.disk_restart.specs.Keeping.{KeepsRecords}
use Rattle.member_core.specs.declared.member.Member.{Member}
use Rattle.checked_run.specs.Leading.{kind_of}
use Rattle.group_run.specs.declared.status.Status.TheVariants as status
use Rattle.group_run.specs.Outside.{outside}
use Rattle.group_run.specs.Prepares.{ordered}
use Rattle.group_run.specs.Ends.{Ends, EndsBy, RestartsAlone, TellsDamage}
use Rattle.group_run.proofs.Called.{no_sink, nothing_written}
use Rattle.group_run.proofs.Copying.{wanting_ends, copies, recovers, otherwise}
use Rattle.checked_run.specs.Restarted.{IsLeftByRestarts}
use Rattle.group_run.proofs.Restarting.{alone, alone_copies, alone_recovers, left_as, left_same, same_self, told_tells, wanting_tells}
use Rattle.group_run.proofs.top.play.Goals as goal

pub finish-requires : goal.finish-requires
finish-requires g c =
    let kind = kind_of Member g.D.Disk.alive g.D.Disk.contents g.D.Disk.faults in
    let o = ordered c.args.words.now in
    let before = outside (g.S.Source.left c.args.source.now) (g.S.Source.faults c.args.source.now) (g.D.Disk.contents c.args.disk) (g.D.Disk.alive c.args.disk) (g.D.Disk.faults c.args.disk) in
    let came = c.perform.result in
    let after = outside (g.S.Source.left c.prepare.new.source) (g.S.Source.faults c.prepare.new.source) (g.D.Disk.contents came.disk) (g.D.Disk.alive came.disk) (g.D.Disk.faults came.disk) in
    no_sink kind o before after came.telling.status came.telling.text came.opened came.opening came.account came.telling.report
    (c.perform.ensures.meets o before.left after.left before.source_faults after.source_faults c.in-Ok.ensures.prepared c.prepare.ensures.unread)

pub returns-in-Err-clause-ends : goal.returns-in-Err-clause-ends
returns-in-Err-clause-ends g c =
    let kind = kind_of Member g.D.Disk.alive g.D.Disk.contents g.D.Disk.faults in
    let o = ordered c.args.words.now in
    let before = outside (g.S.Source.left c.args.source.now) (g.S.Source.faults c.args.source.now) (g.D.Disk.contents c.args.disk) (g.D.Disk.alive c.args.disk) (g.D.Disk.faults c.args.disk) in
    let left = g.S.Source.left c.prepare.new.source in
    let faults = g.S.Source.faults c.prepare.new.source in
    let taken = g.K.Sink.taken c.args.sink.now in
    let count = g.K.Sink.faults c.args.sink.now in
    let after = outside left faults (g.D.Disk.contents c.args.disk) (g.D.Disk.alive c.args.disk) (g.D.Disk.faults c.args.disk) in
    subst (λ x. EndsBy kind o before (outside left faults (g.D.Disk.contents x.disk) (g.D.Disk.alive x.disk) (g.D.Disk.faults x.disk)) x.status x.opened x.opening (record { journal = x.journal; causes = x.causes; faults = x.faults }) x.report taken taken count count)
    (sym c.finish_unopened.ensures)
    (wanting_ends kind o before after taken count (refl, refl, refl) c.prepare.ensures.unread c.prepare.ensures.unmoved)

pub returns-in-Some-clause-ends : goal.returns-in-Some-clause-ends
returns-in-Some-clause-ends g c =
    let kind = kind_of Member g.D.Disk.alive g.D.Disk.contents g.D.Disk.faults in
    let o = ordered c.args.words.now in
    let before = outside (g.S.Source.left c.args.source.now) (g.S.Source.faults c.args.source.now) (g.D.Disk.contents c.args.disk) (g.D.Disk.alive c.args.disk) (g.D.Disk.faults c.args.disk) in
    let made = c.finish_copy.result in
    let after = outside (g.S.Source.left c.prepare.new.source) (g.S.Source.faults c.prepare.new.source) (g.D.Disk.contents made.disk) (g.D.Disk.alive made.disk) (g.D.Disk.faults made.disk) in
    copies kind o before after c.in-Ok.prepared c.in-Some.table made.status made.opened made.opening (record { journal = made.journal; causes = made.causes; faults = made.faults }) made.report
    (g.K.Sink.taken c.args.sink.now) (g.K.Sink.taken c.finish_copy.new.sink) (g.K.Sink.faults c.args.sink.now) (g.K.Sink.faults c.finish_copy.new.sink) (sym c.in-Some.ensures) c.in-Ok.ensures.prepared c.prepare.ensures.unread c.finish_copy.ensures.copies c.finish_copy.ensures.unopened

pub returns-in-Some-table_to_recover-clause-ends : goal.returns-in-Some-table_to_recover-clause-ends
returns-in-Some-table_to_recover-clause-ends g c =
    let kind = kind_of Member g.D.Disk.alive g.D.Disk.contents g.D.Disk.faults in
    let o = ordered c.args.words.now in
    let before = outside (g.S.Source.left c.args.source.now) (g.S.Source.faults c.args.source.now) (g.D.Disk.contents c.args.disk) (g.D.Disk.alive c.args.disk) (g.D.Disk.faults c.args.disk) in
    let made = c.finish_recovery.result in
    let source = c.finish_recovery.new.source in
    let after = outside (g.S.Source.left source) (g.S.Source.faults source) (g.D.Disk.contents made.disk) (g.D.Disk.alive made.disk) (g.D.Disk.faults made.disk) in
    recovers kind o before after c.in-Ok.prepared c.in-Some-table_to_recover.table (g.S.Source.left c.prepare.new.source) (g.S.Source.faults c.prepare.new.source) made.status made.opened made.opening (record { journal = made.journal; causes = made.causes; faults = made.faults }) made.report
    (g.K.Sink.taken c.args.sink.now) (g.K.Sink.taken c.finish_recovery.new.sink) (g.K.Sink.faults c.args.sink.now) (g.K.Sink.faults c.finish_recovery.new.sink) (sym c.in-Some-table_to_recover.ensures) c.in-Ok.ensures.prepared c.prepare.ensures.unmoved c.finish_recovery.ensures.recovers c.finish_recovery.ensures.unopened

pub returns-in-None-table_to_recover-clause-ends : goal.returns-in-None-table_to_recover-clause-ends
returns-in-None-table_to_recover-clause-ends g c =
    let kind = kind_of Member g.D.Disk.alive g.D.Disk.contents g.D.Disk.faults in
    let o = ordered c.args.words.now in
    let before = outside (g.S.Source.left c.args.source.now) (g.S.Source.faults c.args.source.now) (g.D.Disk.contents c.args.disk) (g.D.Disk.alive c.args.disk) (g.D.Disk.faults c.args.disk) in
    let came = c.perform.result in
    let left = g.S.Source.left c.prepare.new.source in
    let faults = g.S.Source.faults c.prepare.new.source in
    let taken = g.K.Sink.taken c.args.sink.now in
    let taken_now = g.K.Sink.taken c.finish.new.sink in
    let count = g.K.Sink.faults c.args.sink.now in
    let count_now = g.K.Sink.faults c.finish.new.sink in
    let after = outside left faults (g.D.Disk.contents came.disk) (g.D.Disk.alive came.disk) (g.D.Disk.faults came.disk) in
    let meets = c.perform.ensures.meets o before.left left before.source_faults faults c.in-Ok.ensures.prepared c.prepare.ensures.unread in
    let ends : Ends kind o before after c.finish.result.status came.opened came.opening came.account came.telling.report taken taken_now count count_now = record {
      met = came.telling.status;
      text = came.telling.text;
      meets = meets;
      told = c.finish.ensures.told;
      wanting = nothing_written kind o before after came.telling.status c.finish.result.status came.telling.text came.opened came.opening came.account came.telling.report taken taken_now count count_now meets c.finish.ensures.told;
    } in
    subst (λ x. EndsBy kind o before (outside left faults (g.D.Disk.contents x.disk) (g.D.Disk.alive x.disk) (g.D.Disk.faults x.disk)) c.finish.result.status x.opened x.opening (record { journal = x.journal; causes = x.causes; faults = x.faults }) x.report taken taken_now count count_now)
    (sym c.finish.ensures.rest)
    (otherwise kind o c.in-Ok.prepared before after c.finish.result.status came.opened came.opening came.account came.telling.report taken taken_now count count_now (sym c.in-None.ensures) (sym c.in-None-table_to_recover.ensures) c.in-Ok.ensures.prepared ends)

pub returns-in-Err-clause-left : goal.returns-in-Err-clause-left
returns-in-Err-clause-left g c =
    subst (λ x. x.opened ≡ false → Becomes (g.D.Disk.contents c.args.disk) (g.D.Disk.contents x.disk) KeepsRecords) (sym c.finish_unopened.ensures)
    (λ closed. c.keeping_laws.ensures.itself (g.D.Disk.contents c.args.disk))

pub returns-in-None-table_to_recover-clause-left : goal.returns-in-None-table_to_recover-clause-left
returns-in-None-table_to_recover-clause-left g c =
    subst (λ x. x.opened ≡ false → Becomes (g.D.Disk.contents c.args.disk) (g.D.Disk.contents x.disk) KeepsRecords) (sym c.finish.ensures.rest) c.perform.ensures.left

pub returns-in-Err-clause-restarts : goal.returns-in-Err-clause-restarts
returns-in-Err-clause-restarts g c =
    subst (λ x. RestartsAlone (ordered c.args.words.now) x.opened → IsLeftByRestarts g.D.Disk.alive g.D.Disk.contents c.args.disk (TellsDamage x.status) x.disk) (sym c.finish_unopened.ensures)
    (λ is. left_same g.D.Disk.alive g.D.Disk.contents c.args.disk c.args.disk (TellsDamage status.NoMemory) (same_self (g.D.Disk.contents c.args.disk)) wanting_tells)

pub returns-in-Some-clause-restarts : goal.returns-in-Some-clause-restarts
returns-in-Some-clause-restarts g c = λ is.
    absurd (alone_copies c.in-Ok.prepared c.finish_copy.result.opened c.in-Some.table (sym c.in-Some.ensures)
    (alone (ordered c.args.words.now) c.in-Ok.prepared c.finish_copy.result.opened (g.S.Source.left c.args.source.now) (g.S.Source.left c.prepare.new.source) (g.S.Source.faults c.args.source.now) (g.S.Source.faults c.prepare.new.source) c.in-Ok.ensures.prepared is))

pub returns-in-Some-table_to_recover-clause-restarts : goal.returns-in-Some-table_to_recover-clause-restarts
returns-in-Some-table_to_recover-clause-restarts g c = λ is.
    absurd (alone_recovers c.in-Ok.prepared c.finish_recovery.result.opened c.in-Some-table_to_recover.table (sym c.in-Some-table_to_recover.ensures)
    (alone (ordered c.args.words.now) c.in-Ok.prepared c.finish_recovery.result.opened (g.S.Source.left c.args.source.now) (g.S.Source.left c.prepare.new.source) (g.S.Source.faults c.args.source.now) (g.S.Source.faults c.prepare.new.source) c.in-Ok.ensures.prepared is))

pub returns-in-None-table_to_recover-clause-restarts : goal.returns-in-None-table_to_recover-clause-restarts
returns-in-None-table_to_recover-clause-restarts g c =
    let came = c.perform.result in
    subst (λ x. RestartsAlone (ordered c.args.words.now) x.opened → IsLeftByRestarts g.D.Disk.alive g.D.Disk.contents c.args.disk (TellsDamage c.finish.result.status) x.disk) (sym c.finish.ensures.rest)
    (λ is. left_as g.D.Disk.alive g.D.Disk.contents c.args.disk came.disk (TellsDamage came.telling.status) (TellsDamage c.finish.result.status)
    (told_tells came.telling.status c.finish.result.status came.telling.text (g.K.Sink.taken c.args.sink.now) (g.K.Sink.taken c.finish.new.sink) (g.K.Sink.faults c.args.sink.now) (g.K.Sink.faults c.finish.new.sink) c.finish.ensures.told)
    (c.perform.ensures.restarts (ordered c.args.words.now) (g.S.Source.left c.args.source.now) (g.S.Source.left c.prepare.new.source) (g.S.Source.faults c.args.source.now) (g.S.Source.faults c.prepare.new.source) c.in-Ok.ensures.prepared is))
