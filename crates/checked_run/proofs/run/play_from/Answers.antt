use Rattle.std.proofs.Common.{List, Option, refl}
use Rattle.cache_structure.specs.State.{directory_of}
use Rattle.ds_model.specs.declared.history.Entry.{Entry}
use Rattle.group_core.specs.declared.fault.RunFault.{RunFault}
use Rattle.group_core.specs.declared.schedule.RunEnd.{RunEnd}
use Rattle.checked_run.specs.Leading.{Leads, LeadsFrom}
use Rattle.checked_run.specs.Settled.{Settles}
use Rattle.checked_run.specs.Told.{TellsAlways}
use Rattle.checked_run.proofs.Opened.{came_as, settles_earlier}
use Rattle.checked_run.proofs.Restarting.{same_self, unopened}
use Rattle.checked_run.proofs.run.play_from.Goals as goal

pub returns-in-Ok-clause-comes : goal.returns-in-Ok-clause-comes
returns-in-Ok-clause-comes g c =
    let tells = TellsAlways g.D.Disk.contents in
    let script = c.args.script.now in
    let traced = c.args.is_traced in
    let opening = c.args.opening in
    let group = c.in-Ok.group in
    let begun = g.D.Disk.faults c.args.disk in
    let started = g.D.Disk.faults group.disk in
    let now = g.D.Disk.faults c.finish-disk.result.0 in
    let after = g.D.Disk.contents c.finish-disk.result.0 in
    let account = c.finish-disk.result.1 in (
      refl,
      came_as
          (LeadsFrom directory_of g.D.Disk.alive g.D.Disk.contents g.D.Disk.faults group c.args.seed account)
          (Leads g.row.P.Denot g.D.Disk.alive g.D.Disk.contents g.D.Disk.faults (g.D.Disk.contents c.args.disk) script c.args.seed account)
          (Settles tells script traced opening started now after account)
          (Settles tells script traced opening begun now after account)
          c.finish-disk.result.2
          (λ (end : RunEnd) (why : Option RunFault) (entries : List Entry) leads. record {
            opened = c.args.disk;
            told = same_self (g.D.Disk.contents c.args.disk);
            start = group;
            begins = c.in-Ok.ensures.begins;
            opens = c.in-Ok.ensures.opens;
            leads = leads;
          })
          (λ end why entries. settles_earlier tells script traced opening begun started now after account c.in-Ok.ensures.later end why entries c.finish-disk.result.2)
          c.finish-disk.ensures.comes,
    )

pub returns-in-Err-clause-restarts : goal.returns-in-Err-clause-restarts
returns-in-Err-clause-restarts g c = unopened g.D.Disk.alive g.D.Disk.contents c.args.disk c.in-Err.field-0.disk c.in-Err.field-0.why c.in-Err.ensures.unopened
