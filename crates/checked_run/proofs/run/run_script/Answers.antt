use Rattle.std.proofs.Common.{inl, List, Option, Err, refl, sym, ap, subst}
use Rattle.ds_base.specs.declared.row.Row.{Row}
use Rattle.ds_disk.specs.Contents.{Contents}
use Rattle.group_core.specs.declared.fault.RunFault.{RunFault}
use Rattle.checked_run.specs.declared.ended.Ended.{Ended}
use Rattle.checked_run.specs.declared.ended.Outcome.TheVariants as outcome
use Rattle.checked_run.specs.Restarted.{IsLeftByRestarts, TellsDamageOf}
use Rattle.checked_run.specs.Leading.{Leads, ComesTo, kind_of}
use Rattle.checked_run.specs.Outcomes.{Plays}
use Rattle.checked_run.specs.Settled.{Settles}
use Rattle.checked_run.specs.Told.{TellsAlways}
use Rattle.checked_run.proofs.Opened.{comes, came_as, left_on, settles_earlier}
use Rattle.checked_run.proofs.Restarting.{left_from, same_on, unread}
use Rattle.checked_run.proofs.run.run_script.Goals as goal

pub returns-in-Ok-clause-comes : goal.returns-in-Ok-clause-comes
returns-in-Ok-clause-comes g c =
    let tells = TellsAlways g.D.Disk.contents in
    let script = c.args.script.now in
    let traced = c.args.is_traced in
    let was = g.D.Disk.contents c.args.disk in
    let begun = g.D.Disk.faults c.args.disk in
    let read = g.D.Disk.faults c.read_opening.new.disk in
    let now = g.D.Disk.faults c.play_from.result.disk in
    let after = g.D.Disk.contents c.play_from.result.disk in
    let account = c.play_from.result.account in
    let opening = c.in-Ok.opening in
    let opened = c.in-Ok.ensures.opening in
    let leads = λ (told : Option Contents). Leads g.row.P.Denot g.D.Disk.alive g.D.Disk.contents g.D.Disk.faults told script c.args.seed account in
    let there = g.D.Disk.contents c.read_opening.new.disk in
    comes was begun read now account opening
    (λ (rows : List Row). ComesTo (leads there) (Settles tells script traced opening read now after account))
    (Plays (kind_of g.row.P.Denot g.D.Disk.alive g.D.Disk.contents g.D.Disk.faults) script c.args.seed traced was begun now after account)
    c.play_from.result.outcome opened.later c.in-Ok.ensures.in_order opened.ok
    (λ (out : Ended) came. record {
      opening = opening;
      opens = opened.ok;
      rows_are = refl;
      comes = came_as (leads there) (leads was) (Settles tells script traced opening read now after account) (Settles tells script traced opening begun now after account) out
          (λ end why entries its. record {
            opened = its.opened;
            told = same_on was there (g.D.Disk.contents its.opened) opened.same its.told;
            start = its.start;
            begins = its.begins;
            opens = its.opens;
            leads = its.leads;
          }) (λ end why entries. settles_earlier tells script traced opening begun read now after account opened.later end why entries out) came;
    })
    c.play_from.ensures.comes

pub returns-in-Ok-clause-left : goal.returns-in-Ok-clause-left
returns-in-Ok-clause-left g c =
    let was = g.D.Disk.contents c.args.disk in
    let read = g.D.Disk.contents c.read_opening.new.disk in
    left_on c.keeping_laws.ensures.on was read (g.D.Disk.contents c.play_from.result.disk) c.play_from.result.outcome (c.keeping_laws.ensures.same was read c.in-Ok.ensures.opening.same) c.play_from.ensures.left

pub returns-in-Err-clause-restarts : goal.returns-in-Err-clause-restarts
returns-in-Err-clause-restarts g c =
    let reads = c.in-Err.ensures.opening in
    subst (λ w. IsLeftByRestarts g.D.Disk.alive g.D.Disk.contents c.args.disk (TellsDamageOf (outcome.Unopened w)) c.read_opening.new.disk) (sym c.fault_of.ensures.is)
    (inl (unread g.D.Disk.contents c.args.disk c.read_opening.new.disk c.in-Err.why (λ member at e. reads.damaged member at (ap Err e)) reads.same))

pub returns-in-Ok-clause-restarts : goal.returns-in-Ok-clause-restarts
returns-in-Ok-clause-restarts g c =
    left_from g.D.Disk.alive g.D.Disk.contents c.args.disk c.read_opening.new.disk c.play_from.result.disk c.play_from.result.outcome c.in-Ok.ensures.opening.same c.play_from.ensures.restarts
