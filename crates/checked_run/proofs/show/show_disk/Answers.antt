use Rattle.std.proofs.Common.{inl, inr, Err, sym, ap, subst}
use Rattle.checked_run.specs.declared.ended.Outcome.TheVariants as outcome
use Rattle.checked_run.specs.Restarted.{IsLeftByRestarts, TellsDamageOf}
use Rattle.checked_run.proofs.Restarting.{restarted_from, unread}
use Rattle.checked_run.proofs.show.show_disk.Goals as goal

pub returns-in-Err-clause-restarts : goal.returns-in-Err-clause-restarts
returns-in-Err-clause-restarts g c =
    let reads = c.in-Err.ensures.opening in
    subst (λ w. IsLeftByRestarts g.D.Disk.alive g.D.Disk.contents c.args.disk (TellsDamageOf (outcome.Unopened w)) c.read_opening.new.disk) (sym c.fault_of.ensures.is)
    (inl (unread g.D.Disk.contents c.args.disk c.read_opening.new.disk c.in-Err.why (λ member at e. reads.damaged member at (ap Err e)) reads.same))

pub returns-in-Ok-clause-restarts : goal.returns-in-Ok-clause-restarts
returns-in-Ok-clause-restarts g c =
    inr (restarted_from g.D.Disk.alive g.D.Disk.contents c.args.disk c.read_opening.new.disk c.show_from.result.disk (TellsDamageOf c.show_from.result.outcome) c.in-Ok.ensures.opening.same c.show_from.ensures.restarts)
