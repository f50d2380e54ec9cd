use Rattle.member_resources.specs.Events.{world_of}
use Rattle.group_member.specs.declared.fault.EventFault.TheVariants as faults
use Rattle.group_member.specs.Faults.{restart_fault}
use Rattle.group_member.specs.Members.{member_of}
use Rattle.group_member.proofs.Causes.{fault_is, restart_refused}
use Rattle.group_member.proofs.restart_step.make.Goals as goal

pub returns-in_err-sent-clause-unlawful : goal.returns-in_err-sent-clause-unlawful
returns-in_err-sent-clause-unlawful g c = λ so.
    restart_refused (member_of c.args.part.now) (world_of g.C.CacheFace.directory g.D.Disk.alive g.D.Disk.contents c.args.facility.now c.args.disk.now)
    (world_of g.C.CacheFace.directory g.D.Disk.alive g.D.Disk.contents c.step.new.facility c.step.new.disk) c.in-Some.restart c.step.new.self c.in_err-sent.field-0.0 c.step.result c.in_err-sent.was c.in-Some.is
    c.step.ensures.unlawful c.step.ensures.cannot (fault_is c.from_residual.result (restart_fault c.in_err-sent.field-0.0) faults.Unlawful c.from_residual.ensures.1 so)
