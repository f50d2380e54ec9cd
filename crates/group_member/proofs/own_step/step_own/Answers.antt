use Rattle.member_resources.specs.Events.{world_of}
use Rattle.group_member.specs.declared.fault.EventFault.TheVariants as faults
use Rattle.group_member.specs.Faults.{step_fault}
use Rattle.group_member.specs.Members.{member_of}
use Rattle.group_member.proofs.Causes.{fault_is, own_refused}
use Rattle.group_member.proofs.own_step.step_own.Goals as goal

pub returns-in_err-sent-clause-unlawful : goal.returns-in_err-sent-clause-unlawful
returns-in_err-sent-clause-unlawful g c = λ so.
    own_refused (member_of c.args.part.now) (world_of g.C.CacheFace.directory g.D.Disk.alive g.D.Disk.contents c.args.facility.now c.args.disk.now) c.intent-intent.result c.args.place
    (world_of g.C.CacheFace.directory g.D.Disk.alive g.D.Disk.contents c.step.new.facility c.step.new.disk) c.step.new.self c.in_err-sent.field-0.0 c.step.result c.in_err-sent.was c.intent-intent.ensures.keeps
    c.step.ensures.unlawful c.step.ensures.cannot (fault_is c.from_residual.result (step_fault c.in_err-sent.field-0.0) faults.Unlawful c.from_residual.ensures.1 so)
