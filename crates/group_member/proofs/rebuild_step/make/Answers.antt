use Rattle.member_resources.specs.Events.{world_of}
use Rattle.group_member.specs.declared.fault.EventFault.TheVariants as faults
use Rattle.group_member.specs.Faults.{rebuild_fault}
use Rattle.group_member.specs.Members.{member_of}
use Rattle.group_member.proofs.Causes.{fault_is, in_hand, rebuild_refused}
use Rattle.group_member.proofs.rebuild_step.make.Goals as goal

pub returns-in_err-sent-clause-unlawful : goal.returns-in_err-sent-clause-unlawful
returns-in_err-sent-clause-unlawful g c = λ so.
    rebuild_refused (member_of c.args.part.now) (world_of g.C.CacheFace.directory g.D.Disk.alive g.D.Disk.contents c.args.facility.now c.args.disk.now)
    (world_of g.C.CacheFace.directory g.D.Disk.alive g.D.Disk.contents c.step.new.facility c.step.new.disk) c.in-Some.rebuild c.step.new.self c.in_err-sent.field-0.0 c.step.result c.in_err-sent.was
    (in_hand c.args.part.now.id c.args.part.now.rebuild c.in-Some.rebuild c.in-Some.is) c.step.ensures.unlawful c.step.ensures.cannot
    (fault_is c.from_residual.result (rebuild_fault c.in_err-sent.field-0.0) faults.Unlawful c.from_residual.ensures.1 so)
