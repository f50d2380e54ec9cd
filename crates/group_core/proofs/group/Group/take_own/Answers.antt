use Rattle.group_core.proofs.Owning.{own_looked}
use Rattle.group_core.proofs.group.Group.take_own.Goals as goal

pub returns-clause-leads : goal.returns-clause-leads
returns-clause-leads g c =
    own_looked g.C.CacheFace.directory g.D.Disk.alive g.D.Disk.contents c.take_choice.new.self.fault c.args.self.now.crew c.args.self.now.disk c.args.event c.args.place c.in_ok-failed.failed c.take_choice.new.self.crew c.find_ready.new.self
    c.take_choice.new.self.disk c.find_ready.ensures.same c.in_ok-failed.ensures.leads
