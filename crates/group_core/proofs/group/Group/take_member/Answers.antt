use Rattle.std.proofs.Common.{◌/◌, sym, ap, subst}
use Rattle.group_core.specs.declared.group.Group.{Group}
use Rattle.group_core.specs.Takes.{TakesMember}
use Rattle.group_core.proofs.Taking.{looked, made, stepped_at}
use Rattle.group_core.proofs.group.Group.take_member.Goals as goal

pub returns-in-Ok-clause-acts : goal.returns-in-Ok-clause-acts
returns-in-Ok-clause-acts g c =
    let steps =
    stepped_at g.C.CacheFace.directory g.D.Disk.alive g.D.Disk.contents c.args.self.now.crew c.args.self.now.disk c.args.at (c.args.event / 64) c.args.place c.in-Ok.stepped c.step_member.new.self c.step_member.new.disk
    c.in-Ok.ensures.comes c.in-Ok.ensures.others c.in-Ok.ensures.keeps c.in-Ok.ensures.known c.in-Ok.ensures.rest in
    subst (λ (left : g.row.D.Denot). TakesMember g.C.CacheFace.directory g.D.Disk.alive g.D.Disk.contents c.enter.new.self.fault c.args.self.now.crew c.args.self.now.disk c.args.at (c.args.event / 64) c.args.place c.has_failed.result c.enter.new.self.crew left)
    (sym (ap (λ (group : Group g.row.D.Denot g.row.C.Denot g.row.P.Denot). group.disk) c.enter.ensures.rest))
    (made g.C.CacheFace.directory g.D.Disk.alive g.D.Disk.contents c.enter.new.self.fault c.args.self.now.crew c.args.self.now.disk c.args.at (c.args.event / 64) c.args.place c.has_failed.result c.enter.new.self.crew c.step_member.new.disk c.enter.ensures.fault
    (record {
      stepped = c.in-Ok.stepped;
      failure = c.has_failed.ensures;
      steps = looked g.C.CacheFace.directory g.D.Disk.alive g.D.Disk.contents c.args.self.now.crew c.args.self.now.disk c.args.at (c.args.event / 64) c.args.place c.in-Ok.stepped c.step_member.new.self c.enter.new.self.crew c.step_member.new.disk steps c.enter.ensures.looks;
    }))
