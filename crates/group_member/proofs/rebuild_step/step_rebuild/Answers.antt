use Rattle.std.proofs.Common.{◌≡◌, sym, ap, ◌∙◌}
use Rattle.member_resources.specs.Events.{World, world_of}
use Rattle.group_member.specs.Members.{member_of}
use Rattle.group_member.proofs.Restarts.{rebuild_goes_on}
use Rattle.group_member.proofs.rebuild_step.step_rebuild.Goals as goal

pub returns-clause-rebuilds : goal.returns-clause-rebuilds
returns-clause-rebuilds g c =
    let u : World = world_of g.C.CacheFace.directory g.D.Disk.alive g.D.Disk.contents c.make.new.facility c.make.new.disk in
    let v : World = world_of g.C.CacheFace.directory g.D.Disk.alive g.D.Disk.contents c.tell.new.facility c.tell.new.disk in
    let id : c.let_go.new.part.id ≡ c.args.part.now.id = ap (λ part. part.id) c.let_go.ensures.rest ∙ (ap (λ part. part.id) c.make.ensures.rest ∙ ap (λ part. part.id) c.begin.ensures.rest) in
    let restart : c.let_go.new.part.restart ≡ c.args.part.now.restart =
    ap (λ part. part.restart) c.let_go.ensures.rest ∙ (ap (λ part. part.restart) c.make.ensures.rest ∙ ap (λ part. part.restart) c.begin.ensures.rest) in
    let holds : c.let_go.new.part.resources ≡ c.args.part.now.resources =
    ap (λ part. part.resources) c.let_go.ensures.rest ∙ (ap (λ part. part.resources) c.make.ensures.rest ∙ ap (λ part. part.resources) c.begin.ensures.rest) in
    let is : member_of c.tell.new.part ≡ record (member_of c.args.part.now) { holds = c.tell.new.part.resources; rebuild = c.let_go.new.part.rebuild } =
    ap (member_of {P = g.row.P.Denot}) c.tell.ensures.rest ∙ (λ i. record { id = id i; holds = c.tell.new.part.resources; restart = restart i; rebuild = c.let_go.new.part.rebuild }) in
    rebuild_goes_on (member_of c.args.part.now) (member_of c.begin.new.part) (world_of g.C.CacheFace.directory g.D.Disk.alive g.D.Disk.contents c.args.facility.now c.args.disk.now) c.args.place c.in_ok-sent.sent c.in_ok-sent.answered u v
    c.make.new.part.rebuild c.let_go.new.part.rebuild c.let_go.new.part.resources c.tell.new.part.resources (member_of c.tell.new.part) c.in_ok-begin.ensures.begun c.in_ok-sent.ensures.makes
    c.let_go.ensures.goes holds c.in_ok-tell.ensures.tells is c.in_ok-tell.ensures.world (sym c.is_failure.ensures ∙ c.if-is_failure.false)
