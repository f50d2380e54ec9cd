use Rattle.std.proofs.Common.{◌≡◌, true, false, sym, ap, subst, ◌∙◌, arith}
use Rattle.member_resources.specs.Events.{World, world_of}
use Rattle.member_resources.specs.Held.{Held}
use Rattle.group_member.specs.Members.{member_of}
use Rattle.group_member.specs.Resting.{frees_claimed}
use Rattle.group_member.proofs.Causes.{adoption_refused, purge_refused}
use Rattle.group_member.proofs.Restarts.{restart_broken, restart_goes_on}
use Rattle.group_member.proofs.restart_step.step_restart.Goals as goal

pub returns-then-is_failure-clause-restarts : goal.returns-then-is_failure-clause-restarts
returns-then-is_failure-clause-restarts g c =
    restart_broken (member_of c.args.part.now) (world_of g.C.CacheFace.directory g.D.Disk.alive g.D.Disk.contents c.args.facility.now c.args.disk.now) c.args.place c.in_ok-sent.sent c.in_ok-sent.answered
    (world_of g.C.CacheFace.directory g.D.Disk.alive g.D.Disk.contents c.make.new.facility c.make.new.disk) (member_of c.make.new.part) (subst (λ (h : Held). frees_claimed h.marks c.in_ok-sent.sent ≡ false) (ap (λ part. part.resources) c.make.ensures.rest) (sym c.frees_claimed.ensures ∙ c.if-frees_claimed.false)) c.in_ok-sent.ensures.makes
    (ap (member_of {P = g.row.P.Denot}) c.make.ensures.rest) (sym c.is_failure.ensures ∙ c.if-is_failure.true)

pub returns-then-frees_claimed-clause-unlawful : goal.returns-then-frees_claimed-clause-unlawful
returns-then-frees_claimed-clause-unlawful g c = λ so.
    purge_refused (member_of c.args.part.now) (world_of g.C.CacheFace.directory g.D.Disk.alive g.D.Disk.contents c.args.facility.now c.args.disk.now) c.in_ok-sent.sent c.in_ok-sent.answered
    (world_of g.C.CacheFace.directory g.D.Disk.alive g.D.Disk.contents c.make.new.facility c.make.new.disk) c.make.new.part.restart c.in_ok-sent.ensures.makes
    (subst (λ (h : Held). frees_claimed h.marks c.in_ok-sent.sent ≡ true) (ap (λ part. part.resources) c.make.ensures.rest) (sym c.frees_claimed.ensures ∙ c.if-frees_claimed.true))

pub returns-in_err-go_on-clause-unlawful : goal.returns-in_err-go_on-clause-unlawful
returns-in_err-go_on-clause-unlawful g c = λ so.
    adoption_refused (member_of c.args.part.now) (world_of g.C.CacheFace.directory g.D.Disk.alive g.D.Disk.contents c.args.facility.now c.args.disk.now) c.in_ok-sent.sent c.in_ok-sent.answered
    (world_of g.C.CacheFace.directory g.D.Disk.alive g.D.Disk.contents c.make.new.facility c.make.new.disk) c.make.new.part.restart c.make.new.part.resources c.in_ok-sent.ensures.makes
    (ap (λ part. part.resources) c.make.ensures.rest) (c.in_err-go_on.ensures.unlawful (grind (arith, so, c.from_residual-in_err-go_on.ensures)))

pub returns-clause-restarts : goal.returns-clause-restarts
returns-clause-restarts g c =
    let u : World = world_of g.C.CacheFace.directory g.D.Disk.alive g.D.Disk.contents c.make.new.facility c.make.new.disk in
    let v : World = world_of g.C.CacheFace.directory g.D.Disk.alive g.D.Disk.contents c.tell.new.facility c.tell.new.disk in
    let id : c.go_on.new.part.id ≡ c.args.part.now.id = ap (λ part. part.id) c.go_on.ensures.rest ∙ ap (λ part. part.id) c.make.ensures.rest in
    let rebuild : c.go_on.new.part.rebuild ≡ c.args.part.now.rebuild = ap (λ part. part.rebuild) c.go_on.ensures.rest ∙ ap (λ part. part.rebuild) c.make.ensures.rest in
    let is : member_of c.tell.new.part ≡ record (member_of c.args.part.now) { holds = c.tell.new.part.resources; restart = c.go_on.new.part.restart } =
    ap (member_of {P = g.row.P.Denot}) c.tell.ensures.rest ∙ (λ i. record { id = id i; holds = c.tell.new.part.resources; restart = c.go_on.new.part.restart; rebuild = rebuild i }) in
    restart_goes_on (member_of c.args.part.now) (world_of g.C.CacheFace.directory g.D.Disk.alive g.D.Disk.contents c.args.facility.now c.args.disk.now) c.args.place c.in_ok-sent.sent c.in_ok-sent.answered u v
    c.make.new.part.restart c.go_on.new.part.restart c.make.new.part.resources c.go_on.new.part.resources c.tell.new.part.resources (member_of c.tell.new.part) (subst (λ (h : Held). frees_claimed h.marks c.in_ok-sent.sent ≡ false) (ap (λ part. part.resources) c.make.ensures.rest) (sym c.frees_claimed.ensures ∙ c.if-frees_claimed.false)) c.in_ok-sent.ensures.makes
    (ap (λ part. part.resources) c.make.ensures.rest) c.in_ok-go_on.ensures.goes c.in_ok-tell.ensures.tells is c.in_ok-tell.ensures.world (sym c.is_failure.ensures ∙ c.if-is_failure.false)
