use Rattle.std.proofs.Common.{refl, sym, ap, arith, ◌∙◌}
use Rattle.member_resources.specs.Events.{World, world_of}
use Rattle.group_member.specs.Members.{member_of}
use Rattle.group_member.specs.Stepping.{has_failed}
use Rattle.group_member.proofs.Causes.{by_standing}
use Rattle.group_member.proofs.Comings.{by_bells, by_bells_then, comes, comes_down}
use Rattle.group_member.proofs.event.step_one.Goals as goal

pub returns-then-not-live-clause-unlawful : goal.returns-then-not-live-clause-unlawful
returns-then-not-live-clause-unlawful g c = λ so. by_standing _ _ _ _ (sym c.live.ensures ∙ c.if-not-live.true)

pub returns-in_err-fail_one-clause-unlawful : goal.returns-in_err-fail_one-clause-unlawful
returns-in_err-fail_one-clause-unlawful g c = λ so. by_bells _ _ _ _ (c.in_err-fail_one.ensures.unlawful (grind (arith, so, c.from_residual.ensures)))

pub returns-in_err-settle-clause-unlawful : goal.returns-in_err-settle-clause-unlawful
returns-in_err-settle-clause-unlawful g c = λ so.
    let bells = c.in_err-settle.ensures.unlawful (grind (arith, so, c.from_residual-in_err-settle.ensures)) in
    by_bells_then (member_of c.args.part.now) (world_of g.C.CacheFace.directory g.D.Disk.alive g.D.Disk.contents c.args.facility.now c.args.disk.now) c.args.place c.in_ok-stepped.stepped
    (world_of g.C.CacheFace.directory g.D.Disk.alive g.D.Disk.contents c.make_idly.new.facility c.make_idly.new.disk) (world_of g.C.CacheFace.directory g.D.Disk.alive g.D.Disk.contents c.settle.new.facility c.make_idly.new.disk)
    (member_of c.make_idly.new.part) c.in_ok-stepped.ensures.makes bells.0 bells.1

pub returns-clause-comes : goal.returns-clause-comes
returns-clause-comes g c =
    let u : World = world_of g.C.CacheFace.directory g.D.Disk.alive g.D.Disk.contents c.make_idly.new.facility c.make_idly.new.disk in
    let v : World = world_of g.C.CacheFace.directory g.D.Disk.alive g.D.Disk.contents c.settle.new.facility c.make_idly.new.disk in
    comes (has_failed c.in_ok-stepped.stepped) c.args.script.now c.args.begun c.args.sizes.now.sizes c.args.choice (member_of c.args.part.now)
    (world_of g.C.CacheFace.directory g.D.Disk.alive g.D.Disk.contents c.args.facility.now c.args.disk.now) c.args.fates.now c.args.place c.in_ok-stepped.stepped (member_of c.make_idly.new.part)
    (member_of c.settle.new.part) u v c.settle.new.fates (sym c.live.ensures ∙ c.if-not-live.false) refl c.in_ok-stepped.ensures.makes c.in_ok-stepped.ensures.idle c.in_ok-stepped.ensures.kind refl (ap (λ part. part.id) c.make_idly.ensures.rest)
    (ap (λ part. part.id) c.settle.ensures.rest ∙ ap (λ part. part.id) c.make_idly.ensures.rest)
    c.settle.ensures.enters c.settle.ensures.stays c.in_ok-settle.ensures.fails c.in_ok-settle.ensures.down c.in_ok-settle.ensures.stops
