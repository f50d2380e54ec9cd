use Rattle.std.proofs.Common.{◌<◌, length, slice_set, slice_index_or, ap, arith}
use Rattle.std.proofs.lemmas.Result.{IfOk-weaker}
use Rattle.group_member.specs.declared.stepped.Stepped.{Stepped}
use Rattle.group_member.specs.Happening.{Comes, World, world_of}
use Rattle.group_member.specs.Members.{member_of}
use Rattle.group_crew.specs.Happening.{ComesAt, member_at}
use Rattle.group_crew.specs.States.{known_by}
use Rattle.group_crew.proofs.Parts.{at_other, comes_at, map_set, none_at, refused_at}
use Rattle.group_crew.proofs.member_step.step_at.Goals as goal

pub returns-then-at-parts-clause-unlawful : goal.returns-then-at-parts-clause-unlawful
returns-then-at-parts-clause-unlawful g c = λ is.
    let w : World = world_of g.C.CacheFace.directory g.D.Disk.alive g.D.Disk.contents c.args.facility.now c.args.disk.now in
    none_at c.args.parts.now c.args.at w c.args.place w (omega arith)

pub returns-clause-comes : goal.returns-clause-comes
returns-clause-comes g c =
    let within : c.args.at < length c.args.parts.now = omega arith in
    let w : World = world_of g.C.CacheFace.directory g.D.Disk.alive g.D.Disk.contents c.args.facility.now c.args.disk.now in
    let v : World = world_of g.C.CacheFace.directory g.D.Disk.alive g.D.Disk.contents c.step_one.new.facility c.step_one.new.disk in
    IfOk-weaker c.step_one.result
    (λ (stepped : Stepped). Comes c.args.script.now c.args.begun c.args.sizes.now.sizes c.args.choice (member_of (slice_index_or c.args.parts.now c.args.at c.index-parts-at.result)) w c.args.fates.now c.args.place stepped (member_of c.step_one.new.part) v c.step_one.new.fates)
    (λ (stepped : Stepped). ComesAt c.args.script.now c.args.begun c.args.sizes.now.sizes c.args.choice (member_at c.args.parts.now c.args.at) w c.args.fates.now c.args.place stepped (member_at (slice_set c.args.parts.now c.args.at c.step_one.new.part) c.args.at) v c.step_one.new.fates)
    (λ stepped comes. comes_at c.args.script.now c.args.begun c.args.sizes.now.sizes c.args.choice c.args.parts.now c.args.at c.index-parts-at.result c.step_one.new.part w c.args.fates.now c.args.place stepped v c.step_one.new.fates within comes)
    c.step_one.ensures.comes

pub returns-clause-unlawful : goal.returns-clause-unlawful
returns-clause-unlawful g c = λ so.
    let within : c.args.at < length c.args.parts.now = omega arith in
    let w : World = world_of g.C.CacheFace.directory g.D.Disk.alive g.D.Disk.contents c.args.facility.now c.args.disk.now in
    let v : World = world_of g.C.CacheFace.directory g.D.Disk.alive g.D.Disk.contents c.step_one.new.facility c.step_one.new.disk in
    refused_at c.args.parts.now c.args.at c.index-parts-at.result w c.args.place v within (c.step_one.ensures.unlawful so)

pub returns-clause-others : goal.returns-clause-others
returns-clause-others g c = λ k other. at_other c.args.parts.now c.args.at c.step_one.new.part k other

pub returns-clause-known : goal.returns-clause-known
returns-clause-known g c =
    let within : c.args.at < length c.args.parts.now = omega arith in
    map_set (known_by {P = g.row.P.Denot}) c.args.parts.now c.args.at c.index-parts-at.result c.step_one.new.part within (ap (known_by {P = g.row.P.Denot}) c.step_one.ensures.rest)
