use Rattle.std.proofs.Common.{◌≡◌, ℕ, ◌∙◌, List, length, map, sym, ap, subst, arith}
use Rattle.group_member.specs.Happening.{World, world_of}
use Rattle.script_fates.specs.Fated.{FatesState}
use Rattle.group_member.specs.declared.part.MemberPart.{MemberPart}
use Rattle.group_crew.specs.Happening.{ComesAt, IsRefusedAt, member_at}
use Rattle.group_crew.specs.States.{known_by}
use Rattle.group_crew.proofs.Parts.{comes_then, whole}
use Rattle.group_crew.proofs.crew.Crew.step_member.Goals as goal

pub returns-in_err-stepped-clause-unlawful : goal.returns-in_err-stepped-clause-unlawful
returns-in_err-stepped-clause-unlawful g c = λ so.
    let w : World = world_of g.C.CacheFace.directory g.D.Disk.alive g.D.Disk.contents c.args.self.now.facility c.args.disk.now in
    let v : World = world_of g.C.CacheFace.directory g.D.Disk.alive g.D.Disk.contents c.step_at.new.facility c.step_at.new.disk in
    subst (λ (parts : List (MemberPart g.row.P.Denot)). IsRefusedAt (member_at parts c.args.at) w c.args.place v) c.deref_mut.ensures.value
    (c.in_err-stepped.ensures.unlawful (grind (arith, so, c.from_residual.ensures)))

pub returns-in_err-stepped-clause-others : goal.returns-in_err-stepped-clause-others
returns-in_err-stepped-clause-others g c = λ k other.
    let items : List (MemberPart g.row.P.Denot) = c.args.self.now.parts.items in
    let news : List (MemberPart g.row.P.Denot) = c.step_at.new.parts in
    let n : ℕ = c.args.self.now.parts.len in
    let long : length items ≡ n = sym c.args.self.now.parts.ok.0 in
    let also : length news ≡ n = omega (arith, ap length c.deref_mut.ensures.value) in
    ap (λ (its : List (MemberPart g.row.P.Denot)). member_at its k) (whole n items news long also)
    ∙ (c.step_at.ensures.others k other ∙ ap (λ (its : List (MemberPart g.row.P.Denot)). member_at its k) c.deref_mut.ensures.value)

pub returns-clause-comes : goal.returns-clause-comes
returns-clause-comes g c =
    let items : List (MemberPart g.row.P.Denot) = c.args.self.now.parts.items in
    let news : List (MemberPart g.row.P.Denot) = c.step_at.new.parts in
    let n : ℕ = c.args.self.now.parts.len in
    let long : length items ≡ n = sym c.args.self.now.parts.ok.0 in
    let also : length news ≡ n = omega (arith, ap length c.deref_mut.ensures.value) in
    let w : World = world_of g.C.CacheFace.directory g.D.Disk.alive g.D.Disk.contents c.args.self.now.facility c.args.disk.now in
    let u : World = world_of g.C.CacheFace.directory g.D.Disk.alive g.D.Disk.contents c.step_at.new.facility c.step_at.new.disk in
    let v : World = world_of g.C.CacheFace.directory g.D.Disk.alive g.D.Disk.contents c.make_others_stale.new.self.facility c.step_at.new.disk in
    let f : FatesState = c.args.self.now.fates in
    comes_then c.args.self.now.script c.args.self.now.progress.begun c.args.self.now.sizes.sizes c.args.choice (member_at items c.args.at) w f c.args.place c.in_ok-stepped.stepped
    (member_at news c.args.at) (member_at c.make_others_stale.new.self.parts.items c.args.at) u v c.step_at.new.fates c.make_others_stale.new.self.fates
    (c.make_others_stale.ensures.members c.args.at ∙ ap (λ (its : List (MemberPart g.row.P.Denot)). member_at its c.args.at) (whole n items news long also))
    (ap (λ crew. world_of g.C.CacheFace.directory g.D.Disk.alive g.D.Disk.contents crew.facility c.step_at.new.disk) c.make_others_stale.ensures.rest)
    (ap (λ crew. crew.fates) c.make_others_stale.ensures.rest)
    (subst (λ (its : List (MemberPart g.row.P.Denot)). ComesAt c.args.self.now.script c.args.self.now.progress.begun c.args.self.now.sizes.sizes c.args.choice (member_at its c.args.at) w f c.args.place c.in_ok-stepped.stepped (member_at news c.args.at) u c.step_at.new.fates)
    c.deref_mut.ensures.value c.in_ok-stepped.ensures.comes)

pub returns-clause-others : goal.returns-clause-others
returns-clause-others g c = λ k other.
    let items : List (MemberPart g.row.P.Denot) = c.args.self.now.parts.items in
    let news : List (MemberPart g.row.P.Denot) = c.step_at.new.parts in
    let n : ℕ = c.args.self.now.parts.len in
    let long : length items ≡ n = sym c.args.self.now.parts.ok.0 in
    let also : length news ≡ n = omega (arith, ap length c.deref_mut.ensures.value) in
    c.make_others_stale.ensures.members k
    ∙ (ap (λ (its : List (MemberPart g.row.P.Denot)). member_at its k) (whole n items news long also)
    ∙ (c.step_at.ensures.others k other ∙ ap (λ (its : List (MemberPart g.row.P.Denot)). member_at its k) c.deref_mut.ensures.value))

pub returns-in_err-stepped-clause-known : goal.returns-in_err-stepped-clause-known
returns-in_err-stepped-clause-known g c =
    let items : List (MemberPart g.row.P.Denot) = c.args.self.now.parts.items in
    let news : List (MemberPart g.row.P.Denot) = c.step_at.new.parts in
    let n : ℕ = c.args.self.now.parts.len in
    let long : length items ≡ n = sym c.args.self.now.parts.ok.0 in
    let also : length news ≡ n = omega (arith, ap length c.deref_mut.ensures.value) in
    ap (map (known_by {P = g.row.P.Denot})) (whole n items news long also) ∙ (c.step_at.ensures.known ∙ ap (map (known_by {P = g.row.P.Denot})) c.deref_mut.ensures.value)

pub returns-clause-known : goal.returns-clause-known
returns-clause-known g c =
    let items : List (MemberPart g.row.P.Denot) = c.args.self.now.parts.items in
    let news : List (MemberPart g.row.P.Denot) = c.step_at.new.parts in
    let n : ℕ = c.args.self.now.parts.len in
    let long : length items ≡ n = sym c.args.self.now.parts.ok.0 in
    let also : length news ≡ n = omega (arith, ap length c.deref_mut.ensures.value) in
    c.make_others_stale.ensures.known
    ∙ (ap (map (known_by {P = g.row.P.Denot})) (whole n items news long also)
    ∙ (c.step_at.ensures.known ∙ ap (map (known_by {P = g.row.P.Denot})) c.deref_mut.ensures.value))
