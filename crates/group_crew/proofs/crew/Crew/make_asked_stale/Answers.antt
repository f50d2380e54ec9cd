use Rattle.std.proofs.Common.{◌≡◌, ℕ, ◌∙◌, List, length, map, sym, ap, arith}
use Rattle.group_member.specs.declared.part.MemberPart.{MemberPart}
use Rattle.group_crew.specs.Happening.{member_at}
use Rattle.group_crew.specs.States.{known_by}
use Rattle.group_crew.proofs.Parts.{whole}
use Rattle.group_crew.proofs.crew.Crew.make_asked_stale.Goals as goal

pub returns-clause-members : goal.returns-clause-members
returns-clause-members g c = λ k.
    let items : List (MemberPart g.row.P.Denot) = c.args.self.now.parts.items in
    let news : List (MemberPart g.row.P.Denot) = c.make_stale_at.new.parts in
    let n : ℕ = c.args.self.now.parts.len in
    let long : length items ≡ n = sym c.args.self.now.parts.ok.0 in
    let also : length news ≡ n = omega (arith, ap length c.deref_mut.ensures.value) in
    ap (λ (its : List (MemberPart g.row.P.Denot)). member_at its k) (whole n items news long also)
    ∙ (c.make_stale_at.ensures.members k ∙ ap (λ (its : List (MemberPart g.row.P.Denot)). member_at its k) c.deref_mut.ensures.value)

pub returns-clause-known : goal.returns-clause-known
returns-clause-known g c =
    let items : List (MemberPart g.row.P.Denot) = c.args.self.now.parts.items in
    let news : List (MemberPart g.row.P.Denot) = c.make_stale_at.new.parts in
    let n : ℕ = c.args.self.now.parts.len in
    let long : length items ≡ n = sym c.args.self.now.parts.ok.0 in
    let also : length news ≡ n = omega (arith, ap length c.deref_mut.ensures.value) in
    ap (map (known_by {P = g.row.P.Denot})) (whole n items news long also) ∙ (c.make_stale_at.ensures.known ∙ ap (map (known_by {P = g.row.P.Denot})) c.deref_mut.ensures.value)
