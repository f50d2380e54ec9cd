use Rattle.std.proofs.Common.{◌≡◌, ℕ, ◌++◌, true, All, List, None, length, map, take, drop, refl, sym, ap, subst, ◌∙◌}
use Rattle.std.specs.Vec.{with_items}
use Rattle.std.proofs.lemmas.Result.{on_ok_weaker}
use Rattle.group_member.specs.declared.part.MemberPart.{MemberPart}
use Rattle.group_member.specs.Members.{IsDown, member_of}
use Rattle.group_crew.specs.declared.crew.Crew.{Crew}
use Rattle.group_crew.specs.Ends.{AllKnowEnds}
use Rattle.group_crew.proofs.Anew.{begins_anew, on_ok_both}
use Rattle.group_crew.proofs.Known.{all_ends}
use Rattle.group_crew.proofs.Parts.{same_length, whole}
use Rattle.group_crew.proofs.crew.Crew.reset.Goals as goal

pub returns-clause-anew : goal.returns-clause-anew
returns-clause-anew g c =
    let items : List (MemberPart g.row.P.Denot) = c.args.self.now.parts.items in
    let news : List (MemberPart g.row.P.Denot) = c.reset_all.new.parts in
    let n : ℕ = c.args.self.now.parts.len in
    let long : length items ≡ n = sym c.args.self.now.parts.ok.0 in
    let same : map (λ (part : MemberPart g.row.P.Denot). part.id) news ≡ map (λ (part : MemberPart g.row.P.Denot). part.id) items =
    c.reset_all.ensures.same ∙ ap (map (λ (part : MemberPart g.row.P.Denot). part.id)) c.deref_mut.ensures.value in
    let are : take n (news ++ drop (length news) items) ≡ news = whole n items news long (same_length (λ (part : MemberPart g.row.P.Denot). part.id) news items same ∙ long) in
    let new : Crew g.row.C.Denot g.row.P.Denot =
    record c.args.self.now { facility = c.reset.new.self; parts = with_items c.args.self.now.parts news; restart = None; is_own_stale = true; was_half = c.is_half-self.result } in
    on_ok_both c.reset_all.result
    (λ down known. begins_anew g.C.CacheFace.directory c.args.counter c.args.self.now new news c.reset.ensures (all_ends c.args.self.now.restart c.ends-known.result news c.ends-known.ensures known) are same refl down)
    c.reset_all.ensures.down c.reset_all.ensures.known

pub returns-clause-members : goal.returns-clause-members
returns-clause-members g c =
    let items : List (MemberPart g.row.P.Denot) = c.args.self.now.parts.items in
    let news : List (MemberPart g.row.P.Denot) = c.reset_all.new.parts in
    let n : ℕ = c.args.self.now.parts.len in
    let long : length items ≡ n = sym c.args.self.now.parts.ok.0 in
    let same : map (λ (part : MemberPart g.row.P.Denot). part.id) news ≡ map (λ (part : MemberPart g.row.P.Denot). part.id) items =
    c.reset_all.ensures.same ∙ ap (map (λ (part : MemberPart g.row.P.Denot). part.id)) c.deref_mut.ensures.value in
    let are : take n (news ++ drop (length news) items) ≡ news = whole n items news long (same_length (λ (part : MemberPart g.row.P.Denot). part.id) news items same ∙ long) in
    on_ok_weaker c.reset_all.result
    (λ down. subst (λ (its : List (MemberPart g.row.P.Denot)). All (λ (part : MemberPart g.row.P.Denot). IsDown c.args.self.now.sizes.sizes (member_of part)) its) (sym are) down) c.reset_all.ensures.down

pub returns-clause-known : goal.returns-clause-known
returns-clause-known g c =
    let items : List (MemberPart g.row.P.Denot) = c.args.self.now.parts.items in
    let news : List (MemberPart g.row.P.Denot) = c.reset_all.new.parts in
    let n : ℕ = c.args.self.now.parts.len in
    let long : length items ≡ n = sym c.args.self.now.parts.ok.0 in
    let same : map (λ (part : MemberPart g.row.P.Denot). part.id) news ≡ map (λ (part : MemberPart g.row.P.Denot). part.id) items =
    c.reset_all.ensures.same ∙ ap (map (λ (part : MemberPart g.row.P.Denot). part.id)) c.deref_mut.ensures.value in
    let are : take n (news ++ drop (length news) items) ≡ news = whole n items news long (same_length (λ (part : MemberPart g.row.P.Denot). part.id) news items same ∙ long) in
    on_ok_weaker c.reset_all.result
    (λ known. subst (AllKnowEnds c.args.self.now.restart) (sym are) (all_ends c.args.self.now.restart c.ends-known.result news c.ends-known.ensures known)) c.reset_all.ensures.known
