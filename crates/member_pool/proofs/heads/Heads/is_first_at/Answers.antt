use Rattle.std.proofs.Common.{◌≡◌, Some, sym, ap, subst, ◌∙◌, List, false}
use Rattle.std.specs.Option.{option_map_or}
use Rattle.write_order.specs.Keys.{table_of}
use Rattle.member_pool.specs.declared.frame.Frame.{Frame}
use Rattle.member_pool.specs.Heads.{HeadState, is_first_to_write}
use Rattle.member_pool.specs.Listed.{entry_in}
use Rattle.member_pool.specs.Marks.{is_first, first_of}
use Rattle.member_pool.proofs.Firsts.{told, told_none}
use Rattle.member_pool.proofs.heads.Heads.is_first_at.Goals as goal

pub returns-in-Some : goal.returns-in-Some
returns-in-Some c =
    let h = c.self.inside in
    let fs = h.frames.items in
    let e : entry_in fs c.args.frame ≡ Some c.args.key = subst (λ (s : HeadState). entry_in s.frames c.args.frame ≡ Some c.args.key) (sym c.self.view_is) c.requires in
    let same : first_of c.as_slice-2.result.now c.table.result ≡ first_of fs (table_of c.args.key) =
    ap (λ (xs : List Frame). first_of xs c.table.result) c.as_slice-2.ensures.value ∙ ap (first_of fs) c.table.ensures in
    told fs h.listed.items c.self.invariant.marked.in_order c.args.frame c.in-Some.first c.args.key e (sym (c.first_of-first.ensures ∙ same) ∙ c.in-Some.is)
    ∙ sym (ap (λ o. option_map_or (is_first fs) o false) e) ∙ ap (λ (s : HeadState). is_first_to_write s c.args.frame) c.self.view_is

pub returns-in-None : goal.returns-in-None
returns-in-None c =
    let h = c.self.inside in
    let fs = h.frames.items in
    let e : entry_in fs c.args.frame ≡ Some c.args.key = subst (λ (s : HeadState). entry_in s.frames c.args.frame ≡ Some c.args.key) (sym c.self.view_is) c.requires in
    let same : first_of c.as_slice-2.result.now c.table.result ≡ first_of fs (table_of c.args.key) =
    ap (λ (xs : List Frame). first_of xs c.table.result) c.as_slice-2.ensures.value ∙ ap (first_of fs) c.table.ensures in
    told_none fs h.listed.items c.self.invariant.marked.in_order c.args.frame c.args.key e (sym (c.first_of-first.ensures ∙ same) ∙ c.in-None.is)
    ∙ sym (ap (λ o. option_map_or (is_first fs) o false) e) ∙ ap (λ (s : HeadState). is_first_to_write s c.args.frame) c.self.view_is
