use Rattle.std.proofs.Common.{◌<◌, length, sym, ap, ◌∙◌, subst, arith}
use Rattle.std.specs.Prelude.{IfSome}
use Rattle.std.proofs.lemmas.Option.{IfSome_then}
use Rattle.page_index.specs.Places.{IsIndexOf}
use Rattle.member_pool.specs.Frames.{find_page, page_of}
use Rattle.member_pool.specs.Heads.{HeadState}
use Rattle.member_pool.proofs.heads.Heads.find.Goals as goal

pub find-requires : goal.find-requires
find-requires c = subst (λ fs. IsIndexOf page_of fs c.self.inside.places) (sym c.as_slice.ensures.value) c.self.invariant.index

pub as_frame-requires : goal.as_frame-requires
as_frame-requires c =
    let small = c.self.invariant.small in
    IfSome_then c.find.result (subst (λ fs. IfSome c.find.result (λ f. f < length fs)) c.as_slice.ensures.value c.find.ensures.there) (λ f l. omega (arith, l, small))

pub returns : goal.returns
returns c =
    c.as_frame.ensures ∙ c.find.ensures.place ∙ ap (λ fs. find_page fs c.args.id) c.as_slice.ensures.value ∙ ap (λ (s : HeadState). find_page s.frames c.args.id) c.self.view_is
