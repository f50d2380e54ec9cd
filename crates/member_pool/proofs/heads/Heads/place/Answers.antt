use Rattle.std.proofs.Common.{◌≡◌, ℕ, List, Some, refl, sym, ap, subst, ◌∙◌}
use Rattle.std.proofs.lemmas.List.{set-set}
use Rattle.member_pool.specs.declared.frame.Frame.{Frame}
use Rattle.member_pool.specs.Frames.{find_page, holding}
use Rattle.page_index.specs.Uses.{newest}
use Rattle.member_pool.specs.Heads.{HeadState, placed_in}
use Rattle.member_pool.proofs.Keeping.{found_still}
use Rattle.member_pool.proofs.heads.Heads.place.Goals as goal

pub set_page-requires-clause-alone : goal.set_page-requires-clause-alone
set_page-requires-clause-alone c =
    subst (λ (s : HeadState). (f : ℕ) → find_page s.frames c.args.id ≡ Some f → f ≡ c.args.frame) (sym c.clear_mark.ensures)
    (λ f e. c.requires.alone f (sym (found_still c.args.self.now.frames c.args.frame _ c.args.id refl c.requires.there) ∙ e))

pub returns : goal.returns
returns c =
    c.set_page.ensures ∙ ap (λ (s : HeadState). placed_in s c.args.frame c.args.id) c.clear_mark.ensures
    ∙ ap (λ (fs : List Frame). let s : HeadState = record { frames = fs; order = newest c.args.frame c.args.self.now.order } in s) (set-set c.args.self.now.frames c.args.frame _ (holding c.args.id))
