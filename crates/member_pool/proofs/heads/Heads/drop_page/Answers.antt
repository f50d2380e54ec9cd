use Rattle.std.proofs.Common.{List, ap, ◌∙◌}
use Rattle.std.proofs.lemmas.List.{set-set}
use Rattle.member_pool.specs.declared.frame.Frame.{Frame}
use Rattle.member_pool.specs.Frames.{free_frame}
use Rattle.page_index.specs.Uses.{oldest}
use Rattle.member_pool.specs.Heads.{HeadState, freed}
use Rattle.member_pool.proofs.heads.Heads.drop_page.Goals as goal

pub returns : goal.returns
returns c =
    c.set_free.ensures ∙ ap (λ (s : HeadState). freed s c.args.frame) c.clear_mark.ensures
    ∙ ap (λ (fs : List Frame). let s : HeadState = record { frames = fs; order = oldest c.args.frame c.args.self.now.order } in s) (set-set c.args.self.now.frames c.args.frame _ free_frame)
