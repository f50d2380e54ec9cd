use Rattle.std.proofs.Common.{ap, sym, ◌∙◌, Bool}
use Rattle.member_pool.specs.declared.frame.Frame.{Frame}
use Rattle.member_pool.specs.Heads.{HeadState, head_of, with_head}
use Rattle.member_pool.specs.Pools.{PoolState, with_frame, frame_of}
use Rattle.member_pool.proofs.Keeping.{remarked}
use Rattle.member_pool.proofs.pool.Pool.set_changed.Goals as goal

pub returns-then-changed : goal.returns-then-changed
returns-then-changed c =
    let heads = c.self.inside.heads in
    let pool : HeadState → PoolState = λ h. record { pages = c.self.inside.pages.items; frames = h.frames; order = h.order } in
    ap pool (c.mark_changed.ensures ∙ remarked heads c.args.frame c.frame-rank.result.rank (ap (λ (x : Frame). x.rank) c.frame-rank.ensures))
    ∙ ap (λ (b : Bool). pool (with_head heads c.args.frame (record (head_of heads c.args.frame) { changed = b }))) (sym c.if-changed.true)
    ∙ ap (λ (s : PoolState). with_frame s c.args.frame (record (frame_of s c.args.frame) { changed = c.args.changed })) c.self.view_is
