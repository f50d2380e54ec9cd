use Rattle.std.proofs.Common.{sym, ap, ◌∙◌}
use Rattle.member_pool.specs.Frames.{is_free, frame_at}
use Rattle.member_pool.specs.Heads.{free_in}
use Rattle.member_pool.proofs.Fronts.{no_front}
use Rattle.member_pool.proofs.heads.Heads.free.Goals as goal

pub returns-in-None-clause-free : goal.returns-in-None-clause-free
returns-in-None-clause-free c =
    let h = c.self.inside in
    sym (no_front (λ f. is_free (frame_at h.frames.items f)) h.order (sym c.oldest.ensures ∙ c.in-None.is)) ∙ ap free_in c.self.view_is
