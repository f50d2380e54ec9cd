use Rattle.std.proofs.Common.{refl, ap, ◌∙◌, length}
use Rattle.member_pool.specs.Listed.{entry_in}
use Rattle.member_pool.specs.Heads.{HeadState, has_changed}
use Rattle.member_pool.proofs.Tallies.{has_is}
use Rattle.member_pool.proofs.heads.Heads.changed_sets.Goals as goal

pub returns : goal.returns
returns c = λ set.
    let h = c.self.inside in
    c.sets.ensures set
    ∙ has_is (entry_in h.frames.items) (length h.frames.items) h.listed.items h.counts c.self.invariant.marked h.frames.items refl refl set
    ∙ ap (λ (s : HeadState). has_changed s set) c.self.view_is
