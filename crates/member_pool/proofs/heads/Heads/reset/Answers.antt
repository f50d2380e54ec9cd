use Rattle.std.proofs.Common.{◌≡◌, ap, ◌∙◌, sym, subst, length, arith}
use Rattle.std.proofs.lemmas.List.{length-replicate}
use Rattle.page_index.specs.Uses.{IsOrderOf}
use Rattle.member_pool.specs.Frames.{free_frame}
use Rattle.member_pool.proofs.Keeping.{kept_new}
use Rattle.member_pool.proofs.heads.Heads.reset.Goals as goal

pub reset-requires : goal.reset-requires
reset-requires c =
    let h = c.self.inside in
    let long : length c.clear_frames.new.frames.items ≡ length h.frames.items = ap length c.clear_frames.ensures ∙ length-replicate (length h.frames.items) free_frame in
    let count : c.len.result ≡ length h.frames.items = omega (arith, c.len.ensures, c.clear_frames.new.frames.ok.0, long) in
    subst (λ k. IsOrderOf k h.order) (sym count) c.self.invariant.whole

pub invariant_of-self : goal.invariant_of-self
invariant_of-self c =
    let h = c.self.inside in
    let n = length h.frames.items in
    let long : length c.clear_frames.new.frames.items ≡ n = ap length c.clear_frames.ensures ∙ length-replicate n free_frame in
    let count : c.len.result ≡ n = omega (arith, c.len.ensures, c.clear_frames.new.frames.ok.0, long) in
    kept_new n c.clear_frames.new.frames.items c.reset.new.self h.places c.clear.new.self.items _ c.clear-2.new.self c.self.invariant.small c.clear_frames.ensures
    (subst (λ k. IsOrderOf k c.reset.new.self) count c.reset.ensures.whole) c.self.invariant.index.room c.clear.ensures.items (omega (arith, c.self.invariant.list_room, c.clear.ensures.capacity)) c.clear-2.ensures
