use Rattle.std.proofs.Common.{arith}
use Rattle.member_pool.proofs.Keeping.{kept_new}
use Rattle.member_pool.proofs.heads.Heads.new.Goals as goal

pub invariant_of-result : goal.invariant_of-result
invariant_of-result c =
    kept_new c.args.frames _ _ _ _ _ _ c.ranges.frames.fits c.in_ok-free_frames.ensures c.in_ok-new.ensures.whole (omega (arith, c.in_ok-new-2.ensures)) c.in_ok-new_list.ensures.empty (omega (arith, c.in_ok-new_list.ensures.room)) c.new-3.ensures
