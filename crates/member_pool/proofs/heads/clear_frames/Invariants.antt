use Rattle.std.proofs.Common.{◌≡◌, ◌≤◌, replicate, vec_capacity}
use Rattle.member_pool.specs.Frames.{free_frame}
use Rattle.member_pool.proofs.heads.clear_frames.Given as goal

abbrev pub invariant-loop : goal.invariant-loop
invariant-loop l = (l.frames.items ≡ replicate l.counter free_frame) × (l.count ≤ vec_capacity l.frames)
