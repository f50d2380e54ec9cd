use Rattle.std.proofs.Common.{◌+◌, ◌*◌, ◌≤◌, ◌≡◌, vec_len}
use Rattle.std.specs.List.{All}
use Rattle.run_picture.specs.Places.{IsTall}
use Rattle.run_picture.proofs.lanes.make_lanes.Given as goal

abbrev pub invariant-loop-member : goal.invariant-loop-member
invariant-loop-member l = All IsTall l.lanes.items × ((vec_len l.lanes ≡ l.member) × (l.top ≤ 70 + l.member * 22000044))
