use Rattle.std.proofs.Common.{◌≡◌, ℕ, [], map, vec_len}
use Rattle.run_picture.specs.Rooms.{ends_of}
use Rattle.run_picture.proofs.rows.Rows.new.Given as goal

abbrev pub invariant-loop-lane : goal.invariant-loop-lane
invariant-loop-lane l = record {
  count : vec_len l.ends ≡ l._lane;
  empty : (member : ℕ) → ends_of (map (λ r. r.items) l.ends.items) member ≡ [];
}
