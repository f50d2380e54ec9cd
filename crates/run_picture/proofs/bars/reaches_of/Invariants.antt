use Rattle.std.proofs.Common.{◌≡◌, map, take, vec_len}
use Rattle.std.specs.List.{zip}
use Rattle.run_spans.specs.Places.{place_in}
use Rattle.run_picture.specs.Reaching.{reach_of}
use Rattle.run_picture.proofs.bars.reaches_of.Given as goal

abbrev pub invariant-loop-at : goal.invariant-loop-at
invariant-loop-at l = record {
  exact : l.reaches.items ≡ map (reach_of l.spans (place_in l.failed)) (take l.at (zip l.entries l.numbers));
  count : vec_len l.reaches ≡ l.at;
}
