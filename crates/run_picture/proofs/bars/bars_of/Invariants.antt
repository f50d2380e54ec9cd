use Rattle.std.proofs.Common.{◌≡◌, true, map, take}
use Rattle.std.specs.List.{flat_map, zip}
use Rattle.run_picture.specs.Seen.{seen_of, bars_seen}
use Rattle.run_picture.proofs.bars.bars_of.Given as goal

abbrev pub invariant-loop-at : goal.invariant-loop-at
invariant-loop-at l = record {
  names : l.scale.is_whole ≡ true → map (λ b. b.label) l.bars ≡ map (λ e. e.name) (take l.at l.entries);
  seen : map seen_of l.bars ≡ flat_map (bars_seen l.scale) (take l.at (zip l.entries l.reaches));
}
