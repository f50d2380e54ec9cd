use Rattle.std.proofs.Common.{◌≡◌, drop}
use Rattle.member_marks.specs.Names.{with_spots}
use Rattle.member_marks.proofs.kept.KeptNames.add_spots.Given as goal

abbrev pub invariant-loop-spot : goal.invariant-loop-spot
invariant-loop-spot l = with_spots l.self (drop l.spot-index l.spots) ≡ with_spots l.fn.self l.spots
