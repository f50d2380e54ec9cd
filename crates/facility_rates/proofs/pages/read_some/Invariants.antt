use Rattle.std.proofs.Common.{◌≡◌}
use Rattle.cache_structure.specs.State.{directory_of}
use Rattle.facility_rates.proofs.pages.read_some.Given as goal

abbrev pub invariant-loop-turn : goal.invariant-loop-turn
invariant-loop-turn l = (directory_of l.cache).frames ≡ l.frames
