use Rattle.std.proofs.Common.{◌≡◌}
use Rattle.cache_structure.specs.State.{directory_of}
use Rattle.facility_rates.proofs.pages.write_all.Given as goal

abbrev pub invariant-loop-number : goal.invariant-loop-number
invariant-loop-number l = (directory_of l.cache).frames ≡ l.frames
