use Rattle.std.proofs.Common.{◌≡◌, take, map}
use Rattle.list_structure.specs.Flags.{flag_for}
use Rattle.list_structure.proofs.flags.begin_all.Given as goal

abbrev pub invariant-loop-place : goal.invariant-loop-place
invariant-loop-place l = take l.place l.flags ≡ map flag_for (take l.place l.raisers)
