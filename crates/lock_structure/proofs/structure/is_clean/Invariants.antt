use Rattle.std.proofs.Common.{◌≡◌, drop}
use Rattle.lock_structure.specs.Locks.{is_clean}
use Rattle.lock_structure.proofs.structure.is_clean.Given as goal

abbrev pub invariant-loop-who : goal.invariant-loop-who
invariant-loop-who l = is_clean (drop l.who-index l.clean) l.member l.version ≡ is_clean l.clean l.member l.version
