use Rattle.std.proofs.Common.{◌≡◌, drop}
use Rattle.std.specs.Prelude.{None}
use Rattle.lock_manager.specs.Holders.{mode_of_all}
use Rattle.lock_manager.proofs.scan.mode_of_all.Given as goal

abbrev pub invariant-loop-claims : goal.invariant-loop-claims
invariant-loop-claims l = mode_of_all l.held (drop l.claims-index l.holders) l.name ≡ mode_of_all None l.holders l.name
