-- The claims of one owner, be they in one chain or in several.
use Rattle.std.specs.Prelude.{List}
use Rattle.lock_manager.specs.declared.claim.Claim.{Claim}
use Rattle.lock_manager.specs.declared.holds.Kind.{Kind}
use Rattle.lock_manager.specs.declared.holds.Kind.TheVariants.{Few, Many}

abbrev pub held_in : Kind → List Claim
held_in (Few cs) = cs
held_in (Many cs) = cs
