-- What a chain of claims is seen as.
use Rattle.std.specs.Prelude.{List, [], ◌∷◌}
use Rattle.lock_manager.specs.declared.claim.Claim.{Claim}
use Rattle.lock_manager.specs.declared.chain.Node.{Node}
use Rattle.lock_manager.specs.declared.chain.Node.TheVariants.{End, Link}

-- the claims, the newest first
abbrev pub claims_in : Node → List Claim
claims_in End = []
claims_in (Link c rest) = c ∷ rest.value
