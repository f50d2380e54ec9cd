-- What a chain of records is seen as.
use Rattle.std.specs.Prelude.{List, [], ◌∷◌}
use Rattle.lock_structure.specs.declared.chain.Held.{Held}
use Rattle.lock_structure.specs.declared.chain.Node.{Node}
use Rattle.lock_structure.specs.declared.chain.Node.TheVariants.{End, Link}

-- the records, the newest first
abbrev pub held_in : Node → List Held
held_in End = []
held_in (Link h rest) = h ∷ rest.value
