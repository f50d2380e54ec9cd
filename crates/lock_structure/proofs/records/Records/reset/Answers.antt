use Rattle.std.proofs.Common.{refl, length}
use Rattle.lock_structure.proofs.Hashed.{flat_empty}
use Rattle.lock_structure.proofs.records.Records.reset.Goals as goal

pub returns : goal.returns
returns c = rw (c.clear.ensures, ← c.self.view_is, flat_empty (length c.self.inside.buckets.chains)) refl
