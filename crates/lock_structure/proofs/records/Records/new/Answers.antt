use Rattle.std.proofs.Common.{refl}
use Rattle.lock_structure.proofs.Hashed.{flat_empty}
use Rattle.lock_structure.proofs.records.Records.new.Goals as goal

pub returns : goal.returns
returns c = rw (c.in_ok-buckets.ensures, flat_empty c.bucket_count.result) refl
