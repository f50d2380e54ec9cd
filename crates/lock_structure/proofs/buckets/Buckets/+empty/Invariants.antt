use Rattle.std.proofs.Common.{length, slice_index_or, []}
use Rattle.lock_structure.proofs.buckets.Buckets.+empty.Given as goal

abbrev pub decreases-empty : goal.decreases-empty
decreases-empty l = length (slice_index_or l.self.now.chains l.at [])
