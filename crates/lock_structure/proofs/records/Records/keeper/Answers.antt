use Rattle.std.proofs.Common.{subst}
use Rattle.lock_structure.specs.Records.{Book}
use Rattle.lock_structure.specs.Locks.{IsLowest}
use Rattle.lock_structure.proofs.Keepers.{is_kept, hashed_lowest}
use Rattle.lock_structure.proofs.records.Records.keeper.Goals as goal

pub returns : goal.returns
returns c = subst (λ (b : Book). IsLowest (is_kept c.args.member c.args.name.now c.args.mode b.held) c.keeper.result) c.self.view_is
    (hashed_lowest c.self.inside.buckets.chains c.bucket_of.result c.args.member c.args.name.now c.args.mode c.keeper.result c.bucket_of.ensures.place c.self.invariant.0 c.keeper.ensures.lowest c.keeper.ensures.range)
