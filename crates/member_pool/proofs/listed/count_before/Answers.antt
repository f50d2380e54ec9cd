use Rattle.std.proofs.Common.{rules, of_calls}
use Rattle.std.proofs.lemmas.Fn.{always_returns_same}
use Rattle.member_pool.specs.Listed.{entry_in, precedes}
use Rattle.member_pool.proofs.Listing.{split_by_key}
use Rattle.member_pool.proofs.listed.count_before.Goals as goal

pub returns-clause-point : goal.returns-clause-point
returns-clause-point c =
    c.partition_point.ensures.partitioned (λ f. precedes (entry_in c.args.frames.now f) c.args.key.now) (always_returns_same _ _ _ (λ a r f k. search (rules, of_calls)))
    (split_by_key c.orders_pages.ensures.transitive (entry_in c.args.frames.now) c.args.listed.now c.args.key.now c.requires.rising)
