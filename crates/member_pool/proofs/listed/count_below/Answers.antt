use Rattle.std.proofs.Common.{rules, of_calls, nat_lt}
use Rattle.std.proofs.lemmas.Fn.{always_returns_same}
use Rattle.member_pool.specs.Listed.{entry_in, table_in}
use Rattle.member_pool.proofs.Listing.{split_by_table}
use Rattle.member_pool.proofs.listed.count_below.Goals as goal

pub returns-clause-point : goal.returns-clause-point
returns-clause-point c =
    c.partition_point.ensures.partitioned (λ f. nat_lt (table_in (entry_in c.args.frames.now f)) c.args.table) (always_returns_same _ _ _ (λ a r f k. search (rules, of_calls)))
    (split_by_table (entry_in c.args.frames.now) c.args.listed.now c.args.table c.requires.rising)
