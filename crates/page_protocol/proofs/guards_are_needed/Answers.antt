use Rattle.page_protocol.proofs.guards_are_needed.Goals as goal
use Rattle.page_protocol.proofs.Needed.{invalidation, stable, resting, aside, written, bit, castout_lock, all_logs, cache, comparison, order, unused, recovery}

pub returns : goal.returns
returns c = record { invalidation = invalidation; stable = stable; resting = resting; aside = aside; written = written; bit = bit; castout_lock = castout_lock; all_logs = all_logs; cache = cache; comparison = comparison; order = order; unused = unused; recovery = recovery }
