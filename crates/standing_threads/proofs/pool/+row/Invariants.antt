use Rattle.std.proofs.Common.{◌+◌, ◌*◌, length}
use Rattle.standing_threads.proofs.pool.+row.Given as goal

abbrev pub decreases-work_behind : goal.decreases-work_behind
decreases-work_behind g l = 4 * length l.items.now.items + 1

abbrev pub decreases-work_beside : goal.decreases-work_beside
decreases-work_beside g l = 4 * length l.items.now.items + 1

abbrev pub decreases-work_last : goal.decreases-work_last
decreases-work_last g l = 4 * length l.items.now.items + 3

abbrev pub decreases-work_row : goal.decreases-work_row
decreases-work_row g l = 4 * length l.items.now.items
