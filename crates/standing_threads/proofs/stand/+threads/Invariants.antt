use Rattle.std.proofs.Common.{◌+◌, ◌*◌, length}
use Rattle.standing_threads.proofs.stand.+threads.Given as goal

abbrev pub decreases-stand_one-join+arg2 : goal.decreases-stand_one-join+arg2
decreases-stand_one-join+arg2 g l = 3 * length l.posts.items + 1

abbrev pub decreases-stand_all : goal.decreases-stand_all
decreases-stand_all g l = 3 * length l.posts.items

abbrev pub decreases-stand_one : goal.decreases-stand_one
decreases-stand_one g l = 3 * length l.posts.items + 2
