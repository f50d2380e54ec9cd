-- Locks that do not conflict give claims that are alone.
use Rattle.std.proofs.Common.{◌≡◌, refl, arith, true, Option, Some, None}
use Rattle.lock_names.specs.declared.mode.Mode as locks
use Rattle.lock_names.specs.declared.mode.Mode.TheVariants as lock
use Rattle.lock_names.specs.Modes.{are_compatible}
use Rattle.row_protocol.specs.Machine.{X}
use Rattle.row_protocol.specs.Claims.{may_both_have, by_row, effective, LocksGiveAlone}

row_alone : (a b : Option locks.Mode) → may_both_have a b ≡ true → by_row a ≡ Some X → by_row b ≡ None
unfolding are_compatible
row_alone None b h e = cc
row_alone (Some m) None h e = refl
row_alone (Some lock.IS) (Some n) h e = cc
row_alone (Some lock.IX) (Some n) h e = cc
row_alone (Some lock.S) (Some n) h e = cc
row_alone (Some lock.U) (Some n) h e = cc
row_alone (Some lock.SIX) (Some n) h e = cc
row_alone (Some lock.X) (Some lock.IS) h e = cc
row_alone (Some lock.X) (Some lock.IX) h e = cc
row_alone (Some lock.X) (Some lock.S) h e = cc
row_alone (Some lock.X) (Some lock.U) h e = cc
row_alone (Some lock.X) (Some lock.SIX) h e = cc
row_alone (Some lock.X) (Some lock.X) h e = cc

alone_at : (s p a b : Option locks.Mode) → may_both_have s p ≡ true → may_both_have a b ≡ true → effective s a ≡ Some X → effective p b ≡ None
unfolding are_compatible
alone_at None p a b h k e = cc
alone_at (Some m) None a b h k e = refl
alone_at (Some lock.IS) (Some n) a b h k e = grind arith
alone_at (Some lock.IX) (Some n) a b h k e = let r = row_alone a b k in grind (arith, r)
alone_at (Some lock.S) (Some n) a b h k e = cc
alone_at (Some lock.U) (Some n) a b h k e = cc
alone_at (Some lock.SIX) (Some n) a b h k e = let r = row_alone a b k in grind (arith, r)
alone_at (Some lock.X) (Some n) a b h k e = grind arith

pub locks_give_alone : LocksGiveAlone
locks_give_alone space row space_of h k t u r ne e = alone_at (space t (space_of r)) (space u (space_of r)) (row t r) (row u r) (h t u (space_of r) ne) (k t u r ne) e
