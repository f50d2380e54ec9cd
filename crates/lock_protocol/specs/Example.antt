-- What a restarting member may do while the locks of its open transactions are retained: those claims aren't in its lock
-- manager, and retained records stand for them.
use Rattle.std.specs.Prelude.{ℕ}
use Rattle.lock_names.specs.declared.mode.Mode.TheVariants.{X}
use Rattle.lock_protocol.specs.Machine.{World, IsClear, no_interest, failed, restarted}
use Rattle.lock_protocol.specs.Moves.{KeepsInterest, NotRetained}
use Rattle.lock_protocol.specs.Sound.{Sound}
use Rattle.lock_protocol.specs.Needed.{one_entry, held}

-- member 2 failed with row number 7 in X, and is live again
abbrev pub back : World
back = restarted (failed held 2) 2

pub record RecordStands : Type 0 where
  pub sound : Sound one_entry back
  -- it answers a query for the row as clean
  pub answers : (q : ℕ) → IsClear (back.claims 2 q 7) (back.records 2 7) X
  -- it keeps no interest in the entry when it gives up the last name that it has claimed since
  pub keeps : KeepsInterest one_entry back 2 8 no_interest
  -- and yet nobody else is granted the row
  pub refused : NotRetained back 1 7 X → ⊥
