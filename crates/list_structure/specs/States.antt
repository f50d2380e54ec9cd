-- What the list structure holds.
use Rattle.std.specs.Prelude.{ℕ, ◌≡◌, ◌==◌, Bool, not, ◌&&◌, ◌||◌, List, [], Option, None, replicate}
use Rattle.list_structure.specs.declared.query.Cell.{Cell}
use Rattle.list_structure.specs.declared.query.Cell.TheVariants.{Empty}
use Rattle.list_structure.specs.declared.wait.Wait.{Wait}
use Rattle.list_structure.specs.declared.flags.Flag.{Flag}
use Rattle.list_structure.specs.declared.standing.MemberStatus.{MemberStatus}
use Rattle.list_structure.specs.Bells.{bell_of}
use Rattle.list_structure.specs.Cells.{AreCells}
use Rattle.list_structure.specs.Flags.{no_flag, flag_of}
use Rattle.list_structure.specs.Standings.{AreUp, AreDone}
use Rattle.list_structure.specs.Waits.{has_wait}

-- how many members the group has, and agents a member; the cells; the pairs in the order in which they were added;
-- the flags; and by member the status, the mark of being done with the phase and the bell; who rebuilds the cache
pub record ListsState : Type 0 where
  pub members : ℕ
  pub agents : ℕ
  pub cells : List Cell
  pub waits : List Wait
  pub flags : List Flag
  pub statuses : List MemberStatus
  pub done : List Bool
  pub bells : List ℕ
  pub rebuilder : Option ℕ

-- as the structure is made
pub record IsNew (lists : ListsState) (members agents : ℕ) : Type 0 where
  pub members_kept : lists.members ≡ members
  pub agents_kept : lists.agents ≡ agents
  pub cells : AreCells lists.cells (λ asker member. Empty)
  pub waits : lists.waits ≡ []
  pub flags : (f : ℕ) → flag_of lists.flags f ≡ no_flag
  pub all_flags : lists.flags ≡ replicate 64 no_flag
  pub statuses : AreUp lists.statuses members
  pub done : AreDone lists.done members
  pub bells : (m : ℕ) → bell_of lists.bells m ≡ 0
  pub all_bells : lists.bells ≡ replicate 32 0
  pub rebuilder : lists.rebuilder ≡ None

-- whether there is nothing to wait for, or the wait is already known
abbrev pub is_settled : ListsState → Wait → Bool
is_settled lists wait = (not (wait.flag == 0) && (flag_of lists.flags wait.flag).raised) || has_wait lists.waits wait
