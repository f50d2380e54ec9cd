-- The claims of what a member's log leaves open, from its failure to its restart.
use Rattle.std.specs.Prelude.{◌≡◌, ◌≢◌, ◌⊎◌, ℕ, ◌++◌, true, List, [], take}
use Rattle.std.specs.List.{AllByRecursion}
use Rattle.ds_model.specs.Rows.{Spot}
use Rattle.ds_model.specs.declared.log.LogRecord.{LogRecord}
use Rattle.list_structure.specs.declared.standing.MemberStatus.TheVariants.{Up}
use Rattle.list_structure.specs.Standings.{status_of}
use Rattle.log_opens.specs.Opens.{has_opened}
use Rattle.log_rows.specs.Rows.{has_changed, is_closed}
use Rattle.log_reader.specs.Keeping.{AreWhole}
use Rattle.log_trans.specs.Courses.{open_trans}
use Rattle.log_trans.specs.declared.opened.OpenTran.{OpenTran}
use Rattle.log_appends.specs.Appends.{AreLastFrom}
use Rattle.log_numbers.specs.Numbers.{AreCounted}
use Rattle.restart_marks.specs.State.{IsFresh, RestartState}
use Rattle.restart_law.specs.Reads.{AreLast}
use Rattle.restart_claims.specs.Claims.{HasRows, OpensClaimed}
use Rattle.adopted_rows.specs.Rows.{RowsBut}
use Rattle.member_resources.specs.Held.{Held}
use Rattle.group_member.specs.Adopting.{AdoptsAll}
use Rattle.group_member.specs.Members.{Member}
use Rattle.group_member.specs.Resting.{NoneInSlots}
use Rattle.marks_law.specs.Free.{FreeHoldNothing}
use Rattle.group_locks.specs.Given.{CrewState}
use Rattle.lock_protocol.specs.Machine.{World}
use Rattle.left_open.specs.Logs.{LogLocked}
use Rattle.group_locks.specs.Events.{Moves, OfMember, Whose, spared}
use Rattle.group_locks.specs.Stands.{LocksTied}
use Rattle.group_locks.specs.Whole.{FailsAt}

-- The rollback of each transaction that any last records of these bytes leave open claims each row that the transaction has changed, and its table
-- space.
abbrev pub LogClaimed : List ℕ → World → ℕ → Type 0
LogClaimed bytes w m = (records : List LogRecord) → AreLast bytes records → AllByRecursion (HasRows w m) (open_trans records)

-- ---- a member that is up fails

-- moves of it lead to a world in which this is so of its log, of which so many bytes of the log buffer are the end then
pub record ClaimsOf (log : List ℕ) (old new : CrewState) (w : World) (m : Member) : Type 0 where
  pub moves : Moves (OfMember m.id) old new w
  pub claimed : (n : ℕ) → LogClaimed (log ++ take n m.holds.marks.log.pending) moves.world m.id

-- The log has these bytes as it fails, and these records wait in the buffer.
abbrev pub FailsClaimed : Type 0
FailsClaimed = (old new : CrewState) (at counter : ℕ) (m n : Member) (w : World) (log : List ℕ) (pend : List LogRecord)
    → LocksTied old w → FailsAt old new at m n → status_of old.facility.lists.statuses m.id ≡ Up → AreCounted counter m.holds.marks → LogLocked log pend m.holds.marks
    → ClaimsOf log old new w m

-- ---- one fails that isn't up, whose log has the bytes that it had

pub record StillClaimed (bytes : List ℕ) (old new : CrewState) (w : World) (m : Member) : Type 0 where
  pub moves : Moves (OfMember m.id) old new w
  pub claimed : LogClaimed bytes moves.world m.id

abbrev pub FailsUnread : Type 0
FailsUnread = (old new : CrewState) (at : ℕ) (m n : Member) (w : World) (bytes : List ℕ)
    → LocksTied old w → FailsAt old new at m n → status_of old.facility.lists.statuses m.id ≢ Up → LogClaimed bytes w m.id → StillClaimed bytes old new w m

-- or the rows of whose log are locked, as they are behind what its restart has handed over
abbrev pub FailsLocked : Type 0
FailsLocked = (old new : CrewState) (at : ℕ) (m n : Member) (w : World) (log : List ℕ)
    → LocksTied old w → FailsAt old new at m n → status_of old.facility.lists.statuses m.id ≢ Up → LogLocked log [] m.holds.marks → StillClaimed log old new w m

-- ---- up to its restart

-- events of other members, and phases that begin, leave the claims
abbrev pub MovesLeaveClaimed : Type 0
MovesLeaveClaimed = (by : Whose) (old new : CrewState) (w : World) (m : ℕ) (bytes : List ℕ) → (moves : Moves by old new w) → spared by m ≡ true → LogClaimed bytes w m → LogClaimed bytes moves.world m

abbrev pub BeginsClaimed : Type 0
BeginsClaimed = (bytes : List ℕ) (w : World) (member : ℕ) (s : RestartState) → IsFresh member s → LogClaimed bytes w member → OpensClaimed bytes w s

-- ---- behind its restart

-- Where the member takes over from its restart what this has left open, over a log of which each row that its last records have changed is
-- locked, or closed, or changed by one of these, wherever reading may begin: then the rows of the log are locked.
abbrev pub TakenOverLocked : Type 0
TakenOverLocked = (log : List ℕ) (h k : Held) (by : ℕ) (ts : List OpenTran) → AreWhole log → AdoptsAll h by ts k
    → ((start : ℕ) (back : List LogRecord) → AreLastFrom log start back → RowsBut back h.marks (λ id spot. has_opened ts id spot ≡ true)) → LogLocked log [] k.marks

-- A row that any last records of the log have changed is that of a transaction which they close, or which is one of these.
abbrev pub LeavesThese : List ℕ → List OpenTran → Type 0
LeavesThese log ts = (start : ℕ) (back : List LogRecord) → AreLastFrom log start back
    → (id : ℕ) (spot : Spot) → id ≢ 0 → has_changed back id spot ≡ true → (is_closed back id ≡ true) ⊎ (has_opened ts id spot ≡ true)

-- So it is of a member that takes over all that its log leaves open, where it had no transaction: what it has locked stands then beside a log of no
-- bytes, too.
abbrev pub IdleTakesOver : Type 0
IdleTakesOver = (log : List ℕ) (h k : Held) (by : ℕ) (ts : List OpenTran)
    → AreWhole log → LogLocked [] [] h.marks → FreeHoldNothing h.marks → NoneInSlots h.marks → AdoptsAll h by ts k → LeavesThese log ts → LogLocked log [] k.marks
