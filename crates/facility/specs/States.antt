-- What the facility holds, and what befalls it beside the commands of members.
use Rattle.std.specs.Prelude.{ℕ, ◌≡◌, ◌+◌, ◌-◌, Bool, List, length, map, Option, slice_set}
use Rattle.ds_base.specs.declared.names.PageId.{PageId}
use Rattle.ds_base.specs.declared.names.TranId.{TranId}
use Rattle.ds_base.specs.declared.names.Sizes.{Sizes}
use Rattle.lock_names.specs.Given.{Name}
use Rattle.lock_names.specs.declared.mode.Interest.{Interest}
use Rattle.lock_structure.specs.declared.chain.Record.{Record}
use Rattle.lock_structure.specs.Locks.{Locks, interest_of, record_of, HasFailed, empty_locks}
use Rattle.cache_structure.specs.Directory.{Directory, bytes_of, is_changed, castout_of, is_registered, bit, after_fail, after_lose, after_rebuilt, empty_directory}
use Rattle.list_structure.specs.declared.standing.MemberStatus.TheVariants.{Failed}
use Rattle.list_structure.specs.States.{ListsState, IsNew}
use Rattle.list_structure.specs.Bells.{rung}
use Rattle.list_structure.specs.Cells.{AreCells, without_member}
use Rattle.list_structure.specs.Flags.{flag_for, raised_for}
use Rattle.list_structure.specs.Standings.{NoneDone, rebuilder_without}
use Rattle.list_structure.specs.Waits.{without_trans_of}
use Rattle.facility.specs.declared.facility.Facility.{Facility}

-- the locks and their records; the directory of the cache; the lists; the last number that was drawn
pub record Held : Type 0 where
  pub locks : Locks
  pub directory : Directory
  pub lists : ListsState
  pub counter : ℕ

-- what a facility holds, where this is the directory of its cache
abbrev pub held : {C : Type 0} → (C → Directory) → Facility C → Held
held directory facility =
    record { locks = facility.locks; directory = directory facility.cache; lists = facility.lists; counter = facility.counter }

-- ---- what it says of members and pages

-- what the member has in an entry of the lock table
abbrev pub interest_in : Held → ℕ → ℕ → Interest
interest_in w m e = interest_of w.locks m e

-- the member's record of the name
abbrev pub lock_record : Held → ℕ → Name → Option Record
lock_record w m n = record_of w.locks m n

abbrev pub page_bytes : Held → PageId → Option (List ℕ)
page_bytes w id = bytes_of w.directory id

abbrev pub page_is_changed : Held → PageId → Bool
page_is_changed w id = is_changed w.directory id

-- the member that holds the castout lock of the page
abbrev pub castout_member : Held → PageId → Option ℕ
castout_member w id = castout_of w.directory id

-- whether the member's frame is registered with the page
abbrev pub has_registered : Held → PageId → ℕ → ℕ → Bool
has_registered w id m index = is_registered w.directory id m index

-- whether the copy in the member's frame is valid
abbrev pub is_valid : Held → ℕ → ℕ → Bool
is_valid w m index = bit w.directory m index

-- ---- bells

-- all bells have rung once more
abbrev pub ring : ListsState → ListsState
ring lists = record lists { bells = rung lists.bells }

-- ---- the beginning, failures and phases

-- Nothing was ever granted, written or asked, and the counter stands here. Each member has room for the records of as
-- many pages and page sets as its pool has frames, and of 128 more.
pub record IsFresh (w : Held) (locks records pages size frames members agents counter : ℕ) : Type 0 where
  pub locks_empty : w.locks ≡ empty_locks locks records pages
  pub directory_empty : w.directory ≡ empty_directory size frames
  pub lists_new : IsNew w.lists members agents
  pub counter_at : w.counter ≡ counter

abbrev pub IsMade : Sizes → ℕ → Held → Type 0
IsMade s counter w = IsFresh w s.locks s.records (s.pool + 128) s.cache s.pool s.members s.agents counter

-- as it was made with these sizes
abbrev pub IsReset : Held → ℕ → Held → Type 0
IsReset w counter v = IsFresh v (length w.locks.entries) w.locks.book.records w.locks.book.pages w.directory.size w.directory.frames w.lists.members w.lists.agents counter

-- the lists after a failure of the member: its queries, waits, flags and claim are gone, and all bells ring
pub record ListsFailed (w : ListsState) (m : ℕ) (v : ListsState) : Type 0 where
  pub cells : AreCells v.cells (without_member w.cells m)
  pub others : v ≡ record w { cells = v.cells; waits = without_trans_of w.waits m; flags = map (raised_for m) w.flags; statuses = slice_set w.statuses (m - 1) Failed; bells = rung w.bells; rebuilder = rebuilder_without m w.rebuilder }

-- A member has failed: its records are retained and it has no interest, registration or castout lock.
pub record MemberFailed (w : Held) (m : ℕ) (v : Held) : Type 0 where
  pub locks : HasFailed w.locks m v.locks
  pub directory : v.directory ≡ after_fail w.directory m
  pub lists : ListsFailed w.lists m v.lists
  pub counter : v.counter ≡ w.counter

-- A phase begins, whose flags these transactions are to raise; all bells ring.
pub record PhaseBegun (w : Held) (raisers : List (Option TranId)) (v : Held) : Type 0 where
  pub flags : v.lists.flags ≡ map flag_for raisers
  pub undone : NoneDone v.lists.done
  pub others : v ≡ record w { lists = record w.lists { flags = v.lists.flags; done = v.lists.done; bells = rung w.lists.bells } }
