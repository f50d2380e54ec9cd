-- What the facility's lock structure and cells, and a member's lock manager, are in the world of locks.
use Rattle.std.specs.Prelude.{ℕ, ◌+◌, ◌-◌, Bool, ◌&&◌, ◌==◌, leb, nat_lt, List, [], ◌∷◌, drop, slice_index_or, Option, Some, None, if◌then◌else◌}
use Rattle.lock_names.specs.declared.mode.Mode.{Mode}
use Rattle.lock_names.specs.declared.mode.Interest.{Interest}
use Rattle.lock_structure.specs.declared.chain.Record.{Record as FacilityRecord}
use Rattle.lock_structure.specs.Locks.{Locks, entry_at, interest_of, record_of, place_of}
use Rattle.list_structure.specs.declared.query.Cell.{Cell as FacilityCell}
use Rattle.list_structure.specs.declared.query.Cell.TheVariants as cell
use Rattle.list_structure.specs.declared.query.CellAnswer.TheVariants as answer
use Rattle.list_structure.specs.Askers.{slot_of}
use Rattle.list_structure.specs.Cells.{cell_of}
use Rattle.list_structure.specs.States.{ListsState}
use Rattle.list_structure.specs.Standings.{status_of, is_live}
use Rattle.lock_manager.specs.declared.claim.Claim.{Claim}
use Rattle.lock_manager.specs.declared.claim.Rollback.{Rollback}
use Rattle.lock_manager.specs.Claims.{mode_in}
use Rattle.lock_manager.specs.Managers.{Book}
use Rattle.lock_protocol.specs.Machine.{Record, Cell, Empty, Asked, Clean, Conflict, no_interest}
use Rattle.lock_world.specs.Numbers.{number, name_at}

abbrev pub is_member : ℕ → Bool
is_member k = leb 1 k && leb k 32

abbrev pub is_slot : ℕ → Bool
is_slot o = leb o 16

-- the entry on which the name of this number falls
abbrev pub entry_in : Locks → ℕ → ℕ
entry_in locks c = place_of locks (name_at c)

-- ---- what the facility has
abbrev pub version_in : Locks → ℕ → ℕ
version_in locks e = (entry_at locks e).version

abbrev pub interest_in : Locks → ℕ → ℕ → Interest
interest_in locks k e = if is_member k then interest_of locks k e else no_interest

abbrev pub as_record : Option FacilityRecord → Option Record
as_record None = None
as_record (Some r) = Some (record { mode = r.mode; retained = r.retained })

abbrev pub record_in : Locks → ℕ → ℕ → Option Record
record_in locks k c = if is_member k then as_record (record_of locks k (name_at c)) else None

abbrev pub as_cell : FacilityCell → Cell
as_cell cell.Empty = Empty
as_cell (cell.Asked n mode) = Asked (number n) mode
as_cell (cell.Answered n mode answer.Clean version event) = Clean (number n) mode version
as_cell (cell.Answered n mode other version event) = Conflict (number n) mode

-- the cell of the slot of one member to another member
abbrev pub cell_in : ListsState → ℕ → ℕ → ℕ → Cell
cell_in lists a o k = if is_member a && (is_slot o && is_member k) then as_cell (cell_of lists.cells (slot_of a o) k) else Empty

abbrev pub is_live_in : ListsState → ℕ → Bool
is_live_in lists k = is_live (status_of lists.statuses k)

-- ---- what a member's lock manager has: owners are the slots, up to 16, and then the postponed rollbacks by their numbers
abbrev pub rollback_owner : ℕ → ℕ
rollback_owner id = id + 17

-- the claims of the rollback of this number, where these are those of all rollbacks, in their order
abbrev pub rollback_claims : List Rollback → List (List Claim) → ℕ → List Claim
rollback_claims [] holders id = []
rollback_claims (r ∷ rs) [] id = []
rollback_claims (r ∷ rs) (cs ∷ rest) id = if r.id == id then cs else rollback_claims rs rest id

-- the claims of the owner, where there are so many agents
abbrev pub claims_from : List (List Claim) → List Rollback → ℕ → ℕ → List Claim
claims_from holders rollbacks agents o =
    if is_slot o then (if nat_lt o (agents + 1) then slice_index_or holders o [] else [])
    else rollback_claims rollbacks (drop (agents + 1) holders) (o - 17)

abbrev pub claims_by : Book → ℕ → List Claim
claims_by book o = claims_from book.holders book.rollbacks book.agents o

abbrev pub claim_in : Book → ℕ → ℕ → Option Mode
claim_in book o c = mode_in (claims_by book o) (name_at c)
