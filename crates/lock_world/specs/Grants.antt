-- A lock that is granted, with no other member in the way, or behind the answers of all that are.
use Rattle.std.specs.Prelude.{◌≡◌, ◌≢◌, ◌⊎◌, ℕ, ◌≤◌, Bool, true, false, ◌&&◌, ◌==◌, if◌then◌else◌, [], ◌∷◌, Some, None}
use Rattle.ds_base.specs.Ids.{IsMember}
use Rattle.ds_model.specs.declared.lock.Name.{Name}
use Rattle.lock_names.specs.declared.mode.Mode.{Mode}
use Rattle.lock_names.specs.declared.mode.Mode.TheVariants.{X}
use Rattle.lock_structure.specs.Locks.{Locks, IsLowest, IsGranted, entry_for, keeps_out, stands}
use Rattle.list_structure.specs.Askers.{slot_of}
use Rattle.list_structure.specs.Cells.{AreCells, emptied}
use Rattle.list_structure.specs.declared.standing.MemberStatus.TheVariants.{Up, Restarting}
use Rattle.list_structure.specs.Standings.{status_of}
use Rattle.list_structure.specs.States.{ListsState}
use Rattle.facility.specs.LockCommands.{clean_answers}
use Rattle.lock_manager.specs.Claims.{is_in_way}
use Rattle.lock_protocol.specs.Machine.{World, wanted}
use Rattle.lock_protocol.specs.Moves.{Grant, Obtain}
use Rattle.lock_world.specs.Numbers.{number}
use Rattle.lock_world.specs.Tied.{Claims, is_own, Tied, Moved}

-- what a grant does to the claims of a member: the owner has the name in this mode, unless the claim isn't entered
pub record Enters (held after : Claims) (m owner : ℕ) (n : Name) (mode : Mode) (entered : Bool) : Type 0 where
  pub others : (k o c : ℕ) → k ≢ m → after k o c ≡ held k o c
  pub own : (o c : ℕ) → after m o c ≡ (if entered && ((o == owner) && (c == number n)) then Some mode else held m o c)

-- who asks for what: a member that is up, in a mode that has the owner's own claim in it; or a member that restarts, and it asks
-- for pages alone, in X, since claims of its failure are left then
pub record MayEnter (lists : ListsState) (held : Claims) (m owner : ℕ) (n : Name) (mode : Mode) : Type 0 where
  pub member : IsMember m
  pub among : m ≤ lists.members
  pub stands : (status_of lists.statuses m ≡ Up) ⊎ ((status_of lists.statuses m ≡ Restarting) × (is_own n ≡ true) × (mode ≡ X))
  pub owners : is_own n ≡ true → owner ≡ 0
  pub joined : wanted (held m owner (number n)) mode ≡ mode

-- no other owner of the member is in the way; of names that members claim there is none
abbrev pub NoneInWay : Claims → ℕ → ℕ → Name → Mode → Type 0
NoneInWay held m owner n mode = is_own n ≡ false → (q : ℕ) → q ≢ owner → is_in_way (held m q (number n)) mode ≡ false

-- the claim is entered, or the facility alone has granted the name
abbrev pub EntersIf : Claims → Claims → ℕ → ℕ → Name → Mode → Bool → Type 0
EntersIf held left m owner n mode entered = (entered ≡ true → NoneInWay held m owner n mode) × Enters held left m owner n mode entered

abbrev pub ObtainsMoves : Type 0
ObtainsMoves = (w : World) (locks after : Locks) (lists : ListsState) (held left : Claims) (m owner : ℕ) (n : Name) (mode : Mode) (entered : Bool)
    → Tied w locks lists held → MayEnter lists held m owner n mode → EntersIf held left m owner n mode entered
    → IsLowest (keeps_out locks m n mode) None → IsLowest (stands (entry_for locks n) m mode []) None → IsGranted locks m n mode after
    → Moved w (Obtain m owner (number n) mode entered ∷ []) locks after lists left

-- the same where the cells of the owner tell that the others have nothing in the way, and then they are emptied
abbrev pub GrantsMoves : Type 0
GrantsMoves = (w : World) (locks after : Locks) (lists now : ListsState) (held left : Claims) (m owner : ℕ) (n : Name) (mode : Mode) (entered : Bool)
    → Tied w locks lists held → MayEnter lists held m owner n mode → EntersIf held left m owner n mode entered → owner ≤ 16
    → IsLowest (keeps_out locks m n mode) None → IsLowest (stands (entry_for locks n) m mode (clean_answers lists.cells m owner n mode)) None → IsGranted locks m n mode after
    → AreCells now.cells (emptied lists.cells (slot_of m owner)) → now ≡ record lists { cells = now.cells }
    → Moved w (Grant m owner (number n) mode entered ∷ []) locks after now left
