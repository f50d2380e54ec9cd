-- How a world of locks stands beside the group: its lock structure, its cells, and the claims of its members.
use Rattle.std.specs.Prelude.{◌≡◌, ◌≢◌, ℕ, ◌≤◌, Bool, true, false, List, length, Option, Some, None}
use Rattle.ds_base.specs.Ids.{IsMember}
use Rattle.ds_model.specs.declared.lock.Name.{Name}
use Rattle.ds_model.specs.declared.lock.Name.TheVariants as name
use Rattle.lock_names.specs.declared.mode.Mode.{Mode}
use Rattle.lock_structure.specs.Locks.{Locks}
use Rattle.list_structure.specs.declared.standing.MemberStatus.TheVariants.{Up}
use Rattle.list_structure.specs.Standings.{status_of}
use Rattle.list_structure.specs.States.{ListsState}
use Rattle.lock_protocol.specs.Machine.{World, Record, RetainedCovers}
use Rattle.lock_protocol.specs.Moves.{Move, Run}
use Rattle.lock_world.specs.Numbers.{name_at}
use Rattle.lock_world.specs.Views.{entry_in, version_in, interest_in, record_in, cell_in, is_live_in}

-- the claims that the members know of, by member, owner and name
abbrev pub Claims : Type 0
Claims = ℕ → ℕ → ℕ → Option Mode

-- a claim of a failure, of which the member knows nothing: it stands behind a retained record
abbrev pub IsOlder : Option Mode → Option Record → Type 0
IsOlder None r = Unit {0}
IsOlder (Some x) r = RetainedCovers r x

-- the world's claim is the one that the member knows; where it knows none, it may be one of a failure
abbrev pub ClaimTied : Option Mode → Option Mode → Option Record → Type 0
ClaimTied w None r = IsOlder w r
ClaimTied w (Some m) r = w ≡ Some m

-- pages and page sets are claimed by members, all other names by transactions
abbrev pub is_own : Name → Bool
is_own (name.Space table) = false
is_own (name.Row table key) = false
is_own (name.Page page) = true
is_own (name.Set set) = true

pub record Tied (w : World) (locks : Locks) (lists : ListsState) (held : Claims) : Type 0 where
  -- of each entry of the lock table
  pub versions : (e : ℕ) → w.version e ≡ version_in locks e
  pub interest : (k e : ℕ) → w.interest k e ≡ interest_in locks k e
  -- of each name
  pub records : (k c : ℕ) → w.records k c ≡ record_in locks k c
  pub claims : (k o c : ℕ) → w.live k ≡ true → ClaimTied (w.claims k o c) (held k o c) (w.records k c)
  pub down : (k o c : ℕ) → w.live k ≡ false → held k o c ≡ None
  pub up : (k o c : ℕ) → IsMember k → status_of lists.statuses k ≡ Up → held k o c ≡ None → w.claims k o c ≡ None
  pub own : (k o c : ℕ) → is_own (name_at c) ≡ true → o ≢ 0 → w.claims k o c ≡ None
  -- of each query
  pub cells : (a o k : ℕ) → w.cells a o k ≡ cell_in lists a o k
  -- of each member of the group
  pub live : (k : ℕ) → 1 ≤ k → k ≤ lists.members → w.live k ≡ is_live_in lists k

-- moves lead to a world that stands beside what an event left; the lock table has the size that it had
pub record Moved (w : World) (moves : List Move) (before locks : Locks) (lists : ListsState) (held : Claims) : Type 0 where
  pub same : length locks.entries ≡ length before.entries
  pub world : World
  pub run : Run (entry_in before) w moves world
  pub tied : Tied world locks lists held
