-- Claims that are handed on to a rollback: of a slot whose rollback is postponed, and of a transaction that a restart leaves open.
use Rattle.std.specs.Prelude.{◌≡◌, ◌≢◌, ℕ, ◌==◌, Bool, true, List, [], ◌∷◌, Option, Some, None, if◌then◌else◌}
use Rattle.ds_base.specs.Ids.{IsMember}
use Rattle.ds_model.specs.Rows.{Spot}
use Rattle.ds_model.specs.declared.lock.Name.TheVariants as name
use Rattle.lock_names.specs.declared.mode.Mode.{Mode}
use Rattle.lock_names.specs.declared.mode.Mode.TheVariants.{IX, X}
use Rattle.lock_structure.specs.Locks.{Locks}
use Rattle.list_structure.specs.declared.standing.MemberStatus.TheVariants.{Up}
use Rattle.list_structure.specs.Standings.{status_of}
use Rattle.list_structure.specs.States.{ListsState}
use Rattle.lock_protocol.specs.Machine.{World, Covers}
use Rattle.lock_protocol.specs.Moves.{Move, Demote, Postpone}
use Rattle.lock_world.specs.Numbers.{number}
use Rattle.lock_world.specs.Tied.{Claims, Tied, Moved}

-- ---- a rollback is postponed

-- what the one owner has is now the other's
pub record HandsOn (held left : Claims) (m owner to : ℕ) : Type 0 where
  pub others : (k o c : ℕ) → k ≢ m → left k o c ≡ held k o c
  pub given : (c : ℕ) → left m to c ≡ held m owner c
  pub gone : (c : ℕ) → left m owner c ≡ None
  pub rest : (o c : ℕ) → o ≢ owner → o ≢ to → left m o c ≡ held m o c

abbrev pub PostponesMoves : Type 0
PostponesMoves = (w : World) (locks : Locks) (lists : ListsState) (held left : Claims) (m owner to : ℕ)
    → Tied w locks lists held → IsMember m → status_of lists.statuses m ≡ Up → owner ≢ 0 → owner ≢ to → ((c : ℕ) → held m to c ≡ None) → HandsOn held left m owner to
    → Moved w (Postpone m owner to ∷ []) locks locks lists left

-- ---- a transaction that a restart leaves open is taken over

abbrev pub space_of : Spot → ℕ
space_of s = number (name.Space s.0)

abbrev pub row_of : Spot → ℕ
row_of s = number (name.Row s.0 s.1)

-- the table space in IX, and the row in X, where the owner had this before
abbrev pub claimed_spot : Option Mode → Spot → ℕ → Option Mode
claimed_spot x s c = if c == row_of s then Some X else if c == space_of s then Some IX else x

abbrev pub claimed_spots : Option Mode → List Spot → ℕ → Option Mode
claimed_spots x [] c = x
claimed_spots x (s ∷ ss) c = claimed_spots (claimed_spot x s c) ss c

-- the owner has claims on these rows and their table spaces, and no others
pub record TakesOver (held left : Claims) (m owner : ℕ) (spots : List Spot) : Type 0 where
  pub others : (k o c : ℕ) → k ≢ m → left k o c ≡ held k o c
  pub given : (c : ℕ) → left m owner c ≡ claimed_spots None spots c
  pub rest : (o c : ℕ) → o ≢ owner → left m o c ≡ held m o c

-- the failed transaction has claimed each row and its table space, in these modes or in greater ones
abbrev pub HasClaimed : World → ℕ → ℕ → List Spot → Type 0
HasClaimed w m owner [] = Unit {0}
HasClaimed w m owner (s ∷ ss) = Covers (w.claims m owner (space_of s)) IX × Covers (w.claims m owner (row_of s)) X × HasClaimed w m owner ss

-- a claim that is greater becomes the one that is needed
abbrev pub demotions : ℕ → ℕ → List Spot → List Move
demotions m owner [] = []
demotions m owner (s ∷ ss) = Demote m owner (space_of s) IX ∷ Demote m owner (row_of s) X ∷ demotions m owner ss

abbrev pub TakesOverMoves : Type 0
TakesOverMoves = (w : World) (locks : Locks) (lists : ListsState) (held left : Claims) (m owner : ℕ) (spots : List Spot)
    → Tied w locks lists held → w.live m ≡ true → owner ≢ 0 → ((c : ℕ) → held m owner c ≡ None) → HasClaimed w m owner spots → TakesOver held left m owner spots
    → Moved w (demotions m owner spots) locks locks lists left
