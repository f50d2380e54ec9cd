-- The claims of a member that has failed, as they are handed over to the rollbacks that its transactions are from then on.
use Rattle.std.specs.Prelude.{◌≡◌, ◌≢◌, ℕ, true, List, None}
use Rattle.ds_base.specs.Ids.{IsMember}
use Rattle.ds_model.specs.Rows.{Spot}
use Rattle.lock_names.specs.declared.mode.Mode.TheVariants.{IX, X}
use Rattle.lock_structure.specs.Locks.{Locks}
use Rattle.list_structure.specs.declared.standing.MemberStatus.TheVariants.{Up}
use Rattle.list_structure.specs.Standings.{status_of}
use Rattle.list_structure.specs.States.{ListsState}
use Rattle.lock_protocol.specs.Machine.{Covers, World, failed, retained_claim}
use Rattle.lock_protocol.specs.Moves.{Move, Run}
use Rattle.lock_protocol.specs.Own.{AreOf}
use Rattle.lock_world.specs.Books.{IsBook}
use Rattle.lock_world.specs.Rollbacks.{row_of, space_of}
use Rattle.lock_world.specs.Tied.{Claims, Tied}
use Rattle.lock_world.specs.Views.{claim_in, rollback_owner}
use Rattle.member_marks.specs.State.{MarksState}
use Rattle.log_numbers.specs.Numbers.{AreCounted}
use Rattle.strict_locking.specs.Rows.{HasLocked}

-- the owner claims the row, and its table space, in these modes or in greater ones
abbrev pub HoldsRow : World → ℕ → ℕ → Spot → Type 0
HoldsRow w m owner s = Covers (w.claims m owner (space_of s)) IX × Covers (w.claims m owner (row_of s)) X

-- The claims of the world are those that the member had as it failed, as far as a failure leaves them.
abbrev pub IsLeft : World → MarksState → Type 0
IsLeft w s = (o c : ℕ) → w.claims s.member o c ≡ retained_claim (claim_in s.locks o c)

-- so they are where a member that was up fails
abbrev pub FailureLeaves : Type 0
FailureLeaves = (w : World) (locks : Locks) (lists : ListsState) (held : Claims) (s : MarksState)
    → Tied w locks lists held → IsMember s.member → status_of lists.statuses s.member ≡ Up → w.live s.member ≡ true → ((o c : ℕ) → held s.member o c ≡ claim_in s.locks o c) → IsLeft (failed w s.member) s

-- and each claim on a row outlives the failure
abbrev pub RowsOutlive : Type 0
RowsOutlive = (w : World) (m owner : ℕ) (spot : Spot) → HoldsRow w m owner spot → HoldsRow (failed w m) m owner spot

-- Moves of the member that change nothing but its claims lead to a world in which each row that a transaction had locked is claimed by its
-- rollback, which has the number by which the log names it; and a name that no transaction had claimed none claims.
pub record HandedOver (entry : ℕ → ℕ) (w : World) (s : MarksState) : Type 0 where
  pub moves : List Move
  pub own : AreOf s.member moves
  pub world : World
  pub run : Run entry w moves world
  pub same : world ≡ record w { claims = world.claims }
  pub others : (k o c : ℕ) → k ≢ s.member → world.claims k o c ≡ w.claims k o c
  pub free : (o c : ℕ) → o ≢ 0 → ((q : ℕ) → q ≢ 0 → w.claims s.member q c ≡ None) → world.claims s.member o c ≡ None
  pub rows : (id : ℕ) (spot : Spot) → id ≢ 0 → HasLocked s id spot → HoldsRow world s.member (rollback_owner id) spot

abbrev pub HandsOver : Type 0
HandsOver = (entry : ℕ → ℕ) (w : World) (s : MarksState) (counter : ℕ) → AreCounted counter s → IsBook s.locks → IsLeft w s → HandedOver entry w s
