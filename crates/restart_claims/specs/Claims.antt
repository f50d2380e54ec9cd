-- The claims, in the world of locks, of what a restart leaves open.
use Rattle.std.specs.Prelude.{◌≡◌, ℕ, true, false, List, is_some}
use Rattle.std.specs.List.{AllByRecursion}
use Rattle.ds_model.specs.Rows.{Spot}
use Rattle.ds_model.specs.declared.log.LogRecord.{LogRecord}
use Rattle.lock_names.specs.declared.mode.Mode.TheVariants.{IX, X}
use Rattle.log_trans.specs.declared.opened.OpenTran.{OpenTran}
use Rattle.log_trans.specs.Courses.{open_trans}
use Rattle.log_rows.specs.Rows.{touches}
use Rattle.lock_protocol.specs.Machine.{World, Covers}
use Rattle.lock_world.specs.Rollbacks.{HasClaimed, row_of, space_of}
use Rattle.lock_world.specs.Views.{rollback_owner}
use Rattle.member_intents.specs.declared.outcome.Answered.{Answered}
use Rattle.restart_records.specs.declared.trans.RestartTran.{RestartTran}
use Rattle.restart_records.specs.Trans.{opened_among}
use Rattle.restart_marks.specs.declared.intent.RestartSent.{RestartSent}
use Rattle.restart_marks.specs.Adopt.{adopted_after, adopted_told}
use Rattle.restart_marks.specs.State.{IsFresh, RestartState}
use Rattle.restart_resources.specs.Events as event
use Rattle.restart_resources.specs.Events.{Happens}
use Rattle.restart_resources.specs.Held.{Held}
use Rattle.restart_law.specs.Opens.{FewNeeds, OpensStand, is_over}
use Rattle.restart_law.specs.Reads.{AreLast, ReadsTrue}
use Rattle.lock_restarts.specs.Changes.{gone_by}
use Rattle.lock_restarts.specs.Courses.{IsInOrder}
use Rattle.lock_restarts.specs.Stands.{Spares}

-- the owner claims the row, and its table space, in these modes or in greater ones
abbrev pub HasRow : World → ℕ → ℕ → Spot → Type 0
HasRow w m owner s = Covers (w.claims m owner (space_of s)) IX × Covers (w.claims m owner (row_of s)) X

-- so the rollback of this transaction does of each row that the transaction has changed
abbrev pub HasRows : World → ℕ → OpenTran → Type 0
HasRows w m t = (s : Spot) → touches t s ≡ true → HasRow w m (rollback_owner t.id) s

-- and so of one of the restart's, as long as it isn't over
abbrev pub LeftHas : World → ℕ → RestartTran → Type 0
LeftHas w m x = is_over x.stage ≡ false → HasRows w m x.tran

-- Before its log, which has these bytes, is read, all have their claims that any last records of it leave open; then each of its transactions
-- that isn't over, until the restart is.
pub record OpensClaimed (bytes : List ℕ) (w : World) (s : RestartState) : Type 0 where
  pub unread : s.own.is_read ≡ false → (records : List LogRecord) → AreLast bytes records → AllByRecursion (HasRows w s.member) (open_trans records)
  pub left : s.own.is_read ≡ true → s.is_up ≡ false → AllByRecursion (LeftHas w s.member) s.trans.list

-- ---- the laws

-- an event, which leaves the claims of rollbacks but for those on the name whose record it frees
abbrev pub ClaimsStay : Type 0
ClaimsStay = (bytes : List ℕ) (w z : World) (u v : event.World) (h k : Held) (x : RestartSent) (a : Answered)
    → Happens u h x a v k → OpensStand h.marks → (h.marks.own.is_read ≡ true → FewNeeds h.marks.own.records) → IsInOrder h.marks → ReadsTrue bytes k.marks → Spares w z h.marks.member (gone_by x)
    → OpensClaimed bytes w h.marks → OpensClaimed bytes z k.marks

-- what leaves all claims of the member
abbrev pub ClaimsLeft : Type 0
ClaimsLeft = (bytes : List ℕ) (w z : World) (s : RestartState) → ((o c : ℕ) → z.claims s.member o c ≡ w.claims s.member o c) → OpensClaimed bytes w s → OpensClaimed bytes z s

abbrev pub ClaimsBegin : Type 0
ClaimsBegin = (bytes : List ℕ) (w : World) (member : ℕ) (s : RestartState)
    → IsFresh member s → ((records : List LogRecord) → AreLast bytes records → AllByRecursion (HasRows w member) (open_trans records)) → OpensClaimed bytes w s

-- nothing is left once it has handed over
abbrev pub ClaimsHand : Type 0
ClaimsHand = (bytes : List ℕ) (w : World) (s : RestartState) → s.own.is_read ≡ true → is_some (adopted_told s) ≡ true → OpensClaimed bytes w (adopted_after s)

-- what it hands over
abbrev pub ClaimsTell : Type 0
ClaimsTell = (bytes : List ℕ) (w : World) (s : RestartState) → OpensClaimed bytes w s → s.own.is_read ≡ true → s.is_up ≡ false → AllByRecursion (HasRows w s.member) (opened_among s.trans.list)

-- row by row
abbrev pub SpotsClaimed : Type 0
SpotsClaimed = (w : World) (m : ℕ) (t : OpenTran) (spots : List Spot)
    → HasRows w m t → AllByRecursion (λ (s : Spot). touches t s ≡ true) spots → HasClaimed w m (rollback_owner t.id) spots
