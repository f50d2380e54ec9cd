-- What a restart leaves open, as its member takes it over.
use Rattle.std.specs.Prelude.{◌≡◌, ◌≢◌, ℕ, ◌≤◌, true, List, [], ◌∷◌, None}
use Rattle.ds_model.specs.Rows.{Spot}
use Rattle.facility.specs.States.{Held as Facility}
use Rattle.log_trans.specs.declared.opened.OpenTran.{OpenTran}
use Rattle.member_marks.specs.Rollbacks.{spots_of}
use Rattle.member_marks.specs.State.{MarksState}
use Rattle.member_resources.specs.Held.{Held}
use Rattle.group_member.specs.Adopting.{AdoptsAll, changes_left, rows_left}
use Rattle.lock_protocol.specs.Machine.{World}
use Rattle.lock_protocol.specs.Moves.{Move}
use Rattle.lock_protocol.specs.Own.{AreOf}
use Rattle.lock_world.specs.Books.{IsBook}
use Rattle.lock_world.specs.Rollbacks.{HasClaimed}
use Rattle.lock_world.specs.Tied.{Claims, Tied, Moved}
use Rattle.lock_world.specs.Views.{claim_in, rollback_owner}
use Rattle.marks_law.specs.Slots.{SlotsStand}

-- the rows that an open transaction has changed
abbrev pub rows_of : OpenTran → List Spot
rows_of t = spots_of (changes_left t) (rows_left t)

-- each of these transactions has claims in the world on all that it has changed
abbrev pub HaveClaimed : World → ℕ → List OpenTran → Type 0
HaveClaimed w m [] = Unit {0}
HaveClaimed w m (t ∷ ts) = HasClaimed w m (rollback_owner t.id) (rows_of t) × HaveClaimed w m ts

-- Slot 1, which is free, has no claims: it lends its place to those of a rollback.
pub record MayTakeOver (s : MarksState) : Type 0 where
  pub book : IsBook s.locks
  pub slots : SlotsStand s
  pub lends : (c : ℕ) → claim_in s.locks 1 c ≡ None

-- slots keep their claims and transactions
pub record TookOver (s t : MarksState) : Type 0 where
  pub stands : MayTakeOver t
  pub member : t.member ≡ s.member
  pub entries : t.locks.entries ≡ s.locks.entries
  pub agents : t.locks.agents ≡ s.locks.agents
  pub trans : t.trans.slots ≡ s.trans.slots
  pub own : (o c : ℕ) → o ≤ 16 → claim_in t.locks o c ≡ claim_in s.locks o c

-- moves of the member lead to a world that stands beside the claims of its rollbacks
pub record TakesOver (w : World) (f : Facility) (left : Claims) (m : ℕ) (s t : MarksState) : Type 0 where
  pub moves : List Move
  pub by : AreOf m moves
  pub moved : Moved w moves f.locks f.locks f.lists left
  pub took : TookOver s t

abbrev pub AdoptionsGo : Type 0
AdoptionsGo = (w : World) (f : Facility) (held left : Claims) (h k : Held) (m by : ℕ) (ts : List OpenTran)
    → Tied w f.locks f.lists held → w.live m ≡ true → MayTakeOver h.marks → HaveClaimed w m ts → ((o c : ℕ) → held m o c ≡ claim_in h.marks.locks o c)
    → AdoptsAll h by ts k → ((j o c : ℕ) → j ≢ m → left j o c ≡ held j o c) → ((o c : ℕ) → left m o c ≡ claim_in k.marks.locks o c)
    → TakesOver w f left m h.marks k.marks
