-- What a run opens with: the records that earlier runs left open in the logs.
use Rattle.std.specs.Prelude.{◌≡◌, ℕ, ◌≤◌, Bool, true, false, List, [], Option, None, if◌then◌else◌}
use Rattle.row_protocol.specs.Log.{Change, has, drawn_by}
use Rattle.row_protocol.specs.Machine.{World, Waiting, Undoing}
use Rattle.row_protocol.specs.Moves.{Move, Run, IsAlone}
use Rattle.row_protocol.specs.Legal.{Legal}
use Rattle.row_protocol.specs.Ordered.{IsChained, marks_by, is_ordered, Ordered}

-- The opening rows stand for all transactions of earlier runs that have committed. Of the others, those that haven't
-- ended are open, and their records are still to be undone.
pub record Found : Type 0 where
  pub changes : ℕ → List Change  -- by row: the records of open transactions
  pub is_open : ℕ → Bool  -- by transaction
  pub flushed : ℕ → ℕ  -- by member: the last LRSN of its log
  pub counter : ℕ  -- the greatest LRSN of all logs

-- the group is down until its restart has undone them
abbrev pub opened : Found → World
opened f = record {
  changes = f.changes;
  commit = λ t. None;
  stage = λ t. if f.is_open t then Undoing else Waiting;
  flushed = f.flushed;
  counter = f.counter;
  claim = λ t r. None;
  active = λ t. [];
  history = [];
  down = true;
}

-- what a sound disk gives
pub record IsSound (opening : ℕ → Option ℕ) (f : Found) : Type 0 where
  pub greatest : (m : ℕ) → f.flushed m ≤ f.counter
  pub drawn : (t r : ℕ) → drawn_by (f.changes r) t f.counter ≡ true
  pub owners : (t r : ℕ) → has (f.changes r) t ≡ true → f.is_open t ≡ true
  -- a row has records of at most one open transaction, undone from the last to the first, and each with the row's value
  -- before it
  pub ordered : (r : ℕ) → is_ordered (f.changes r) (λ t. false) ≡ true
  pub marked : (r : ℕ) → marks_by (f.changes r) f.counter ≡ true
  pub chained : (r : ℕ) → IsChained (f.changes r) (opening r)

pub record Opens (home : ℕ → ℕ) (opening : ℕ → Option ℕ) (f : Found) : Type 0 where
  pub legal : Legal home opening (opened f)
  pub in_order : Ordered home opening (opened f)
  pub alone : IsAlone (opened f).claim

abbrev pub OpensLegal : Type 0
OpensLegal = (home : ℕ → ℕ) (opening : ℕ → Option ℕ) (f : Found) → IsSound opening f → Opens home opening f

pub record Both (home : ℕ → ℕ) (opening : ℕ → Option ℕ) (w : World) : Type 0 where
  pub legal : Legal home opening w
  pub in_order : Ordered home opening w

-- and every list of moves from there on keeps it
abbrev pub AlwaysFromOpening : Type 0
AlwaysFromOpening = (home : ℕ → ℕ) (opening : ℕ → Option ℕ) (f : Found) (moves : List Move) (w : World) → IsSound opening f → Run home opening (opened f) moves w → Both home opening w
