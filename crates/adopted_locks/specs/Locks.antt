-- What a member has locked that takes over a transaction from its restart.
use Rattle.std.specs.Prelude.{◌≡◌, ℕ, true, List, None}
use Rattle.std.specs.List.{AllByRecursion}
use Rattle.ds_model.specs.Rows.{Spot}
use Rattle.ds_model.specs.declared.log.RowChange.{RowChange}
use Rattle.lock_world.specs.Books.{IsBook}
use Rattle.lock_world.specs.Views.{claim_in}
use Rattle.member_trans.specs.declared.fate.Change.{Change}
use Rattle.member_marks.specs.Rollbacks.{after_adopt, may_adopt, spots_of}
use Rattle.member_marks.specs.State.{MarksState}
use Rattle.strict_locking.specs.Rows.{HasLocked}

-- its lock manager still stands, and slot 1 may lend its place again; the rollback has locked each row that it has changed; and what was locked before still is
pub record AdoptedLocked (s t : MarksState) (id : ℕ) (spots : List Spot) : Type 0 where
  pub book : IsBook t.locks
  pub lends : (c : ℕ) → claim_in t.locks 1 c ≡ None
  pub rows : AllByRecursion (HasLocked t id) spots
  pub others : (k : ℕ) (spot : Spot) → HasLocked s k spot → HasLocked t k spot

-- slot 1, which has no claims, lends its place
abbrev pub AdoptionsLock : Type 0
AdoptionsLock = (s : MarksState) (id by : ℕ) (changes : List Change) (undone : List RowChange)
    → IsBook s.locks → may_adopt s id changes ≡ true → ((c : ℕ) → claim_in s.locks 1 c ≡ None) → AdoptedLocked s (after_adopt s id by changes undone) id (spots_of changes undone)
