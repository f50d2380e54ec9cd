-- The rows that a member's log has changed, and their locks, behind what the member takes over from its restart.
use Rattle.std.specs.Prelude.{◌≡◌, ◌≢◌, ◌⊎◌, ℕ, true, List, [], None}
use Rattle.ds_model.specs.Rows.{Spot}
use Rattle.ds_model.specs.declared.log.LogRecord.{LogRecord}
use Rattle.log_rows.specs.Rows.{has_changed, is_closed}
use Rattle.log_opens.specs.Opens.{has_opened}
use Rattle.log_trans.specs.declared.opened.OpenTran.{OpenTran}
use Rattle.member_marks.specs.State.{MarksState}
use Rattle.member_resources.specs.Held.{Held}
use Rattle.lock_world.specs.Books.{IsBook}
use Rattle.lock_world.specs.Views.{claim_in}
use Rattle.marks_law.specs.Slots.{SlotsStand}
use Rattle.row_claims.specs.Given.{HasLocked}
use Rattle.row_claims.specs.Given.{Closes}
use Rattle.row_claims.specs.Rows.{RowsLocked}
use Rattle.group_member.specs.Adopting.{AdoptsAll}

-- Where these records are on disk, and none waits: each row that they have changed is locked, or closed, or it is such a one. Slot 1 has no claims.
pub record RowsBut (disk : List LogRecord) (s : MarksState) (But : ℕ → Spot → Type 0) : Type 0 where
  pub closes : Closes disk [] s
  pub book : IsBook s.locks
  pub slots : SlotsStand s
  pub lends : (c : ℕ) → claim_in s.locks 1 c ≡ None
  pub rows : (id : ℕ) (spot : Spot) → id ≢ 0 → has_changed disk id spot ≡ true → ((is_closed disk id ≡ true) ⊎ HasLocked s id spot) ⊎ But id spot

-- those that these transactions have changed are locked once they are taken over
abbrev pub RowsTakenOver : Type 0
RowsTakenOver = (disk : List LogRecord) (h k : Held) (by : ℕ) (ts : List OpenTran)
    → AdoptsAll h by ts k → RowsBut disk h.marks (λ id spot. has_opened ts id spot ≡ true) → RowsLocked disk [] k.marks
