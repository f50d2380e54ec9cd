-- The claims of what a restart hands over to its member, on the rows for which the member takes it over.
use Rattle.std.specs.Prelude.{◌≡◌, ℕ, true, false, List}
use Rattle.std.specs.List.{AllByRecursion}
use Rattle.ds_model.specs.Rows.{Spot}
use Rattle.log_rows.specs.Rows.{touches}
use Rattle.log_trans.specs.declared.opened.OpenTran.{OpenTran}
use Rattle.member_marks.specs.Rollbacks.{spots_of}
use Rattle.restart_records.specs.Trans.{opened_among}
use Rattle.restart_marks.specs.State.{RestartState}
use Rattle.group_member.specs.Adopting.{changes_left, rows_left}
use Rattle.lock_protocol.specs.Machine.{World}
use Rattle.lock_world.specs.Rollbacks.{HasClaimed}
use Rattle.lock_world.specs.Views.{rollback_owner}
use Rattle.restart_claims.specs.Claims.{OpensClaimed}

-- the rows of the changes that stand, and of those that were taken back, are those that the transaction has changed
abbrev pub RowsTouched : Type 0
RowsTouched = (t : OpenTran) → AllByRecursion (λ (s : Spot). touches t s ≡ true) (spots_of (changes_left t) (rows_left t))

-- what it hands over has the claims that its member needs for it
abbrev pub AdoptedHave : Type 0
AdoptedHave = (bytes : List ℕ) (w : World) (s : RestartState) → OpensClaimed bytes w s → s.own.is_read ≡ true → s.is_up ≡ false
    → AllByRecursion (λ (t : OpenTran). HasClaimed w s.member (rollback_owner t.id) (spots_of (changes_left t) (rows_left t))) (opened_among s.trans.list)
