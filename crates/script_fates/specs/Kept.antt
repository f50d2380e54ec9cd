-- What is kept of transactions beside their entries.
use Rattle.std.specs.Prelude.{◌≡◌, ℕ, ◌+◌, Bool, true, false, List, Option}
use Rattle.ds_model.specs.declared.history.Entry.{Entry}
use Rattle.tran_history.specs.Histories.{has_number, has_committed}
use Rattle.script_fates.specs.Fated.{waits_at, is_marked}

-- what waits has no entry, and what is marked stands as committed
pub record IsKept {X : Type 0} (waiting : List (Option X)) (committed : List Bool) (entries : List Entry) : Type 0 where
  pub unfated : (i : ℕ) → waits_at waiting i ≡ true → has_number entries (i + 1) ≡ false
  pub fated : (i : ℕ) → is_marked committed i ≡ true → has_committed entries (i + 1) ≡ true
