-- Records of the examples, which may stand in a log.
use Rattle.std.proofs.Common.{ℕ, ◌<◌, refl, arith}
use Rattle.std.specs.Prelude.{◌≢◌, ◌^◌}
use Rattle.ds_model.specs.declared.log.Body.TheVariants as body
use Rattle.ds_model.specs.RecordBytes.{IsAllowed, ChangeIsAllowed}
use Rattle.sound_disk.specs.Examples.{record_of, row_change}

pub commit_allowed : (lrsn tran : ℕ) → lrsn < 256 ^ 10 → tran ≢ 0 → tran < 256 ^ 10 → IsAllowed (record_of lrsn tran body.Commit)
commit_allowed lrsn tran l some t = record { lrsn_in = l; tran_fits = some; tran_in = t; body_is = tt }

pub checkpoint_allowed : (lrsn offset : ℕ) → lrsn < 256 ^ 10 → offset < 2 ^ 64 → IsAllowed (record_of lrsn 0 (body.Checkpoint offset))
checkpoint_allowed lrsn offset l o = record { lrsn_in = l; tran_fits = refl; tran_in = omega arith; body_is = o }

pub end_allowed : (lrsn : ℕ) → lrsn < 256 ^ 10 → IsAllowed (record_of lrsn 0 body.RestartEnd)
end_allowed lrsn l = record { lrsn_in = l; tran_fits = refl; tran_in = omega arith; body_is = tt }

change_allowed : (key : ℕ) → key < 2 ^ 64 → ChangeIsAllowed (row_change key)
change_allowed key k = record {
  table_in = (omega arith, omega arith);
  key_in = k;
  page_some = λ e. omega arith;
  page_in = omega arith;
  slot_in = omega arith;
  before_is = tt;
  after_is = tt;
}

pub row_allowed : (lrsn tran key : ℕ) → lrsn < 256 ^ 10 → tran ≢ 0 → tran < 256 ^ 10 → key < 2 ^ 64 → IsAllowed (record_of lrsn tran (body.RowChange (row_change key)))
row_allowed lrsn tran key l some t k = record { lrsn_in = l; tran_fits = some; tran_in = t; body_is = change_allowed key k }
