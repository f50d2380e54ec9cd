-- Each record of the example is one that a restart appends.
use Rattle.std.proofs.Common.{List, [], ◌∷◌, refl, arith}
use Rattle.ds_model.specs.declared.log.Body.TheVariants as body
use Rattle.ds_model.specs.RecordBytes.{ChangeIsAllowed, record_bytes, spelling}
use Rattle.log_record.specs.declared.log.Log.{Log}
use Rattle.log_record.specs.Changes.{inverse}
use Rattle.sound_disk.specs.Examples.{log_with, empty_logs, record_of, row_change, lost_row}
use Rattle.sound_disk.specs.Laws.{with_record}
use Rattle.sound_appends.specs.Appends.{Appends}
use Rattle.sound_appends.specs.Example.{RollsBack}

abbrev made : Log
made = log_with 1 lost_row

abbrev undone : Log
undone = with_record made (record_of 2 1 (body.Compensation (inverse (row_change 10)) 1))

abbrev ended : Log
ended = with_record undone (record_of 2 1 body.Ended)

abbrev begun : Log
begun = with_record ended (record_of 2 0 (body.Checkpoint 138))

abbrev others : List Log
others = empty_logs 2 31

change_allowed : ChangeIsAllowed (inverse (row_change 10))
change_allowed = record {
  table_in = (omega arith, omega arith);
  key_in = omega arith;
  page_some = λ e. omega arith;
  page_in = omega arith;
  slot_in = omega arith;
  before_is = tt;
  after_is = tt;
}

undoes : Appends (made ∷ others) (record_of 2 1 (body.Compensation (inverse (row_change 10)) 1)) (undone ∷ others)
undoes = record {
  front = [];
  log = made;
  back = others;
  logs_are = refl;
  after_are = refl;
  allowed = record { lrsn_in = omega arith; tran_fits = λ e. omega arith; tran_in = omega arith; body_is = (change_allowed, omega arith) };
  next = record { made = record_of 1 1 (body.RowChange (row_change 10)); last = refl; number_is = refl; inverts = refl; uncommitted = refl; next = refl };
}

ends : Appends (undone ∷ others) (record_of 2 1 body.Ended) (ended ∷ others)
ends = record {
  front = [];
  log = undone;
  back = others;
  logs_are = refl;
  after_are = refl;
  allowed = record { lrsn_in = omega arith; tran_fits = λ e. omega arith; tran_in = omega arith; body_is = tt };
  next = record { number = record { low = omega arith; high = omega arith }; undone = refl; some = refl };
}

begins : Appends (ended ∷ others) (record_of 2 0 (body.Checkpoint 138)) (begun ∷ others)
unfolding record_bytes spelling
begins = record {
  front = [];
  log = ended;
  back = others;
  logs_are = refl;
  after_are = refl;
  allowed = record { lrsn_in = omega arith; tran_fits = refl; tran_in = omega arith; body_is = omega arith };
  next = (record { low = omega arith; high = omega arith }, refl);
}

closes : Appends (begun ∷ others) (record_of 2 0 body.RestartEnd) (with_record begun (record_of 2 0 body.RestartEnd) ∷ others)
closes = record {
  front = [];
  log = begun;
  back = others;
  logs_are = refl;
  after_are = refl;
  allowed = record { lrsn_in = omega arith; tran_fits = refl; tran_in = omega arith; body_is = tt };
  next = record { low = omega arith; high = omega arith };
}

pub rolls_back : RollsBack
unfolding undoes ends begins closes
rolls_back = (with_record begun (record_of 2 0 body.RestartEnd) ∷ others, (undone ∷ others, undoes, refl, (ended ∷ others, ends, refl, (begun ∷ others, begins, refl, (with_record begun (record_of 2 0 body.RestartEnd) ∷ others, closes, refl, refl)))))
