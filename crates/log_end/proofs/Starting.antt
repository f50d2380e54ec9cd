-- A log of which nothing is read.
use Rattle.std.proofs.Common.{◌≡◌, ℕ, List, [], Option, None, Result, Ok, Err, ap}
use Rattle.ds_model.specs.declared.log.LogRecord.{LogRecord}
use Rattle.log_record.specs.declared.fault.RecordFault.{RecordFault}
use Rattle.log_head.specs.Heads.{HeadState, first_by, first_of}
use Rattle.log_head.specs.Laws.{NothingIsShort}

pub nothing_first : NothingIsShort → (at end : ℕ) → first_of (record { at = at; hand = []; end = end }) ≡ None
nothing_first empty at end = ap (λ (f : Result (LogRecord × ℕ) RecordFault). first_by f) empty
