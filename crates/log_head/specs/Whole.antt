-- The whole records at the front of bytes.
use Rattle.std.specs.Prelude.{ℕ, zero, suc, List, [], ◌∷◌, length, drop, Result, Ok, Err}
use Rattle.log_record.specs.Given.{LogRecord}
use Rattle.log_record.specs.declared.fault.RecordFault.{RecordFault}
use Rattle.log_record.specs.Reading.{record_in}

-- the record that was read, and those behind it
abbrev pub records_from : (List ℕ → List LogRecord) → List ℕ → Result (LogRecord × ℕ) RecordFault → List LogRecord
records_from go_on bytes (Ok (r, n)) = r ∷ go_on (drop n bytes)
records_from go_on bytes (Err fault) = []

-- so many records at most
unfoldable pub records_up_to : ℕ → List ℕ → List LogRecord
records_up_to zero bytes = []
records_up_to (suc count) bytes = records_from (λ rest. records_up_to count rest) bytes (record_in bytes)

-- the whole records at the front of the bytes, one after the other, as far as they go; there are no more of them than bytes
unfoldable pub whole_records : List ℕ → List LogRecord
whole_records bytes = records_up_to (length bytes) bytes
