-- The numbers of log records.
use Rattle.std.specs.Prelude.{ℕ, max, List, [], ◌∷◌}
use Rattle.ds_model.specs.declared.log.LogRecord.{LogRecord}

-- the greatest number of these records, 0 where there is none
abbrev pub greatest : List LogRecord → ℕ
greatest [] = 0
greatest (r ∷ rs) = max r.lrsn (greatest rs)
