-- The rows that the row changes of committed transactions leave, as the set of their tables and keys.
use Rattle.std.specs.Prelude.{ℕ, Bool, true, List, Option, None, Some}
use Rattle.std.specs.FinMap as finite
use Rattle.ds_model.specs.declared.log.RowChange.{RowChange}
use Rattle.ds_model.specs.declared.log.Body.{Body}
use Rattle.ds_model.specs.declared.log.Body.TheVariants as body
use Rattle.ds_model.specs.Rows.{spot_cmp}

abbrev pub Spots : Type 0
Spots = finite.FinMap spot_cmp Bool

-- a row is there, or goes
abbrev pub with_row : Spots → RowChange → Option (List ℕ) → Spots
with_row spots c None = finite.remove spots (c.table, c.key)
with_row spots c (Some value) = finite.insert spots (c.table, c.key) true

-- after a record: of a transaction only its row changes count
abbrev pub with_body : Spots → Body → Spots
with_body spots (body.RowChange c) = with_row spots c c.after
with_body spots (body.Compensation c undone) = spots
with_body spots (body.System patches) = spots
with_body spots body.Commit = spots
with_body spots body.Ended = spots
with_body spots (body.Checkpoint offset) = spots
with_body spots body.RestartEnd = spots
