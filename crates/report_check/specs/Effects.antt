-- Where two maps of rows agree.
use Rattle.std.specs.Prelude.{◌≡◌, ℕ}
use Rattle.std.specs.FinMap as finite
use Rattle.ds_model.specs.declared.script.Op.{Op}
use Rattle.ds_model.specs.declared.script.Op.TheVariants as op
use Rattle.ds_model.specs.declared.log.Body.{Body}
use Rattle.ds_model.specs.declared.log.Body.TheVariants as body
use Rattle.ds_model.specs.declared.log.LogRecord.{LogRecord}
use Rattle.ds_model.specs.Rows.{Rows}

abbrev pub AgreeAt : Rows → Rows → ℕ → ℕ → Type 0
AgreeAt a b table key = finite.get a (table, key) ≡ finite.get b (table, key)

-- at the row that an operation changes
abbrev pub AgreeAtOp : Rows → Rows → Op → Type 0
AgreeAtOp a b (op.Get table key) = Unit {0}
AgreeAtOp a b (op.Getu table key) = Unit {0}
AgreeAtOp a b (op.Put table key value) = AgreeAt a b table key
AgreeAtOp a b (op.Del table key) = AgreeAt a b table key
AgreeAtOp a b (op.Scan table low high) = Unit {0}
AgreeAtOp a b (op.Raise flag) = Unit {0}
AgreeAtOp a b (op.Await flag) = Unit {0}
AgreeAtOp a b op.LoseCache = Unit {0}
AgreeAtOp a b op.Abort = Unit {0}

-- at the row that a record changes
abbrev pub AgreeAtBody : Rows → Rows → Body → Type 0
AgreeAtBody a b body.Commit = Unit {0}
AgreeAtBody a b (body.RowChange c) = AgreeAt a b c.table c.key
AgreeAtBody a b (body.Compensation c undone) = Unit {0}
AgreeAtBody a b (body.System patches) = Unit {0}
AgreeAtBody a b body.Ended = Unit {0}
AgreeAtBody a b (body.Checkpoint offset) = Unit {0}
AgreeAtBody a b body.RestartEnd = Unit {0}

abbrev pub AgreeAtRecord : Rows → Rows → LogRecord → Type 0
AgreeAtRecord a b r = AgreeAtBody a b r.body
