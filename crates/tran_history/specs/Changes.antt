-- The rows before changes that are taken back, the last first.
use Rattle.std.specs.Prelude.{List, [], ◌∷◌}
use Rattle.ds_model.specs.Rows.{Rows}
use Rattle.ds_model.specs.Logs.{set_row}
use Rattle.tran_history.specs.declared.change.Change.{Change}

abbrev pub undone : Rows → List Change → Rows
undone rows [] = rows
undone rows (c ∷ cs) = set_row (undone rows cs) c.table c.key c.before
