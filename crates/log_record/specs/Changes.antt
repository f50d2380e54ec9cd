-- Which records have a number of their own, and what takes a row change back.
use Rattle.std.specs.Prelude.{Bool, true, false}
use Rattle.ds_model.specs.declared.log.RowChange.{RowChange}
use Rattle.ds_model.specs.declared.log.Body.{Body}
use Rattle.ds_model.specs.declared.log.Body.TheVariants as body

-- the record changes pages or commits: its number was drawn for it alone
abbrev pub is_drawn : Body → Bool
is_drawn (body.RowChange change) = true
is_drawn (body.Compensation change undone) = true
is_drawn (body.System patches) = true
is_drawn body.Commit = true
is_drawn body.Ended = false
is_drawn (body.Checkpoint offset) = false
is_drawn body.RestartEnd = false

-- the row before and the row after, exchanged
abbrev pub inverse : RowChange → RowChange
inverse c = record { table = c.table; key = c.key; place = c.place; before = c.after; after = c.before }
