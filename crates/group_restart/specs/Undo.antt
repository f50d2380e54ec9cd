-- A row change that is undone.
use Rattle.std.specs.Prelude.{ℕ, ◌==◌, if◌then◌else◌, List, [], ◌∷◌, Option, None, Some}
use Rattle.ds_model.specs.declared.log.LogRecord.{LogRecord}
use Rattle.ds_model.specs.declared.log.RowChange.{RowChange}
use Rattle.page_format.specs.Fields.{kind_at}
use Rattle.heap_space.specs.Written.{after_patch}
use Rattle.log_record.specs.Changes.{inverse}
use Rattle.page_chain.specs.Chains.{row_patch}
use Rattle.page_redo.specs.Rows.{or_fault, change_fault}
use Rattle.restart_plan.specs.declared.opened.Undo.{Undo}
use Rattle.group_restart.specs.Records.{ended, compensation}

-- a header page has no rows
abbrev pub header_fault : RowChange → Option ℕ
header_fault c = if c.place.page == 0 then Some kind_at else None

-- where the page shows that the row of the change isn't there
unfoldable pub undo_fault : RowChange → List ℕ → Option ℕ
undo_fault c page = or_fault (change_fault (row_patch c).page c page) (header_fault c)

-- the row before the change is in its slot again, and the page has the number of the compensation
unfoldable pub undone_page : RowChange → ℕ → List ℕ → List ℕ
undone_page c lrsn page = after_patch lrsn page (row_patch (inverse c))

-- behind the last change of a transaction it has ended
abbrev pub undoing : Undo → ℕ → List LogRecord
undoing u lrsn = compensation u lrsn ∷ (if u.is_last then ended lrsn u.tran ∷ [] else [])
