-- That no transaction changes a row behind its Commit.
use Rattle.std.specs.Prelude.{ℕ, ◌==◌, Bool, true, false, not, ◌&&◌, ◌||◌, List, [], ◌∷◌}
use Rattle.ds_model.specs.Logs.{is_commit}
use Rattle.ds_model.specs.declared.log.Body.{Body}
use Rattle.ds_model.specs.declared.log.Body.TheVariants as body
use Rattle.ds_model.specs.declared.log.LogRecord.{LogRecord}

-- what takes a change back isn't meant
abbrev pub changes_row : Body → Bool
changes_row (body.RowChange c) = true
changes_row (body.Compensation c undone) = false
changes_row (body.System patches) = false
changes_row body.Commit = false
changes_row body.Ended = false
changes_row (body.Checkpoint offset) = false
changes_row body.RestartEnd = false

-- one of the records changes a row for the transaction
abbrev pub changes_for : List LogRecord → ℕ → Bool
changes_for [] id = false
changes_for (r ∷ rs) id = ((r.tran == id) && changes_row r.body) || changes_for rs id

-- none that stands behind a Commit does for the transaction of that
abbrev pub commits_last : List LogRecord → Bool
commits_last [] = true
commits_last (r ∷ rs) = not (is_commit r.body && changes_for rs r.tran) && commits_last rs
