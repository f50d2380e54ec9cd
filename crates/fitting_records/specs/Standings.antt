-- What the records of a transaction come to, as far as the next one must fit it.
use Rattle.std.specs.Prelude.{ℕ, ◌-◌, ◌==◌, Bool, true, false, not, ◌&&◌, ◌||◌, if◌then◌else◌, List, [], ◌∷◌, ◌++◌, length, take, slice_get, Option, None, Some}
use Rattle.std.specs.Str.{bytes_eq}
use Rattle.ds_model.specs.declared.log.LogRecord.{LogRecord}
use Rattle.ds_model.specs.declared.log.RowChange.{RowChange}
use Rattle.ds_model.specs.declared.log.Body.{Body}
use Rattle.ds_model.specs.declared.log.Body.TheVariants as body
use Rattle.log_trans.specs.declared.course.Course.{Course}
use Rattle.log_trans.specs.Courses.{row_record, is_next}
use Rattle.log_trans.specs.Damage.{nothing_undone}
use Rattle.fitting_records.specs.declared.standing.Standing.{Standing}

-- ---- inverses

abbrev pub same_row : Option (List ℕ) → Option (List ℕ) → Bool
same_row None None = true
same_row None (Some b) = false
same_row (Some a) None = false
same_row (Some a) (Some b) = bytes_eq a b

-- the same row at the same place, and what it was before and is behind exchanged
abbrev pub inverts : RowChange → RowChange → Bool
inverts a b = (a.table == b.table) && (a.key == b.key) && (a.place.page == b.place.page) && (a.place.slot == b.place.slot) && same_row a.before b.after && same_row a.after b.before

abbrev pub inverts_body : RowChange → Body → Bool
inverts_body change (body.RowChange c) = inverts change c
inverts_body change (body.Compensation c undone) = false
inverts_body change (body.System patches) = false
inverts_body change body.Commit = false
inverts_body change body.Ended = false
inverts_body change (body.Checkpoint offset) = false
inverts_body change body.RestartEnd = false

abbrev pub takes_back : RowChange → Option LogRecord → Bool
takes_back change None = false
takes_back change (Some r) = inverts_body change r.body

abbrev pub takes_last : RowChange → List LogRecord → Bool
takes_last change undo = takes_back change (slice_get undo (length undo - 1))

-- ---- standings

abbrev pub new_standing : Standing
new_standing = record { undo = []; is_forward = true; is_committed = false }

abbrev pub may_take : Standing → Body → Bool
may_take s (body.RowChange change) = s.is_forward
may_take s (body.Compensation change undone) = not s.is_committed && is_next undone s.undo && takes_last change s.undo
may_take s (body.System patches) = true
may_take s body.Commit = not s.is_committed && s.is_forward
may_take s body.Ended = s.is_committed || ((length s.undo == 0) && not s.is_forward)
may_take s (body.Checkpoint offset) = true
may_take s body.RestartEnd = true

abbrev pub taken_back : Standing → ℕ → Standing
taken_back s undone =
    if is_next undone s.undo then record { undo = take (length s.undo - 1) s.undo; is_forward = false; is_committed = s.is_committed } else s

-- what a committed transaction has changed is never undone
abbrev pub undo_with : Standing → LogRecord → List LogRecord
undo_with s r = if s.is_committed then s.undo else s.undo ++ r ∷ []

abbrev pub changed : Standing → LogRecord → Standing
changed s r = record { undo = undo_with s r; is_forward = s.is_forward; is_committed = s.is_committed }

abbrev pub after_body : Standing → LogRecord → Body → Standing
after_body s r (body.RowChange change) = changed s (row_record r change)
after_body s r (body.Compensation change undone) = taken_back s undone
after_body s r (body.System patches) = s
after_body s r body.Commit = record { undo = []; is_forward = s.is_forward; is_committed = true }
after_body s r body.Ended = s
after_body s r (body.Checkpoint offset) = s
after_body s r body.RestartEnd = s

-- ---- what a course comes to

-- what may still be undone
abbrev pub undo_left : Bool → List LogRecord → List LogRecord
undo_left true undo = []
undo_left false undo = undo

abbrev pub standing : Course → Standing
standing c = record { undo = undo_left c.is_committed c.undo; is_forward = nothing_undone c; is_committed = c.is_committed }
