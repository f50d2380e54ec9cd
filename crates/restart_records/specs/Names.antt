-- The names of table spaces and rows: which are retained, and which open transactions need.
use Rattle.std.specs.Prelude.{ℕ, ◌+◌, ◌-◌, ◌^◌, min, ◌==◌, Bool, true, false, not, ◌&&◌, if◌then◌else◌, List, [], ◌∷◌, replicate, slice_index_or, slice_set, unwrap_or}
use Rattle.ds_model.specs.declared.lock.Name.{Name}
use Rattle.ds_model.specs.declared.lock.Name.TheVariants as name
use Rattle.ds_model.specs.declared.log.LogRecord.{LogRecord}
use Rattle.ds_model.specs.declared.log.Body.{Body}
use Rattle.ds_model.specs.declared.log.Body.TheVariants as body
use Rattle.log_trans.specs.declared.opened.OpenTran.{OpenTran}
use Rattle.restart_records.specs.declared.names.NameMark.{NameMark}
use Rattle.restart_records.specs.Maps.{RowMarks, row_at, with_row}

-- the marks of table spaces by the numbers of their tables, and of rows; how many names are retained and not needed, and how many
-- are needed and not retained
pub record NameState : Type 0 where
  pub spaces : List NameMark
  pub rows : RowMarks
  pub loose : ℕ
  pub missing : ℕ

abbrev pub no_mark : NameMark
no_mark = record { retained = false; needed = 0 }

abbrev pub no_names : NameState
no_names = record { spaces = replicate 65 no_mark; rows = []; loose = 0; missing = 0 }

-- ---- marks

-- nothing is known of pages and page sets here
abbrev pub mark_of : NameState → Name → NameMark
mark_of s (name.Space t) = slice_index_or s.spaces t no_mark
mark_of s (name.Row t k) = unwrap_or (row_at s.rows (t, k)) no_mark
mark_of s (name.Page p) = no_mark
mark_of s (name.Set n) = no_mark

abbrev pub with_mark : NameState → Name → NameMark → NameState
with_mark s (name.Space t) m = record s { spaces = slice_set s.spaces t m }
with_mark s (name.Row t k) m = record s { rows = with_row s.rows (t, k) m }
with_mark s (name.Page p) m = s
with_mark s (name.Set n) m = s

-- ---- counts

abbrev pub is_loose : NameMark → Bool
is_loose m = m.retained && (m.needed == 0)

abbrev pub is_missing : NameMark → Bool
is_missing m = not m.retained && not (m.needed == 0)

-- the counts end at the greatest number of 64 bits
abbrev pub one_more : ℕ → ℕ
one_more n = min (n + 1) (2 ^ 64 - 1)

-- a count, where what is counted was so, and is so now
abbrev pub moved_count : ℕ → Bool → Bool → ℕ
moved_count n true true = n
moved_count n false false = n
moved_count n false true = one_more n
moved_count n true false = n - 1

-- what is known of the name is this now
abbrev pub marked : NameState → Name → NameMark → NameState
marked s n m = record (with_mark s n m) {
  loose = moved_count s.loose (is_loose (mark_of s n)) (is_loose m);
  missing = moved_count s.missing (is_missing (mark_of s n)) (is_missing m);
}

-- ---- one name

abbrev pub needed_more : NameState → Name → NameState
needed_more s n = marked s n (record { retained = (mark_of s n).retained; needed = one_more (mark_of s n).needed })

abbrev pub needed_less : NameState → Name → NameState
needed_less s n =
    if (mark_of s n).needed == 0 then s
    else marked s n (record { retained = (mark_of s n).retained; needed = (mark_of s n).needed - 1 })

abbrev pub retained_now : NameState → Name → NameState
retained_now s n = marked s n (record { retained = true; needed = (mark_of s n).needed })

abbrev pub purged_now : NameState → Name → NameState
purged_now s n =
    if (mark_of s n).retained then marked s n (record { retained = false; needed = (mark_of s n).needed }) else s

-- ---- the names of row changes

abbrev pub change_needed : NameState → ℕ → ℕ → NameState
change_needed s table key = needed_more (needed_more s (name.Space table)) (name.Row table key)

abbrev pub record_needed : NameState → Body → NameState
record_needed s (body.RowChange c) = change_needed s c.table c.key
record_needed s _ = s

abbrev pub all_needed : NameState → List LogRecord → NameState
all_needed s [] = s
all_needed s (r ∷ rs) = all_needed (record_needed s r.body) rs

-- the names of the transaction's row changes are needed
abbrev pub tran_needed : NameState → OpenTran → NameState
tran_needed n o = all_needed (all_needed n o.undo) o.undone

abbrev pub trans_needed : NameState → List OpenTran → NameState
trans_needed n [] = n
trans_needed n (o ∷ os) = trans_needed (tran_needed n o) os

abbrev pub change_freed : NameState → ℕ → ℕ → NameState
change_freed s table key = needed_less (needed_less s (name.Space table)) (name.Row table key)

abbrev pub record_freed : NameState → Body → NameState
record_freed s (body.RowChange c) = change_freed s c.table c.key
record_freed s _ = s

abbrev pub all_freed : NameState → List LogRecord → NameState
all_freed s [] = s
all_freed s (r ∷ rs) = all_freed (record_freed s r.body) rs

abbrev pub tran_freed : NameState → OpenTran → NameState
tran_freed n o = all_freed (all_freed n o.undo) o.undone
