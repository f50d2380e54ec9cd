-- The rows of some tables behind one record more.
use Rattle.std.proofs.Common.{◌≡◌, ◌↔◌, ℕ, Bool, true, false, cond, List, [], ◌∷◌, ◌++◌, Option, Some, None, Result, Ok, Err, refl, sym, ap, ◌∙◌, arith}
use Rattle.std.specs.Prelude.{◌==◌, ◌&&◌, IsTrue, OnOk}
use Rattle.std.specs.Str.{bytes_eq}
use Rattle.std.specs.FinMap.{get, empty, get-empty}
use Rattle.std.proofs.lemmas.Bool.Decides.{nat_tests}
use Rattle.std.proofs.lemmas.Slice.Eq.{bytes_eq-Decides}
use Rattle.ds_model.specs.declared.log.LogRecord.{LogRecord}
use Rattle.ds_model.specs.declared.log.Body.{Body}
use Rattle.ds_model.specs.declared.log.Body.TheVariants as body
use Rattle.ds_model.specs.Rows.{Rows, spot_cmp}
use Rattle.ds_model.specs.Logs.{set_row}
use Rattle.redone_pages.specs.declared.range.TableRange.{TableRange}
use Rattle.redone_pages.specs.Ranges.{has_table}
use Rattle.sound_disk.specs.Rows_there.{row_by, row_with, row_from, row_after}
use Rattle.heap_rows.specs.declared.left.LeftRows.{LeftRows}
use Rattle.heap_rows.specs.Left.{same_row, set_in, left_with, AreRowsOf, AreLeft}
use Rattle.heap_rows.proofs.Maps.{set_told}

abbrev Row : Type 0
Row = Option (List ℕ)

-- ---- one record more

from_more : (table key : ℕ) (row : Row) (xs : List LogRecord) (r : LogRecord) → row_from table key row (xs ++ r ∷ []) ≡ row_with table key (row_from table key row xs) r.body
from_more table key row [] r = refl
from_more table key row (x ∷ xs) r = from_more table key (row_with table key row x.body) xs r

same_number : (m n : ℕ) → (m == n) ≡ true → m ≡ n
same_number m n h = grind (arith, nat_tests)

and_first : (a b : Bool) → (a && b) ≡ true → a ≡ true
and_first true b h = refl
and_first false b h = h

-- a row of a table that isn't among these isn't that of one that is
other_row : (has : ℕ → Bool) (u table : ℕ) (b c : Bool) → (u == table) ≡ b → has u ≡ false → has table ≡ true → (b && c) ≡ false
other_row has u table true c e absent among = let same : has u ≡ has table = ap has (same_number u table e) in absurd cc
other_row has u table false c e absent among = refl

kept_when : (has : ℕ → Bool) (rows : Rows) (u j : ℕ) (after : Row) (table key : ℕ) → has table ≡ true → (b : Bool) → has u ≡ b
    → get (cond b (set_row rows u j after) rows) (table, key) ≡ cond ((u == table) && (j == key)) after (get rows (table, key))
kept_when has rows u j after table key among true e = set_told rows u j after table key
kept_when has rows u j after table key among false e = sym (ap (λ (b : Bool). cond b after (get rows (table, key))) (other_row has u table (u == table) (j == key) refl e among))

put_told : (has : ℕ → Bool) (rows : Rows) (u j : ℕ) (after : Row) (table key : ℕ) → has table ≡ true → get (set_in has rows u j after) (table, key) ≡ cond ((u == table) && (j == key)) after (get rows (table, key))
put_told has rows u j after table key among = kept_when has rows u j after table key among (has u) refl

body_told : (has : ℕ → Bool) (rows : Rows) (b : Body) (table key : ℕ) → has table ≡ true → get (left_with has rows b) (table, key) ≡ row_with table key (get rows (table, key)) b
body_told has rows (body.RowChange c) table key among = put_told has rows c.table c.key c.after table key among
body_told has rows (body.Compensation c undone) table key among = put_told has rows c.table c.key c.after table key among
body_told has rows (body.System patches) table key among = refl
body_told has rows body.Commit table key among = refl
body_told has rows body.Ended table key among = refl
body_told has rows (body.Checkpoint offset) table key among = refl
body_told has rows body.RestartEnd table key among = refl

rows_more : (has : ℕ → Bool) (rows : Rows) (records : List LogRecord) (r : LogRecord) → AreRowsOf has records rows → AreRowsOf has (records ++ r ∷ []) (left_with has rows r.body)
rows_more has rows records r h table key among =
    body_told has rows r.body table key among
    ∙ ap (λ (row : Row). row_with table key row r.body) (h table key among)
    ∙ sym (from_more table key None records r)

pub none_left : (it : LeftRows) → it.rows ≡ empty → AreLeft [] it
none_left it e table key among = ap (λ (rows : Rows). get rows (table, key)) e ∙ get-empty {X = List ℕ} spot_cmp (table, key)

left_more : (old new : LeftRows) (it : LogRecord) → new.range ≡ old.range → new.rows ≡ left_with (has_table old.range) old.rows it.body → (records : List LogRecord) → AreLeft records old → AreLeft (records ++ it ∷ []) new
left_more old new it same is records h table key among =
    ap (λ (rows : Rows). get rows (table, key)) is
    ∙ rows_more (has_table old.range) old.rows records it h table key (sym (ap (λ (r : TableRange). has_table r table) same) ∙ among)

pub taken : {T E : Type 0} (result : Result T E) (old new : LeftRows) (it : LogRecord) → new.range ≡ old.range → OnOk result (new.rows ≡ left_with (has_table old.range) old.rows it.body)
    → OnOk result ((records : List LogRecord) → AreLeft records old → AreLeft (records ++ it ∷ []) new)
taken (Ok t) old new it same is = left_more old new it same is
taken (Err e) old new it same is = tt

-- ---- rows that are the same

itself : (bs : List ℕ) → bytes_eq bs bs ≡ true
itself bs = (bytes_eq-Decides bs bs).1 refl

is_same : (xs ys : List ℕ) → bytes_eq xs ys ≡ true → xs ≡ ys
is_same xs ys h = (bytes_eq-Decides xs ys).0 h

row_same : (a b : Row) → same_row a b ≡ true → a ≡ b
row_same None None h = refl
row_same None (Some b) h = absurd cc
row_same (Some a) None h = absurd cc
row_same (Some a) (Some b) h = ap (λ (v : List ℕ). Some v) (is_same a b h)

same_itself : (a : Row) → same_row a a ≡ true
same_itself None = refl
same_itself (Some a) = itself a

pub same_told : (a b c : Row) → a ≡ c → IsTrue (same_row a b) ↔ (c ≡ b)
same_told a b c e = (λ h. sym e ∙ row_same a b h, λ h. ap (λ (x : Row). same_row x b) (e ∙ h) ∙ same_itself b)
