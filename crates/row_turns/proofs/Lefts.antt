-- The rows that are held as left are those that the committed changes leave.
use Rattle.std.proofs.Common.{◌≡◌, ℕ, ◌+◌, Bool, true, false, cond, List, [], ◌∷◌, ◌++◌, length, Option, Some, None, is_some, refl, sym, ap, subst, ◌∙◌, arith}
use Rattle.std.specs.Prelude.{◌==◌, not, ◌&&◌, ◌||◌}
use Rattle.std.specs.List.{list_any, list_all}
use Rattle.std.specs.FinMap.{FinMap, get, insert, empty, len, get-empty, same_map}
use Rattle.std.proofs.lemmas.Bool.Decides.{nat_tests}
use Rattle.spot_map.specs.Undo.{exact_spots}
use Rattle.ds_model.specs.declared.log.LogRecord.{LogRecord}
use Rattle.ds_model.specs.declared.log.RowChange.{RowChange}
use Rattle.ds_model.specs.declared.log.Body.{Body}
use Rattle.ds_model.specs.declared.log.Body.TheVariants as body
use Rattle.ds_model.specs.Rows.{Spot, spot_cmp, spot_cmp_total}
use Rattle.ds_model.specs.Logs.{has_commit}
use Rattle.settled_changes.specs.Left.{Spots, with_row, with_body}
use Rattle.row_turns.specs.declared.row.RowTurn.{RowTurn}
use Rattle.row_turns.specs.declared.held.Held.{Held}
use Rattle.redone_pages.specs.Ranges.{has_table}
use Rattle.row_turns.specs.declared.scan.Turns.{Turns}
use Rattle.row_turns.specs.Orders.{AreOrderly}
use Rattle.row_turns.specs.States.{Left, left_by, left_in, left_with, left_among}
use Rattle.row_turns.specs.Scans.{is_of, spots_in, rows_left_in, row_left_with, row_left_from, row_left, same_spot, IsRow, IsRowOr, IsHeld, AreTurnsTold, AreScanned, IsTurning}
use Rattle.row_turns.proofs.Tallies.{and_left, by_bool, clash}
use Rattle.row_turns.proofs.Behind.{same, left_none}
use Rattle.row_turns.proofs.Holding.{left_is}
use Rattle.row_turns.proofs.HeldSteps.{got, gone, got_same}

abbrev mark : Bool → Option Bool
mark b = cond b (Some true) None

none_marked : (a : Bool) (o : Option Bool) → o ≡ cond (a && false) (Some true) o
none_marked true o = refl
none_marked false o = refl

same_either : {X : Type 0} (b : Bool) (o : X) → cond b o o ≡ o
same_either true o = refl
same_either false o = refl

with_true : (a : Bool) → (a && true) ≡ a
with_true true = refl
with_true false = refl

-- ---- of the rows that are held

merged_mark : (lq lk e any : Bool) (o : Option Bool) → (e ≡ true → lk ≡ lq) → cond (lq && any) (Some true) (cond lk (cond e (Some true) o) o) ≡ cond (lq && (e || any)) (Some true) o
merged_mark true lk true true o h = refl
merged_mark true lk false true o h = refl
merged_mark true true true false o h = refl
merged_mark true false true false o h = absurd (clash false (h refl) refl)
merged_mark true true false false o h = refl
merged_mark true false false false o h = refl
merged_mark false true true any o h = absurd (clash true refl (h refl))
merged_mark false false true any o h = refl
merged_mark false true false any o h = refl
merged_mark false false false any o h = refl

put_left : (it : Held) (left : Left) (u j table key : ℕ) (b : Bool) → get (cond b (insert left (u, j) true) left) (table, key) ≡ cond b (cond ((table == u) && (key == j)) (Some true) (get left (table, key))) (get left (table, key))
put_left it left u j table key true = got left u j true table key
put_left it left u j table key false = refl

left_got : (it : Held) (left : Left) (keys : List Spot) (table key : ℕ)
    → get (left_among it left keys) (table, key) ≡ cond (left_in it.waiting (get it.rows (table, key)) && list_any (same_spot (table, key)) keys) (Some true) (get left (table, key))
left_got it left [] table key = none_marked (left_in it.waiting (get it.rows (table, key))) (get left (table, key))
left_got it left (k ∷ keys) table key =
    left_got it (left_with it left k) keys table key
    ∙ ap (λ (o : Option Bool). cond (left_in it.waiting (get it.rows (table, key)) && list_any (same_spot (table, key)) keys) (Some true) o) (put_left it left k.0 k.1 table key (left_in it.waiting (get it.rows (k.0, k.1))))
    ∙ merged_mark (left_in it.waiting (get it.rows (table, key))) (left_in it.waiting (get it.rows (k.0, k.1))) (same_spot (table, key) k) (list_any (same_spot (table, key)) keys) (get left (table, key))
    (λ e. ap (λ (o : Option RowTurn). left_in it.waiting o) (got_same it.rows table key k.0 k.1 e))

-- ---- of the records

row_marked : (spots : Spots) (c : RowChange) (after : Option (List ℕ)) (table key : ℕ) → get (with_row spots c after) (table, key) ≡ cond ((table == c.table) && (key == c.key)) (mark (is_some after)) (get spots (table, key))
row_marked spots c None table key = gone spots c.table c.key table key
row_marked spots c (Some v) table key = got spots c.table c.key true table key

chosen_mark : (k own m a b : Bool) (new old : Option Bool) → (m ≡ true → own ≡ true) → new ≡ cond m (mark a) old → old ≡ mark b → cond (k && own) new old ≡ mark (cond (k && m) a b)
chosen_mark true true true a b new old h e f = e
chosen_mark true true false a b new old h e f = e ∙ f
chosen_mark true false true a b new old h e f = absurd (clash false (h refl) refl)
chosen_mark true false false a b new old h e f = f
chosen_mark false own m a b new old h e f = f

get_when : (x y : Spots) (table key : ℕ) (b : Bool) → get (cond b x y) (table, key) ≡ cond b (get x (table, key)) (get y (table, key))
get_when x y table key true = refl
get_when x y table key false = refl

record_marked : (has keeps : ℕ → Bool) (spots : Spots) (tran : ℕ) (d : Body) (table key : ℕ) (b : Bool) → has table ≡ true → get spots (table, key) ≡ mark b
    → get (cond (keeps tran && is_of has d) (with_body spots d) spots) (table, key) ≡ mark (row_left_with table key keeps b tran d)
record_marked has keeps spots tran (body.RowChange c) table key b own h =
    get_when (with_row spots c c.after) spots table key (keeps tran && has c.table)
    ∙ chosen_mark (keeps tran) (has c.table) ((table == c.table) && (key == c.key)) (is_some c.after) b (get (with_row spots c c.after) (table, key)) (get spots (table, key))
    (λ e. ap has (sym (same table c.table (and_left (table == c.table) (key == c.key) e))) ∙ own) (row_marked spots c c.after table key) h
record_marked has keeps spots tran (body.Compensation c undone) table key b own h = get_when spots spots table key (keeps tran && false) ∙ same_either (keeps tran && false) (get spots (table, key)) ∙ h
record_marked has keeps spots tran (body.System patches) table key b own h = get_when spots spots table key (keeps tran && false) ∙ same_either (keeps tran && false) (get spots (table, key)) ∙ h
record_marked has keeps spots tran body.Commit table key b own h = get_when spots spots table key (keeps tran && false) ∙ same_either (keeps tran && false) (get spots (table, key)) ∙ h
record_marked has keeps spots tran body.Ended table key b own h = get_when spots spots table key (keeps tran && false) ∙ same_either (keeps tran && false) (get spots (table, key)) ∙ h
record_marked has keeps spots tran (body.Checkpoint offset) table key b own h = get_when spots spots table key (keeps tran && false) ∙ same_either (keeps tran && false) (get spots (table, key)) ∙ h
record_marked has keeps spots tran body.RestartEnd table key b own h = get_when spots spots table key (keeps tran && false) ∙ same_either (keeps tran && false) (get spots (table, key)) ∙ h

spots_marked : (has keeps : ℕ → Bool) (spots : Spots) (rs : List LogRecord) (table key : ℕ) (b : Bool) → has table ≡ true → get spots (table, key) ≡ mark b → get (spots_in has keeps spots rs) (table, key) ≡ mark (row_left_from table key keeps b rs)
spots_marked has keeps spots [] table key b own h = h
spots_marked has keeps spots (r ∷ rs) table key b own h =
    spots_marked has keeps (cond (keeps r.tran && is_of has r.body) (with_body spots r.body) spots) rs table key (row_left_with table key keeps b r.tran r.body) own (record_marked has keeps spots r.tran r.body table key b own h)

-- of another table
other_mark : (k own m : Bool) (new old : Option Bool) (a : Bool) → (m ≡ true → own ≡ false) → new ≡ cond m (mark a) old → old ≡ None → cond (k && own) new old ≡ None
other_mark true true true new old a h e f = absurd (clash true refl (h refl))
other_mark true true false new old a h e f = e ∙ f
other_mark true false m new old a h e f = f
other_mark false own m new old a h e f = f

record_other : (has keeps : ℕ → Bool) (spots : Spots) (tran : ℕ) (d : Body) (table key : ℕ) → has table ≡ false → get spots (table, key) ≡ None → get (cond (keeps tran && is_of has d) (with_body spots d) spots) (table, key) ≡ None
record_other has keeps spots tran (body.RowChange c) table key other h =
    get_when (with_row spots c c.after) spots table key (keeps tran && has c.table)
    ∙ other_mark (keeps tran) (has c.table) ((table == c.table) && (key == c.key)) (get (with_row spots c c.after) (table, key)) (get spots (table, key)) (is_some c.after)
    (λ e. ap has (sym (same table c.table (and_left (table == c.table) (key == c.key) e))) ∙ other) (row_marked spots c c.after table key) h
record_other has keeps spots tran (body.Compensation c undone) table key other h = get_when spots spots table key (keeps tran && false) ∙ same_either (keeps tran && false) (get spots (table, key)) ∙ h
record_other has keeps spots tran (body.System patches) table key other h = get_when spots spots table key (keeps tran && false) ∙ same_either (keeps tran && false) (get spots (table, key)) ∙ h
record_other has keeps spots tran body.Commit table key other h = get_when spots spots table key (keeps tran && false) ∙ same_either (keeps tran && false) (get spots (table, key)) ∙ h
record_other has keeps spots tran body.Ended table key other h = get_when spots spots table key (keeps tran && false) ∙ same_either (keeps tran && false) (get spots (table, key)) ∙ h
record_other has keeps spots tran (body.Checkpoint offset) table key other h = get_when spots spots table key (keeps tran && false) ∙ same_either (keeps tran && false) (get spots (table, key)) ∙ h
record_other has keeps spots tran body.RestartEnd table key other h = get_when spots spots table key (keeps tran && false) ∙ same_either (keeps tran && false) (get spots (table, key)) ∙ h

spots_other : (has keeps : ℕ → Bool) (spots : Spots) (rs : List LogRecord) (table key : ℕ) → has table ≡ false → get spots (table, key) ≡ None → get (spots_in has keeps spots rs) (table, key) ≡ None
spots_other has keeps spots [] table key other h = h
spots_other has keeps spots (r ∷ rs) table key other h =
    spots_other has keeps (cond (keeps r.tran && is_of has r.body) (with_body spots r.body) spots) rs table key other (record_other has keeps spots r.tran r.body table key other h)

-- ---- both

abbrev pub no_spots : Spots
no_spots = empty

row_both : (has : ℕ → Bool) (early : Bool) (rs : List LogRecord) (it : Held) (table key : ℕ) → has table ≡ true → IsHeld has early rs it → (o : Option RowTurn) → get it.rows (table, key) ≡ o → IsRowOr table key rs o
    → cond (left_in it.waiting o && list_any (same_spot (table, key)) it.keys) (Some true) None ≡ mark (row_left table key (has_commit rs) rs)
row_both has early rs it table key own h None is row = ap mark (sym (left_none table key (has_commit rs) false rs row))
row_both has early rs it table key own h (Some g) is row =
    ap (λ (b : Bool). mark (left_by it.waiting g && b)) (h.keys_are table key (ap is_some is))
    ∙ ap mark (with_true (left_by it.waiting g) ∙ sym (left_is has table key rs it.waiting g own h.waiting_is h.apart row))

spot_both : (has : ℕ → Bool) (early : Bool) (rs : List LogRecord) (it : Held) (table key : ℕ) → IsHeld has early rs it → (b : Bool) → has table ≡ b → get (left_among it empty it.keys) (table, key) ≡ get (spots_in has (has_commit rs) no_spots rs) (table, key)
spot_both has early rs it table key h true own =
    left_got it empty it.keys table key
    ∙ ap (λ (o : Option Bool). cond (left_in it.waiting (get it.rows (table, key)) && list_any (same_spot (table, key)) it.keys) (Some true) o) (get-empty {X = Bool} spot_cmp (table, key))
    ∙ row_both has early rs it table key own h (get it.rows (table, key)) refl (h.rows_are table key own)
    ∙ sym (spots_marked has (has_commit rs) no_spots rs table key false own (get-empty {X = Bool} spot_cmp (table, key)))
spot_both has early rs it table key h false other =
    left_got it empty it.keys table key
    ∙ ap (λ (o : Option Bool). cond (left_in it.waiting (get it.rows (table, key)) && list_any (same_spot (table, key)) it.keys) (Some true) o) (get-empty {X = Bool} spot_cmp (table, key))
    ∙ ap (λ (o : Option RowTurn). cond (left_in it.waiting o && list_any (same_spot (table, key)) it.keys) (Some true) None) (h.others_none table key other)
    ∙ sym (spots_other has (has_commit rs) no_spots rs table key other (get-empty {X = Bool} spot_cmp (table, key)))

pub left_are : (has : ℕ → Bool) (early : Bool) (rs : List LogRecord) (it : Held) → IsHeld has early rs it → len (left_among it empty it.keys) ≡ rows_left_in has rs
left_are has early rs it h =
    ap (λ (m : Spots). len m) (same_map spot_cmp_total exact_spots (left_among it empty it.keys) (spots_in has (has_commit rs) no_spots rs) (λ q. spot_both has early rs it q.0 q.1 h (has q.0) refl))

-- what the scan tells
pub scan_told : (rs : List LogRecord) (it : Turns) (rows : ℕ) → rows ≡ len (left_among it.held empty it.held.keys) → IsTurning rs it → AreOrderly it.is_early [] rs
    → AreTurnsTold (has_table it.range) rs (record { out = it.out; «open» = it.held.unsettled; rows = rows })
scan_told rs it rows is t orderly =
    let s : AreScanned rs it = t.scanned orderly in record {
      out_is = s.out_is;
      open_is = λ none. let h = s.held none in h.unsettled_is;
      rows_is = λ none. is ∙ left_are (has_table it.range) it.is_early rs it.held (s.held none);
    }
