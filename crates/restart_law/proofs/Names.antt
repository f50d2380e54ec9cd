-- How often a name is needed, as names are counted.
use Rattle.std.proofs.Common.{◌≡◌, ℕ, ◌+◌, ◌-◌, ◌≤◌, ◌<◌, refl, sym, ◌∙◌, ap, subst, arith, Bool, true, false, cond, List, [], ◌∷◌, length, Option, Some, None, inl, inr, ⊎_elim}
use Rattle.std.specs.Prelude.{◌≢◌, ◌==◌, ◌^◌, ◌&&◌, min, nat_lt, if◌then◌else◌, slice_index_or, slice_set, unwrap_or}
use Rattle.std.specs.BTreeMap.{insert_entry, is_at}
use Rattle.std.specs.Map.{lookup}
use Rattle.std.specs.Ordering.{nat_cmp, eq_by_cmp, is_eq, ordering_then, match_ordering}
use Rattle.std.specs.declared.cmp.Ordering.{Ordering}
use Rattle.std.specs.declared.cmp.Ordering.TheVariants.{Less, Equal, Greater}
use Rattle.std.specs.FinMap.Entries.{by_order, find, put, find-put}
use Rattle.std.proofs.lemmas.Bool.{and_parts, cases_eq, eq-eqb, eqb-true, ltb-true, ne_eqb}
use Rattle.std.proofs.lemmas.Bool.Decides.{nat_tests}
use Rattle.std.proofs.lemmas.List.{get_or-set_same, get_or-set_other, length-set}
use Rattle.ds_model.specs.Rows.{Spot, spot_cmp, spot_cmp_total}
use Rattle.ds_model.specs.declared.lock.Name.{Name}
use Rattle.ds_model.specs.declared.lock.Name.TheVariants as name
use Rattle.ds_model.specs.declared.log.Body.{Body}
use Rattle.ds_model.specs.declared.log.Body.TheVariants as body
use Rattle.ds_model.specs.declared.log.LogRecord.{LogRecord}
use Rattle.log_trans.specs.declared.opened.OpenTran.{OpenTran}
use Rattle.restart_records.specs.declared.names.NameMark.{NameMark}
use Rattle.restart_records.specs.Maps.{RowMarks, row_at, with_row}
use Rattle.restart_records.specs.Names.{NameState, all_freed, all_needed, change_freed, change_needed, mark_of, marked, needed_less, needed_more, no_mark, one_more, record_freed, record_needed, tran_freed, tran_needed, trans_needed, with_mark}
use Rattle.restart_law.specs.Opens.{IsMarked, is_named, needs_among, needs_by, needs_in, needs_of, one_if}

abbrev top : ℕ
top = 2 ^ 64 - 1

-- ---- the marks of rows
both_equal : (o p : Ordering) → is_eq (ordering_then o p) ≡ (is_eq o && is_eq p)
both_equal Less p = refl
both_equal Equal p = refl
both_equal Greater p = refl

same_number : (q k : ℕ) → eq_by_cmp nat_cmp q k ≡ (k == q)
same_number q k = grind (arith, nat_tests)

same_spot : (table key u j : ℕ) → eq_by_cmp spot_cmp (table, key) (u, j) ≡ ((u == table) && (j == key))
same_spot table key u j =
    both_equal (nat_cmp table u) (nat_cmp key j)
    ∙ ap (λ (b : Bool). b && is_eq (nat_cmp key j)) (same_number table u)
    ∙ ap (λ (b : Bool). (u == table) && b) (same_number key j)

found_as : (es : RowMarks) (q : Spot) → lookup (is_at (spot_cmp q)) es ≡ find spot_cmp q es
found_as [] q = refl
found_as (e ∷ es) q = ap (λ (z : Option NameMark). cond (is_at (spot_cmp q) e.0) (Some e.1) z) (found_as es q)

put_as : (es : RowMarks) (k : Spot) (v : NameMark) → insert_entry spot_cmp es k v ≡ put spot_cmp k v es
put_as [] k v = refl
put_as (e ∷ es) k v = by (spot_cmp k e.0) (insert_entry spot_cmp es k v) (put spot_cmp k v es) (put_as es k v)
  where
    by : (o : Ordering) (xs ys : RowMarks) → xs ≡ ys → match_ordering o ((k, v) ∷ e ∷ es) ((e.0, v) ∷ es) (e ∷ xs) ≡ by_order o ((k, v) ∷ e ∷ es) ((e.0, v) ∷ es) (e ∷ ys)
    by Less xs ys same = refl
    by Equal xs ys same = refl
    by Greater xs ys same = ap (λ (z : RowMarks). e ∷ z) same

row_put : (es : RowMarks) (t k u j : ℕ) (m : NameMark) → row_at (with_row es (t, k) m) (u, j) ≡ cond ((t == u) && (k == j)) (Some m) (row_at es (u, j))
row_put es t k u j m =
    found_as (with_row es (t, k) m) (u, j)
    ∙ ap (λ (z : RowMarks). find spot_cmp (u, j) z) (put_as es (t, k) m)
    ∙ find-put spot_cmp spot_cmp_total (u, j) (t, k) m es
    ∙ ap (λ (b : Bool). cond b (Some m) (find spot_cmp (u, j) es)) (same_spot u j t k)
    ∙ ap (λ (z : Option NameMark). cond ((t == u) && (k == j)) (Some m) z) (sym (found_as es (u, j)))

-- ---- one mark is another
abbrev pub same_name : Name → Name → Bool
same_name (name.Space t) (name.Space u) = t == u
same_name (name.Space t) (name.Row u j) = false
same_name (name.Space t) (name.Page p) = false
same_name (name.Space t) (name.Set n) = false
same_name (name.Row t k) (name.Space u) = false
same_name (name.Row t k) (name.Row u j) = (t == u) && (k == j)
same_name (name.Row t k) (name.Page p) = false
same_name (name.Row t k) (name.Set n) = false
same_name (name.Page q) n = false
same_name (name.Set q) n = false

pub same_is : (n q : Name) → same_name n q ≡ true → n ≡ q
same_is (name.Space t) (name.Space u) e = ap (λ (z : ℕ). name.Space z) (eqb-true t u e)
same_is (name.Space t) (name.Row u j) e = absurd cc
same_is (name.Space t) (name.Page p) e = absurd cc
same_is (name.Space t) (name.Set n) e = absurd cc
same_is (name.Row t k) (name.Space u) e = absurd cc
same_is (name.Row t k) (name.Row u j) e =
    let p = and_parts (t == u) (k == j) e in
    ap (λ (z : ℕ). name.Row z k) (eqb-true t u p.0) ∙ ap (λ (z : ℕ). name.Row u z) (eqb-true k j p.1)
same_is (name.Row t k) (name.Page p) e = absurd cc
same_is (name.Row t k) (name.Set n) e = absurd cc
same_is (name.Page p) q e = absurd cc
same_is (name.Set n) q e = absurd cc

unwrapped : (b : Bool) (m : NameMark) (o : Option NameMark) → unwrap_or (cond b (Some m) o) no_mark ≡ (if b then m else unwrap_or o no_mark)
unwrapped true m o = refl
unwrapped false m o = refl

space_put : (spaces : List NameMark) (t u : ℕ) (m : NameMark) → nat_lt u (length spaces) ≡ true → slice_index_or (slice_set spaces t m) u no_mark ≡ (if t == u then m else slice_index_or spaces u no_mark)
space_put spaces t u m low = ⊎_elim
    (λ (e : t ≡ u). subst (λ (z : ℕ). slice_index_or (slice_set spaces t m) z no_mark ≡ m) e (get_or-set_same spaces t m no_mark (subst (λ (z : ℕ). z < length spaces) (sym e) (ltb-true u (length spaces) low)))
    ∙ sym (ap (λ (b : Bool). if b then m else slice_index_or spaces u no_mark) (eq-eqb t u e)))
    (λ (ne : t ≢ u). get_or-set_other spaces t u m no_mark (λ (e : u ≡ t). ne (sym e))
    ∙ sym (ap (λ (b : Bool). if b then m else slice_index_or spaces u no_mark) (ne_eqb t u ne)))
    (cases_eq t u)

mark_put : (s : NameState) (n q : Name) (m : NameMark) → IsMarked s q → mark_of (with_mark s n m) q ≡ (if same_name n q then m else mark_of s q)
mark_put s (name.Space t) (name.Space u) m known = space_put s.spaces t u m known
mark_put s (name.Space t) (name.Row u j) m known = refl
mark_put s (name.Row t k) (name.Space u) m known = refl
mark_put s (name.Row t k) (name.Row u j) m known = ap (λ (z : Option NameMark). unwrap_or z no_mark) (row_put s.rows t k u j m) ∙ unwrapped ((t == u) && (k == j)) m (row_at s.rows (u, j))
mark_put s (name.Page p) q m known = refl
mark_put s (name.Set n) q m known = refl
mark_put s (name.Space t) (name.Page p) m known = absurd known
mark_put s (name.Space t) (name.Set n) m known = absurd known
mark_put s (name.Row t k) (name.Page p) m known = absurd known
mark_put s (name.Row t k) (name.Set n) m known = absurd known

marked_as : (s : NameState) (n q : Name) (m : NameMark) → mark_of (marked s n m) q ≡ mark_of (with_mark s n m) q
marked_as s n (name.Space u) m = refl
marked_as s n (name.Row u j) m = refl
marked_as s n (name.Page p) m = refl
marked_as s n (name.Set k) m = refl

-- ---- which names have marks
pub more_spaces : (s : NameState) (n : Name) (m : NameMark) → length (marked s n m).spaces ≡ length s.spaces
more_spaces s (name.Space t) m = length-set s.spaces t m
more_spaces s (name.Row t k) m = refl
more_spaces s (name.Page p) m = refl
more_spaces s (name.Set k) m = refl

pub marked_on : (s t : NameState) (q : Name) → length t.spaces ≡ length s.spaces → IsMarked s q → IsMarked t q
marked_on s t (name.Space u) e known = subst (λ (z : ℕ). nat_lt u z ≡ true) (sym e) known
marked_on s t (name.Row u j) e known = tt
marked_on s t (name.Page p) e known = known
marked_on s t (name.Set n) e known = known

-- ---- one name, needed once more or once less
pub needed_in : NameState → Name → ℕ
needed_in s q = (mark_of s q).needed

pub put_needed : (s : NameState) (n q : Name) (m : NameMark) → IsMarked s q → (mark_of (marked s n m) q).needed ≡ (if same_name n q then m.needed else (mark_of s q).needed)
put_needed s n q m known = ap (λ (z : NameMark). z.needed) (marked_as s n q m ∙ mark_put s n q m known) ∙ through (same_name n q)
  where
    through : (b : Bool) → (if b then m else mark_of s q).needed ≡ (if b then m.needed else (mark_of s q).needed)
    through true = refl
    through false = refl

-- as it was of this name
own_needed : (s : NameState) (n q : Name) (b : Bool) (f : ℕ → ℕ) → same_name n q ≡ b → (if b then f (mark_of s n).needed else (mark_of s q).needed) ≡ (if b then f (mark_of s q).needed else (mark_of s q).needed)
own_needed s n q true f e = ap (λ (z : Name). f (mark_of s z).needed) (same_is n q e)
own_needed s n q false f e = refl

rises : (b : Bool) (x k most : ℕ) → k ≤ x → k + one_if b ≤ most → k + one_if b ≤ (if b then min (x + 1) most else x)
rises true x k most le few = omega arith
rises false x k most le few = omega arith

falls : (b : Bool) (x k : ℕ) → k + one_if b ≤ x → k ≤ (if b then x - 1 else x)
falls true x k le = omega arith
falls false x k le = omega arith

raised : (s : NameState) (n q : Name) (k : ℕ) → IsMarked s q → k ≤ (mark_of s q).needed → k + one_if (same_name n q) ≤ top → k + one_if (same_name n q) ≤ (mark_of (needed_more s n) q).needed
raised s n q k known le few = subst (λ (z : ℕ). k + one_if (same_name n q) ≤ z) (sym (
    put_needed s n q (record { retained = (mark_of s n).retained; needed = one_more (mark_of s n).needed }) known
    ∙ own_needed s n q (same_name n q) one_more refl)) (rises (same_name n q) (mark_of s q).needed k top le few)

lowered : (s : NameState) (n q : Name) (k : ℕ) → IsMarked s q → k + one_if (same_name n q) ≤ (mark_of s q).needed → k ≤ (mark_of (needed_less s n) q).needed
lowered s n q k known le = by ((mark_of s n).needed == 0)
  where
    by : (b : Bool) → k ≤ (mark_of (if b then s else marked s n (record { retained = (mark_of s n).retained; needed = (mark_of s n).needed - 1 })) q).needed
    by true = omega arith
    by false = subst (λ (z : ℕ). k ≤ z) (sym (
        put_needed s n q (record { retained = (mark_of s n).retained; needed = (mark_of s n).needed - 1 }) known
        ∙ own_needed s n q (same_name n q) (λ (z : ℕ). z - 1) refl)) (falls (same_name n q) (mark_of s q).needed k le)

less_spaces : (s : NameState) (n : Name) → length (needed_less s n).spaces ≡ length s.spaces
less_spaces s n = by ((mark_of s n).needed == 0)
  where
    by : (b : Bool) → length (if b then s else marked s n (record { retained = (mark_of s n).retained; needed = (mark_of s n).needed - 1 })).spaces ≡ length s.spaces
    by true = refl
    by false = more_spaces s n (record { retained = (mark_of s n).retained; needed = (mark_of s n).needed - 1 })

-- ---- the names of a record
spaces_needed : (s : NameState) (b : Body) → length (record_needed s b).spaces ≡ length s.spaces
spaces_needed s (body.RowChange c) =
    more_spaces (needed_more s (name.Space c.table)) (name.Row c.table c.key) (record { retained = (mark_of (needed_more s (name.Space c.table)) (name.Row c.table c.key)).retained; needed = one_more (mark_of (needed_more s (name.Space c.table)) (name.Row c.table c.key)).needed })
    ∙ more_spaces s (name.Space c.table) (record { retained = (mark_of s (name.Space c.table)).retained; needed = one_more (mark_of s (name.Space c.table)).needed })
spaces_needed s (body.Compensation c undone) = refl
spaces_needed s (body.System patches) = refl
spaces_needed s body.Commit = refl
spaces_needed s body.Ended = refl
spaces_needed s (body.Checkpoint offset) = refl
spaces_needed s body.RestartEnd = refl

spaces_freed : (s : NameState) (b : Body) → length (record_freed s b).spaces ≡ length s.spaces
spaces_freed s (body.RowChange c) = less_spaces (needed_less s (name.Space c.table)) (name.Row c.table c.key) ∙ less_spaces s (name.Space c.table)
spaces_freed s (body.Compensation c undone) = refl
spaces_freed s (body.System patches) = refl
spaces_freed s body.Commit = refl
spaces_freed s body.Ended = refl
spaces_freed s (body.Checkpoint offset) = refl
spaces_freed s body.RestartEnd = refl

-- both the table space and the row
both_more : (s : NameState) (t j : ℕ) (q : Name) (k : ℕ) → IsMarked s q → k ≤ (mark_of s q).needed → k + one_if (same_name (name.Space t) q) ≤ top
    → (k + one_if (same_name (name.Space t) q)) + one_if (same_name (name.Row t j) q) ≤ top → (k + one_if (same_name (name.Space t) q)) + one_if (same_name (name.Row t j) q) ≤ (mark_of (change_needed s t j) q).needed
both_more s t j q k known le few all =
    let mid : NameState = needed_more s (name.Space t) in
    raised mid (name.Row t j) q (k + one_if (same_name (name.Space t) q))
    (marked_on s mid q (more_spaces s (name.Space t) (record { retained = (mark_of s (name.Space t)).retained; needed = one_more (mark_of s (name.Space t)).needed })) known)
    (raised s (name.Space t) q k known le few) all

both_less : (s : NameState) (t j : ℕ) (q : Name) (k : ℕ) → IsMarked s q → (k + one_if (same_name (name.Row t j) q)) + one_if (same_name (name.Space t) q) ≤ (mark_of s q).needed → k ≤ (mark_of (change_freed s t j) q).needed
both_less s t j q k known le =
    let mid : NameState = needed_less s (name.Space t) in
    lowered mid (name.Row t j) q k (marked_on s mid q (less_spaces s (name.Space t)) known)
    (lowered s (name.Space t) q (k + one_if (same_name (name.Row t j) q)) known le)

-- one of them is the name, or none
pub record_raised : (s : NameState) (b : Body) (q : Name) (k : ℕ) → IsMarked s q → k ≤ (mark_of s q).needed → k + needs_in q b ≤ top → k + needs_in q b ≤ (mark_of (record_needed s b) q).needed
record_raised s (body.RowChange c) (name.Space u) k known le few =
    let all = both_more s c.table c.key (name.Space u) k known le few (omega arith) in omega arith
record_raised s (body.RowChange c) (name.Row u j) k known le few =
    let all = both_more s c.table c.key (name.Row u j) k known le (omega arith) (omega arith) in omega arith
record_raised s (body.RowChange c) (name.Page p) k known le few = absurd known
record_raised s (body.RowChange c) (name.Set n) k known le few = absurd known
record_raised s (body.Compensation c undone) q k known le few = omega arith
record_raised s (body.System patches) q k known le few = omega arith
record_raised s body.Commit q k known le few = omega arith
record_raised s body.Ended q k known le few = omega arith
record_raised s (body.Checkpoint offset) q k known le few = omega arith
record_raised s body.RestartEnd q k known le few = omega arith

pub record_lowered : (s : NameState) (b : Body) (q : Name) (k : ℕ) → IsMarked s q → k + needs_in q b ≤ (mark_of s q).needed → k ≤ (mark_of (record_freed s b) q).needed
record_lowered s (body.RowChange c) (name.Space u) k known le = both_less s c.table c.key (name.Space u) k known (omega arith)
record_lowered s (body.RowChange c) (name.Row u j) k known le = both_less s c.table c.key (name.Row u j) k known (omega arith)
record_lowered s (body.RowChange c) (name.Page p) k known le = absurd known
record_lowered s (body.RowChange c) (name.Set n) k known le = absurd known
record_lowered s (body.Compensation c undone) q k known le = omega arith
record_lowered s (body.System patches) q k known le = omega arith
record_lowered s body.Commit q k known le = omega arith
record_lowered s body.Ended q k known le = omega arith
record_lowered s (body.Checkpoint offset) q k known le = omega arith
record_lowered s body.RestartEnd q k known le = omega arith

-- ---- the names of records
all_spaces : (s : NameState) (rs : List LogRecord) → length (all_needed s rs).spaces ≡ length s.spaces
all_spaces s [] = refl
all_spaces s (r ∷ rs) = all_spaces (record_needed s r.body) rs ∙ spaces_needed s r.body

freed_spaces : (s : NameState) (rs : List LogRecord) → length (all_freed s rs).spaces ≡ length s.spaces
freed_spaces s [] = refl
freed_spaces s (r ∷ rs) = freed_spaces (record_freed s r.body) rs ∙ spaces_freed s r.body

all_raised : (s : NameState) (rs : List LogRecord) (q : Name) (k : ℕ) → IsMarked s q → k ≤ (mark_of s q).needed → k + needs_of q rs ≤ top → k + needs_of q rs ≤ (mark_of (all_needed s rs) q).needed
all_raised s [] q k known le few = omega arith
all_raised s (r ∷ rs) q k known le few =
    let rest = all_raised (record_needed s r.body) rs q (k + needs_in q r.body) (marked_on s (record_needed s r.body) q (spaces_needed s r.body) known) (record_raised s r.body q k known le (omega arith)) (omega arith) in
    omega arith

all_lowered : (s : NameState) (rs : List LogRecord) (q : Name) (k : ℕ) → IsMarked s q → k + needs_of q rs ≤ (mark_of s q).needed → k ≤ (mark_of (all_freed s rs) q).needed
all_lowered s [] q k known le = omega arith
all_lowered s (r ∷ rs) q k known le =
    all_lowered (record_freed s r.body) rs q k (marked_on s (record_freed s r.body) q (spaces_freed s r.body) known) (record_lowered s r.body q (k + needs_of q rs) known (omega arith))

-- ---- the names of transactions
tran_spaces : (s : NameState) (o : OpenTran) → length (tran_needed s o).spaces ≡ length s.spaces
tran_spaces s o = all_spaces (all_needed s o.undo) o.undone ∙ all_spaces s o.undo

pub tran_freed_spaces : (s : NameState) (o : OpenTran) → length (tran_freed s o).spaces ≡ length s.spaces
tran_freed_spaces s o = freed_spaces (all_freed s o.undo) o.undone ∙ freed_spaces s o.undo

tran_raised : (s : NameState) (o : OpenTran) (q : Name) (k : ℕ) → IsMarked s q → k ≤ (mark_of s q).needed → k + needs_by q o ≤ top → k + needs_by q o ≤ (mark_of (tran_needed s o) q).needed
tran_raised s o q k known le few =
    let rest = all_raised (all_needed s o.undo) o.undone q (k + needs_of q o.undo) (marked_on s (all_needed s o.undo) q (all_spaces s o.undo) known) (all_raised s o.undo q k known le (omega arith)) (omega arith) in
    omega arith

pub tran_lowered : (s : NameState) (o : OpenTran) (q : Name) (k : ℕ) → IsMarked s q → k + needs_by q o ≤ (mark_of s q).needed → k ≤ (mark_of (tran_freed s o) q).needed
tran_lowered s o q k known le =
    all_lowered (all_freed s o.undo) o.undone q k (marked_on s (all_freed s o.undo) q (freed_spaces s o.undo) known)
    (all_lowered s o.undo q (k + needs_of q o.undone) known (omega arith))

pub trans_spaces : (s : NameState) (os : List OpenTran) → length (trans_needed s os).spaces ≡ length s.spaces
trans_spaces s [] = refl
trans_spaces s (o ∷ os) = trans_spaces (tran_needed s o) os ∙ tran_spaces s o

pub trans_raised : (s : NameState) (os : List OpenTran) (q : Name) (k : ℕ) → IsMarked s q → k ≤ (mark_of s q).needed → k + needs_among q os ≤ top → k + needs_among q os ≤ (mark_of (trans_needed s os) q).needed
trans_raised s [] q k known le few = omega arith
trans_raised s (o ∷ os) q k known le few =
    let rest = trans_raised (tran_needed s o) os q (k + needs_by q o) (marked_on s (tran_needed s o) q (tran_spaces s o) known) (tran_raised s o q k known le (omega arith)) (omega arith) in
    omega arith
