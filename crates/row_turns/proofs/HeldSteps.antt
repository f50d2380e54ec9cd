-- All that is held, behind one record more.
use Rattle.std.proofs.Common.{◌≡◌, ℕ, zero, suc, ◌+◌, ◌-◌, ◌≤◌, Bool, true, false, cond, List, [], ◌∷◌, ◌++◌, length, Option, Some, None, is_some, refl, sym, ap, subst, ◌∙◌, arith, add-one}
use Rattle.std.specs.Prelude.{◌==◌, nat_lt, not, ◌&&◌, ◌||◌, filter}
use Rattle.std.specs.List.{list_any, list_all}
use Rattle.std.specs.Ordering.{nat_cmp, eq_by_cmp, is_eq, ordering_then}
use Rattle.std.specs.declared.cmp.Ordering.{Ordering}
use Rattle.std.specs.declared.cmp.Ordering.TheVariants.{Less, Equal, Greater}
use Rattle.std.specs.Cmp.{nat_cmp_total}
use Rattle.std.specs.FinMap.{FinMap, get, insert, remove, empty, get-insert, get-remove, get-empty}
use Rattle.std.proofs.lemmas.Bool.Decides.{nat_tests}
use Rattle.ds_model.specs.declared.log.LogRecord.{LogRecord}
use Rattle.ds_model.specs.declared.log.RowChange.{RowChange}
use Rattle.ds_model.specs.declared.log.Body.{Body}
use Rattle.ds_model.specs.declared.log.Body.TheVariants as body
use Rattle.ds_model.specs.Rows.{spot_cmp, spot_cmp_total}
use Rattle.ds_model.specs.Logs.{is_commit, has_commit}
use Rattle.sound_disk.specs.Settled.{is_row_change, takes_back, is_settled, is_open}
use Rattle.row_turns.specs.declared.row.RowTurn.{RowTurn}
use Rattle.row_turns.specs.declared.held.Held.{Held}
use Rattle.row_turns.specs.Orders.{is_compensation, has_undone, is_taken_back, is_early, TakesBackOne, BodyMayTurn, MayTurn}
use Rattle.row_turns.specs.States.{RowTurns, Waiting, nothing_held, count_in, may_change, changed_by, taken_by, keys_with, waiting_with, waiting_less, row_changed, rows_less, row_taken_back, tran_committed, turned, is_let}
use Rattle.row_turns.specs.Scans.{is_of, open_in, changes_at, row_left_with, IsRow, IsRowOr, some_if, is_waiting_of, is_fair, same_spot, marks_commits, IsHeld}
use Rattle.row_turns.proofs.Tallies.{and_left, and_right, and_both, or_false, or_left, or_right, not_true, by_bool, clash, not_if, any_push, all_push, count_end, count_same, count_split, all_less, all_two}
use Rattle.sound_disk.specs.Turns.{changes_row}
use Rattle.row_turns.proofs.Behind.{same, itself, turned_round, row_at, row_is_at, commit_kept, taken_kept, undone_kept, IsPlain, settled_kept, open_kept, count_next, one_less, is_its, all_its, row_of, of_row}
use Rattle.row_turns.proofs.Holding.{waiting_count, Waits, Apart, At, waits_open}
use Rattle.row_turns.proofs.RowSteps.{row_plain, Changes, row_changed_is, Commits, commit_now, row_committed, Undoes, taken_now, undone_now, row_elsewhere, row_taken, row_was_changed}

-- ---- maps

both_equal : (o p : Ordering) → is_eq (ordering_then o p) ≡ (is_eq o && is_eq p)
both_equal Less p = refl
both_equal Equal p = refl
both_equal Greater p = refl

same_number : (q k : ℕ) → eq_by_cmp nat_cmp q k ≡ (q == k)
same_number q k = grind (arith, nat_tests)

other_number : (q k : ℕ) → eq_by_cmp nat_cmp q k ≡ (k == q)
other_number q k = grind (arith, nat_tests)

pub spots_are : (table key u j : ℕ) → eq_by_cmp spot_cmp (table, key) (u, j) ≡ ((table == u) && (key == j))
spots_are table key u j =
    both_equal (nat_cmp table u) (nat_cmp key j)
    ∙ ap (λ (b : Bool). b && is_eq (nat_cmp key j)) (same_number table u)
    ∙ ap (λ (b : Bool). (table == u) && b) (same_number key j)

pub got : {X : Type 0} (m : FinMap spot_cmp X) (u j : ℕ) (v : X) (table key : ℕ) → get (insert m (u, j) v) (table, key) ≡ cond ((table == u) && (key == j)) (Some v) (get m (table, key))
got {X} m u j v table key = get-insert spot_cmp_total m (u, j) v (table, key) ∙ ap (λ (b : Bool). cond b (Some v) (get m (table, key))) (spots_are table key u j)

pub gone : {X : Type 0} (m : FinMap spot_cmp X) (u j : ℕ) (table key : ℕ) → get (remove m (u, j)) (table, key) ≡ cond ((table == u) && (key == j)) None (get m (table, key))
gone {X} m u j table key = get-remove spot_cmp_total m (u, j) (table, key) ∙ ap (λ (b : Bool). cond b None (get m (table, key))) (spots_are table key u j)

got_number : {X : Type 0} (m : FinMap nat_cmp X) (u : ℕ) (v : X) (t : ℕ) → get (insert m u v) t ≡ cond (u == t) (Some v) (get m t)
got_number {X} m u v t = get-insert nat_cmp_total m u v t ∙ ap (λ (b : Bool). cond b (Some v) (get m t)) (other_number t u)

gone_number : {X : Type 0} (m : FinMap nat_cmp X) (u t : ℕ) → get (remove m u) t ≡ cond (u == t) None (get m t)
gone_number {X} m u t = get-remove nat_cmp_total m u t ∙ ap (λ (b : Bool). cond b None (get m t)) (other_number t u)

-- ---- counts of those that wait

counted : (n : ℕ) → count_in (some_if n) ≡ n
counted zero = refl
counted (suc n) = refl

some_is : (n : ℕ) → 1 ≤ n → Some n ≡ some_if n
some_is zero h = absurd (omega arith)
some_is (suc n) h = refl

put_when : (w : Waiting) (u t n : ℕ) → get w t ≡ some_if n → (b : Bool) → (u == t) ≡ b → cond b (Some (count_in (get w u) + 1)) (get w t) ≡ some_if (n + cond b 1 0)
put_when w u t n h true e =
    ap (λ (k : ℕ). Some (count_in (get w k) + 1)) (same u t e)
    ∙ ap (λ (o : Option ℕ). Some (count_in o + 1)) h
    ∙ ap (λ (k : ℕ). Some (k + 1)) (counted n)
    ∙ some_is (n + 1) (omega arith)
put_when w u t n h false e = let z : n ≡ n + 0 = omega arith in h ∙ ap some_if z

put_one : (w : Waiting) (u t n : ℕ) → get w t ≡ some_if n → get (waiting_with w u) t ≡ some_if (n + cond (u == t) 1 0)
put_one w u t n h = got_number w u (count_in (get w u) + 1) t ∙ put_when w u t n h (u == t) refl

less_more : (n : ℕ) → nat_lt 1 n ≡ true → 1 ≤ n - 1
less_more n h = grind (arith, nat_tests)

less_none : (n : ℕ) → nat_lt 1 n ≡ false → n - 1 ≡ 0
less_none n h = grind (arith, nat_tests)

less_when : (w : Waiting) (u t n : ℕ) (b d : Bool) → nat_lt 1 n ≡ b → (u == t) ≡ d → get (cond b (insert (remove w u) u (n - 1)) (remove w u)) t ≡ cond d (some_if (n - 1)) (get w t)
less_when w u t n true true e f = got_number (remove w u) u (n - 1) t ∙ ap (λ (x : Bool). cond x (Some (n - 1)) (get (remove w u) t)) f ∙ some_is (n - 1) (less_more n e)
less_when w u t n true false e f =
    got_number (remove w u) u (n - 1) t ∙ ap (λ (x : Bool). cond x (Some (n - 1)) (get (remove w u) t)) f
    ∙ gone_number w u t ∙ ap (λ (x : Bool). cond x None (get w t)) f
less_when w u t n false true e f = gone_number w u t ∙ ap (λ (x : Bool). cond x None (get w t)) f ∙ sym (ap some_if (less_none n e))
less_when w u t n false false e f = gone_number w u t ∙ ap (λ (x : Bool). cond x None (get w t)) f

less_one : (w : Waiting) (u t n : ℕ) → get (waiting_less w u n) t ≡ cond (u == t) (some_if (n - 1)) (get w t)
less_one w u t n = less_when w u t n (nat_lt 1 n) (u == t) refl refl

-- ---- tests

pub and_no : (a : Bool) → (a && false) ≡ false
and_no true = refl
and_no false = refl

pub and_yes : (a : Bool) → (a && true) ≡ a
and_yes true = refl
and_yes false = refl

swap_and : (a b : Bool) → (a && b) ≡ (b && a)
swap_and true true = refl
swap_and true false = refl
swap_and false true = refl
swap_and false false = refl

neither : (a b : Bool) → a ≡ false → b ≡ false → (a || b) ≡ false
neither true b h k = absurd (clash true refl h)
neither false b h k = k

second_if : (a b : Bool) → (a || b) ≡ true → a ≡ false → b ≡ true
second_if true b h e = absurd (clash true refl e)
second_if false b h e = h

not_early : (row co : Bool) → not (row && co) ≡ true → row ≡ true → co ≡ false
not_early true co h e = not_true co h
not_early false co h e = absurd (clash false e refl)

both_open : (row co tk : Bool) → row ≡ true → co ≡ false → tk ≡ false → (row && not (co || tk)) ≡ true
both_open true false false a b c = refl
both_open true false true a b c = absurd (clash true refl c)
both_open true true tk a b c = absurd (clash true refl b)
both_open false co tk a b c = absurd (clash false a refl)

its_waiting : (fo tr op own t : Bool) → fo ≡ own → tr ≡ t → op ≡ true → (fo && (tr && op)) ≡ (own && t)
its_waiting fo tr true own t a b c = ap (λ (x : Bool). x && (tr && true)) a ∙ ap (λ (x : Bool). own && x) (and_yes tr ∙ b)
its_waiting fo tr false own t a b c = absurd (clash false c refl)

its_opening : (fo op own : Bool) → fo ≡ own → op ≡ true → (fo && op) ≡ own
its_opening fo true own a c = and_yes fo ∙ a
its_opening fo false own a c = absurd (clash false c refl)

nothing_more : (n : ℕ) (b : Bool) → b ≡ false → n + cond b 1 0 ≡ n
nothing_more n true h = absurd (clash true refl h)
nothing_more n false h = omega arith

fair_with : (row tk un : Bool) → tk ≡ false → (not row || not tk || un) ≡ true
fair_with true true un h = absurd (clash true refl h)
fair_with true false un h = refl
fair_with false tk un h = refl

no_row_fair : (row tk un : Bool) → row ≡ false → (not row || not tk || un) ≡ true
no_row_fair true tk un h = absurd (clash true refl h)
no_row_fair false tk un h = refl

-- a row of these tables isn't that of another
pub apart_rows : (has : ℕ → Bool) (table u : ℕ) (b c : Bool) → (table == u) ≡ b → has table ≡ true → has u ≡ false → (b && c) ≡ false
apart_rows has table u true c e own other = absurd (clash (has u) (ap has (sym (same table u e)) ∙ own) other)
apart_rows has table u false c e own other = refl

pub apart_others : (has : ℕ → Bool) (table u : ℕ) (b c : Bool) → (table == u) ≡ b → has table ≡ false → has u ≡ true → (b && c) ≡ false
apart_others has table u true c e own other = absurd (clash (has table) (ap has (same table u e) ∙ other) own)
apart_others has table u false c e own other = refl

-- ---- records that neither commit nor take anything back

waiting_plain : (has : ℕ → Bool) (t : ℕ) (rs : List LogRecord) (r : LogRecord) → IsPlain r.body → waiting_count has t (rs ++ r ∷ []) ≡ waiting_count has t rs + cond (is_waiting_of has t (rs ++ r ∷ []) r) 1 0
waiting_plain has t rs r plain =
    count_next (λ (l : List LogRecord) (s : LogRecord). is_waiting_of has t l s) rs r (λ s. ap (λ (b : Bool). is_of has s.body && ((s.tran == t) && b)) (open_kept rs r s plain))

open_plain : (has : ℕ → Bool) (rs : List LogRecord) (r : LogRecord) → IsPlain r.body → open_in has (rs ++ r ∷ []) ≡ open_in has rs + cond (is_of has r.body && is_open (rs ++ r ∷ []) r) 1 0
open_plain has rs r plain =
    count_next (λ (l : List LogRecord) (s : LogRecord). is_of has s.body && is_open l s) rs r (λ s. ap (λ (b : Bool). is_of has s.body && b) (open_kept rs r s plain))

fair_kept : (rs : List LogRecord) (r : LogRecord) → ((lrsn : ℕ) → takes_back lrsn r.body ≡ false) → is_compensation r.body ≡ false → list_all (is_fair rs) rs ≡ true → is_fair (rs ++ r ∷ []) r ≡ true → list_all (is_fair (rs ++ r ∷ [])) (rs ++ r ∷ []) ≡ true
fair_kept rs r takes comp before here =
    all_push (is_fair (rs ++ r ∷ [])) rs r
    ∙ and_both (list_all (is_fair (rs ++ r ∷ [])) rs) (is_fair (rs ++ r ∷ []) r)
    (all_less (is_fair rs) (is_fair (rs ++ r ∷ [])) rs before (λ s f.
    ap (λ (b : Bool). not (is_row_change s.body) || not b || has_undone (rs ++ r ∷ []) s.tran) (taken_kept rs r s.lrsn (takes s.lrsn))
    ∙ ap (λ (b : Bool). not (is_row_change s.body) || not (is_taken_back rs s.lrsn) || b) (undone_kept rs r s.tran comp)
    ∙ f))
    here

commits_kept : (early : Bool) (rs : List LogRecord) (r : LogRecord) (t : ℕ) (o : Option Bool) → is_commit r.body ≡ false → is_some o ≡ marks_commits early rs t → is_some o ≡ marks_commits early (rs ++ r ∷ []) t
commits_kept early rs r t o plain h = h ∙ sym (ap (λ (b : Bool). not early && b) (commit_kept rs r t plain))

not_of : (a b : Bool) → a ≡ false → (a && b) ≡ false
not_of true b h = absurd (clash true refl h)
not_of false b h = refl

-- a record that changes no row of these tables
pub held_off : (has : ℕ → Bool) (early : Bool) (rs : List LogRecord) (r : LogRecord) (it : Held) → IsPlain r.body → is_of has r.body ≡ false → ((table key : ℕ) → has table ≡ true → At table key r ≡ false) → is_fair (rs ++ r ∷ []) r ≡ true
    → IsHeld has early rs it → IsHeld has early (rs ++ r ∷ []) it
held_off has early rs r it plain of off fair h = record {
  waiting_is = λ t. h.waiting_is t ∙ ap some_if (sym (waiting_plain has t rs r plain ∙ nothing_more (waiting_count has t rs) (is_waiting_of has t (rs ++ r ∷ []) r) (not_of (is_of has r.body) _ of)));
  unsettled_is = h.unsettled_is ∙ sym (open_plain has rs r plain ∙ nothing_more (open_in has rs) (is_of has r.body && is_open (rs ++ r ∷ []) r) (not_of (is_of has r.body) _ of));
  committed_is = λ t. commits_kept early rs r t (get it.committed t) plain.commit (h.committed_is t);
  rows_are = λ table key own. row_plain table key rs r (get it.rows (table, key)) plain (off table key own) (h.rows_are table key own);
  others_none = h.others_none;
  keys_are = h.keys_are;
  apart = λ t u. commit_kept rs r t plain.commit ∙ h.apart t (sym (undone_kept rs r t plain.comp) ∙ u);
  fair = fair_kept rs r plain.takes plain.comp h.fair fair;
}

-- ---- a change of a row

early_done : (early done : Bool) (rs : List LogRecord) (r : LogRecord) → done ≡ marks_commits early rs r.tran → (early ≡ true → is_early rs r ≡ true) → is_row_change r.body ≡ true → done ≡ has_commit rs r.tran
early_done true done rs r h e row = h ∙ sym (not_early (is_row_change r.body) (has_commit rs r.tran) (e refl) row)
early_done false done rs r h e row = h

row_change : (c : RowChange) (r : LogRecord) → r.body ≡ body.RowChange c → is_row_change r.body ≡ true
row_change c r e = ap is_row_change e

plain_change : (c : RowChange) (r : LogRecord) → r.body ≡ body.RowChange c → IsPlain r.body
plain_change c r e = record { commit = ap is_commit e; takes = λ lrsn. ap (takes_back lrsn) e; comp = ap is_compensation e }

open_is : (row co tk done : Bool) → row ≡ true → tk ≡ false → done ≡ co → (row && not (co || tk)) ≡ not done
open_is true co false done a b c = ap not (or_false co ∙ sym c)
open_is true co true done a b c = absurd (clash true refl b)
open_is false co tk done a b c = absurd (clash false a refl)

its_open : (rs : List LogRecord) (r : LogRecord) (c : RowChange) (done : Bool) → r.body ≡ body.RowChange c → is_taken_back rs r.lrsn ≡ false → done ≡ has_commit rs r.tran → is_open (rs ++ r ∷ []) r ≡ not done
its_open rs r c done e fresh is =
    open_kept rs r r (plain_change c r e) ∙ open_is (is_row_change r.body) (has_commit rs r.tran) (is_taken_back rs r.lrsn) done (row_change c r e) fresh is

joined_of : (a b c d : Bool) → a ≡ true → c ≡ d → (a && (b && c)) ≡ (b && d)
joined_of true b c d h e = ap (λ (x : Bool). b && x) e
joined_of false b c d h e = absurd (clash false h refl)

taken_and : (a c d : Bool) → a ≡ true → c ≡ d → (a && c) ≡ d
taken_and true c d h e = e
taken_and false c d h e = absurd (clash false h refl)

wait_when : (w : Waiting) (u t n m : ℕ) (done : Bool) → get w t ≡ some_if n → m ≡ n + cond ((u == t) && not done) 1 0 → get (cond done w (waiting_with w u)) t ≡ some_if m
wait_when w u t n m true h e = h ∙ ap some_if (sym (e ∙ nothing_more n ((u == t) && false) (and_no (u == t))))
wait_when w u t n m false h e = put_one w u t n h ∙ ap some_if (sym (e ∙ ap (λ (b : Bool). n + cond b 1 0) (and_yes (u == t))))

open_when : (a b m : ℕ) (done : Bool) → a ≡ b → m ≡ b + cond (not done) 1 0 → cond done a (a + 1) ≡ m
open_when a b m true h e = omega (arith, h, e)
open_when a b m false h e = omega (arith, h, e)

kept_and : (k m x b : Bool) → m ≡ true → cond (k && m) x b ≡ cond k x b
kept_and true true x b h = refl
kept_and false true x b h = refl
kept_and k false x b h = absurd (clash false h refl)

is_change : (table key : ℕ) (rs : List LogRecord) (r : LogRecord) (c : RowChange) → r.body ≡ body.RowChange c → is_taken_back rs r.lrsn ≡ false → ((table == c.table) && (key == c.key)) ≡ true → Changes table key rs r (is_some c.after)
is_change table key rs r c e fresh here = record {
  plain = plain_change c r e;
  at = ap (changes_at table key) e ∙ here;
  fresh = fresh;
  leaves = λ keeps b. ap (λ (d : Body). row_left_with table key keeps b r.tran d) e ∙ kept_and (keeps r.tran) ((table == c.table) && (key == c.key)) (is_some c.after) b here;
}

both_itself : (table key : ℕ) → ((table == table) && (key == key)) ≡ true
both_itself table key = and_both (table == table) (key == key) (itself table) (itself key)

-- what is known of a row is known of it by its other name
renamed : (table key u j : ℕ) (rs : List LogRecord) (h : RowTurn) → ((table == u) && (key == j)) ≡ true → IsRow u j rs h → IsRow table key rs h
renamed table key u j rs h e row =
    subst (λ (t : ℕ). IsRow t key rs h) (sym (same table u (and_left (table == u) (key == j) e))) (subst (λ (k : ℕ). IsRow u k rs h) (sym (same key j (and_right (table == u) (key == j) e))) row)

row_when : (table key u j : ℕ) (rs : List LogRecord) (v : RowTurn) (o : Option RowTurn) → IsRow u j rs v → (((table == u) && (key == j)) ≡ false → IsRowOr table key rs o) → (b : Bool) → ((table == u) && (key == j)) ≡ b → IsRowOr table key rs (cond b (Some v) o)
row_when table key u j rs v o here other true e = renamed table key u j rs v e here
row_when table key u j rs v o here other false e = other e

pub got_same : {X : Type 0} (m : FinMap spot_cmp X) (table key u j : ℕ) → ((table == u) && (key == j)) ≡ true → get m (u, j) ≡ get m (table, key)
got_same {X} m table key u j e =
    ap (λ (t : ℕ). get m (t, j)) (sym (same table u (and_left (table == u) (key == j) e))) ∙ ap (λ (k : ℕ). get m (table, k)) (sym (same key j (and_right (table == u) (key == j) e)))

keys_when : (rows : RowTurns) (keys : List (ℕ × ℕ)) (table key u j : ℕ) (v : RowTurn) → (is_some (get rows (table, key)) ≡ true → list_any (same_spot (table, key)) keys ≡ true) → (o : Option RowTurn) → get rows (u, j) ≡ o
    → (b : Bool) → ((table == u) && (key == j)) ≡ b → is_some (cond b (Some v) (get rows (table, key))) ≡ true → list_any (same_spot (table, key)) (keys_with o keys (u, j)) ≡ true
keys_when rows keys table key u j v known None is true e h = any_push (same_spot (table, key)) keys (u, j) ∙ or_right (list_any (same_spot (table, key)) keys) ((table == u) && (key == j)) e
keys_when rows keys table key u j v known None is false e h = any_push (same_spot (table, key)) keys (u, j) ∙ or_left (list_any (same_spot (table, key)) keys) ((table == u) && (key == j)) (known h)
keys_when rows keys table key u j v known (Some g) is true e h = known (ap is_some (sym (got_same rows table key u j e) ∙ is))
keys_when rows keys table key u j v known (Some g) is false e h = known h

pub held_change : (has : ℕ → Bool) (early : Bool) (rs : List LogRecord) (r : LogRecord) (c : RowChange) (it : Held) → r.body ≡ body.RowChange c → has c.table ≡ true → is_taken_back rs r.lrsn ≡ false → (early ≡ true → is_early rs r ≡ true)
    → may_change it.waiting (get it.rows (c.table, c.key)) r.tran ≡ true → IsHeld has early rs it → IsHeld has early (rs ++ r ∷ []) (row_changed it r.tran c)
held_change has early rs r c it e own fresh early_is may h =
    let plain : IsPlain r.body = plain_change c r e in
    let done : Bool = is_some (get it.committed r.tran) in
    let done_is : is_some (get it.committed r.tran) ≡ has_commit rs r.tran = early_done early (is_some (get it.committed r.tran)) rs r (h.committed_is r.tran) early_is (row_change c r e) in
    let of : is_of has r.body ≡ true = ap (is_of has) e ∙ own in
    let opens : is_open (rs ++ r ∷ []) r ≡ not (is_some (get it.committed r.tran)) = its_open rs r c (is_some (get it.committed r.tran)) e fresh done_is in
    let v : RowTurn = changed_by it.waiting (get it.rows (c.table, c.key)) r.tran (is_some c.after) in
    let row : IsRow c.table c.key (rs ++ r ∷ []) v =
    row_changed_is has c.table c.key rs r (is_some c.after) it.waiting (get it.rows (c.table, c.key)) own h.waiting_is h.apart (is_change c.table c.key rs r c e fresh (both_itself c.table c.key)) (h.rows_are c.table c.key own) may in record {
      waiting_is = λ t.
          wait_when it.waiting r.tran t (waiting_count has t rs) (waiting_count has t (rs ++ r ∷ [])) (is_some (get it.committed r.tran)) (h.waiting_is t)
          (waiting_plain has t rs r plain ∙ ap (λ (b : Bool). waiting_count has t rs + cond b 1 0) (joined_of (is_of has r.body) (r.tran == t) (is_open (rs ++ r ∷ []) r) (not (is_some (get it.committed r.tran))) of opens));
      unsettled_is =
          open_when it.unsettled (open_in has rs) (open_in has (rs ++ r ∷ [])) (is_some (get it.committed r.tran)) h.unsettled_is
          (open_plain has rs r plain ∙ ap (λ (b : Bool). open_in has rs + cond b 1 0) (taken_and (is_of has r.body) (is_open (rs ++ r ∷ []) r) (not (is_some (get it.committed r.tran))) of opens));
      committed_is = λ t. commits_kept early rs r t (get it.committed t) plain.commit (h.committed_is t);
      rows_are = λ table key its.
          subst (λ (o : Option RowTurn). IsRowOr table key (rs ++ r ∷ []) o) (sym (got it.rows c.table c.key v table key))
          (row_when table key c.table c.key (rs ++ r ∷ []) v (get it.rows (table, key)) row
          (λ other. row_plain table key rs r (get it.rows (table, key)) plain (ap (changes_at table key) e ∙ other) (h.rows_are table key its))
          ((table == c.table) && (key == c.key)) refl);
      others_none = λ table key other.
          got it.rows c.table c.key v table key
          ∙ ap (λ (b : Bool). cond b (Some v) (get it.rows (table, key))) (apart_others has table c.table (table == c.table) (key == c.key) refl other own)
          ∙ h.others_none table key other;
      keys_are = λ table key some.
          keys_when it.rows it.keys table key c.table c.key v (h.keys_are table key) (get it.rows (c.table, c.key)) refl ((table == c.table) && (key == c.key)) refl (ap is_some (sym (got it.rows c.table c.key v table key)) ∙ some);
      apart = λ t u. commit_kept rs r t plain.commit ∙ h.apart t (sym (undone_kept rs r t plain.comp) ∙ u);
      fair = fair_kept rs r plain.takes plain.comp h.fair (fair_with (is_row_change r.body) (is_taken_back (rs ++ r ∷ []) r.lrsn) (has_undone (rs ++ r ∷ []) r.tran) (taken_kept rs r r.lrsn (plain.takes r.lrsn) ∙ fresh));
    }

-- ---- a Commit

commits : (rs : List LogRecord) (r : LogRecord) → r.body ≡ body.Commit → has_undone rs r.tran ≡ false → Commits rs r
commits rs r e none = record {
  is = ap is_commit e;
  takes = λ lrsn. ap (takes_back lrsn) e;
  comp = ap is_compensation e;
  row = ap is_row_change e;
  off = λ table key. ap (changes_at table key) e;
  none_undone = none;
}

zero_unless : (n : ℕ) (b : Bool) → (1 ≤ n → b ≡ false) → b ≡ true → n ≡ 0
zero_unless zero b h e = refl
zero_unless (suc n) b h e = absurd (clash b e (h (omega arith)))

wait_same : (fo tr row co d tk l : Bool) → l ≡ tk → (tr ≡ true → d ≡ co) → (fo && (tr && (row && not (d || l)))) ≡ (fo && (tr && (row && not (co || tk))))
wait_same true true row co d tk l h k = ap (λ (x : Bool). row && not (x || l)) (k refl) ∙ ap (λ (x : Bool). row && not (co || x)) h
wait_same true false row co d tk l h k = refl
wait_same false tr row co d tk l h k = refl

commit_waits : (has : ℕ → Bool) (t : ℕ) (rs : List LogRecord) (r : LogRecord) → (c : Commits rs r) → is_of has r.body ≡ false → (b : Bool) → (r.tran == t) ≡ b → waiting_count has t (rs ++ r ∷ []) ≡ cond b 0 (waiting_count has t rs)
commit_waits has t rs r c of true e =
    zero_unless (waiting_count has t (rs ++ r ∷ [])) (has_commit (rs ++ r ∷ []) t) (waits_open has (rs ++ r ∷ []) t) (commit_now rs r t c ∙ or_right (has_commit rs t) (r.tran == t) e)
commit_waits has t rs r c of false e =
    count_end (is_waiting_of has t (rs ++ r ∷ [])) rs r
    ∙ nothing_more (length (filter (is_waiting_of has t (rs ++ r ∷ [])) rs)) (is_waiting_of has t (rs ++ r ∷ []) r) (not_of (is_of has r.body) _ of)
    ∙ count_same (is_waiting_of has t (rs ++ r ∷ [])) (is_waiting_of has t rs)
    (λ s. wait_same (is_of has s.body) (s.tran == t) (is_row_change s.body) (has_commit rs s.tran) (has_commit (rs ++ r ∷ []) s.tran) (is_taken_back rs s.lrsn) (is_taken_back (rs ++ r ∷ []) s.lrsn)
    (taken_kept rs r s.lrsn (c.takes s.lrsn))
    (λ its. commit_now rs r s.tran c ∙ ap (λ (x : Bool). has_commit rs s.tran || x) (ap (λ (n : ℕ). r.tran == n) (same s.tran t its) ∙ e) ∙ or_false (has_commit rs s.tran))) rs

gone_when : (w : Waiting) (u t n : ℕ) (b : Bool) → get w t ≡ some_if n → cond b None (get w t) ≡ some_if (cond b 0 n)
gone_when w u t n true h = refl
gone_when w u t n false h = h

its_part : (fo op a b : Bool) → a ≡ b → ((fo && op) && a) ≡ (fo && (b && op))
its_part true op a b h = swap_and op a ∙ ap (λ (x : Bool). x && op) h
its_part false op a b h = refl

rest_part : (fo row co m tk : Bool) → (fo && (row && not ((co || m) || tk))) ≡ ((fo && (row && not (co || tk))) && not m)
rest_part true true true m tk = refl
rest_part true true false true tk = sym (and_no (not tk))
rest_part true true false false tk = sym (and_yes (not tk))
rest_part true false co m tk = refl
rest_part false row co m tk = refl

open_rest : (has : ℕ → Bool) (rs : List LogRecord) (r : LogRecord) → (c : Commits rs r) → is_of has r.body ≡ false → open_in has rs ≡ waiting_count has r.tran rs + open_in has (rs ++ r ∷ [])
open_rest has rs r c of =
    let O : LogRecord → Bool = λ s. is_of has s.body && is_open rs s in
    let first : length (filter (λ (s : LogRecord). (is_of has s.body && is_open rs s) && (r.tran == s.tran)) rs) ≡ waiting_count has r.tran rs =
    count_same (λ (s : LogRecord). (is_of has s.body && is_open rs s) && (r.tran == s.tran)) (is_waiting_of has r.tran rs) (λ s. its_part (is_of has s.body) (is_open rs s) (r.tran == s.tran) (s.tran == r.tran) (turned_round r.tran s.tran)) rs in
    let second : length (filter (λ (s : LogRecord). (is_of has s.body && is_open rs s) && not (r.tran == s.tran)) rs) ≡ open_in has (rs ++ r ∷ []) =
    sym (count_end (λ (s : LogRecord). is_of has s.body && is_open (rs ++ r ∷ []) s) rs r
    ∙ nothing_more (length (filter (λ (s : LogRecord). is_of has s.body && is_open (rs ++ r ∷ []) s) rs)) (is_of has r.body && is_open (rs ++ r ∷ []) r) (not_of (is_of has r.body) _ of)
    ∙ count_same (λ (s : LogRecord). is_of has s.body && is_open (rs ++ r ∷ []) s) (λ (s : LogRecord). (is_of has s.body && is_open rs s) && not (r.tran == s.tran))
    (λ s.
    ap (λ (x : Bool). is_of has s.body && (is_row_change s.body && not (x || is_taken_back (rs ++ r ∷ []) s.lrsn))) (commit_now rs r s.tran c)
    ∙ ap (λ (x : Bool). is_of has s.body && (is_row_change s.body && not ((has_commit rs s.tran || (r.tran == s.tran)) || x))) (taken_kept rs r s.lrsn (c.takes s.lrsn))
    ∙ rest_part (is_of has s.body) (is_row_change s.body) (has_commit rs s.tran) (r.tran == s.tran) (is_taken_back rs s.lrsn)) rs) in
    count_split O (λ (s : LogRecord). r.tran == s.tran) rs
    ∙ ap (λ (n : ℕ). n + length (filter (λ (s : LogRecord). (is_of has s.body && is_open rs s) && not (r.tran == s.tran)) rs)) first
    ∙ ap (λ (n : ℕ). waiting_count has r.tran rs + n) second

less_open : (a b n m k : ℕ) → a ≡ b → b ≡ n + m → k ≡ n → a - k ≡ m
less_open a b n m k p q h = omega (arith, p, q, h)

put_some : (b : Bool) (o : Option Bool) → is_some (cond b (Some true) o) ≡ (is_some o || b)
put_some true o = sym (or_right (is_some o) true refl)
put_some false o = sym (or_false (is_some o))

commits_now : (early : Bool) (rs : List LogRecord) (r : LogRecord) (m : FinMap nat_cmp Bool) (t : ℕ) → (c : Commits rs r) → is_some (get m t) ≡ marks_commits early rs t → is_some (get (cond early m (insert m r.tran true)) t) ≡ marks_commits early (rs ++ r ∷ []) t
commits_now true rs r m t c h = h
commits_now false rs r m t c h =
    ap is_some (got_number m r.tran true t) ∙ put_some (r.tran == t) (get m t) ∙ ap (λ (b : Bool). b || (r.tran == t)) h ∙ sym (commit_now rs r t c)

pub held_commit : (has : ℕ → Bool) (early : Bool) (rs : List LogRecord) (r : LogRecord) (it : Held) → r.body ≡ body.Commit → has_undone rs r.tran ≡ false → IsHeld has early rs it → IsHeld has early (rs ++ r ∷ []) (tran_committed early it r.tran)
held_commit has early rs r it e none h =
    let c : Commits rs r = commits rs r e none in
    let of : is_of has r.body ≡ false = ap (is_of has) e in record {
      waiting_is = λ t.
          gone_number it.waiting r.tran t
          ∙ gone_when it.waiting r.tran t (waiting_count has t rs) (r.tran == t) (h.waiting_is t)
          ∙ ap some_if (sym (commit_waits has t rs r c of (r.tran == t) refl));
      unsettled_is = less_open it.unsettled (open_in has rs) (waiting_count has r.tran rs) (open_in has (rs ++ r ∷ [])) (count_in (get it.waiting r.tran)) h.unsettled_is (open_rest has rs r c of)
          (ap count_in (h.waiting_is r.tran) ∙ counted (waiting_count has r.tran rs));
      committed_is = λ t. commits_now early rs r it.committed t c (h.committed_is t);
      rows_are = λ table key own. row_committed table key rs r (get it.rows (table, key)) c h.fair (h.rows_are table key own);
      others_none = h.others_none;
      keys_are = h.keys_are;
      apart = λ t u.
          let before : has_undone rs t ≡ true = sym (undone_kept rs r t c.comp) ∙ u in
          commit_now rs r t c
          ∙ neither (has_commit rs t) (r.tran == t) (h.apart t before) (not_if (r.tran == t) (λ its. clash (has_undone rs t) before (ap (λ (n : ℕ). has_undone rs n) (sym (same r.tran t its)) ∙ none)));
      fair = fair_kept rs r c.takes c.comp h.fair (no_row_fair (is_row_change r.body) (is_taken_back (rs ++ r ∷ []) r.lrsn) (has_undone (rs ++ r ∷ []) r.tran) c.row);
    }

-- ---- a compensation

undoes : (rs : List LogRecord) (r : LogRecord) (c : RowChange) (undone : ℕ) → r.body ≡ body.Compensation c undone → TakesBackOne rs r.tran c undone → Undoes rs r c undone
undoes rs r c undone e one = record {
  takes = λ lrsn. ap (takes_back lrsn) e;
  commit = ap is_commit e;
  comp = ap is_compensation e;
  row = ap is_row_change e;
  off = λ table key. ap (changes_at table key) e;
  one = one;
}

wait_less : (fo tr row co tk d : Bool) → (fo && (tr && (row && not (co || (tk || d))))) ≡ ((fo && (tr && (row && not (co || tk)))) && not d)
wait_less true true true true tk d = refl
wait_less true true true false true d = refl
wait_less true true true false false d = refl
wait_less true true false co tk d = refl
wait_less true false row co tk d = refl
wait_less false tr row co tk d = refl

open_less : (fo row co tk d : Bool) → (fo && (row && not (co || (tk || d)))) ≡ ((fo && (row && not (co || tk))) && not d)
open_less true true true tk d = refl
open_less true true false true d = refl
open_less true true false false d = refl
open_less true false co tk d = refl
open_less false row co tk d = refl

row_is_change : (c : RowChange) (b : Body) → changes_row c b ≡ true → is_row_change b ≡ true
row_is_change c b h = row_at c.table c.key b (sym (row_is_at c b) ∙ h)

open_it : (rs : List LogRecord) (r : LogRecord) (c : RowChange) (undone : ℕ) → (u : Undoes rs r c undone) → is_open rs u.one.it ≡ true
open_it rs r c undone u =
    both_open (is_row_change u.one.it.body) (has_commit rs u.one.it.tran) (is_taken_back rs u.one.it.lrsn) (row_is_change c u.one.it.body u.one.row_is)
    (ap (λ (n : ℕ). has_commit rs n) u.one.tran_is ∙ u.one.uncommitted) (ap (λ (n : ℕ). is_taken_back rs n) u.one.number_is ∙ u.one.untaken)

waits_now : (has : ℕ → Bool) (t : ℕ) (rs : List LogRecord) (r : LogRecord) (c : RowChange) (undone : ℕ) → Undoes rs r c undone → is_of has r.body ≡ false → waiting_count has t rs ≡ cond (has c.table && (r.tran == t)) 1 0 + waiting_count has t (rs ++ r ∷ [])
waits_now has t rs r c undone u of =
    one_less rs r.tran c undone u.one (is_waiting_of has t rs) (λ s h. row_of has s.body (and_left (is_of has s.body) _ h))
    ∙ ap (λ (b : Bool). cond b 1 0 + length (filter (λ (s : LogRecord). is_waiting_of has t rs s && not (undone == s.lrsn)) rs))
    (its_waiting (is_of has u.one.it.body) (u.one.it.tran == t) (is_open rs u.one.it) (has c.table) (r.tran == t) (of_row has c u.one.it.body u.one.row_is) (ap (λ (n : ℕ). n == t) u.one.tran_is) (open_it rs r c undone u))
    ∙ ap (λ (n : ℕ). cond (has c.table && (r.tran == t)) 1 0 + n)
    (sym (count_end (is_waiting_of has t (rs ++ r ∷ [])) rs r
    ∙ nothing_more (length (filter (is_waiting_of has t (rs ++ r ∷ [])) rs)) (is_waiting_of has t (rs ++ r ∷ []) r) (not_of (is_of has r.body) _ of)
    ∙ count_same (is_waiting_of has t (rs ++ r ∷ [])) (λ (s : LogRecord). is_waiting_of has t rs s && not (undone == s.lrsn))
    (λ s.
    ap (λ (x : Bool). is_of has s.body && ((s.tran == t) && (is_row_change s.body && not (x || is_taken_back (rs ++ r ∷ []) s.lrsn)))) (commit_kept rs r s.tran u.commit)
    ∙ ap (λ (x : Bool). is_of has s.body && ((s.tran == t) && (is_row_change s.body && not (has_commit rs s.tran || x)))) (taken_now rs r c undone s.lrsn u)
    ∙ wait_less (is_of has s.body) (s.tran == t) (is_row_change s.body) (has_commit rs s.tran) (is_taken_back rs s.lrsn) (undone == s.lrsn)) rs))

open_now : (has : ℕ → Bool) (rs : List LogRecord) (r : LogRecord) (c : RowChange) (undone : ℕ) → Undoes rs r c undone → is_of has r.body ≡ false → open_in has rs ≡ cond (has c.table) 1 0 + open_in has (rs ++ r ∷ [])
open_now has rs r c undone u of =
    one_less rs r.tran c undone u.one (λ (s : LogRecord). is_of has s.body && is_open rs s) (λ s h. row_of has s.body (and_left (is_of has s.body) _ h))
    ∙ ap (λ (b : Bool). cond b 1 0 + length (filter (λ (s : LogRecord). (is_of has s.body && is_open rs s) && not (undone == s.lrsn)) rs))
    (its_opening (is_of has u.one.it.body) (is_open rs u.one.it) (has c.table) (of_row has c u.one.it.body u.one.row_is) (open_it rs r c undone u))
    ∙ ap (λ (n : ℕ). cond (has c.table) 1 0 + n)
    (sym (count_end (λ (s : LogRecord). is_of has s.body && is_open (rs ++ r ∷ []) s) rs r
    ∙ nothing_more (length (filter (λ (s : LogRecord). is_of has s.body && is_open (rs ++ r ∷ []) s) rs)) (is_of has r.body && is_open (rs ++ r ∷ []) r) (not_of (is_of has r.body) _ of)
    ∙ count_same (λ (s : LogRecord). is_of has s.body && is_open (rs ++ r ∷ []) s) (λ (s : LogRecord). (is_of has s.body && is_open rs s) && not (undone == s.lrsn))
    (λ s.
    ap (λ (x : Bool). is_of has s.body && (is_row_change s.body && not (x || is_taken_back (rs ++ r ∷ []) s.lrsn))) (commit_kept rs r s.tran u.commit)
    ∙ ap (λ (x : Bool). is_of has s.body && (is_row_change s.body && not (has_commit rs s.tran || x))) (taken_now rs r c undone s.lrsn u)
    ∙ open_less (is_of has s.body) (is_row_change s.body) (has_commit rs s.tran) (is_taken_back rs s.lrsn) (undone == s.lrsn)) rs))

fair_now : (row tk d un m : Bool) → (not row || not tk || un) ≡ true → (not (row && d) || m) ≡ true → (not row || not (tk || d) || (un || m)) ≡ true
fair_now true true d un m h k = or_left un m h
fair_now true false true un m h k = or_right un m k
fair_now true false false un m h k = refl
fair_now false tk d un m h k = refl

fair_undone : (rs : List LogRecord) (r : LogRecord) (c : RowChange) (undone : ℕ) → Undoes rs r c undone → list_all (is_fair rs) rs ≡ true → list_all (is_fair (rs ++ r ∷ [])) (rs ++ r ∷ []) ≡ true
fair_undone rs r c undone u before =
    all_push (is_fair (rs ++ r ∷ [])) rs r
    ∙ and_both (list_all (is_fair (rs ++ r ∷ [])) rs) (is_fair (rs ++ r ∷ []) r)
    (all_less (λ (s : LogRecord). is_fair rs s && is_its undone r.tran s) (is_fair (rs ++ r ∷ [])) rs (all_two (is_fair rs) (is_its undone r.tran) rs before (all_its rs r.tran c undone u.one)) (λ s both.
    ap (λ (x : Bool). not (is_row_change s.body) || not x || has_undone (rs ++ r ∷ []) s.tran) (taken_now rs r c undone s.lrsn u)
    ∙ ap (λ (x : Bool). not (is_row_change s.body) || not (is_taken_back rs s.lrsn || (undone == s.lrsn)) || x) (undone_now rs r c undone s.tran u)
    ∙ fair_now (is_row_change s.body) (is_taken_back rs s.lrsn) (undone == s.lrsn) (has_undone rs s.tran) (r.tran == s.tran) (and_left (is_fair rs s) (is_its undone r.tran s) both) (and_right (is_fair rs s) (is_its undone r.tran s) both)))
    (no_row_fair (is_row_change r.body) (is_taken_back (rs ++ r ∷ []) r.lrsn) (has_undone (rs ++ r ∷ []) r.tran) u.row)

apart_undone : (rs : List LogRecord) (r : LogRecord) (c : RowChange) (undone : ℕ) → Undoes rs r c undone → Apart rs → Apart (rs ++ r ∷ [])
apart_undone rs r c undone u apart t h =
    commit_kept rs r t u.commit
    ∙ by_bool (has_undone rs t) (has_commit rs t ≡ false) (λ e. apart t e) (λ e.
    ap (λ (n : ℕ). has_commit rs n) (sym (same r.tran t (second_if (has_undone rs t) (r.tran == t) (sym (undone_now rs r c undone t u) ∙ h) e))) ∙ u.one.uncommitted)

none_first : (n m : ℕ) → n ≡ 0 + m → n ≡ m
none_first n m h = omega (arith, h)

-- of another table
pub held_elsewhere : (has : ℕ → Bool) (early : Bool) (rs : List LogRecord) (r : LogRecord) (c : RowChange) (undone : ℕ) (it : Held) → r.body ≡ body.Compensation c undone → has c.table ≡ false → TakesBackOne rs r.tran c undone → IsHeld has early rs it → IsHeld has early (rs ++ r ∷ []) it
held_elsewhere has early rs r c undone it e other one h =
    let u : Undoes rs r c undone = undoes rs r c undone e one in
    let of : is_of has r.body ≡ false = ap (is_of has) e in record {
      waiting_is = λ t. h.waiting_is t ∙ ap some_if (none_first (waiting_count has t rs) (waiting_count has t (rs ++ r ∷ [])) (waits_now has t rs r c undone u of ∙ ap (λ (b : Bool). cond (b && (r.tran == t)) 1 0 + waiting_count has t (rs ++ r ∷ [])) other));
      unsettled_is = h.unsettled_is ∙ none_first (open_in has rs) (open_in has (rs ++ r ∷ [])) (open_now has rs r c undone u of ∙ ap (λ (b : Bool). cond b 1 0 + open_in has (rs ++ r ∷ [])) other);
      committed_is = λ t. commits_kept early rs r t (get it.committed t) u.commit (h.committed_is t);
      rows_are = λ table key own. row_elsewhere table key rs r c undone (get it.rows (table, key)) u (apart_rows has table c.table (table == c.table) (key == c.key) refl own other) (h.rows_are table key own);
      others_none = h.others_none;
      keys_are = h.keys_are;
      apart = apart_undone rs r c undone u h.apart;
      fair = fair_undone rs r c undone u h.fair;
    }

less_waits : (w : Waiting) (u t n m k : ℕ) (b : Bool) → (u == t) ≡ b → get w t ≡ some_if n → get w u ≡ some_if k → n ≡ cond b 1 0 + m → cond b (some_if (count_in (get w u) - 1)) (get w t) ≡ some_if m
less_waits w u t n m k true e h i is =
    let same_count : some_if k ≡ some_if n = sym i ∙ ap (λ (q : ℕ). get w q) (same u t e) ∙ h in
    let number : k ≡ n = sym (counted k) ∙ ap count_in same_count ∙ counted n in
    let less : k - 1 ≡ m = omega (arith, number, is) in
    ap (λ (o : Option ℕ). some_if (count_in o - 1)) i ∙ ap (λ (q : ℕ). some_if (q - 1)) (counted k) ∙ ap some_if less
less_waits w u t n m k false e h i is = h ∙ ap some_if (none_first n m is)

rows_taken : (has : ℕ → Bool) (early : Bool) (rs : List LogRecord) (r : LogRecord) (c : RowChange) (undone : ℕ) (it : Held) → (u : Undoes rs r c undone) → has c.table ≡ true → IsHeld has early rs it → (o : Option RowTurn) → get it.rows (c.table, c.key) ≡ o
    → (table key : ℕ) → has table ≡ true → IsRowOr table key (rs ++ r ∷ []) (get (rows_less it.rows (c.table, c.key) o) (table, key))
rows_taken has early rs r c undone it u own h None is table key its =
    absurd (clash (list_any (At c.table c.key) rs) (row_was_changed c.table c.key rs r c undone u (both_itself c.table c.key)) (subst (λ (o : Option RowTurn). IsRowOr c.table c.key rs o) is (h.rows_are c.table c.key own)))
rows_taken has early rs r c undone it u own h (Some g) is table key its =
    subst (λ (o : Option RowTurn). IsRowOr table key (rs ++ r ∷ []) o) (sym (got it.rows c.table c.key (taken_by g) table key))
    (row_when table key c.table c.key (rs ++ r ∷ []) (taken_by g) (get it.rows (table, key))
    (row_taken c.table c.key rs r c undone g u (both_itself c.table c.key) (subst (λ (o : Option RowTurn). IsRowOr c.table c.key rs o) is (h.rows_are c.table c.key own)))
    (λ other. row_elsewhere table key rs r c undone (get it.rows (table, key)) u other (h.rows_are table key its))
    ((table == c.table) && (key == c.key)) refl)

others_taken : (has : ℕ → Bool) (rows : RowTurns) (u j table key : ℕ) (o : Option RowTurn) → has u ≡ true → has table ≡ false → get rows (table, key) ≡ None → get (rows_less rows (u, j) o) (table, key) ≡ None
others_taken has rows u j table key None own other h = h
others_taken has rows u j table key (Some g) own other h =
    got rows u j (taken_by g) table key ∙ ap (λ (b : Bool). cond b (Some (taken_by g)) (get rows (table, key))) (apart_others has table u (table == u) (key == j) refl other own) ∙ h

some_when : (rows : RowTurns) (table key u j : ℕ) (g : RowTurn) → get rows (u, j) ≡ Some g → (b : Bool) → ((table == u) && (key == j)) ≡ b → is_some (cond b (Some (taken_by g)) (get rows (table, key))) ≡ true → is_some (get rows (table, key)) ≡ true
some_when rows table key u j g is true e h = ap is_some (sym (got_same rows table key u j e) ∙ is)
some_when rows table key u j g is false e h = h

keys_taken : (rows : RowTurns) (u j table key : ℕ) (o : Option RowTurn) → get rows (u, j) ≡ o → is_some (get (rows_less rows (u, j) o) (table, key)) ≡ true → is_some (get rows (table, key)) ≡ true
keys_taken rows u j table key None is h = h
keys_taken rows u j table key (Some g) is h = some_when rows table key u j g is ((table == u) && (key == j)) refl (ap is_some (sym (got rows u j (taken_by g) table key)) ∙ h)

less_than : (a n m : ℕ) → a ≡ n → n ≡ 1 + m → a - 1 ≡ m
less_than a n m h e = omega (arith, h, e)

pub held_undone : (has : ℕ → Bool) (early : Bool) (rs : List LogRecord) (r : LogRecord) (c : RowChange) (undone : ℕ) (it : Held) → r.body ≡ body.Compensation c undone → has c.table ≡ true → TakesBackOne rs r.tran c undone → IsHeld has early rs it → IsHeld has early (rs ++ r ∷ []) (row_taken_back it r.tran c)
held_undone has early rs r c undone it e own one h =
    let u : Undoes rs r c undone = undoes rs r c undone e one in
    let of : is_of has r.body ≡ false = ap (is_of has) e in record {
      waiting_is = λ t.
          less_one it.waiting r.tran t (count_in (get it.waiting r.tran))
          ∙ less_waits it.waiting r.tran t (waiting_count has t rs) (waiting_count has t (rs ++ r ∷ [])) (waiting_count has r.tran rs) (r.tran == t) refl (h.waiting_is t) (h.waiting_is r.tran)
          (waits_now has t rs r c undone u of ∙ ap (λ (b : Bool). cond (b && (r.tran == t)) 1 0 + waiting_count has t (rs ++ r ∷ [])) own);
      unsettled_is = less_than it.unsettled (open_in has rs) (open_in has (rs ++ r ∷ [])) h.unsettled_is (open_now has rs r c undone u of ∙ ap (λ (b : Bool). cond b 1 0 + open_in has (rs ++ r ∷ [])) own);
      committed_is = λ t. commits_kept early rs r t (get it.committed t) u.commit (h.committed_is t);
      rows_are = rows_taken has early rs r c undone it u own h (get it.rows (c.table, c.key)) refl;
      others_none = λ table key other. others_taken has it.rows c.table c.key table key (get it.rows (c.table, c.key)) own other (h.others_none table key other);
      keys_are = λ table key some. h.keys_are table key (keys_taken it.rows c.table c.key table key (get it.rows (c.table, c.key)) refl some);
      apart = apart_undone rs r c undone u h.apart;
      fair = fair_undone rs r c undone u h.fair;
    }
