-- What is told of some tables and of others.
use Rattle.std.proofs.Common.{◌≡◌, ℕ, zero, suc, ◌+◌, ◌-◌, ◌<◌, ◌≤◌, Bool, true, false, cond, List, [], ◌∷◌, ◌++◌, length, map, Option, Some, None, Result, Ok, Err, is_some, refl, sym, ap, subst, ◌∙◌, arith}
use Rattle.std.specs.Prelude.{◌==◌, nat_lt, not, ◌&&◌, ◌||◌, filter, IfOk}
use Rattle.std.specs.List.{AllByRecursion}
use Rattle.std.specs.FinMap.{FinMap, get, empty, len, get-empty, len-insert, len-remove, len-empty, empty_of_len}
use Rattle.std.proofs.Math.Path.{fun_ext}
use Rattle.std.proofs.lemmas.Bool.Decides.{nat_tests}
use Rattle.std.proofs.lemmas.List.Elements.{filter_agree}
use Rattle.ds_model.specs.declared.log.LogRecord.{LogRecord}
use Rattle.ds_model.specs.declared.log.RowChange.{RowChange}
use Rattle.ds_model.specs.declared.log.Version.{Version}
use Rattle.ds_model.specs.declared.log.Body.{Body}
use Rattle.ds_model.specs.declared.log.Body.TheVariants as body
use Rattle.ds_model.specs.RecordBytes.{IsAllowed, BodyIsAllowed}
use Rattle.ds_model.specs.Rows.{Rows, spot_cmp, spot_cmp_total, listed}
use Rattle.ds_model.specs.Logs.{has_commit, set_row, after_body, after_records, rows_of_records, rows_of_logs}
use Rattle.log_record.specs.declared.log.Log.{Log}
use Rattle.log_merge.specs.Merging.{all_records}
use Rattle.sound_disk.specs.Settled.{is_row_change, is_open}
use Rattle.sound_disk.specs.Turns.{is_in_turn}
use Rattle.sound_disk.specs.Numbers_left.{open_changes}
use Rattle.sound_disk.specs.Versions.{merged}
use Rattle.settled_changes.specs.Left.{Spots, with_row, with_body}
use Rattle.row_turns.specs.declared.told.OutOfTurn.{OutOfTurn}
use Rattle.row_turns.specs.declared.told.Told.{Told}
use Rattle.row_turns.specs.Turns.{out_of_turn}
use Rattle.row_turns.specs.Scans.{is_of, is_out, first_out_in, open_in, spots_in, rows_left_in, AreTurnsTold}
use Rattle.row_turns.specs.Ranges.{AreApart, sooner, number_in, SameTurnsTold, PassesAll, OutIsFirst, OpenAreAll, RowsAreAll}
use Rattle.row_turns.proofs.Tallies.{and_left, and_right, and_both, by_bool, clash, count_same, count_split, count_zero, every}
use Rattle.row_turns.proofs.Behind.{same}
use Rattle.row_turns.proofs.HeldSteps.{got, gone}
use Rattle.row_turns.proofs.Merges.{KeepsAll, open_same, no_rows, chosen, all_flat, rows_merged, listed_len}

abbrev out_at : ℕ → ℕ → Option OutOfTurn
out_at at n = Some (record { index = at; number = n })

and_no : (a : Bool) → (a && false) ≡ false
and_no true = refl
and_no false = refl

and_yes : (a : Bool) → (a && true) ≡ a
and_yes true = refl
and_yes false = refl

-- ---- of no table

abbrev never : ℕ → Bool
never table = false

none_of : (b : Body) → is_of never b ≡ false
none_of (body.RowChange c) = refl
none_of (body.Compensation c undone) = refl
none_of (body.System patches) = refl
none_of body.Commit = refl
none_of body.Ended = refl
none_of (body.Checkpoint offset) = refl
none_of body.RestartEnd = refl

none_out : (at : ℕ) (e rs : List LogRecord) → None ≡ first_out_in never at e rs
none_out at e [] = refl
none_out at e (r ∷ rs) =
    none_out (at + 1) (e ++ r ∷ []) rs
    ∙ sym (ap (λ (b : Bool). cond (b && not (is_in_turn e r.tran r.body)) (out_at at r.lrsn) (first_out_in never (at + 1) (e ++ r ∷ []) rs)) (none_of r.body))

no_spots_more : (keeps : ℕ → Bool) (spots : Spots) (rs : List LogRecord) → spots_in never keeps spots rs ≡ spots
no_spots_more keeps spots [] = refl
no_spots_more keeps spots (r ∷ rs) =
    ap (λ (s : Spots). spots_in never keeps s rs) (ap (λ (b : Bool). cond (keeps r.tran && b) (with_body spots r.body) spots) (none_of r.body) ∙ ap (λ (b : Bool). cond b (with_body spots r.body) spots) (and_no (keeps r.tran)))
    ∙ no_spots_more keeps spots rs

abbrev no_spots : Spots
no_spots = empty

pub none_told : (told : Told) → told.out ≡ None → told.open ≡ 0 → told.rows ≡ 0 → (records : List LogRecord) → AreTurnsTold (λ table. false) records told
none_told told out opens rows records = record {
  out_is = out ∙ none_out 0 [] records;
  open_is = λ _.
      opens
      ∙ sym (count_zero (λ (r : LogRecord). true) (λ (r : LogRecord). is_of never r.body && is_open records r) records (every records)
      (λ r _. ap (λ (b : Bool). b && is_open records r) (none_of r.body)));
  rows_is = λ _. rows ∙ sym (ap (λ (s : Spots). len s) (no_spots_more (has_commit records) no_spots records) ∙ len-empty spot_cmp Bool);
}

-- ---- the first that is out of turn

abbrev From : ℕ → Option OutOfTurn → Type 0
From at None = Unit {0}
From at (Some out) = at ≤ out.index

from_less : (at : ℕ) (o : Option OutOfTurn) → From (at + 1) o → From at o
from_less at None h = tt
from_less at (Some out) h = omega (arith, h)

from_when : (b : Bool) (at n : ℕ) (o : Option OutOfTurn) → From at o → From at (cond b (out_at at n) o)
from_when true at n o h = omega arith
from_when false at n o h = h

from_out : (has : ℕ → Bool) (at : ℕ) (e rs : List LogRecord) → From at (first_out_in has at e rs)
from_out has at e [] = tt
from_out has at e (r ∷ rs) = from_when (is_out has e r) at r.lrsn (first_out_in has (at + 1) (e ++ r ∷ []) rs) (from_less at (first_out_in has (at + 1) (e ++ r ∷ []) rs) (from_out has (at + 1) (e ++ r ∷ []) rs))

not_lower : (m n : ℕ) → n ≤ m → nat_lt m n ≡ false
not_lower m n h = grind (arith, nat_tests)

lower : (m n : ℕ) → m + 1 ≤ n → nat_lt m n ≡ true
lower m n h = grind (arith, nat_tests)

sooner_here : (at n : ℕ) (o : Option OutOfTurn) → From at o → sooner (out_at at n) o ≡ out_at at n
sooner_here at n None h = refl
sooner_here at n (Some out) h = ap (λ (b : Bool). cond b (Some out) (out_at at n)) (not_lower out.index at h)

sooner_there : (at n : ℕ) (o : Option OutOfTurn) → From (at + 1) o → sooner o (out_at at n) ≡ out_at at n
sooner_there at n None h = refl
sooner_there at n (Some out) h = ap (λ (b : Bool). cond b (out_at at n) (Some out)) (lower at out.index h)

sooner_when : (a b : Bool) (at n : ℕ) (x y : Option OutOfTurn) → From (at + 1) x → From (at + 1) y → sooner (cond a (out_at at n) x) (cond b (out_at at n) y) ≡ cond (a || b) (out_at at n) (sooner x y)
sooner_when true true at n x y h k = sooner_here at n (out_at at n) (omega arith)
sooner_when true false at n x y h k = sooner_here at n y (from_less at y k)
sooner_when false true at n x y h k = sooner_there at n x h
sooner_when false false at n x y h k = refl

of_both : (p q : ℕ → Bool) (b : Body) → is_of (λ (t : ℕ). p t || q t) b ≡ (is_of p b || is_of q b)
of_both p q (body.RowChange c) = refl
of_both p q (body.Compensation c undone) = refl
of_both p q (body.System patches) = refl
of_both p q body.Commit = refl
of_both p q body.Ended = refl
of_both p q (body.Checkpoint offset) = refl
of_both p q body.RestartEnd = refl

shared_and : (a b c : Bool) → ((a && c) || (b && c)) ≡ ((a || b) && c)
shared_and true true true = refl
shared_and true true false = refl
shared_and true false true = refl
shared_and true false false = refl
shared_and false b c = refl

out_both : (p q : ℕ → Bool) (at : ℕ) (e rs : List LogRecord) → sooner (first_out_in p at e rs) (first_out_in q at e rs) ≡ first_out_in (λ (t : ℕ). p t || q t) at e rs
out_both p q at e [] = refl
out_both p q at e (r ∷ rs) =
    sooner_when (is_out p e r) (is_out q e r) at r.lrsn (first_out_in p (at + 1) (e ++ r ∷ []) rs) (first_out_in q (at + 1) (e ++ r ∷ []) rs) (from_out p (at + 1) (e ++ r ∷ []) rs) (from_out q (at + 1) (e ++ r ∷ []) rs)
    ∙ ap (λ (o : Option OutOfTurn). cond (is_out p e r || is_out q e r) (out_at at r.lrsn) o) (out_both p q (at + 1) (e ++ r ∷ []) rs)
    ∙ ap (λ (b : Bool). cond b (out_at at r.lrsn) (first_out_in (λ (t : ℕ). p t || q t) (at + 1) (e ++ r ∷ []) rs))
    (shared_and (is_of p r.body) (is_of q r.body) (not (is_in_turn e r.tran r.body)) ∙ ap (λ (b : Bool). b && not (is_in_turn e r.tran r.body)) (sym (of_both p q r.body)))

-- ---- open changes

apart_of : (p q : ℕ → Bool) → AreApart p q → (b : Body) → is_of p b ≡ true → is_of q b ≡ false
apart_of p q apart (body.RowChange c) h = apart c.table h
apart_of p q apart (body.Compensation c undone) h = refl
apart_of p q apart (body.System patches) h = refl
apart_of p q apart body.Commit h = refl
apart_of p q apart body.Ended h = refl
apart_of p q apart (body.Checkpoint offset) h = refl
apart_of p q apart body.RestartEnd h = refl

first_part : (x y o : Bool) → (((x || y) && o) && x) ≡ (x && o)
first_part true y true = refl
first_part true y false = refl
first_part false true true = refl
first_part false true false = refl
first_part false false o = refl

other_part : (x y o : Bool) → (x ≡ true → y ≡ false) → (((x || y) && o) && not x) ≡ (y && o)
other_part true y o h = and_no o ∙ sym (ap (λ (b : Bool). b && o) (h refl))
other_part false y o h = and_yes (y && o)

open_both : (p q : ℕ → Bool) → AreApart p q → (rs : List LogRecord) → open_in (λ (t : ℕ). p t || q t) rs ≡ open_in p rs + open_in q rs
open_both p q apart rs =
    count_same (λ (r : LogRecord). is_of (λ (t : ℕ). p t || q t) r.body && is_open rs r) (λ (r : LogRecord). (is_of p r.body || is_of q r.body) && is_open rs r) (λ r. ap (λ (b : Bool). b && is_open rs r) (of_both p q r.body)) rs
    ∙ count_split (λ (r : LogRecord). (is_of p r.body || is_of q r.body) && is_open rs r) (λ (r : LogRecord). is_of p r.body) rs
    ∙ ap (λ (n : ℕ). n + length (filter (λ (r : LogRecord). ((is_of p r.body || is_of q r.body) && is_open rs r) && not (is_of p r.body)) rs))
    (count_same (λ (r : LogRecord). ((is_of p r.body || is_of q r.body) && is_open rs r) && is_of p r.body) (λ (r : LogRecord). is_of p r.body && is_open rs r) (λ r. first_part (is_of p r.body) (is_of q r.body) (is_open rs r)) rs)
    ∙ ap (λ (n : ℕ). open_in p rs + n)
    (count_same (λ (r : LogRecord). ((is_of p r.body || is_of q r.body) && is_open rs r) && not (is_of p r.body)) (λ (r : LogRecord). is_of q r.body && is_open rs r)
    (λ r. other_part (is_of p r.body) (is_of q r.body) (is_open rs r) (apart_of p q apart r.body)) rs)

-- ---- rows that are left

at_least : (n : ℕ) {b : Bool} → (n ≡ 0 → b ≡ false) → b ≡ true → 1 ≤ n
at_least zero h e = absurd (clash true refl (sym e ∙ h refl))
at_least (suc n) h e = omega arith

some_long : {X : Type 0} (m : FinMap spot_cmp X) (table key : ℕ) → is_some (get m (table, key)) ≡ true → 1 ≤ len m
some_long {X} m table key h = at_least (len m) (λ e. ap (λ (n : FinMap spot_cmp X). is_some (get n (table, key))) (empty_of_len m e) ∙ ap is_some (get-empty spot_cmp (table, key))) h

-- what a change of a row makes of how many there are
abbrev changed_count : Option (List ℕ) → Bool → ℕ → ℕ
changed_count None there n = cond there (n - 1) n
changed_count (Some v) there n = cond there n (n + 1)

rows_count : (rows : Rows) (c : RowChange) (after : Option (List ℕ)) → len (set_row rows c.table c.key after) ≡ changed_count after (is_some (get rows (c.table, c.key))) (len rows)
rows_count rows c None = len-remove spot_cmp_total rows (c.table, c.key)
rows_count rows c (Some v) = len-insert spot_cmp_total rows (c.table, c.key) v

spots_count : (spots : Spots) (c : RowChange) (after : Option (List ℕ)) → len (with_row spots c after) ≡ changed_count after (is_some (get spots (c.table, c.key))) (len spots)
spots_count spots c None = len-remove spot_cmp_total spots (c.table, c.key)
spots_count spots c (Some v) = len-insert spot_cmp_total spots (c.table, c.key) true

count_adds : (after : Option (List ℕ)) (there : Bool) (all own other : ℕ) → (there ≡ true → 1 ≤ own) → all ≡ own + other → changed_count after there all ≡ changed_count after there own + other
count_adds None true all own other h e = let some = h refl in omega (arith, some, e)
count_adds None false all own other h e = e
count_adds (Some v) true all own other h e = e
count_adds (Some v) false all own other h e = omega (arith, e)

-- whether a row is there after a change of one
abbrev there_after : Bool → Option (List ℕ) → Bool → Bool
there_after here after before = cond here (is_some after) before

some_cond : {X : Type 0} (b : Bool) (x y : Option X) → is_some (cond b x y) ≡ cond b (is_some x) (is_some y)
some_cond true x y = refl
some_cond false x y = refl

row_there : (rows : Rows) (c : RowChange) (after : Option (List ℕ)) (table key : ℕ) → is_some (get (set_row rows c.table c.key after) (table, key)) ≡ there_after ((table == c.table) && (key == c.key)) after (is_some (get rows (table, key)))
row_there rows c None table key = ap is_some (gone rows c.table c.key table key) ∙ some_cond ((table == c.table) && (key == c.key)) None (get rows (table, key))
row_there rows c (Some v) table key = ap is_some (got rows c.table c.key v table key) ∙ some_cond ((table == c.table) && (key == c.key)) (Some v) (get rows (table, key))

spot_there : (spots : Spots) (c : RowChange) (after : Option (List ℕ)) (table key : ℕ) → is_some (get (with_row spots c after) (table, key)) ≡ there_after ((table == c.table) && (key == c.key)) after (is_some (get spots (table, key)))
spot_there spots c None table key = ap is_some (gone spots c.table c.key table key) ∙ some_cond ((table == c.table) && (key == c.key)) None (get spots (table, key))
spot_there spots c (Some v) table key = ap is_some (got spots c.table c.key true table key) ∙ some_cond ((table == c.table) && (key == c.key)) (Some true) (get spots (table, key))

-- the rows of both kinds of tables, and those of each
pub record IsSum (p q : ℕ → Bool) (m a b : Spots) : Type 0 where
  pub first : (table key : ℕ) → p table ≡ true → is_some (get m (table, key)) ≡ is_some (get a (table, key))
  pub second : (table key : ℕ) → q table ≡ true → is_some (get m (table, key)) ≡ is_some (get b (table, key))
  pub sum : len m ≡ len a + len b

-- a change of a row of another table
off_row : (p : ℕ → Bool) (table u : ℕ) (x y : Bool) → (table == u) ≡ x → p table ≡ true → p u ≡ false → (x && y) ≡ false
off_row p table u true y e h k = absurd (clash (p u) (ap p (sym (same table u e)) ∙ h) k)
off_row p table u false y e h k = refl

both_first : (p q : ℕ → Bool) (m a b : Spots) (c : RowChange) → AreApart p q → p c.table ≡ true → IsSum p q m a b → IsSum p q (with_row m c c.after) (with_row a c c.after) b
both_first p q m a b c apart own h = record {
  first = λ table key its. spot_there m c c.after table key ∙ ap (there_after ((table == c.table) && (key == c.key)) c.after) (h.first table key its) ∙ sym (spot_there a c c.after table key);
  second = λ table key its.
      spot_there m c c.after table key
      ∙ ap (λ (x : Bool). there_after x c.after (is_some (get m (table, key)))) (off_row q table c.table (table == c.table) (key == c.key) refl its (apart c.table own))
      ∙ h.second table key its;
  sum =
      spots_count m c c.after
      ∙ ap (λ (x : Bool). changed_count c.after x (len m)) (h.first c.table c.key own)
      ∙ count_adds c.after (is_some (get a (c.table, c.key))) (len m) (len a) (len b) (some_long a c.table c.key) h.sum
      ∙ ap (λ (n : ℕ). n + len b) (sym (spots_count a c c.after));
}

swapped : (x y z : ℕ) → x ≡ y + z → x ≡ z + y
swapped x y z h = omega (arith, h)

both_second : (p q : ℕ → Bool) (m a b : Spots) (c : RowChange) → p c.table ≡ false → q c.table ≡ true → IsSum p q m a b → IsSum p q (with_row m c c.after) a (with_row b c c.after)
both_second p q m a b c other own h = record {
  first = λ table key its.
      spot_there m c c.after table key
      ∙ ap (λ (x : Bool). there_after x c.after (is_some (get m (table, key)))) (off_row p table c.table (table == c.table) (key == c.key) refl its other)
      ∙ h.first table key its;
  second = λ table key its. spot_there m c c.after table key ∙ ap (there_after ((table == c.table) && (key == c.key)) c.after) (h.second table key its) ∙ sym (spot_there b c c.after table key);
  sum = swapped (len (with_row m c c.after)) (len (with_row b c c.after)) (len a)
      (spots_count m c c.after
      ∙ ap (λ (x : Bool). changed_count c.after x (len m)) (h.second c.table c.key own)
      ∙ count_adds c.after (is_some (get b (c.table, c.key))) (len m) (len b) (len a) (some_long b c.table c.key) (swapped (len m) (len a) (len b) h.sum)
      ∙ ap (λ (n : ℕ). n + len a) (sym (spots_count b c c.after)));
}

change_both : (p q : ℕ → Bool) (m a b : Spots) (c : RowChange) → AreApart p q → IsSum p q m a b → (x y : Bool) → p c.table ≡ x → q c.table ≡ y
    → IsSum p q (cond (x || y) (with_row m c c.after) m) (cond x (with_row a c c.after) a) (cond y (with_row b c c.after) b)
change_both p q m a b c apart h true true e f = absurd (clash (q c.table) f (apart c.table e))
change_both p q m a b c apart h true false e f = both_first p q m a b c apart e h
change_both p q m a b c apart h false true e f = both_second p q m a b c e f h
change_both p q m a b c apart h false false e f = h

record_both : (p q : ℕ → Bool) (m a b : Spots) (k : Bool) (d : Body) → AreApart p q → IsSum p q m a b
    → IsSum p q (cond (k && is_of (λ (t : ℕ). p t || q t) d) (with_body m d) m) (cond (k && is_of p d) (with_body a d) a) (cond (k && is_of q d) (with_body b d) b)
record_both p q m a b false d apart h = h
record_both p q m a b true (body.RowChange c) apart h = change_both p q m a b c apart h (p c.table) (q c.table) refl refl
record_both p q m a b true (body.Compensation c undone) apart h = h
record_both p q m a b true (body.System patches) apart h = h
record_both p q m a b true body.Commit apart h = h
record_both p q m a b true body.Ended apart h = h
record_both p q m a b true (body.Checkpoint offset) apart h = h
record_both p q m a b true body.RestartEnd apart h = h

spots_both : (p q keeps : ℕ → Bool) → AreApart p q → (m a b : Spots) (rs : List LogRecord) → IsSum p q m a b → IsSum p q (spots_in (λ (t : ℕ). p t || q t) keeps m rs) (spots_in p keeps a rs) (spots_in q keeps b rs)
spots_both p q keeps apart m a b [] h = h
spots_both p q keeps apart m a b (r ∷ rs) h =
    spots_both p q keeps apart (cond (keeps r.tran && is_of (λ (t : ℕ). p t || q t) r.body) (with_body m r.body) m) (cond (keeps r.tran && is_of p r.body) (with_body a r.body) a) (cond (keeps r.tran && is_of q r.body) (with_body b r.body) b) rs
    (record_both p q m a b (keeps r.tran) r.body apart h)

zero_sum : (n : ℕ) → n ≡ 0 → n ≡ n + n
zero_sum n h = omega (arith, h)

nothing_sum : (p q : ℕ → Bool) → IsSum p q no_spots no_spots no_spots
nothing_sum p q = record { first = λ table key its. refl; second = λ table key its. refl; sum = zero_sum (len no_spots) (len-empty spot_cmp Bool) }

rows_both : (p q : ℕ → Bool) → AreApart p q → (rs : List LogRecord) → rows_left_in (λ (t : ℕ). p t || q t) rs ≡ rows_left_in p rs + rows_left_in q rs
rows_both p q apart rs = let both = spots_both p q (has_commit rs) apart no_spots no_spots no_spots rs (nothing_sum p q) in both.sum

-- ---- of both

chosen_some : (b : Bool) (x y : OutOfTurn) → cond b (Some y) (Some x) ≡ None → ⊥
chosen_some true x y h = clash true refl (ap (λ (o : Option OutOfTurn). is_some o) h)
chosen_some false x y h = clash true refl (ap (λ (o : Option OutOfTurn). is_some o) h)

sums : (a b x y both : ℕ) → both ≡ a + b → a ≡ x → b ≡ y → both ≡ x + y
sums a b x y both h e f = omega (arith, h, e, f)

first_none : (a b : Option OutOfTurn) → sooner a b ≡ None → a ≡ None
first_none None b h = refl
first_none (Some x) None h = absurd (clash true refl (ap (λ (o : Option OutOfTurn). is_some o) h))
first_none (Some x) (Some y) h = absurd (chosen_some (nat_lt y.index x.index) x y h)

second_none : (a b : Option OutOfTurn) → sooner a b ≡ None → b ≡ None
second_none None b h = h
second_none (Some x) None h = refl
second_none (Some x) (Some y) h = absurd (chosen_some (nat_lt y.index x.index) x y h)

pub both_told : (a b both : Told) → both.out ≡ sooner a.out b.out → both.open ≡ a.open + b.open → both.rows ≡ a.rows + b.rows
    → (p q : ℕ → Bool) (records : List LogRecord) → AreApart p q → AreTurnsTold p records a → AreTurnsTold q records b → AreTurnsTold (λ table. p table || q table) records both
both_told a b both out opens rows p q records apart f g = record {
  out_is = out ∙ ap (λ (o : Option OutOfTurn). sooner o b.out) f.out_is ∙ ap (λ (o : Option OutOfTurn). sooner (first_out_in p 0 [] records) o) g.out_is ∙ out_both p q 0 [] records;
  open_is = λ none.
      let x = f.open_is (first_none a.out b.out (sym out ∙ none)) in
      let y = g.open_is (second_none a.out b.out (sym out ∙ none)) in
      sums a.open b.open (open_in p records) (open_in q records) both.open opens x y ∙ sym (open_both p q apart records);
  rows_is = λ none.
      let x = f.rows_is (first_none a.out b.out (sym out ∙ none)) in
      let y = g.rows_is (second_none a.out b.out (sym out ∙ none)) in
      sums a.rows b.rows (rows_left_in p records) (rows_left_in q records) both.rows rows x y ∙ sym (rows_both p q apart records);
}

pub same_told : SameTurnsTold
same_told p q records told h f = subst (λ (has : ℕ → Bool). AreTurnsTold has records told) (fun_ext h) f

-- ---- of all tables

all_of : (has : ℕ → Bool) → PassesAll has → (v : Version) (b : Body) → BodyIsAllowed v b → is_of has b ≡ is_row_change b
all_of has all v (body.RowChange c) a = all c.table a.table_in.0 a.table_in.1
all_of has all v (body.Compensation c undone) a = refl
all_of has all v (body.System patches) a = refl
all_of has all v body.Commit a = refl
all_of has all v body.Ended a = refl
all_of has all v (body.Checkpoint offset) a = refl
all_of has all v body.RestartEnd a = refl

turn_unless : (e : List LogRecord) (tran : ℕ) (b : Body) → (is_row_change b && not (is_in_turn e tran b)) ≡ not (is_in_turn e tran b)
turn_unless e tran (body.RowChange c) = refl
turn_unless e tran (body.Compensation c undone) = refl
turn_unless e tran (body.System patches) = refl
turn_unless e tran body.Commit = refl
turn_unless e tran body.Ended = refl
turn_unless e tran (body.Checkpoint offset) = refl
turn_unless e tran body.RestartEnd = refl

number_when : (b c : Bool) (at n : ℕ) (o : Option OutOfTurn) (rest : Option ℕ) → c ≡ not b → rest ≡ number_in o → cond b rest (Some n) ≡ number_in (cond c (out_at at n) o)
number_when true true at n o rest h k = absurd (clash true refl h)
number_when true false at n o rest h k = k
number_when false true at n o rest h k = refl
number_when false false at n o rest h k = absurd (clash true refl (sym h))

out_all : (has : ℕ → Bool) → PassesAll has → (at : ℕ) (e rs : List LogRecord) → AllByRecursion IsAllowed rs → out_of_turn e rs ≡ number_in (first_out_in has at e rs)
out_all has all at e [] a = refl
out_all has all at e (r ∷ rs) a =
    number_when (is_in_turn e r.tran r.body) (is_out has e r) at r.lrsn (first_out_in has (at + 1) (e ++ r ∷ []) rs) (out_of_turn (e ++ r ∷ []) rs)
    (ap (λ (b : Bool). b && not (is_in_turn e r.tran r.body)) (all_of has all r.version r.body a.0.body_is) ∙ turn_unless e r.tran r.body)
    (out_all has all (at + 1) (e ++ r ∷ []) rs a.1)

pub out_first : OutIsFirst
out_first has records told a all f = out_all has all 0 [] records a ∙ sym (ap number_in f.out_is)

row_and : (row o : Bool) → (row && (row && o)) ≡ (row && o)
row_and true o = refl
row_and false o = refl

count_when : (x y : Bool) (r : LogRecord) (l m : List LogRecord) → x ≡ y → length l ≡ length m → length (cond x (r ∷ l) l) ≡ length (cond y (r ∷ m) m)
count_when true true r l m h e = ap suc e
count_when true false r l m h e = absurd (clash true refl h)
count_when false true r l m h e = absurd (clash true refl (sym h))
count_when false false r l m h e = e

open_all : (has : ℕ → Bool) → PassesAll has → (whole rs : List LogRecord) → AllByRecursion IsAllowed rs → length (filter (λ (r : LogRecord). is_of has r.body && is_open whole r) rs) ≡ length (filter (λ (r : LogRecord). is_open whole r) rs)
open_all has all whole [] a = refl
open_all has all whole (r ∷ rs) a =
    count_when (is_of has r.body && is_open whole r) (is_open whole r) r (filter (λ (s : LogRecord). is_of has s.body && is_open whole s) rs) (filter (λ (s : LogRecord). is_open whole s) rs)
    (ap (λ (b : Bool). b && is_open whole r) (all_of has all r.version r.body a.0.body_is) ∙ row_and (is_row_change r.body) _)
    (open_all has all whole rs a.1)

pub open_are : KeepsAll → OpenAreAll
open_are keeps has logs told a all f none = f.open_is none ∙ open_all has all (merged logs) (merged logs) a ∙ sym (open_same keeps (all_records logs))

-- the rows as a map, and as a set
pub record AreAlike (rows : Rows) (spots : Spots) : Type 0 where
  pub there : (table key : ℕ) → is_some (get rows (table, key)) ≡ is_some (get spots (table, key))
  pub long : len rows ≡ len spots

alike_change : (rows : Rows) (spots : Spots) (c : RowChange) → AreAlike rows spots → AreAlike (set_row rows c.table c.key c.after) (with_row spots c c.after)
alike_change rows spots c h = record {
  there = λ table key. row_there rows c c.after table key ∙ ap (there_after ((table == c.table) && (key == c.key)) c.after) (h.there table key) ∙ sym (spot_there spots c c.after table key);
  long =
      rows_count rows c c.after
      ∙ ap (λ (b : Bool). changed_count c.after b (len rows)) (h.there c.table c.key)
      ∙ ap (changed_count c.after (is_some (get spots (c.table, c.key)))) h.long
      ∙ sym (spots_count spots c c.after);
}

alike_body : (rows : Rows) (spots : Spots) (d : Body) → AreAlike rows spots → AreAlike (after_body rows d) (cond (is_row_change d) (with_body spots d) spots)
alike_body rows spots (body.RowChange c) h = alike_change rows spots c h
alike_body rows spots (body.Compensation c undone) h = h
alike_body rows spots (body.System patches) h = h
alike_body rows spots body.Commit h = h
alike_body rows spots body.Ended h = h
alike_body rows spots (body.Checkpoint offset) h = h
alike_body rows spots body.RestartEnd h = h

alike_when : (keeps : ℕ → Bool) (r : LogRecord) (rs : List LogRecord) (rows : Rows) (spots : Spots) (k x : Bool) → x ≡ is_row_change r.body → AreAlike rows spots
    → ((next : Rows) (left : Spots) → AreAlike next left → len (after_records next (chosen keeps rs)) ≡ len (spots_in (λ (t : ℕ). true) keeps left rs))
    → len (after_records rows (cond k (r ∷ chosen keeps rs) (chosen keeps rs))) ≡ len (spots_in (λ (t : ℕ). true) keeps (cond (k && x) (with_body spots r.body) spots) rs)
alike_when keeps r rs rows spots true x e h more =
    more (after_body rows r.body) (cond (is_row_change r.body) (with_body spots r.body) spots) (alike_body rows spots r.body h)
    ∙ ap (λ (b : Bool). len (spots_in (λ (t : ℕ). true) keeps (cond b (with_body spots r.body) spots) rs)) (sym e)
alike_when keeps r rs rows spots false x e h more = more rows spots h

every_of : (b : Body) → is_of (λ (t : ℕ). true) b ≡ is_row_change b
every_of (body.RowChange c) = refl
every_of (body.Compensation c undone) = refl
every_of (body.System patches) = refl
every_of body.Commit = refl
every_of body.Ended = refl
every_of (body.Checkpoint offset) = refl
every_of body.RestartEnd = refl

rows_alike : (keeps : ℕ → Bool) (rs : List LogRecord) (rows : Rows) (spots : Spots) → AreAlike rows spots → len (after_records rows (chosen keeps rs)) ≡ len (spots_in (λ (t : ℕ). true) keeps spots rs)
rows_alike keeps [] rows spots h = h.long
rows_alike keeps (r ∷ rs) rows spots h = alike_when keeps r rs rows spots (keeps r.tran) (is_of (λ (t : ℕ). true) r.body) (every_of r.body) h (rows_alike keeps rs)

none_alike : AreAlike no_rows no_spots
none_alike = record {
  there = λ table key. ap (λ (o : Option (List ℕ)). is_some o) (get-empty {X = List ℕ} spot_cmp (table, key)) ∙ sym (ap (λ (o : Option Bool). is_some o) (get-empty {X = Bool} spot_cmp (table, key)));
  long = len-empty spot_cmp (List ℕ) ∙ sym (len-empty spot_cmp Bool);
}

-- of all tables these are all
spots_all : (has keeps : ℕ → Bool) → PassesAll has → (spots : Spots) (rs : List LogRecord) → AllByRecursion IsAllowed rs → spots_in has keeps spots rs ≡ spots_in (λ (t : ℕ). true) keeps spots rs
spots_all has keeps all spots [] a = refl
spots_all has keeps all spots (r ∷ rs) a =
    ap (λ (b : Bool). spots_in has keeps (cond (keeps r.tran && b) (with_body spots r.body) spots) rs) (all_of has all r.version r.body a.0.body_is ∙ sym (every_of r.body))
    ∙ spots_all has keeps all (cond (keeps r.tran && is_of (λ (t : ℕ). true) r.body) (with_body spots r.body) spots) rs a.1

pub rows_are : KeepsAll → RowsAreAll
rows_are keeps has logs told a all f none =
    f.rows_is none
    ∙ ap (λ (s : Spots). len s) (spots_all has (has_commit (merged logs)) all no_spots (merged logs) a)
    ∙ sym (rows_alike (has_commit (merged logs)) (merged logs) no_rows no_spots none_alike)
    ∙ ap (λ (m : Rows). len m) (sym (rows_merged keeps (all_records logs)) ∙ ap (λ (l : List LogRecord). rows_of_records l) (sym (all_flat logs)))
    ∙ sym (listed_len (rows_of_logs (map (λ (l : Log). l.records) logs)))
