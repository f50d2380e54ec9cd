-- Which row changes are open behind a record that a restart appends: those that were, without the one that it takes back.
use Rattle.std.proofs.Common.{◌≡◌, ℕ, ◌+◌, ◌^◌, ◌*◌, ◌<◌, ◌≤◌, max, Bool, true, false, cond, List, [], ◌∷◌, ◌++◌, length, Some, inl, inr, refl, sym, ap, subst, ◌∙◌, arith}
use Rattle.std.specs.Prelude.{◌==◌, not, ◌||◌, ◌&&◌, filter, slice_get, ◌-◌}
use Rattle.std.specs.List.{list_any, AllByRecursion}
use Rattle.std.proofs.lemmas.Bool.{or_cases, or_parts, or_from, or_left, or_right, and_from, and_parts, eqb-true, eq-eqb, ne_eqb, both_ways, false_from_ne_true}
use Rattle.std.proofs.lemmas.List.Folds.{list_any-append}
use Rattle.std.proofs.lemmas.List.Elements.{filter-append, filter_agree}
use Rattle.ds_base.specs.Ids.{lrsn_width}
use Rattle.ds_model.specs.declared.log.LogRecord.{LogRecord}
use Rattle.ds_model.specs.declared.log.RowChange.{RowChange}
use Rattle.ds_model.specs.declared.log.Body.{Body}
use Rattle.ds_model.specs.declared.log.Body.TheVariants as body
use Rattle.ds_model.specs.Logs.{is_commit, has_commit}
use Rattle.ds_model.specs.RecordBytes.{IsAllowed, TranFits, is_of_tran}
use Rattle.log_record.specs.declared.log.Log.{Log}
use Rattle.log_trans.specs.declared.course.Course.{Course}
use Rattle.log_trans.specs.Courses.{is_next, has_number}
use Rattle.log_trans.specs.Numbers.{greatest}
use Rattle.log_merge.specs.Merging.{all_records}
use Rattle.sound_disk.specs.Settled.{is_row_change, takes_back, is_open}
use Rattle.sound_disk.specs.Numbers_left.{open_changes, NumbersAreLeft}
use Rattle.sound_disk.specs.Transactions.{drawn_numbers, is_among, all_differ, speak_of, stands_apart, stand_apart, EachFollows, AreTransactions}
use Rattle.sound_disk.specs.Laws.{with_record}
use Rattle.sound_appends.specs.Appends.{course_of, Compensates, IsNext, Appends}
use Rattle.sound_appends.proofs.Numbers.{until, all_split, all_with, greatest_more, no_row_change, no_commit}
use Rattle.sound_appends.proofs.Left.{is_change, has_change, is_taken, numbers, among_more, drawn_more, differ_tail, differ_front, differ_back, differ_parts, change_parts, change_drawn, next_among, AreNamed, undo_of, AreLeft, are_left, commits}

-- ---- one record more among others

or_between : (a b c : Bool) → (a || (b || c)) ≡ ((a || c) || b)
or_between true b c = refl
or_between false true true = refl
or_between false true false = refl
or_between false false true = refl
or_between false false false = refl

any_between : (p : LogRecord → Bool) (xs ys : List LogRecord) (r : LogRecord) → list_any p (xs ++ r ∷ ys) ≡ (list_any p (xs ++ ys) || p r)
any_between p xs ys r =
    list_any-append p xs (r ∷ ys) ∙ or_between (list_any p xs) (p r) (list_any p ys) ∙ ap (λ (b : Bool). b || p r) (sym (list_any-append p xs ys))

or_none : (a : Bool) → (a || false) ≡ a
or_none true = refl
or_none false = refl

commit_between : (xs ys : List LogRecord) (r : LogRecord) (t : ℕ) → is_commit r.body ≡ false → has_commit (xs ++ r ∷ ys) t ≡ has_commit (xs ++ ys) t
commit_between xs ys r t none =
    any_between (λ (s : LogRecord). is_commit s.body && (s.tran == t)) xs ys r
    ∙ ap (λ (b : Bool). has_commit (xs ++ ys) t || (b && (r.tran == t))) none
    ∙ or_none (has_commit (xs ++ ys) t)

open_if : (row commit taken takes : Bool) → (row && not (commit || (taken || takes))) ≡ ((row && not (commit || taken)) && not takes)
open_if false commit taken takes = refl
open_if true true taken takes = refl
open_if true false true takes = refl
open_if true false false takes = refl

-- it is open behind the record where it was, and isn't taken back by it
pub open_between : (xs ys : List LogRecord) (r s : LogRecord) → is_commit r.body ≡ false → is_open (xs ++ r ∷ ys) s ≡ (is_open (xs ++ ys) s && not (takes_back s.lrsn r.body))
open_between xs ys r s none =
    ap (λ (b : Bool). is_row_change s.body && not (b || is_taken s.lrsn (xs ++ r ∷ ys))) (commit_between xs ys r s.tran none)
    ∙ ap (λ (b : Bool). is_row_change s.body && not (has_commit (xs ++ ys) s.tran || b)) (any_between (λ (u : LogRecord). takes_back s.lrsn u.body) xs ys r)
    ∙ open_if (is_row_change s.body) (has_commit (xs ++ ys) s.tran) (is_taken s.lrsn (xs ++ ys)) (takes_back s.lrsn r.body)

filter_past : (p : LogRecord → Bool) (xs ys : List LogRecord) (r : LogRecord) → p r ≡ false → filter p (xs ++ r ∷ ys) ≡ filter p (xs ++ ys)
filter_past p xs ys r none =
    filter-append p xs (r ∷ ys)
    ∙ ap (λ (b : Bool). filter p xs ++ cond b (r ∷ filter p ys) (filter p ys)) none
    ∙ sym (filter-append p xs ys)

pub no_row_open : (rs : List LogRecord) (r : LogRecord) → is_row_change r.body ≡ false → is_open rs r ≡ false
no_row_open rs r none = ap (λ (b : Bool). b && not (has_commit rs r.tran || is_taken r.lrsn rs)) none

abbrev still_open : List LogRecord → LogRecord → LogRecord → Bool
still_open rs r s = is_open rs s && not (takes_back s.lrsn r.body)

open_with : (xs ys : List LogRecord) (r : LogRecord) → is_row_change r.body ≡ false → is_commit r.body ≡ false → open_changes (xs ++ r ∷ ys) ≡ filter (λ (s : LogRecord). still_open (xs ++ ys) r s) (xs ++ ys)
open_with xs ys r row commit =
    filter_past (λ (s : LogRecord). is_open (xs ++ r ∷ ys) s) xs ys r (no_row_open (xs ++ r ∷ ys) r row)
    ∙ filter_agree (λ (s : LogRecord). is_open (xs ++ r ∷ ys) s) (λ (s : LogRecord). still_open (xs ++ ys) r s) (λ s. open_between xs ys r s commit) (xs ++ ys)

-- ---- how many are open

few_if : (p q : Bool) (r : LogRecord) (xs ys : List LogRecord) → length xs ≤ length ys → length (cond (p && not q) (r ∷ xs) xs) ≤ length (cond p (r ∷ ys) ys)
few_if true true r xs ys h = omega arith
few_if true false r xs ys h = omega arith
few_if false q r xs ys h = h

no_more : (p q : LogRecord → Bool) (rs : List LogRecord) → length (filter (λ s. p s && not (q s)) rs) ≤ length (filter p rs)
no_more p q [] = omega arith
no_more p q (r ∷ rs) = few_if (p r) (q r) r (filter (λ s. p s && not (q s)) rs) (filter p rs) (no_more p q rs)

less_here : (p q : Bool) (r : LogRecord) (xs ys : List LogRecord) → (p && q) ≡ true → length xs ≤ length ys → length (cond (p && not q) (r ∷ xs) xs) + 1 ≤ length (cond p (r ∷ ys) ys)
less_here true true r xs ys is h = omega arith
less_here true false r xs ys is h = absurd cc
less_here false q r xs ys is h = absurd cc

less_if : (p q : Bool) (r : LogRecord) (xs ys : List LogRecord) → length xs + 1 ≤ length ys → length (cond (p && not q) (r ∷ xs) xs) + 1 ≤ length (cond p (r ∷ ys) ys)
less_if true true r xs ys h = omega arith
less_if true false r xs ys h = omega arith
less_if false q r xs ys h = h

-- where one passes both tests
one_less : (p q : LogRecord → Bool) (rs : List LogRecord) → list_any (λ s. p s && q s) rs ≡ true → length (filter (λ s. p s && not (q s)) rs) + 1 ≤ length (filter p rs)
one_less p q [] is = absurd cc
one_less p q (r ∷ rs) is = elim (or_cases (p r && q r) (list_any (λ s. p s && q s) rs) is) [
  | inl e ↦ less_here (p r) (q r) r (filter (λ s. p s && not (q s)) rs) (filter p rs) e (no_more p q rs)
  | inr e ↦ less_if (p r) (q r) r (filter (λ s. p s && not (q s)) rs) (filter p rs) (one_less p q rs e)
]

-- ---- transactions stand in one log

and_false : (a : Bool) → (a && false) ≡ false
and_false true = refl
and_false false = refl

commit_spoken : (t : ℕ) (rs : List LogRecord) → speak_of t rs ≡ false → has_commit rs t ≡ false
commit_spoken t [] h = refl
commit_spoken t (r ∷ rs) h =
    let p = or_parts (r.tran == t) (speak_of t rs) h in
    or_from (is_commit r.body && (r.tran == t)) (has_commit rs t) (ap (λ (b : Bool). is_commit r.body && b) p.0 ∙ and_false (is_commit r.body)) (commit_spoken t rs p.1)

change_spoken : (t k : ℕ) (rs : List LogRecord) → has_change t k rs ≡ true → speak_of t rs ≡ true
change_spoken t k [] h = h
change_spoken t k (r ∷ rs) h = elim (or_cases (is_change t k r) (has_change t k rs) h) [
  | inl e ↦ or_left (r.tran == t) (speak_of t rs) (eq-eqb r.tran t (change_parts t k r e).tran)
  | inr e ↦ or_right (r.tran == t) (speak_of t rs) (change_spoken t k rs e)
]

some_not : (z s : Bool) → z ≡ false → (z || not s) ≡ true → s ≡ false
some_not true s h k = absurd cc
some_not false true h k = absurd cc
some_not false false h k = refl

-- a transaction of these records has none among those that they stand apart from
pub apart_from : (t : ℕ) (rs others : List LogRecord) → stands_apart rs others ≡ true → (t == 0) ≡ false → speak_of t rs ≡ true → speak_of t others ≡ false
apart_from t [] others h some is = absurd cc
apart_from t (r ∷ rs) others h some is =
    let p = and_parts ((r.tran == 0) || not (speak_of r.tran others)) (stands_apart rs others) h in
    elim (or_cases (r.tran == t) (speak_of t rs) is) [
      | inl e ↦ (let same : r.tran ≡ t = eqb-true r.tran t e in
          some_not (t == 0) (speak_of t others) some (subst (λ (n : ℕ). ((n == 0) || not (speak_of n others)) ≡ true) same p.0))
      | inr e ↦ apart_from t rs others p.1 some e
    ]

-- nor the other way round
pub apart_to : (t : ℕ) (rs others : List LogRecord) → stands_apart rs others ≡ true → (t == 0) ≡ false → speak_of t others ≡ true → speak_of t rs ≡ false
apart_to t rs others h some is = false_from_ne_true (speak_of t rs) (λ e. both_ways (speak_of t others) (apart_from t rs others h some e) is)

speak_split : (t : ℕ) (xs ys : List LogRecord) → speak_of t (xs ++ ys) ≡ (speak_of t xs || speak_of t ys)
speak_split t xs ys = list_any-append (λ (s : LogRecord). s.tran == t) xs ys

-- no other log speaks of a transaction of this one
pub record Alone (front : List Log) (log : Log) (back : List Log) (t : ℕ) : Type 0 where
  pub before : speak_of t (all_records front) ≡ false
  pub behind : speak_of t (all_records back) ≡ false

pub stands_alone : (front : List Log) (log : Log) (back : List Log) (t : ℕ) → stand_apart (front ++ log ∷ back) ≡ true → (t == 0) ≡ false → speak_of t log.records ≡ true → Alone front log back t
stands_alone [] log back t h some is =
    let p = and_parts (stands_apart log.records (all_records back)) (stand_apart back) h in
    record { before = refl; behind = apart_from t log.records (all_records back) p.0 some is }
stands_alone (x ∷ xs) log back t h some is =
    let p = and_parts (stands_apart x.records (all_records (xs ++ log ∷ back))) (stand_apart (xs ++ log ∷ back)) h in
    let rest = stands_alone xs log back t p.1 some is in
    let there : speak_of t (all_records (xs ++ log ∷ back)) ≡ true =
    ap (speak_of t) (all_split xs log back)
    ∙ speak_split t (until xs log) (all_records back)
    ∙ or_left (speak_of t (until xs log)) (speak_of t (all_records back)) (speak_split t (all_records xs) log.records ∙ or_right (speak_of t (all_records xs)) (speak_of t log.records) is) in
    record {
      before = speak_split t x.records (all_records xs) ∙ or_from (speak_of t x.records) (speak_of t (all_records xs)) (apart_to t x.records (all_records (xs ++ log ∷ back)) p.0 some there) rest.before;
      behind = rest.behind;
    }

-- ---- what is taken back is drawn, in all logs

each_at : (P : Log → Type 0) (front : List Log) (log : Log) (back : List Log) → AllByRecursion P (front ++ log ∷ back) → AllByRecursion P front × P log × AllByRecursion P back
each_at P [] log back h = (tt, h.0, h.1)
each_at P (x ∷ xs) log back h = let rest = each_at P xs log back h.1 in ((h.0, rest.0), rest.1, rest.2)

abbrev Follow : Log → Type 0
Follow l = EachFollows [] l.records

taken_split : (k : ℕ) (xs ys : List LogRecord) → is_taken k (xs ++ ys) ≡ (is_taken k xs || is_taken k ys)
taken_split k xs ys = list_any-append (λ (s : LogRecord). takes_back k s.body) xs ys

all_named : (logs : List Log) → AllByRecursion Follow logs → all_differ (drawn_numbers (all_records logs)) ≡ true → AreNamed (all_records logs)
all_named [] h differ = λ k is. absurd cc
all_named (log ∷ logs) h differ =
    let parts : all_differ (drawn_numbers log.records ++ drawn_numbers (all_records logs)) ≡ true = subst (λ (ns : List ℕ). all_differ ns ≡ true) (drawn_more log.records (all_records logs)) differ in
    let here : AreLeft log.records = are_left log.records h.0 (differ_front (drawn_numbers log.records) (drawn_numbers (all_records logs)) parts) in
    let there : AreNamed (all_records logs) = all_named logs h.1 (differ_back (drawn_numbers log.records) (drawn_numbers (all_records logs)) parts) in
    λ k is.
    let either : (is_among k (drawn_numbers log.records) || is_among k (drawn_numbers (all_records logs))) ≡ true =
    elim (or_cases (is_taken k log.records) (is_taken k (all_records logs)) (sym (taken_split k log.records (all_records logs)) ∙ is)) [
      | inl e ↦ or_left (is_among k (drawn_numbers log.records)) (is_among k (drawn_numbers (all_records logs))) (here.named k e)
      | inr e ↦ or_right (is_among k (drawn_numbers log.records)) (is_among k (drawn_numbers (all_records logs))) (there k e)
    ] in
    ap (is_among k) (drawn_more log.records (all_records logs)) ∙ among_more k (drawn_numbers log.records) (drawn_numbers (all_records logs)) ∙ either

-- ---- the row change that is taken back is open

any_weaker : (p q : LogRecord → Bool) (rs : List LogRecord) → ((s : LogRecord) → p s ≡ true → q s ≡ true) → list_any p rs ≡ true → list_any q rs ≡ true
any_weaker p q [] w h = h
any_weaker p q (r ∷ rs) w h = elim (or_cases (p r) (list_any p rs) h) [
  | inl e ↦ or_left (q r) (list_any q rs) (w r e)
  | inr e ↦ or_right (q r) (list_any q rs) (any_weaker p q rs w e)
]

pub is_next_by : (c : Course) (made : LogRecord) (n : ℕ) → slice_get c.undo (length c.undo - 1) ≡ Some made → made.lrsn ≡ n → is_next n c.undo ≡ true
is_next_by c made n last is = ap (has_number n) last ∙ eq-eqb made.lrsn n is

-- what holds of the logs before one of them, of it, and of those behind it
record Around (front : List Log) (log : Log) (back : List Log) : Type 0 where
  differ : all_differ ((drawn_numbers (all_records front) ++ drawn_numbers log.records) ++ drawn_numbers (all_records back)) ≡ true
  before : AreNamed (all_records front)
  here : AreLeft log.records
  behind : AreNamed (all_records back)

around : (front : List Log) (log : Log) (back : List Log) → AreTransactions (front ++ log ∷ back) → Around front log back
around front log back t =
    let first = drawn_numbers (all_records front) in
    let own = drawn_numbers log.records in
    let last = drawn_numbers (all_records back) in
    let split : drawn_numbers (all_records (front ++ log ∷ back)) ≡ (first ++ own) ++ last =
    ap drawn_numbers (all_split front log back) ∙ drawn_more (until front log) (all_records back) ∙ ap (λ (ns : List ℕ). ns ++ last) (drawn_more (all_records front) log.records) in
    let all : all_differ ((first ++ own) ++ last) ≡ true =
    subst (λ (ns : List ℕ). all_differ ns ≡ true) split (differ_tail 0 (drawn_numbers (all_records (front ++ log ∷ back))) t.numbers).1 in
    let two : all_differ (first ++ own) ≡ true = differ_front (first ++ own) last all in
    let f = each_at Follow front log back t.follow in
    record {
      differ = all;
      before = all_named front f.0 (differ_front first own two);
      here = are_left log.records f.1 (differ_back first own two);
      behind = all_named back f.2 (differ_back (first ++ own) last all);
    }

taken_nowhere : (front : List Log) (log : Log) (back : List Log) (t k : ℕ) → Around front log back → is_among k (numbers (undo_of log.records t)) ≡ true → is_taken k (until front log ++ all_records back) ≡ false
taken_nowhere front log back t k a is =
    let first = drawn_numbers (all_records front) in
    let own = drawn_numbers log.records in
    let last = drawn_numbers (all_records back) in
    let drawn : is_among k own ≡ true = change_drawn t k log.records ((a.here.left t).made k is) in
    let before : is_taken k (all_records front) ≡ false = false_from_ne_true (is_taken k (all_records front)) (λ e. differ_parts first own k (differ_front (first ++ own) last a.differ) (a.before k e) drawn) in
    let behind : is_taken k (all_records back) ≡ false =
    false_from_ne_true (is_taken k (all_records back)) (λ e. differ_parts (first ++ own) last k a.differ (among_more k first own ∙ or_right (is_among k first) (is_among k own) drawn) (a.behind k e)) in
    taken_split k (until front log) (all_records back)
    ∙ or_from (is_taken k (until front log)) (is_taken k (all_records back))
    (taken_split k (all_records front) log.records ∙ or_from (is_taken k (all_records front)) (is_taken k log.records) before ((a.here.left t).kept k is))
    behind

commit_split : (t : ℕ) (xs ys : List LogRecord) → has_commit (xs ++ ys) t ≡ (has_commit xs t || has_commit ys t)
commit_split t xs ys = list_any-append (λ (s : LogRecord). is_commit s.body && (s.tran == t)) xs ys

commit_nowhere : (front : List Log) (log : Log) (back : List Log) (t : ℕ) → Alone front log back t → (course_of log t).is_committed ≡ false → has_commit (until front log ++ all_records back) t ≡ false
commit_nowhere front log back t a none =
    commit_split t (until front log) (all_records back)
    ∙ or_from (has_commit (until front log) t) (has_commit (all_records back) t)
    (commit_split t (all_records front) log.records ∙ or_from (has_commit (all_records front) t) (has_commit log.records t) (commit_spoken t (all_records front) a.before) (sym (commits t log.records) ∙ none))
    (commit_spoken t (all_records back) a.behind)

open_when : (row commit taken : Bool) → row ≡ true → commit ≡ false → taken ≡ false → (row && not (commit || taken)) ≡ true
open_when true false false h k l = refl
open_when true false true h k l = absurd cc
open_when true true taken h k l = absurd cc
open_when false commit taken h k l = absurd cc

open_is : (rs : List LogRecord) (t k : ℕ) (s : LogRecord) → has_commit rs t ≡ false → is_taken k rs ≡ false → is_change t k s ≡ true → (is_open rs s && (k == s.lrsn)) ≡ true
open_is rs t k s commit taken h =
    let p = change_parts t k s h in
    and_from (is_open rs s) (k == s.lrsn)
    (open_when (is_row_change s.body) (has_commit rs s.tran) (is_taken s.lrsn rs) p.row (ap (has_commit rs) p.tran ∙ commit) (ap (λ (n : ℕ). is_taken n rs) p.number ∙ taken))
    (eq-eqb k s.lrsn (sym p.number))

-- a row change that is left of a transaction without a Commit is one of the records, and open
pub open_among : (front : List Log) (log : Log) (back : List Log) (t k : ℕ) → AreTransactions (front ++ log ∷ back) → (t == 0) ≡ false → is_among k (numbers (undo_of log.records t)) ≡ true → (course_of log t).is_committed ≡ false
    → list_any (λ (s : LogRecord). is_open (until front log ++ all_records back) s && (k == s.lrsn)) (until front log ++ all_records back) ≡ true
open_among front log back t k trans some among uncommitted =
    let all = until front log ++ all_records back in
    let a = around front log back trans in
    let made : has_change t k log.records ≡ true = (a.here.left t).made k among in
    let alone = stands_alone front log back t trans.homes some (change_spoken t k log.records made) in
    let commit : has_commit all t ≡ false = commit_nowhere front log back t alone uncommitted in
    let taken : is_taken k all ≡ false = taken_nowhere front log back t k a among in
    let passes : LogRecord → Bool = λ s. is_open all s && (k == s.lrsn) in
    let own : list_any passes log.records ≡ true = any_weaker (λ (s : LogRecord). is_change t k s) passes log.records (λ s h. open_is all t k s commit taken h) made in
    list_any-append passes (until front log) (all_records back)
    ∙ or_left (list_any passes (until front log)) (list_any passes (all_records back))
    (list_any-append passes (all_records front) log.records ∙ or_right (list_any passes (all_records front)) (list_any passes log.records) own)

-- so is the one that a compensation takes back
one_open : (front : List Log) (log : Log) (back : List Log) (r : LogRecord) (change : RowChange) (k : ℕ) → AreTransactions (front ++ log ∷ back) → (r.tran == 0) ≡ false → Compensates (front ++ log ∷ back) log r change k
    → list_any (λ (s : LogRecord). is_open (until front log ++ all_records back) s && (k == s.lrsn)) (until front log ++ all_records back) ≡ true
one_open front log back r change k t some c =
    open_among front log back r.tran k t some (next_among (undo_of log.records r.tran) k (is_next_by (course_of log r.tran) c.made k c.last c.number_is)) c.uncommitted

-- ---- numbers

has_tran : (b : Bool) (t : ℕ) → b ≡ true → TranFits b t → (t == 0) ≡ false
has_tran true t is h = ne_eqb t 0 h
has_tran false t is h = absurd cc

left_of : List LogRecord → LogRecord → ℕ
left_of rs r = length (filter (λ (s : LogRecord). still_open rs r s) rs)

numbers_repeat : (front : List Log) (log : Log) (back : List Log) (r : LogRecord) → r.lrsn ≤ greatest (all_records (front ++ log ∷ back))
    → max (greatest (until front log ++ all_records back)) r.lrsn + left_of (until front log ++ all_records back) r ≤ greatest (until front log ++ all_records back) + length (open_changes (until front log ++ all_records back))
unfolding left_of
numbers_repeat front log back r high =
    let all = until front log ++ all_records back in
    let same : greatest (all_records (front ++ log ∷ back)) ≡ greatest all = ap greatest (all_split front log back) in
    let few : left_of all r ≤ length (open_changes all) = no_more (is_open all) (λ (s : LogRecord). takes_back s.lrsn r.body) all in
    omega (arith, same, few, high)

numbers_by : (front : List Log) (log : Log) (back : List Log) (r : LogRecord) (b : Body) → AreTransactions (front ++ log ∷ back) → IsAllowed r → r.body ≡ b → IsNext (front ++ log ∷ back) log r b
    → max (greatest (until front log ++ all_records back)) r.lrsn + left_of (until front log ++ all_records back) r ≤ greatest (until front log ++ all_records back) + length (open_changes (until front log ++ all_records back))
unfolding left_of
numbers_by front log back r (body.RowChange change) t allowed is h = absurd h
numbers_by front log back r (body.Compensation change k) t allowed is h =
    let all = until front log ++ all_records back in
    let some : (r.tran == 0) ≡ false = has_tran (is_of_tran r.body) r.tran (ap is_of_tran is) allowed.tran_fits in
    let takes : LogRecord → Bool = λ s. takes_back s.lrsn r.body in
    let one : list_any (λ (s : LogRecord). is_open all s && takes s) all ≡ true =
    subst (λ (b : Body). list_any (λ (s : LogRecord). is_open all s && takes_back s.lrsn b) all ≡ true) (sym is) (one_open front log back r change k t some h) in
    let less : left_of all r + 1 ≤ length (open_changes all) = one_less (is_open all) takes all one in
    let same : greatest (all_records (front ++ log ∷ back)) ≡ greatest all = ap greatest (all_split front log back) in
    omega (arith, less, same, h.next)
numbers_by front log back r (body.System patches) t allowed is h = absurd h
numbers_by front log back r body.Commit t allowed is h = absurd h
numbers_by front log back r body.Ended t allowed is h = numbers_repeat front log back r h.number.high
numbers_by front log back r (body.Checkpoint offset) t allowed is h = numbers_repeat front log back r h.0.high
numbers_by front log back r body.RestartEnd t allowed is h = numbers_repeat front log back r h.high

below : (a b n : ℕ) → a ≤ b → b < n → a < n
below a b n h k = omega arith

greatest_between : (xs ys : List LogRecord) (r : LogRecord) → greatest (xs ++ r ∷ ys) ≡ max (greatest (xs ++ ys)) r.lrsn
greatest_between xs ys r = let more = greatest_more xs (r ∷ ys) in let split = greatest_more xs ys in omega (arith, more, split)

numbers_stay : (front : List Log) (log : Log) (back : List Log) (r : LogRecord) → AreTransactions (front ++ log ∷ back) → IsAllowed r → IsNext (front ++ log ∷ back) log r r.body
    → NumbersAreLeft (front ++ log ∷ back) → NumbersAreLeft (front ++ with_record log r ∷ back)
unfolding left_of
numbers_stay front log back r t allowed h n =
    let xs = until front log in
    let ys = all_records back in
    let before : all_records (front ++ log ∷ back) ≡ xs ++ ys = all_split front log back in
    let behind : all_records (front ++ with_record log r ∷ back) ≡ xs ++ r ∷ ys = all_with front log back r in
    let count : length (open_changes (xs ++ r ∷ ys)) ≡ left_of (xs ++ ys) r =
    ap (λ (l : List LogRecord). length l) (open_with xs ys r (no_row_change (front ++ log ∷ back) log r r.body h) (no_commit (front ++ log ∷ back) log r r.body h)) in
    let top : greatest (xs ++ r ∷ ys) ≡ max (greatest (xs ++ ys)) r.lrsn = greatest_between xs ys r in
    let by = numbers_by front log back r r.body t allowed refl h in
    let few : greatest (xs ++ r ∷ ys) + length (open_changes (xs ++ r ∷ ys)) ≤ greatest (xs ++ ys) + length (open_changes (xs ++ ys)) = omega (arith, count, top, by) in
    let old : greatest (xs ++ ys) + length (open_changes (xs ++ ys)) < 2 ^ (8 * lrsn_width) =
    subst (λ (rs : List LogRecord). greatest rs + length (open_changes rs) < 2 ^ (8 * lrsn_width)) before n in
    subst (λ (rs : List LogRecord). greatest rs + length (open_changes rs) < 2 ^ (8 * lrsn_width)) (sym behind)
    (below (greatest (xs ++ r ∷ ys) + length (open_changes (xs ++ r ∷ ys))) (greatest (xs ++ ys) + length (open_changes (xs ++ ys))) (2 ^ (8 * lrsn_width)) few old)

pub keeps_numbers : (logs after : List Log) (r : LogRecord) → Appends logs r after → AreTransactions logs → NumbersAreLeft logs → NumbersAreLeft after
keeps_numbers logs after r h t n =
    subst NumbersAreLeft (sym h.after_are) (numbers_stay h.front h.log h.back r (subst AreTransactions h.logs_are t) h.allowed
    (subst (λ (ls : List Log). IsNext ls h.log r r.body) h.logs_are h.next) (subst NumbersAreLeft h.logs_are n))
