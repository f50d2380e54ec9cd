-- What the merged records leave of a row, by the open changes of each transaction.
use Rattle.std.proofs.Common.{◌≡◌, ℕ, zero, suc, ◌+◌, ◌-◌, ◌<◌, Bool, true, false, cond, List, [], ◌∷◌, ◌++◌, length, take, Option, Some, None, inl, inr, refl, sym, ap, subst, ◌∙◌, arith, append_assoc}
use Rattle.std.specs.Prelude.{◌==◌, not, ◌||◌, ◌&&◌, if◌then◌else◌, slice_get}
use Rattle.std.specs.List.{list_all, flat_map, AllByRecursion}
use Rattle.std.proofs.lemmas.Bool.{cond_both, cases_Bool, or_left, or_right, and_from, and_parts, eqb-true}
use Rattle.std.proofs.lemmas.Grind.{flat_map-append}
use Rattle.std.proofs.lemmas.List.{append-nil, nil_from_length}
use Rattle.std.proofs.lemmas.List.Folds.{list_all-append}
use Rattle.std.proofs.lemmas.Option.{slice_get_within}
use Rattle.ds_model.specs.declared.log.LogRecord.{LogRecord}
use Rattle.ds_model.specs.declared.log.RowChange.{RowChange}
use Rattle.ds_model.specs.declared.log.Body.{Body}
use Rattle.ds_model.specs.declared.log.Body.TheVariants as body
use Rattle.ds_model.specs.Logs.{has_commit}
use Rattle.log_record.specs.Changes.{inverse}
use Rattle.log_trans.specs.declared.course.Course.{Course}
use Rattle.log_trans.specs.Courses.{new_course, is_next, undone_one, row_record, after_body}
use Rattle.log_trans.specs.Damage.{body_fault, unless, tran_at, undone_at}
use Rattle.sound_disk.specs.Transactions.{drawn_numbers, is_among, all_differ, course_in, InvertsBody, Inverts, TakesBack, EachFollows}
use Rattle.sound_disk.specs.Turns.{same_row, changes_row, lets, is_in_turn, are_in_turn}
use Rattle.sound_disk.specs.Rows_there.{row_by, row_with, row_from, row_after, Stood, BodyStood, BeforesAgree}
use Rattle.sound_appends.proofs.Left.{is_taken, numbers, itself, eq_turn, undo_of, AreLeft, left_none, left_with, course_last, commits, drawn_more, differ_front}
use Rattle.sound_tables.proofs.Row_chains.{Chain, chain_last, Rows, rows_same, rows_change, rows_back}

-- ---- the changes of one row

abbrev pub hits : ℕ → ℕ → RowChange → Bool
hits table key c = (c.table == table) && (c.key == key)

abbrev pub changes_on : ℕ → ℕ → Body → List RowChange
changes_on table key (body.RowChange c) = if hits table key c then c ∷ [] else []
changes_on table key (body.Compensation c undone) = []
changes_on table key (body.System patches) = []
changes_on table key body.Commit = []
changes_on table key body.Ended = []
changes_on table key (body.Checkpoint offset) = []
changes_on table key body.RestartEnd = []

abbrev pub on_row : ℕ → ℕ → List LogRecord → List RowChange
on_row table key us = flat_map (λ (u : LogRecord). changes_on table key u.body) us

on_push : (table key : ℕ) (us : List LogRecord) (x : LogRecord) → on_row table key (us ++ x ∷ []) ≡ on_row table key us ++ changes_on table key x.body
on_push table key us x =
    flat_map-append (λ (u : LogRecord). changes_on table key u.body) us (x ∷ []) ∙ ap (λ (cs : List RowChange). on_row table key us ++ cs) (append-nil (changes_on table key x.body))

-- those that are open, by transaction
abbrev pub open_on : ℕ → ℕ → List LogRecord → ℕ → List RowChange
open_on table key rs t = on_row table key (undo_of rs t)

abbrev pub committed_in : List LogRecord → ℕ → Bool
committed_in rs t = (course_in new_course t rs).is_committed

abbrev pub RowsOf : ℕ → ℕ → List LogRecord → Type 0
RowsOf table key rs = Rows (open_on table key rs) (committed_in rs) (row_after rs table key)

-- ---- with one record more

row_more : (table key : ℕ) (row : Option (List ℕ)) (xs ys : List LogRecord) → row_from table key row (xs ++ ys) ≡ row_from table key (row_from table key row xs) ys
row_more table key row [] ys = refl
row_more table key row (x ∷ xs) ys = row_more table key (row_with table key row x.body) xs ys

pub row_last : (table key : ℕ) (rs : List LogRecord) (r : LogRecord) → row_after (rs ++ r ∷ []) table key ≡ row_with table key (row_after rs table key) r.body
row_last table key rs r = row_more table key None rs (r ∷ [])

-- of its own transaction, and of the others
own_last : (rs : List LogRecord) (r : LogRecord) (b : Body) → r.body ≡ b → course_in new_course r.tran (rs ++ r ∷ []) ≡ after_body (course_in new_course r.tran rs) r b
own_last rs r b is =
    course_last new_course r.tran rs r
    ∙ ap (λ (own : Bool). cond own (after_body (course_in new_course r.tran rs) r r.body) (course_in new_course r.tran rs)) (itself r.tran)
    ∙ ap (after_body (course_in new_course r.tran rs) r) is

other_last : (rs : List LogRecord) (r : LogRecord) (t : ℕ) → (r.tran == t) ≡ false → course_in new_course t (rs ++ r ∷ []) ≡ course_in new_course t rs
other_last rs r t other =
    course_last new_course t rs r
    ∙ ap (λ (own : Bool). cond own (after_body (course_in new_course t rs) r r.body) (course_in new_course t rs)) other

-- what holds of a record's own transaction and of the others holds of all
by_tran : (P : ℕ → Type 0) (u t : ℕ) → P u → ((u == t) ≡ false → P t) → P t
by_tran P u t own other = elim (cases_Bool (u == t)) [
  | inl is ↦ subst P (eqb-true u t is) own
  | inr is ↦ other is
]

-- ---- a record that changes no row

quiet : (table key : ℕ) (rs : List LogRecord) (r : LogRecord) (b : Body) → r.body ≡ b → ((c : Course) → (after_body c r b).undo ≡ c.undo) → ((c : Course) → (after_body c r b).is_committed ≡ false → c.is_committed ≡ false)
    → ((row : Option (List ℕ)) → row_with table key row b ≡ row) → RowsOf table key rs → RowsOf table key (rs ++ r ∷ [])
quiet table key rs r b is undo committed row h =
    rows_same (open_on table key rs) (open_on table key (rs ++ r ∷ [])) (committed_in rs) (committed_in (rs ++ r ∷ [])) (row_after rs table key) (row_after (rs ++ r ∷ []) table key)
    (λ t. by_tran (λ (u : ℕ). open_on table key (rs ++ r ∷ []) u ≡ open_on table key rs u) r.tran t
    (ap (λ (c : Course). on_row table key c.undo) (own_last rs r b is) ∙ ap (on_row table key) (undo (course_in new_course r.tran rs)))
    (λ other. ap (λ (c : Course). on_row table key c.undo) (other_last rs r t other)))
    (λ t. by_tran (λ (u : ℕ). committed_in (rs ++ r ∷ []) u ≡ false → committed_in rs u ≡ false) r.tran t
    (λ un. committed (course_in new_course r.tran rs) (sym (ap (λ (c : Course). c.is_committed) (own_last rs r b is)) ∙ un))
    (λ other un. sym (ap (λ (c : Course). c.is_committed) (other_last rs r t other)) ∙ un))
    (row_last table key rs r ∙ ap (row_with table key (row_after rs table key)) is ∙ row (row_after rs table key))
    h

-- ---- open changes are records, of their transaction, that aren't settled

all_push : (p : LogRecord → Bool) (us : List LogRecord) (x : LogRecord) → list_all p us ≡ true → p x ≡ true → list_all p (us ++ x ∷ []) ≡ true
all_push p us x h k = list_all-append p us (x ∷ []) ∙ and_from (list_all p us) (p x && true) h (and_from (p x) true k refl)

each_push : (P : LogRecord → Type 0) (us : List LogRecord) (x : LogRecord) → AllByRecursion P us → P x → AllByRecursion P (us ++ x ∷ [])
each_push P [] x h k = (k, tt)
each_push P (u ∷ us) x h k = (h.0, each_push P us x h.1 k)

each_take : (P : LogRecord → Type 0) (n : ℕ) (us : List LogRecord) → AllByRecursion P us → AllByRecursion P (take n us)
each_take P zero us h = tt
each_take P (suc n) [] h = tt
each_take P (suc n) (u ∷ us) h = (h.0, each_take P n us h.1)

undone_each : (P : LogRecord → Type 0) (b : Bool) (c : Course) → AllByRecursion P c.undo → AllByRecursion P (cond b (undone_one c) c).undo
undone_each P true c h = each_take P (length c.undo - 1) c.undo h
undone_each P false c h = h

all_take : (p : LogRecord → Bool) (n : ℕ) (us : List LogRecord) → list_all p us ≡ true → list_all p (take n us) ≡ true
all_take p zero us h = refl
all_take p (suc n) [] h = refl
all_take p (suc n) (u ∷ us) h = let q = and_parts (p u) (list_all p us) h in and_from (p u) (list_all p (take n us)) q.0 (all_take p n us q.1)

undone_all : (p : LogRecord → Bool) (b : Bool) (c : Course) → list_all p c.undo ≡ true → list_all p (cond b (undone_one c) c).undo ≡ true
undone_all p true c h = all_take p (length c.undo - 1) c.undo h
undone_all p false c h = h

body_all : (p : LogRecord → Bool) (c : Course) (r : LogRecord) (b : Body) → r.body ≡ b → list_all p c.undo ≡ true → p r ≡ true → list_all p (after_body c r b).undo ≡ true
body_all p c r (body.RowChange d) is h k =
    all_push p c.undo (row_record r d) h
    (subst (λ (b : Body). p (record { version = r.version; lrsn = r.lrsn; tran = r.tran; body = b }) ≡ true) is k)
body_all p c r (body.Compensation d n) is h k = undone_all p (is_next n c.undo) c h
body_all p c r (body.System patches) is h k = h
body_all p c r body.Commit is h k = h
body_all p c r body.Ended is h k = h
body_all p c r (body.Checkpoint offset) is h k = h
body_all p c r body.RestartEnd is h k = h

-- what holds of all records of the transaction
undo_all : (p : LogRecord → Bool) (t : ℕ) (c : Course) (rs : List LogRecord) → list_all p c.undo ≡ true → list_all (λ (r : LogRecord). not (r.tran == t) || p r) rs ≡ true → list_all p (course_in c t rs).undo ≡ true
undo_all p t c [] h k = h
undo_all p t c (r ∷ rs) h k =
    let q = and_parts (not (r.tran == t) || p r) (list_all (λ (s : LogRecord). not (s.tran == t) || p s) rs) k in
    undo_all p t (cond (r.tran == t) (after_body c r r.body) c) rs
    (cond_both (r.tran == t) (after_body c r r.body) c (λ (d : Course). list_all p d.undo ≡ true)
    (λ own. body_all p c r r.body refl h (subst (λ (b : Bool). (not b || p r) ≡ true) own q.0))
    (λ other. h))
    q.1

all_weaker : (p q : LogRecord → Bool) (rs : List LogRecord) → ((r : LogRecord) → p r ≡ true → q r ≡ true) → list_all p rs ≡ true → list_all q rs ≡ true
all_weaker p q [] f h = refl
all_weaker p q (r ∷ rs) f h = let k = and_parts (p r) (list_all p rs) h in and_from (q r) (list_all q rs) (f r k.0) (all_weaker p q rs f k.1)

own_or : (a : Bool) → (not a || a) ≡ true
own_or true = refl
own_or false = refl

all_own : (t : ℕ) (rs : List LogRecord) → list_all (λ (r : LogRecord). not (r.tran == t) || (r.tran == t)) rs ≡ true
all_own t [] = refl
all_own t (r ∷ rs) = and_from (not (r.tran == t) || (r.tran == t)) (list_all (λ (s : LogRecord). not (s.tran == t) || (s.tran == t)) rs) (own_or (r.tran == t)) (all_own t rs)

-- ---- a row changes in turn

row_turned : (table key : ℕ) (c d : RowChange) → hits table key c ≡ true → same_row c d ≡ false → hits table key d ≡ false
row_turned table key c d h k =
    let p = and_parts (c.table == table) (c.key == key) h in
    subst (λ (n : ℕ). ((d.table == n) && (d.key == key)) ≡ false) (eqb-true c.table table p.0)
    (subst (λ (n : ℕ). ((d.table == c.table) && (d.key == n)) ≡ false) (eqb-true c.key key p.1)
    (ap (λ (b : Bool). b && (d.key == c.key)) (eq_turn d.table c.table) ∙ ap (λ (b : Bool). (c.table == d.table) && b) (eq_turn d.key c.key) ∙ k))

none_on : (table key : ℕ) (c : RowChange) (b : Body) → hits table key c ≡ true → changes_row c b ≡ false → changes_on table key b ≡ []
none_on table key c (body.RowChange d) h k = ap (λ (x : Bool). cond x (d ∷ []) []) (row_turned table key c d h k)
none_on table key c (body.Compensation d n) h k = refl
none_on table key c (body.System patches) h k = refl
none_on table key c body.Commit h k = refl
none_on table key c body.Ended h k = refl
none_on table key c (body.Checkpoint offset) h k = refl
none_on table key c body.RestartEnd h k = refl

let_by : (a b c d : Bool) → (not a || b || (c || d)) ≡ true → b ≡ false → c ≡ false → d ≡ false → a ≡ false
let_by false b c d h i j k = refl
let_by true true c d h i j k = absurd cc
let_by true false true d h i j k = absurd cc
let_by true false false true h i j k = absurd cc
let_by true false false false h i j k = absurd cc

none_open : (table key : ℕ) (rs : List LogRecord) (u t : ℕ) (c : RowChange) (us : List LogRecord) → hits table key c ≡ true → (u == t) ≡ false → has_commit rs t ≡ false
    → list_all (lets rs u c) us ≡ true → list_all (λ (x : LogRecord). x.tran == t) us ≡ true → ((k : ℕ) → is_among k (numbers us) ≡ true → is_taken k rs ≡ false) → on_row table key us ≡ []
none_open table key rs u t c [] h other un turn own kept = refl
none_open table key rs u t c (x ∷ us) h other un turn own kept =
    let p = and_parts (lets rs u c x) (list_all (lets rs u c) us) turn in
    let q = and_parts (x.tran == t) (list_all (λ (y : LogRecord). y.tran == t) us) own in
    let same : x.tran ≡ t = eqb-true x.tran t q.0 in
    let apart : (x.tran == u) ≡ false = ap (λ (n : ℕ). n == u) same ∙ eq_turn t u ∙ other in
    let commit : has_commit rs x.tran ≡ false = ap (has_commit rs) same ∙ un in
    let taken : is_taken x.lrsn rs ≡ false = kept x.lrsn (or_left (x.lrsn == x.lrsn) (is_among x.lrsn (numbers us)) (itself x.lrsn)) in
    let none : changes_row c x.body ≡ false = let_by (changes_row c x.body) (x.tran == u) (has_commit rs x.tran) (is_taken x.lrsn rs) p.0 apart commit taken in
    ap (λ (cs : List RowChange). cs ++ on_row table key us) (none_on table key c x.body h none)
    ∙ none_open table key rs u t c us h other un p.1 q.1 (λ k m. kept k (or_right (x.lrsn == k) (is_among k (numbers us)) m))

-- what holds of all records
body_each : (P : LogRecord → Type 0) (c : Course) (r : LogRecord) (b : Body) → r.body ≡ b → AllByRecursion P c.undo → P r → AllByRecursion P (after_body c r b).undo
body_each P c r (body.RowChange d) is h k =
    each_push P c.undo (row_record r d) h (subst (λ (b : Body). P (record { version = r.version; lrsn = r.lrsn; tran = r.tran; body = b })) is k)
body_each P c r (body.Compensation d n) is h k = undone_each P (is_next n c.undo) c h
body_each P c r (body.System patches) is h k = h
body_each P c r body.Commit is h k = h
body_each P c r body.Ended is h k = h
body_each P c r (body.Checkpoint offset) is h k = h
body_each P c r body.RestartEnd is h k = h

undo_each : (P : LogRecord → Type 0) (t : ℕ) (c : Course) (rs : List LogRecord) → AllByRecursion P c.undo → AllByRecursion P rs → AllByRecursion P (course_in c t rs).undo
undo_each P t c [] h k = h
undo_each P t c (r ∷ rs) h k =
    undo_each P t (cond (r.tran == t) (after_body c r r.body) c) rs
    (cond_both (r.tran == t) (after_body c r r.body) c (λ (d : Course). AllByRecursion P d.undo) (λ own. body_each P c r r.body refl h k.0) (λ other. h)) k.1

each_last : (P : LogRecord → Type 0) (us : List LogRecord) (x : LogRecord) → AllByRecursion P (us ++ x ∷ []) → P x
each_last P [] x h = h.0
each_last P (u ∷ us) x h = each_last P us x h.1

or_any : (a b : Bool) → b ≡ true → (not a || b) ≡ true
or_any true b h = h
or_any false b h = refl

-- no other transaction without a Commit has the row in its open changes
no_others : (table key : ℕ) (rs : List LogRecord) (u : ℕ) (c : RowChange) → AreLeft rs → hits table key c ≡ true → list_all (lets rs u c) rs ≡ true → (t : ℕ) → (u == t) ≡ false → committed_in rs t ≡ false
    → open_on table key rs t ≡ []
no_others table key rs u c left h turn t other un =
    none_open table key rs u t c (undo_of rs t) h other (sym (commits t rs) ∙ un)
    (undo_all (lets rs u c) t new_course rs refl (all_weaker (lets rs u c) (λ (r : LogRecord). not (r.tran == t) || lets rs u c r) rs (λ r is. or_any (r.tran == t) (lets rs u c r) is) turn))
    (undo_all (λ (r : LogRecord). r.tran == t) t new_course rs refl (all_own t rs))
    (left.left t).kept

-- ---- a row change

changed_row : (table key : ℕ) (rs : List LogRecord) (r : LogRecord) (c : RowChange) → r.body ≡ body.RowChange c → AreLeft rs → Stood rs c → list_all (lets rs r.tran c) rs ≡ true → RowsOf table key rs → RowsOf table key (rs ++ r ∷ [])
changed_row table key rs r c is left stood turn h =
    let mine : open_on table key (rs ++ r ∷ []) r.tran ≡ open_on table key rs r.tran ++ (if hits table key c then c ∷ [] else []) =
    ap (λ (d : Course). on_row table key d.undo) (own_last rs r (body.RowChange c) is) ∙ on_push table key (undo_of rs r.tran) (row_record r c) in
    let others : (t : ℕ) → (r.tran == t) ≡ false → open_on table key (rs ++ r ∷ []) t ≡ open_on table key rs t = λ t other. ap (λ (d : Course). on_row table key d.undo) (other_last rs r t other) in
    let same : (t : ℕ) → committed_in (rs ++ r ∷ []) t ≡ committed_in rs t =
    λ t. by_tran (λ (u : ℕ). committed_in (rs ++ r ∷ []) u ≡ committed_in rs u) r.tran t
    (ap (λ (d : Course). d.is_committed) (own_last rs r (body.RowChange c) is)) (λ other. ap (λ (d : Course). d.is_committed) (other_last rs r t other)) in
    let row : row_after (rs ++ r ∷ []) table key ≡ (if hits table key c then c.after else row_after rs table key) =
    row_last table key rs r ∙ ap (row_with table key (row_after rs table key)) is in
    elim (cases_Bool (hits table key c)) [
      | inl hit ↦ (
          let p = and_parts (c.table == table) (c.key == key) hit in
          let before : c.before ≡ row_after rs table key =
          sym (stood.before) ∙ ap (λ (n : ℕ). row_after rs n c.key) (eqb-true c.table table p.0) ∙ ap (row_after rs table) (eqb-true c.key key p.1) in
          rows_change (open_on table key rs) (open_on table key (rs ++ r ∷ [])) (committed_in rs) (committed_in (rs ++ r ∷ [])) (row_after rs table key) (row_after (rs ++ r ∷ []) table key) r.tran c
          (mine ∙ ap (λ (b : Bool). open_on table key rs r.tran ++ cond b (c ∷ []) []) hit) others same (no_others table key rs r.tran c left hit turn)
          before (row ∙ ap (λ (b : Bool). cond b c.after (row_after rs table key)) hit) h)
      | inr miss ↦ rows_same (open_on table key rs) (open_on table key (rs ++ r ∷ [])) (committed_in rs) (committed_in (rs ++ r ∷ [])) (row_after rs table key) (row_after (rs ++ r ∷ []) table key)
          (λ t. by_tran (λ (u : ℕ). open_on table key (rs ++ r ∷ []) u ≡ open_on table key rs u) r.tran t
          (mine ∙ ap (λ (b : Bool). open_on table key rs r.tran ++ cond b (c ∷ []) []) miss ∙ append-nil (open_on table key rs r.tran)) (others t))
          (λ t un. sym (same t) ∙ un)
          (row ∙ ap (λ (b : Bool). cond b c.after (row_after rs table key)) miss) h
    ]

-- ---- a compensation

next_if : (c n : Bool) (a b : ℕ) → cond c (Some a) (unless n b) ≡ None → n ≡ true
next_if true n a b h = absurd cc
next_if false true a b h = refl
next_if false false a b h = absurd cc

open_if : (c n : Bool) (a b : ℕ) → cond c (Some a) (unless n b) ≡ None → c ≡ false
open_if true n a b h = absurd cc
open_if false n a b h = refl

at_last : (us : List LogRecord) (n : ℕ) (x : LogRecord) → slice_get us n ≡ Some x → n + 1 ≡ length us → us ≡ take n us ++ x ∷ []
at_last [] n x h e = absurd cc
at_last (u ∷ us) zero x h e =
    let same : u ≡ x = cc in
    let none : us ≡ [] = nil_from_length us (omega arith) in
    ap (λ l. u ∷ l) none ∙ ap (λ v. v ∷ []) same
at_last (u ∷ us) (suc n) x h e = ap (λ l. u ∷ l) (at_last us n x h (omega arith))

-- the last of these is a row change, which the change takes back
pub record Last (us : List LogRecord) (d : RowChange) : Type 0 where
  pub few : List LogRecord
  pub last : LogRecord
  pub made : RowChange
  pub split : us ≡ few ++ last ∷ []
  pub front : few ≡ take (length us - 1) us
  pub changes : last.body ≡ body.RowChange made
  pub inverts : d ≡ inverse made

inverted : (us : List LogRecord) (d : RowChange) (x : LogRecord) (b : Body) → x.body ≡ b → us ≡ take (length us - 1) us ++ x ∷ [] → InvertsBody d b → Last us d
inverted us d x (body.RowChange c) is e h = record { few = take (length us - 1) us; last = x; made = c; split = e; front = refl; changes = is; inverts = h }
inverted us d x (body.Compensation c n) is e h = absurd h
inverted us d x (body.System patches) is e h = absurd h
inverted us d x body.Commit is e h = absurd h
inverted us d x body.Ended is e h = absurd h
inverted us d x (body.Checkpoint offset) is e h = absurd h
inverted us d x body.RestartEnd is e h = absurd h

pub last_of : (us : List LogRecord) (d : RowChange) (o : Option LogRecord) → slice_get us (length us - 1) ≡ o → Inverts d o → Last us d
last_of us d None e h = absurd h
last_of us d (Some x) e h =
    let within : length us - 1 < length us = slice_get_within us (length us - 1) x e in
    inverted us d x x.body refl (at_last us (length us - 1) x e (omega (arith, within))) h

taken_row : (table key : ℕ) (rs : List LogRecord) (r : LogRecord) (d : RowChange) (n : ℕ) → r.body ≡ body.Compensation d n → is_next n (undo_of rs r.tran) ≡ true → committed_in rs r.tran ≡ false → Last (undo_of rs r.tran) d
    → RowsOf table key rs → RowsOf table key (rs ++ r ∷ [])
taken_row table key rs r d n is next un l h =
    let c = l.made in
    let behind : course_in new_course r.tran (rs ++ r ∷ []) ≡ undone_one (course_in new_course r.tran rs) =
    own_last rs r (body.Compensation d n) is ∙ ap (λ (b : Bool). cond b (undone_one (course_in new_course r.tran rs)) (course_in new_course r.tran rs)) next in
    let left : open_on table key (rs ++ r ∷ []) r.tran ≡ on_row table key l.few = ap (λ (e : Course). on_row table key e.undo) behind ∙ ap (on_row table key) (sym l.front) in
    let mine : open_on table key rs r.tran ≡ open_on table key (rs ++ r ∷ []) r.tran ++ (if hits table key c then c ∷ [] else []) =
    ap (on_row table key) l.split ∙ on_push table key l.few l.last ∙ ap (λ (b : Body). on_row table key l.few ++ changes_on table key b) l.changes
    ∙ ap (λ (cs : List RowChange). cs ++ (if hits table key c then c ∷ [] else [])) (sym left) in
    let others : (t : ℕ) → (r.tran == t) ≡ false → open_on table key (rs ++ r ∷ []) t ≡ open_on table key rs t = λ t other. ap (λ (e : Course). on_row table key e.undo) (other_last rs r t other) in
    let same : (t : ℕ) → committed_in (rs ++ r ∷ []) t ≡ committed_in rs t =
    λ t. by_tran (λ (u : ℕ). committed_in (rs ++ r ∷ []) u ≡ committed_in rs u) r.tran t
    (ap (λ (e : Course). e.is_committed) behind) (λ other. ap (λ (e : Course). e.is_committed) (other_last rs r t other)) in
    let row : row_after (rs ++ r ∷ []) table key ≡ (if hits table key c then c.before else row_after rs table key) =
    row_last table key rs r ∙ ap (row_with table key (row_after rs table key)) is ∙ ap (row_by table key (row_after rs table key)) l.inverts in
    elim (cases_Bool (hits table key c)) [
      | inl hit ↦ rows_back (open_on table key rs) (open_on table key (rs ++ r ∷ [])) (committed_in rs) (committed_in (rs ++ r ∷ [])) (row_after rs table key) (row_after (rs ++ r ∷ []) table key) r.tran c
          (mine ∙ ap (λ (b : Bool). open_on table key (rs ++ r ∷ []) r.tran ++ cond b (c ∷ []) []) hit) others same un
          (row ∙ ap (λ (b : Bool). cond b c.before (row_after rs table key)) hit) h
      | inr miss ↦ rows_same (open_on table key rs) (open_on table key (rs ++ r ∷ [])) (committed_in rs) (committed_in (rs ++ r ∷ [])) (row_after rs table key) (row_after (rs ++ r ∷ []) table key)
          (λ t. by_tran (λ (u : ℕ). open_on table key (rs ++ r ∷ []) u ≡ open_on table key rs u) r.tran t
          (sym (mine ∙ ap (λ (b : Bool). open_on table key (rs ++ r ∷ []) r.tran ++ cond b (c ∷ []) []) miss ∙ append-nil (open_on table key (rs ++ r ∷ []) r.tran))) (others t))
          (λ t no. sym (same t) ∙ no)
          (row ∙ ap (λ (b : Bool). cond b c.before (row_after rs table key)) miss) h
    ]

-- ---- any record

no_commit : (c : Course) → true ≡ false → c.is_committed ≡ false
no_commit c h = absurd cc

rows_with : (table key : ℕ) (rs : List LogRecord) (r : LogRecord) (b : Body) → r.body ≡ b → AreLeft rs → body_fault (course_in new_course r.tran rs) r b ≡ None
    → TakesBack (course_in new_course r.tran rs) b → BodyStood rs r.lrsn b → is_in_turn rs r.tran b ≡ true → RowsOf table key rs → RowsOf table key (rs ++ r ∷ [])
rows_with table key rs r (body.RowChange c) is left fits back stood turn h = changed_row table key rs r c is left stood turn h
rows_with table key rs r (body.Compensation d n) is left fits back stood turn h =
    let c = course_in new_course r.tran rs in
    taken_row table key rs r d n is (next_if c.is_committed (is_next n c.undo) (tran_at r) (undone_at r) fits) (open_if c.is_committed (is_next n c.undo) (tran_at r) (undone_at r) fits)
    (last_of c.undo d (slice_get c.undo (length c.undo - 1)) refl back) h
rows_with table key rs r (body.System patches) is left fits back stood turn h = quiet table key rs r (body.System patches) is (λ c. refl) (λ c un. un) (λ row. refl) h
rows_with table key rs r body.Commit is left fits back stood turn h = quiet table key rs r body.Commit is (λ c. refl) (λ c un. no_commit c un) (λ row. refl) h
rows_with table key rs r body.Ended is left fits back stood turn h = quiet table key rs r body.Ended is (λ c. refl) (λ c un. un) (λ row. refl) h
rows_with table key rs r (body.Checkpoint offset) is left fits back stood turn h = quiet table key rs r (body.Checkpoint offset) is (λ c. refl) (λ c un. un) (λ row. refl) h
rows_with table key rs r body.RestartEnd is left fits back stood turn h = quiet table key rs r body.RestartEnd is (λ c. refl) (λ c un. un) (λ row. refl) h

rows_none : (table key : ℕ) → RowsOf table key []
rows_none table key = record { chained = λ t un. (None, refl); alone = λ t u apart a b. inl refl }

rows_from : (table key : ℕ) (earlier rs : List LogRecord) → AreLeft earlier → RowsOf table key earlier → EachFollows earlier rs → BeforesAgree earlier rs → are_in_turn earlier rs ≡ true
    → all_differ (drawn_numbers (earlier ++ rs)) ≡ true → RowsOf table key (earlier ++ rs)
rows_from table key earlier [] left h f stood turn differ = subst (RowsOf table key) (sym (append-nil earlier)) h
rows_from table key earlier (r ∷ rs) left h f stood turn differ =
    let same : (earlier ++ r ∷ []) ++ rs ≡ earlier ++ r ∷ rs = append_assoc earlier (r ∷ []) rs in
    let all : all_differ (drawn_numbers ((earlier ++ r ∷ []) ++ rs)) ≡ true = subst (λ (l : List LogRecord). all_differ (drawn_numbers l) ≡ true) (sym same) differ in
    let front : all_differ (drawn_numbers (earlier ++ r ∷ [])) ≡ true =
    differ_front (drawn_numbers (earlier ++ r ∷ [])) (drawn_numbers rs) (subst (λ (ns : List ℕ). all_differ ns ≡ true) (drawn_more (earlier ++ r ∷ []) rs) all) in
    let p = and_parts (is_in_turn earlier r.tran r.body) (are_in_turn (earlier ++ r ∷ []) rs) turn in
    let next : RowsOf table key (earlier ++ r ∷ []) = rows_with table key earlier r r.body refl left f.0.fits f.0.takes_back stood.0 p.0 h in
    subst (RowsOf table key) same (rows_from table key (earlier ++ r ∷ []) rs (left_with earlier r left front f.0) next f.1 stood.1 p.1 all)

-- ---- all records

pub rows_of : (table key : ℕ) (rs : List LogRecord) → EachFollows [] rs → BeforesAgree [] rs → are_in_turn [] rs ≡ true → all_differ (drawn_numbers rs) ≡ true → RowsOf table key rs
rows_of table key rs f stood turn differ = rows_from table key [] rs left_none (rows_none table key) f stood turn differ

hits_own : (c : RowChange) → hits c.table c.key c ≡ true
hits_own c = and_from (c.table == c.table) (c.key == c.key) (itself c.table) (itself c.key)

-- the row is what the last open change of a transaction without a Commit left
pub row_of_last : (rs : List LogRecord) (t : ℕ) (d : RowChange) → RowsOf d.table d.key rs → committed_in rs t ≡ false → Last (undo_of rs t) d → row_after rs d.table d.key ≡ d.before
row_of_last rs t d h un l =
    let c = l.made in
    let chain = h.chained t un in
    let hit : hits d.table d.key c ≡ true = subst (λ (e : RowChange). hits e.table e.key c ≡ true) (sym l.inverts) (hits_own c) in
    let all : open_on d.table d.key rs t ≡ on_row d.table d.key l.few ++ c ∷ [] =
    ap (on_row d.table d.key) l.split ∙ on_push d.table d.key l.few l.last ∙ ap (λ (b : Body). on_row d.table d.key l.few ++ changes_on d.table d.key b) l.changes
    ∙ ap (λ (b : Bool). on_row d.table d.key l.few ++ cond b (c ∷ []) []) hit in
    sym (chain_last chain.0 (on_row d.table d.key l.few) (row_after rs d.table d.key) c (subst (λ (cs : List RowChange). Chain chain.0 cs (row_after rs d.table d.key)) all chain.1))
    ∙ sym (ap (λ (e : RowChange). e.before) l.inverts)

-- what holds of all records holds of that change's
pub each_of_last : (P : LogRecord → Type 0) (rs : List LogRecord) (t : ℕ) (d : RowChange) → AllByRecursion P rs → (l : Last (undo_of rs t) d) → P l.last
each_of_last P rs t d h l = each_last P l.few l.last (subst (AllByRecursion P) l.split (undo_each P t new_course rs tt h))
