-- What a transaction's records of a log leave to be undone: row changes of the log that no compensation of it takes back.
use Rattle.std.proofs.Common.{◌≡◌, ℕ, zero, suc, ◌+◌, ◌-◌, ◌<◌, Bool, true, false, cond, List, [], ◌∷◌, ◌++◌, length, take, Option, Some, None, inl, inr, refl, sym, ap, subst, ◌∙◌, arith, append_assoc}
use Rattle.std.specs.Prelude.{◌==◌, not, ◌||◌, ◌&&◌, slice_get}
use Rattle.std.specs.List.{list_any}
use Rattle.std.proofs.lemmas.Bool.{cond_both, or_cases, or_parts, or_from, or_left, or_right, and_parts, eqb-true, eq-eqb, both_ways, false_from_ne_true, not-true}
use Rattle.std.proofs.lemmas.Bool.Decides.{nat_tests}
use Rattle.std.proofs.lemmas.List.{append-nil, nil_from_length}
use Rattle.std.proofs.lemmas.List.Folds.{list_any-append}
use Rattle.std.proofs.lemmas.Option.{slice_get_within}
use Rattle.ds_model.specs.declared.log.LogRecord.{LogRecord}
use Rattle.ds_model.specs.declared.log.RowChange.{RowChange}
use Rattle.ds_model.specs.declared.log.Body.{Body}
use Rattle.ds_model.specs.declared.log.Body.TheVariants as body
use Rattle.ds_model.specs.Logs.{is_commit, has_commit}
use Rattle.log_record.specs.Changes.{is_drawn}
use Rattle.log_trans.specs.declared.course.Course.{Course}
use Rattle.log_trans.specs.Courses.{new_course, has_number, is_next, undone_one, row_record, after_body}
use Rattle.log_trans.specs.Damage.{body_fault, tran_at, undone_at, unless}
use Rattle.sound_disk.specs.Settled.{is_row_change, takes_back}
use Rattle.sound_disk.specs.Transactions.{drawn_numbers, is_among, all_differ, course_in, MayFollow, EachFollows}

-- ---- tests of records

-- the record is the transaction's row change of this number
abbrev pub is_change : ℕ → ℕ → LogRecord → Bool
is_change t k s = (is_row_change s.body && (s.tran == t)) && (s.lrsn == k)

abbrev pub has_change : ℕ → ℕ → List LogRecord → Bool
has_change t k rs = list_any (λ (s : LogRecord). is_change t k s) rs

-- a compensation takes back the row change of this number
abbrev pub is_taken : ℕ → List LogRecord → Bool
is_taken k rs = list_any (λ (s : LogRecord). takes_back k s.body) rs

abbrev pub numbers : List LogRecord → List ℕ
numbers [] = []
numbers (r ∷ rs) = r.lrsn ∷ numbers rs

-- ---- tests

pub or_nothing : (a : Bool) → (a || false) ≡ true → a ≡ true
or_nothing true h = refl
or_nothing false h = h

is_both : (a b c : Bool) → a ≡ true → b ≡ true → c ≡ true → ((a && b) && c) ≡ true
is_both true true c h k l = l
is_both true false c h k l = absurd cc
is_both false b c h k l = absurd cc

-- ---- numbers

pub itself : (n : ℕ) → (n == n) ≡ true
itself n = eq-eqb n n refl

pub eq_turn : (m n : ℕ) → (m == n) ≡ (n == m)
eq_turn m n = grind (arith, nat_tests)

pub among_more : (n : ℕ) (xs ys : List ℕ) → is_among n (xs ++ ys) ≡ (is_among n xs || is_among n ys)
among_more n xs ys = list_any-append (λ (m : ℕ). m == n) xs ys

pub numbers_more : (xs ys : List LogRecord) → numbers (xs ++ ys) ≡ numbers xs ++ numbers ys
numbers_more [] ys = refl
numbers_more (x ∷ xs) ys = ap (λ (ns : List ℕ). x.lrsn ∷ ns) (numbers_more xs ys)

drawn_when : (b : Bool) (n : ℕ) (xs ys zs : List ℕ) → xs ≡ ys ++ zs → cond b (n ∷ xs) xs ≡ cond b (n ∷ ys) ys ++ zs
drawn_when true n xs ys zs e = ap (λ (l : List ℕ). n ∷ l) e
drawn_when false n xs ys zs e = e

pub drawn_more : (xs ys : List LogRecord) → drawn_numbers (xs ++ ys) ≡ drawn_numbers xs ++ drawn_numbers ys
drawn_more [] ys = refl
drawn_more (x ∷ xs) ys = drawn_when (is_drawn x.body) x.lrsn (drawn_numbers (xs ++ ys)) (drawn_numbers xs) (drawn_numbers ys) (drawn_more xs ys)

-- ---- numbers that differ

pub differ_tail : (x : ℕ) (xs : List ℕ) → all_differ (x ∷ xs) ≡ true → (is_among x xs ≡ false) × (all_differ xs ≡ true)
differ_tail x xs h = let p = and_parts (not (is_among x xs)) (all_differ xs) h in (not-true (is_among x xs) p.0, p.1)

pub differ_from : (x : ℕ) (xs : List ℕ) → is_among x xs ≡ false → all_differ xs ≡ true → all_differ (x ∷ xs) ≡ true
differ_from x xs h k = ap (λ (b : Bool). not b && all_differ xs) h ∙ k

pub differ_front : (xs ys : List ℕ) → all_differ (xs ++ ys) ≡ true → all_differ xs ≡ true
differ_front [] ys h = refl
differ_front (x ∷ xs) ys h =
    let d = differ_tail x (xs ++ ys) h in
    let none : is_among x xs ≡ false = false_from_ne_true (is_among x xs) (λ is. both_ways (is_among x (xs ++ ys)) d.0 (among_more x xs ys ∙ or_left (is_among x xs) (is_among x ys) is)) in
    differ_from x xs none (differ_front xs ys d.1)

pub differ_back : (xs ys : List ℕ) → all_differ (xs ++ ys) ≡ true → all_differ ys ≡ true
differ_back [] ys h = h
differ_back (x ∷ xs) ys h = differ_back xs ys (differ_tail x (xs ++ ys) h).1

-- no number stands in both parts
pub differ_parts : (xs ys : List ℕ) (k : ℕ) → all_differ (xs ++ ys) ≡ true → is_among k xs ≡ true → is_among k ys ≡ true → ⊥
differ_parts [] ys k h p q = absurd cc
differ_parts (x ∷ xs) ys k h p q =
    let d = differ_tail x (xs ++ ys) h in
    elim (or_cases (x == k) (is_among k xs) p) [
      | inl e ↦ both_ways (is_among x (xs ++ ys)) d.0 (among_more x xs ys ∙ or_right (is_among x xs) (is_among x ys) (ap (λ (n : ℕ). is_among n ys) (eqb-true x k e) ∙ q))
      | inr e ↦ differ_parts xs ys k d.1 e q
    ]

pub differ_push : (xs : List ℕ) (n : ℕ) → all_differ xs ≡ true → is_among n xs ≡ false → all_differ (xs ++ n ∷ []) ≡ true
differ_push [] n h none = refl
differ_push (x ∷ xs) n h none =
    let d = differ_tail x xs h in
    let o : ((x == n) ≡ false) × (is_among n xs ≡ false) = or_parts (x == n) (is_among n xs) none in
    let apart : is_among x (xs ++ n ∷ []) ≡ false = among_more x xs (n ∷ []) ∙ or_from (is_among x xs) ((n == x) || false) d.0 (or_from (n == x) false (eq_turn n x ∙ o.0) refl) in
    differ_from x (xs ++ n ∷ []) apart (differ_push xs n d.1 o.1)

-- ---- what the tests have to do with numbers

row_is_drawn : (b : Body) → is_row_change b ≡ true → is_drawn b ≡ true
row_is_drawn (body.RowChange change) h = refl
row_is_drawn (body.Compensation change undone) h = absurd cc
row_is_drawn (body.System patches) h = absurd cc
row_is_drawn body.Commit h = absurd cc
row_is_drawn body.Ended h = absurd cc
row_is_drawn (body.Checkpoint offset) h = absurd cc
row_is_drawn body.RestartEnd h = absurd cc

among_here : (d : Bool) (n k : ℕ) (ns : List ℕ) → d ≡ true → (n == k) ≡ true → is_among k (cond d (n ∷ ns) ns) ≡ true
among_here true n k ns h e = or_left (n == k) (is_among k ns) e
among_here false n k ns h e = absurd cc

among_behind : (d : Bool) (n k : ℕ) (ns : List ℕ) → is_among k ns ≡ true → is_among k (cond d (n ∷ ns) ns) ≡ true
among_behind true n k ns h = or_right (n == k) (is_among k ns) h
among_behind false n k ns h = h

-- what a row change with the test is
pub record ChangeParts (t k : ℕ) (s : LogRecord) : Type 0 where
  pub row : is_row_change s.body ≡ true
  pub tran : s.tran ≡ t
  pub number : s.lrsn ≡ k

pub change_parts : (t k : ℕ) (s : LogRecord) → is_change t k s ≡ true → ChangeParts t k s
change_parts t k s h =
    let p = and_parts (is_row_change s.body && (s.tran == t)) (s.lrsn == k) h in
    let q = and_parts (is_row_change s.body) (s.tran == t) p.0 in
    record { row = q.0; tran = eqb-true s.tran t q.1; number = eqb-true s.lrsn k p.1 }

pub change_drawn : (t k : ℕ) (rs : List LogRecord) → has_change t k rs ≡ true → is_among k (drawn_numbers rs) ≡ true
change_drawn t k [] h = absurd cc
change_drawn t k (r ∷ rs) h = elim (or_cases (is_change t k r) (has_change t k rs) h) [
  | inl e ↦ (let p = change_parts t k r e in among_here (is_drawn r.body) r.lrsn k (drawn_numbers rs) (row_is_drawn r.body p.row) (eq-eqb r.lrsn k p.number))
  | inr e ↦ among_behind (is_drawn r.body) r.lrsn k (drawn_numbers rs) (change_drawn t k rs e)
]

differ_rest : (d : Bool) (n : ℕ) (ns : List ℕ) → all_differ (cond d (n ∷ ns) ns) ≡ true → all_differ ns ≡ true
differ_rest true n ns h = (differ_tail n ns h).1
differ_rest false n ns h = h

differ_here : (d : Bool) (n : ℕ) (ns : List ℕ) → d ≡ true → all_differ (cond d (n ∷ ns) ns) ≡ true → is_among n ns ≡ false
differ_here true n ns is h = (differ_tail n ns h).0
differ_here false n ns is h = absurd cc

-- a row change that stands first isn't another's that stands behind it
not_again : (t u k : ℕ) (r : LogRecord) (rs : List LogRecord) → all_differ (drawn_numbers (r ∷ rs)) ≡ true → is_change t k r ≡ true → has_change u k rs ≡ true → ⊥
not_again t u k r rs h here there =
    let p = change_parts t k r here in
    let none : is_among r.lrsn (drawn_numbers rs) ≡ false = differ_here (is_drawn r.body) r.lrsn (drawn_numbers rs) (row_is_drawn r.body p.row) h in
    both_ways (is_among k (drawn_numbers rs)) (ap (λ (n : ℕ). is_among n (drawn_numbers rs)) (sym p.number) ∙ none) (change_drawn u k rs there)

-- a number is that of a row change of one transaction
pub one_tran : (t u k : ℕ) (rs : List LogRecord) → all_differ (drawn_numbers rs) ≡ true → has_change t k rs ≡ true → has_change u k rs ≡ true → t ≡ u
one_tran t u k [] h p q = absurd cc
one_tran t u k (r ∷ rs) h p q = elim (or_cases (is_change t k r) (has_change t k rs) p) [
  | inl a ↦ elim (or_cases (is_change u k r) (has_change u k rs) q) [
    | inl b ↦ sym (change_parts t k r a).tran ∙ (change_parts u k r b).tran
    | inr b ↦ absurd (not_again t u k r rs h a b)
  ]
  | inr a ↦ elim (or_cases (is_change u k r) (has_change u k rs) q) [
    | inl b ↦ absurd (not_again u t k r rs h b a)
    | inr b ↦ one_tran t u k rs (differ_rest (is_drawn r.body) r.lrsn (drawn_numbers rs) h) a b
  ]
]

-- ---- the last of a list

at_last : {A : Type 0} (us : List A) (n : ℕ) (x : A) → slice_get us n ≡ Some x → n + 1 ≡ length us → us ≡ take n us ++ x ∷ []
at_last [] n x h e = absurd cc
at_last (u ∷ us) zero x h e =
    let same : u ≡ x = cc in
    let none : us ≡ [] = nil_from_length us (omega arith) in
    ap (λ l. u ∷ l) none ∙ ap (λ v. v ∷ []) same
at_last (u ∷ us) (suc n) x h e = ap (λ l. u ∷ l) (at_last us n x h (omega arith))

-- the last row change has this number
record Last (us : List LogRecord) (n : ℕ) : Type 0 where
  last : LogRecord
  split : us ≡ take (length us - 1) us ++ last ∷ []
  number : last.lrsn ≡ n

last_by : (us : List LogRecord) (n : ℕ) (o : Option LogRecord) → slice_get us (length us - 1) ≡ o → has_number n o ≡ true → Last us n
last_by us n None e h = absurd cc
last_by us n (Some x) e h =
    let within : length us - 1 < length us = slice_get_within us (length us - 1) x e in
    record { last = x; split = at_last us (length us - 1) x e (omega arith); number = eqb-true x.lrsn n h }

last_is : (us : List LogRecord) (n : ℕ) → is_next n us ≡ true → Last us n
last_is us n h = last_by us n (slice_get us (length us - 1)) refl h

last_numbers : (us : List LogRecord) (n : ℕ) (l : Last us n) → numbers us ≡ numbers (take (length us - 1) us) ++ n ∷ []
last_numbers us n l =
    ap numbers l.split ∙ numbers_more (take (length us - 1) us) (l.last ∷ []) ∙ ap (λ (k : ℕ). numbers (take (length us - 1) us) ++ k ∷ []) l.number

pub next_among : (us : List LogRecord) (n : ℕ) → is_next n us ≡ true → is_among n (numbers us) ≡ true
next_among us n h =
    ap (is_among n) (last_numbers us n (last_is us n h))
    ∙ among_more n (numbers (take (length us - 1) us)) (n ∷ [])
    ∙ or_right (is_among n (numbers (take (length us - 1) us))) ((n == n) || false) (or_left (n == n) false (itself n))

-- ---- what is left of one transaction

-- these are row changes of the transaction among the records, each of which is there once, and none of the records takes one back
pub record IsLeft (rs : List LogRecord) (t : ℕ) (us : List LogRecord) : Type 0 where
  pub made : (k : ℕ) → is_among k (numbers us) ≡ true → has_change t k rs ≡ true
  pub kept : (k : ℕ) → is_among k (numbers us) ≡ true → is_taken k rs ≡ false
  pub differ : all_differ (numbers us) ≡ true

-- what is taken back is one of the records
abbrev pub AreNamed : List LogRecord → Type 0
AreNamed rs = (k : ℕ) → is_taken k rs ≡ true → is_among k (drawn_numbers rs) ≡ true

abbrev pub undo_of : List LogRecord → ℕ → List LogRecord
undo_of rs t = (course_in new_course t rs).undo

pub record AreLeft (rs : List LogRecord) : Type 0 where
  pub left : (t : ℕ) → IsLeft rs t (undo_of rs t)
  pub named : AreNamed rs

change_stays : (t k : ℕ) (rs : List LogRecord) (r : LogRecord) → has_change t k rs ≡ true → has_change t k (rs ++ r ∷ []) ≡ true
change_stays t k rs r h = list_any-append (λ (s : LogRecord). is_change t k s) rs (r ∷ []) ∙ or_left (has_change t k rs) (is_change t k r || false) h

change_comes : (t k : ℕ) (rs : List LogRecord) (r : LogRecord) → is_change t k r ≡ true → has_change t k (rs ++ r ∷ []) ≡ true
change_comes t k rs r h =
    list_any-append (λ (s : LogRecord). is_change t k s) rs (r ∷ []) ∙ or_right (has_change t k rs) (is_change t k r || false) (or_left (is_change t k r) false h)

taken_with : (k : ℕ) (rs : List LogRecord) (r : LogRecord) → is_taken k rs ≡ false → takes_back k r.body ≡ false → is_taken k (rs ++ r ∷ []) ≡ false
taken_with k rs r h none =
    list_any-append (λ (s : LogRecord). takes_back k s.body) rs (r ∷ []) ∙ or_from (is_taken k rs) (takes_back k r.body || false) h (or_from (takes_back k r.body) false none refl)

-- a record that takes back none of these
left_stays : (rs : List LogRecord) (r : LogRecord) (t : ℕ) (us : List LogRecord) → IsLeft rs t us → ((k : ℕ) → is_among k (numbers us) ≡ true → takes_back k r.body ≡ false) → IsLeft (rs ++ r ∷ []) t us
left_stays rs r t us h none = record {
  made = λ k is. change_stays t k rs r (h.made k is);
  kept = λ k is. taken_with k rs r (h.kept k is) (none k is);
  differ = h.differ;
}

-- a row change more
left_push : (rs : List LogRecord) (r : LogRecord) (t : ℕ) (us : List LogRecord) (c : RowChange) → AreNamed rs → IsLeft rs t us → r.body ≡ body.RowChange c → (r.tran == t) ≡ true → is_among r.lrsn (drawn_numbers rs) ≡ false
    → IsLeft (rs ++ r ∷ []) t (us ++ row_record r c ∷ [])
left_push rs r t us c named h is own new =
    let more : numbers (us ++ row_record r c ∷ []) ≡ numbers us ++ r.lrsn ∷ [] = numbers_more us (row_record r c ∷ []) in
    let none : (k : ℕ) → takes_back k r.body ≡ false = λ k. ap (takes_back k) is in
    let either : (k : ℕ) → is_among k (numbers (us ++ row_record r c ∷ [])) ≡ true → (is_among k (numbers us) || ((r.lrsn == k) || false)) ≡ true =
    λ k m. sym (among_more k (numbers us) (r.lrsn ∷ [])) ∙ sym (ap (is_among k) more) ∙ m in
    let row : is_row_change r.body ≡ true = ap is_row_change is in
    let fresh : is_taken r.lrsn rs ≡ false = false_from_ne_true (is_taken r.lrsn rs) (λ taken. both_ways (is_among r.lrsn (drawn_numbers rs)) new (named r.lrsn taken)) in
    let apart : is_among r.lrsn (numbers us) ≡ false = false_from_ne_true (is_among r.lrsn (numbers us)) (λ m. both_ways (is_among r.lrsn (drawn_numbers rs)) new (change_drawn t r.lrsn rs (h.made r.lrsn m))) in
    record {
      made = λ k m. elim (or_cases (is_among k (numbers us)) ((r.lrsn == k) || false) (either k m)) [
        | inl e ↦ change_stays t k rs r (h.made k e)
        | inr e ↦ change_comes t k rs r (is_both (is_row_change r.body) (r.tran == t) (r.lrsn == k) row own (or_nothing (r.lrsn == k) e))
      ];
      kept = λ k m. elim (or_cases (is_among k (numbers us)) ((r.lrsn == k) || false) (either k m)) [
        | inl e ↦ taken_with k rs r (h.kept k e) (none k)
        | inr e ↦ subst (λ (n : ℕ). is_taken n (rs ++ r ∷ []) ≡ false) (eqb-true r.lrsn k (or_nothing (r.lrsn == k) e)) (taken_with r.lrsn rs r fresh (none r.lrsn))
      ];
      differ = subst (λ (ns : List ℕ). all_differ ns ≡ true) (sym more) (differ_push (numbers us) r.lrsn h.differ apart);
    }

-- the last one is taken back
left_pop : (rs : List LogRecord) (r : LogRecord) (t n : ℕ) (us : List LogRecord) (c : RowChange) → IsLeft rs t us → r.body ≡ body.Compensation c n → is_next n us ≡ true → IsLeft (rs ++ r ∷ []) t (take (length us - 1) us)
left_pop rs r t n us c h is next =
    let few = take (length us - 1) us in
    let all : numbers us ≡ numbers few ++ n ∷ [] = last_numbers us n (last_is us n next) in
    let differ : all_differ (numbers few ++ n ∷ []) ≡ true = subst (λ (ns : List ℕ). all_differ ns ≡ true) all h.differ in
    let before : (k : ℕ) → is_among k (numbers few) ≡ true → is_among k (numbers us) ≡ true =
    λ k m. ap (is_among k) all ∙ among_more k (numbers few) (n ∷ []) ∙ or_left (is_among k (numbers few)) ((n == k) || false) m in
    let other : (k : ℕ) → is_among k (numbers few) ≡ true → (n == k) ≡ false =
    λ k m. false_from_ne_true (n == k) (λ e. differ_parts (numbers few) (n ∷ []) k differ m (or_left (n == k) false e)) in
    record {
      made = λ k m. change_stays t k rs r (h.made k (before k m));
      kept = λ k m. taken_with k rs r (h.kept k (before k m)) (ap (takes_back k) is ∙ other k m);
      differ = differ_front (numbers few) (n ∷ []) differ;
    }

-- ---- a record more

next_if : (c n : Bool) (a b : ℕ) → cond c (Some a) (unless n b) ≡ None → n ≡ true
next_if true n a b h = absurd cc
next_if false true a b h = refl
next_if false false a b h = absurd cc

-- a compensation that may follow takes back the last row change
takes_last : (c : Course) (r : LogRecord) (change : RowChange) (n : ℕ) → body_fault c r (body.Compensation change n) ≡ None → is_next n c.undo ≡ true
takes_last c r change n h = next_if c.is_committed (is_next n c.undo) (tran_at r) (undone_at r) h

pop_if : (b : Bool) (c : Course) (P : List LogRecord → Type 0) → b ≡ true → P (undone_one c).undo → P (cond b (undone_one c) c).undo
pop_if true c P is h = h
pop_if false c P is h = absurd cc

own_record : (rs : List LogRecord) (r : LogRecord) (t : ℕ) (c : Course) (b : Body) → AreNamed rs → IsLeft rs t c.undo → r.body ≡ b → (r.tran == t) ≡ true → body_fault c r b ≡ None
    → (is_drawn b ≡ true → is_among r.lrsn (drawn_numbers rs) ≡ false) → IsLeft (rs ++ r ∷ []) t (after_body c r b).undo
own_record rs r t c (body.RowChange change) named h is own fits new = left_push rs r t c.undo change named h is own (new refl)
own_record rs r t c (body.Compensation change n) named h is own fits new =
    let next = takes_last c r change n fits in
    pop_if (is_next n c.undo) c (λ (us : List LogRecord). IsLeft (rs ++ r ∷ []) t us) next (left_pop rs r t n c.undo change h is next)
own_record rs r t c (body.System patches) named h is own fits new = left_stays rs r t c.undo h (λ k m. ap (takes_back k) is)
own_record rs r t c body.Commit named h is own fits new = left_stays rs r t c.undo h (λ k m. ap (takes_back k) is)
own_record rs r t c body.Ended named h is own fits new = left_stays rs r t c.undo h (λ k m. ap (takes_back k) is)
own_record rs r t c (body.Checkpoint offset) named h is own fits new = left_stays rs r t c.undo h (λ k m. ap (takes_back k) is)
own_record rs r t c body.RestartEnd named h is own fits new = left_stays rs r t c.undo h (λ k m. ap (takes_back k) is)

-- what a record takes back is a row change of its own transaction
taken_own : (rs : List LogRecord) (r : LogRecord) (k : ℕ) (b : Body) → IsLeft rs r.tran (undo_of rs r.tran) → body_fault (course_in new_course r.tran rs) r b ≡ None → takes_back k b ≡ true → has_change r.tran k rs ≡ true
taken_own rs r k (body.RowChange change) h fits is = absurd cc
taken_own rs r k (body.Compensation change n) h fits is =
    let next = takes_last (course_in new_course r.tran rs) r change n fits in
    subst (λ (m : ℕ). has_change r.tran m rs ≡ true) (eqb-true n k is) (h.made n (next_among (undo_of rs r.tran) n next))
taken_own rs r k (body.System patches) h fits is = absurd cc
taken_own rs r k body.Commit h fits is = absurd cc
taken_own rs r k body.Ended h fits is = absurd cc
taken_own rs r k (body.Checkpoint offset) h fits is = absurd cc
taken_own rs r k body.RestartEnd h fits is = absurd cc

other_record : (rs : List LogRecord) (r : LogRecord) (t : ℕ) → AreLeft rs → all_differ (drawn_numbers rs) ≡ true → MayFollow rs r → (r.tran == t) ≡ false → IsLeft (rs ++ r ∷ []) t (undo_of rs t)
other_record rs r t h differ f other =
    left_stays rs r t (undo_of rs t) (h.left t) (λ k m. false_from_ne_true (takes_back k r.body) (λ is.
    let same : r.tran ≡ t = one_tran r.tran t k rs differ (taken_own rs r k r.body (h.left r.tran) f.fits is) ((h.left t).made k m) in
    both_ways (r.tran == t) other (eq-eqb r.tran t same)))

pub course_last : (c : Course) (t : ℕ) (earlier : List LogRecord) (r : LogRecord) → course_in c t (earlier ++ r ∷ []) ≡ cond (r.tran == t) (after_body (course_in c t earlier) r r.body) (course_in c t earlier)
course_last c t [] r = refl
course_last c t (x ∷ xs) r = course_last (cond (x.tran == t) (after_body c x x.body) c) t xs r

named_more : (rs : List LogRecord) (r : LogRecord) → AreLeft rs → MayFollow rs r → AreNamed (rs ++ r ∷ [])
named_more rs r h f = λ k is.
    let either : (is_taken k rs || (takes_back k r.body || false)) ≡ true = sym (list_any-append (λ (s : LogRecord). takes_back k s.body) rs (r ∷ [])) ∙ is in
    let old : is_among k (drawn_numbers rs) ≡ true = elim (or_cases (is_taken k rs) (takes_back k r.body || false) either) [
      | inl e ↦ h.named k e
      | inr e ↦ change_drawn r.tran k rs (taken_own rs r k r.body (h.left r.tran) f.fits (or_nothing (takes_back k r.body) e))
    ] in
    ap (is_among k) (drawn_more rs (r ∷ [])) ∙ among_more k (drawn_numbers rs) (drawn_numbers (r ∷ [])) ∙ or_left (is_among k (drawn_numbers rs)) (is_among k (drawn_numbers (r ∷ []))) old

pub new_number : (rs : List LogRecord) (r : LogRecord) → all_differ (drawn_numbers (rs ++ r ∷ [])) ≡ true → is_drawn r.body ≡ true → is_among r.lrsn (drawn_numbers rs) ≡ false
new_number rs r h is =
    let split : all_differ (drawn_numbers rs ++ drawn_numbers (r ∷ [])) ≡ true = subst (λ (ns : List ℕ). all_differ ns ≡ true) (drawn_more rs (r ∷ [])) h in
    false_from_ne_true (is_among r.lrsn (drawn_numbers rs)) (λ m. differ_parts (drawn_numbers rs) (drawn_numbers (r ∷ [])) r.lrsn split m (among_here (is_drawn r.body) r.lrsn r.lrsn [] is (itself r.lrsn)))

pub differ_before : (rs : List LogRecord) (r : LogRecord) → all_differ (drawn_numbers (rs ++ r ∷ [])) ≡ true → all_differ (drawn_numbers rs) ≡ true
differ_before rs r h = differ_front (drawn_numbers rs) (drawn_numbers (r ∷ [])) (subst (λ (ns : List ℕ). all_differ ns ≡ true) (drawn_more rs (r ∷ [])) h)

pub left_with : (rs : List LogRecord) (r : LogRecord) → AreLeft rs → all_differ (drawn_numbers (rs ++ r ∷ [])) ≡ true → MayFollow rs r → AreLeft (rs ++ r ∷ [])
left_with rs r h differ f = record {
  named = named_more rs r h f;
  left = λ t. subst (λ (c : Course). IsLeft (rs ++ r ∷ []) t c.undo) (sym (course_last new_course t rs r))
      (cond_both (r.tran == t) (after_body (course_in new_course t rs) r r.body) (course_in new_course t rs) (λ (c : Course). IsLeft (rs ++ r ∷ []) t c.undo)
      (λ own. own_record rs r t (course_in new_course t rs) r.body h.named (h.left t) refl own
      (subst (λ (u : ℕ). body_fault (course_in new_course u rs) r r.body ≡ None) (eqb-true r.tran t own) f.fits) (new_number rs r differ))
      (λ other. other_record rs r t h (differ_before rs r differ) f other));
}

pub left_none : AreLeft []
left_none = record {
  left = λ t. record { made = λ k is. absurd cc; kept = λ k is. absurd cc; differ = refl };
  named = λ k is. absurd cc;
}

left_from : (earlier rs : List LogRecord) → AreLeft earlier → EachFollows earlier rs → all_differ (drawn_numbers (earlier ++ rs)) ≡ true → AreLeft (earlier ++ rs)
left_from earlier [] h f differ = subst AreLeft (sym (append-nil earlier)) h
left_from earlier (r ∷ rs) h f differ =
    let same : (earlier ++ r ∷ []) ++ rs ≡ earlier ++ r ∷ rs = append_assoc earlier (r ∷ []) rs in
    let all : all_differ (drawn_numbers ((earlier ++ r ∷ []) ++ rs)) ≡ true = subst (λ (l : List LogRecord). all_differ (drawn_numbers l) ≡ true) (sym same) differ in
    let front : all_differ (drawn_numbers (earlier ++ r ∷ [])) ≡ true =
    differ_front (drawn_numbers (earlier ++ r ∷ [])) (drawn_numbers rs) (subst (λ (ns : List ℕ). all_differ ns ≡ true) (drawn_more (earlier ++ r ∷ []) rs) all) in
    subst AreLeft same (left_from (earlier ++ r ∷ []) rs (left_with earlier r h front f.0) f.1 all)

-- of a log whose records fit each other
pub are_left : (rs : List LogRecord) → EachFollows [] rs → all_differ (drawn_numbers rs) ≡ true → AreLeft rs
are_left rs f differ = left_from [] rs left_none f differ

-- ---- commits

or_none : (a : Bool) → a ≡ (a || false)
or_none true = refl
or_none false = refl

or_all : (a : Bool) → true ≡ (a || true)
or_all true = refl
or_all false = refl

or_moved : (a b c : Bool) → ((a || b) || c) ≡ (a || (b || c))
or_moved true b c = refl
or_moved false b c = refl

and_false : (a : Bool) → (a && false) ≡ false
and_false true = refl
and_false false = refl

commits_one : (own : Bool) (c : Course) (r : LogRecord) (b : Body) → (cond own (after_body c r b) c).is_committed ≡ (c.is_committed || (is_commit b && own))
commits_one false c r b = or_none c.is_committed ∙ ap (λ (x : Bool). c.is_committed || x) (sym (and_false (is_commit b)))
commits_one true c r (body.RowChange change) = or_none c.is_committed
commits_one true c r (body.Compensation change n) = cond_both (is_next n c.undo) (undone_one c) c (λ (d : Course). d.is_committed ≡ (c.is_committed || false)) (λ is. or_none c.is_committed) (λ is. or_none c.is_committed)
commits_one true c r (body.System patches) = or_none c.is_committed
commits_one true c r body.Commit = or_all c.is_committed
commits_one true c r body.Ended = or_none c.is_committed
commits_one true c r (body.Checkpoint offset) = or_none c.is_committed
commits_one true c r body.RestartEnd = or_none c.is_committed

commits_from : (c : Course) (t : ℕ) (rs : List LogRecord) → (course_in c t rs).is_committed ≡ (c.is_committed || has_commit rs t)
commits_from c t [] = or_none c.is_committed
commits_from c t (r ∷ rs) =
    commits_from (cond (r.tran == t) (after_body c r r.body) c) t rs
    ∙ ap (λ (b : Bool). b || has_commit rs t) (commits_one (r.tran == t) c r r.body)
    ∙ or_moved c.is_committed (is_commit r.body && (r.tran == t)) (has_commit rs t)

pub commits : (t : ℕ) (rs : List LogRecord) → (course_in new_course t rs).is_committed ≡ has_commit rs t
commits t rs = commits_from new_course t rs
