-- The merged records of logs of transactions keep to their order.
use Rattle.std.proofs.Common.{◌≡◌, ℕ, zero, suc, ◌+◌, ◌-◌, ◌≤◌, Bool, true, false, cond, List, [], ◌∷◌, ◌++◌, length, take, drop, Option, Some, None, is_some, refl, sym, ap, subst, ◌∙◌, append_assoc, arith, length-append}
use Rattle.std.specs.Prelude.{◌==◌, not, ◌&&◌, ◌||◌, filter, slice_get}
use Rattle.std.specs.List.{list_any, AllByRecursion}
use Rattle.std.proofs.lemmas.Bool.Decides.{nat_tests}
use Rattle.std.proofs.lemmas.List.{append-nil}
use Rattle.std.proofs.lemmas.List.Elements.{filter_agree, filter-append}
use Rattle.ds_model.specs.declared.log.LogRecord.{LogRecord}
use Rattle.ds_model.specs.declared.log.RowChange.{RowChange}
use Rattle.ds_model.specs.declared.log.Body.{Body}
use Rattle.ds_model.specs.declared.log.Body.TheVariants as body
use Rattle.ds_model.specs.Logs.{is_commit, has_commit, by_lrsn}
use Rattle.log_record.specs.declared.log.Log.{Log}
use Rattle.log_record.specs.Changes.{is_drawn, inverse}
use Rattle.log_merge.specs.Merging.{is_merged, kept, all_records}
use Rattle.log_trans.specs.declared.course.Course.{Course}
use Rattle.log_trans.specs.Courses.{new_course, has_number, is_next, undone_one, row_record, changed, after_body}
use Rattle.log_trans.specs.Damage.{unless, nothing_undone, body_fault}
use Rattle.sound_disk.specs.Settled.{is_row_change, takes_back}
use Rattle.sound_disk.specs.Turns.{changes_row}
use Rattle.sound_disk.specs.Transactions.{drawn_numbers, is_among, all_differ, course_in, InvertsBody, Inverts, TakesBack, MayFollow, EachFollows, AreTransactions}
use Rattle.sound_disk.specs.Versions.{merged}
use Rattle.sound_disk.specs.Whole_logs.{AreWholeLogs}
use Rattle.row_turns.specs.Orders.{is_compensation, has_undone, is_taken_back, is_early, are_early, TakesBackOne, BodyMayTurn, MayTurn, AreOrderly, OrdersHold}
use Rattle.row_turns.proofs.Tallies.{and_left, and_right, and_both, or_false, or_left, or_right, by_bool, clash, not_if, not_true, any_push, count_none, count_end, count_both, count_cons, count_same, count_split, count_most, every}
use Rattle.row_turns.proofs.Behind.{same, itself, turned_round, commit_more, taken_more, undone_more, commit_kept, taken_kept, undone_kept}
use Rattle.row_turns.proofs.Merges.{KeepsAll, merged_is, any_kept}
use Rattle.row_turns.proofs.Numbers.{merged_drawn}

-- ---- tests

none_when : (b rest : Bool) (x : LogRecord) (l : List LogRecord) → length (cond b (x ∷ l) l) ≡ 0 → (length l ≡ 0 → rest ≡ false) → (b || rest) ≡ false
none_when true rest x l h k = absurd (omega (arith, h))
none_when false rest x l h k = k h

kept_when : (a e : Bool) (x : LogRecord) (l m n : List LogRecord) → length (cond (a && e) (x ∷ l) l) ≡ 0 → (length l ≡ 0 → m ≡ n) → cond (a && not e) (x ∷ m) m ≡ cond a (x ∷ n) n
kept_when true true x l m n h k = absurd (omega (arith, h))
kept_when true false x l m n h k = ap (λ (q : List LogRecord). x ∷ q) (k h)
kept_when false e x l m n h k = k h

twice_when : (a : Bool) (e : LogRecord → Bool) (x : LogRecord) (l m : List LogRecord) → filter e l ≡ m → filter e (cond a (x ∷ l) l) ≡ cond (a && e x) (x ∷ m) m
twice_when true e x l m h = ap (λ (q : List LogRecord). cond (e x) (x ∷ q) q) h
twice_when false e x l m h = h

one_longer : (n : ℕ) → suc (suc n) - 1 ≡ suc n
one_longer n = omega arith

one_less_now : (n : ℕ) → n ≡ suc n - 1
one_less_now n = omega arith

with_true : (a : Bool) → (a && true) ≡ a
with_true true = refl
with_true false = refl

with_false : (a : Bool) → (a && false) ≡ false
with_false true = refl
with_false false = refl

three : (row tr tk : Bool) → row ≡ true → tr ≡ true → tk ≡ false → (row && (tr && not tk)) ≡ true
three true true false a b c = refl
three true true true a b c = absurd (clash true refl c)
three true false tk a b c = absurd (clash false b refl)
three false tr tk a b c = absurd (clash false a refl)

other_tran : (row tr tk : Bool) → tr ≡ false → (row && (tr && not tk)) ≡ false
other_tran true true tk h = absurd (clash true refl h)
other_tran true false tk h = refl
other_tran false tr tk h = refl

swap_and : (a b : Bool) → (a && b) ≡ (b && a)
swap_and true true = refl
swap_and true false = refl
swap_and false true = refl
swap_and false false = refl

regrouped : (a b c : Bool) → ((a && b) && c) ≡ ((a && c) && (a && b))
regrouped true b c = swap_and b c
regrouped false b c = refl

less_its : (row tr tk e : Bool) → (row && (tr && not (tk || e))) ≡ ((row && (tr && not tk)) && not e)
less_its true true true e = refl
less_its true true false e = refl
less_its true false tk e = refl
less_its false tr tk e = refl

first_false : (a b : Bool) → (a || b) ≡ false → a ≡ false
first_false true b h = absurd (clash true refl h)
first_false false b h = refl

second_false : (a b : Bool) → (a || b) ≡ false → b ≡ false
second_false true b h = absurd (clash true refl h)
second_false false b h = h

second_true : (a b : Bool) → (a || b) ≡ true → a ≡ false → b ≡ true
second_true true b h e = absurd (clash true refl e)
second_true false b h e = h

zero_of : (p : LogRecord → Bool) (xs : List LogRecord) → list_any p xs ≡ false → length (filter p xs) ≡ 0
zero_of p xs h = count_none p p xs h (λ s e. e)

none_of : (h p : LogRecord → Bool) (xs : List LogRecord) → list_any h xs ≡ false → filter (λ s. h s && p s) xs ≡ []
none_of h p [] e = refl
none_of h p (x ∷ xs) e =
    ap (λ (b : Bool). cond (b && p x) (x ∷ filter (λ s. h s && p s) xs) (filter (λ s. h s && p s) xs)) (first_false (h x) (list_any h xs) e)
    ∙ none_of h p xs (second_false (h x) (list_any h xs) e)

not_empty : (x : LogRecord) (xs : List LogRecord) → x ∷ xs ≡ [] → ⊥
not_empty x xs h = let e = ap length h in omega (arith, e)

not_empty_end : (xs : List LogRecord) (x : LogRecord) → xs ++ x ∷ [] ≡ [] → ⊥
not_empty_end [] x h = not_empty x [] h
not_empty_end (y ∷ xs) x h = not_empty y (xs ++ x ∷ []) h

too_long : (z : LogRecord) (xs : List LogRecord) (x y : LogRecord) → z ∷ (xs ++ x ∷ []) ≡ y ∷ [] → ⊥
too_long z xs x y h = let e = ap length h in omega (arith, e, length-append xs (x ∷ []))

first_same : (x y : LogRecord) → x ∷ [] ≡ y ∷ [] → x ≡ y
first_same x y h = cc

abbrev of_body : LogRecord → Body → LogRecord
of_body r b = record { version = r.version; lrsn = r.lrsn; tran = r.tran; body = b }

left_when : (b : Bool) (x : LogRecord) (l m n : List LogRecord) → cond b (x ∷ l) l ≡ [] → (l ≡ [] → m ≡ n) → cond (not b) (x ∷ m) m ≡ x ∷ n
left_when true x l m n h k = absurd (not_empty x l h)
left_when false x l m n h k = ap (λ (q : List LogRecord). x ∷ q) (k h)

none_left : (e : LogRecord → Bool) (xs : List LogRecord) → filter e xs ≡ [] → filter (λ s. not (e s)) xs ≡ xs
none_left e [] h = refl
none_left e (x ∷ xs) h = left_when (e x) x (filter e xs) (filter (λ s. not (e s)) xs) xs h (none_left e xs)

-- ---- lists of which one element passes

abbrev hits : ℕ → LogRecord → Bool
hits n s = is_row_change s.body && (n == s.lrsn)

none_hit : (p : LogRecord → Bool) (xs : List LogRecord) → length (filter p xs) ≡ 0 → list_any p xs ≡ false
none_hit p [] h = refl
none_hit p (x ∷ xs) h = none_when (p x) (list_any p xs) x (filter p xs) h (none_hit p xs)

-- where no element passes both tests, the second leaves out none
both_none : (p e : LogRecord → Bool) (xs : List LogRecord) → length (filter (λ x. p x && e x) xs) ≡ 0 → filter (λ x. p x && not (e x)) xs ≡ filter p xs
both_none p e [] h = refl
both_none p e (x ∷ xs) h = kept_when (p x) (e x) x (filter (λ y. p y && e y) xs) (filter (λ y. p y && not (e y)) xs) (filter p xs) h (both_none p e xs)

twice_filtered : (p e : LogRecord → Bool) (xs : List LogRecord) → filter e (filter p xs) ≡ filter (λ x. p x && e x) xs
twice_filtered p e [] = refl
twice_filtered p e (x ∷ xs) = twice_when (p x) e x (filter p xs) (filter (λ y. p y && e y) xs) (twice_filtered p e xs)

-- the first that passes
pub record Found (p : LogRecord → Bool) (xs : List LogRecord) : Type 0 where
  pub front : List LogRecord
  pub it : LogRecord
  pub rest : List LogRecord
  pub split : xs ≡ front ++ it ∷ rest
  pub before : list_any p front ≡ false
  pub passes : p it ≡ true

find_first : (p : LogRecord → Bool) (xs : List LogRecord) → list_any p xs ≡ true → Found p xs
find_first p [] h = absurd (clash false h refl)
find_first p (x ∷ xs) h = by_bool (p x) (Found p (x ∷ xs))
    (λ e. record { front = []; it = x; rest = xs; split = refl; before = refl; passes = e })
    (λ e.
    let more : Found p xs = find_first p xs (sym (ap (λ (b : Bool). b || list_any p xs) e) ∙ h) in
    record { front = x ∷ more.front; it = more.it; rest = more.rest; split = ap (λ (l : List LogRecord). x ∷ l) more.split; before = ap (λ (b : Bool). b || list_any p more.front) e ∙ more.before; passes = more.passes })

rest_none : (a c n : ℕ) → n ≤ 1 → n ≡ a + (1 + c) → c ≡ 0
rest_none a c n h e = omega (arith, h, e)

found_rest : (p : LogRecord → Bool) (xs : List LogRecord) → (f : Found p xs) → length (filter p xs) ≤ 1 → list_any p f.rest ≡ false
found_rest p xs f few =
    none_hit p f.rest
    (rest_none (length (filter p f.front)) (length (filter p f.rest)) (length (filter p xs)) few
    (ap (λ (l : List LogRecord). length (filter p l)) f.split ∙ count_both p f.front (f.it ∷ f.rest) ∙ ap (λ (n : ℕ). length (filter p f.front) + n) (count_cons p f.it f.rest ∙ ap (λ (b : Bool). cond b 1 0 + length (filter p f.rest)) f.passes)))

-- ---- the last of a list

pub record Last (xs : List LogRecord) : Type 0 where
  pub front : List LogRecord
  pub it : LogRecord
  pub split : xs ≡ front ++ it ∷ []
  pub front_is : take (length xs - 1) xs ≡ front
  pub last_is : slice_get xs (length xs - 1) ≡ Some it
  pub rest_is : drop (length xs - 1) xs ≡ it ∷ []

last_more : (x y : LogRecord) (ys : List LogRecord) → Last (y ∷ ys) → Last (x ∷ y ∷ ys)
last_more x y ys l = record {
  front = x ∷ l.front;
  it = l.it;
  split = ap (λ (q : List LogRecord). x ∷ q) l.split;
  front_is = ap (λ (n : ℕ). take n (x ∷ y ∷ ys)) (one_longer (length ys)) ∙ ap (λ (q : List LogRecord). x ∷ q) (ap (λ (n : ℕ). take n (y ∷ ys)) (one_less_now (length ys)) ∙ l.front_is);
  last_is = ap (λ (n : ℕ). slice_get (x ∷ y ∷ ys) n) (one_longer (length ys)) ∙ ap (λ (n : ℕ). slice_get (y ∷ ys) n) (one_less_now (length ys)) ∙ l.last_is;
  rest_is = ap (λ (n : ℕ). drop n (x ∷ y ∷ ys)) (one_longer (length ys)) ∙ ap (λ (n : ℕ). drop n (y ∷ ys)) (one_less_now (length ys)) ∙ l.rest_is;
}

last_of : (x : LogRecord) (xs : List LogRecord) → Last (x ∷ xs)
last_of x [] = record { front = []; it = x; split = refl; front_is = refl; last_is = refl; rest_is = refl }
last_of x (y ∷ ys) = last_more x y ys (last_of y ys)

next_last : (n : ℕ) (xs : List LogRecord) → is_next n xs ≡ true → Last xs
next_last n [] h = absurd (clash false h refl)
next_last n (x ∷ xs) h = last_of x xs

next_is : (n : ℕ) (xs : List LogRecord) → (l : Last xs) → is_next n xs ≡ true → (l.it.lrsn == n) ≡ true
next_is n xs l h = sym (ap (λ (o : Option LogRecord). has_number n o) l.last_is) ∙ h

-- ---- what the records so far say of one transaction

-- its row changes that aren't taken back
abbrev its : ℕ → List LogRecord → LogRecord → Bool
its t rs s = is_row_change s.body && ((s.tran == t) && not (is_taken_back rs s.lrsn))

pub record IsTran (t : ℕ) (rs : List LogRecord) (c : Course) : Type 0 where
  pub committed : c.is_committed ≡ has_commit rs t
  pub undone : nothing_undone c ≡ not (has_undone rs t)
  pub undo : c.undo ≡ filter (its t rs) rs

pub record Knows (rs : List LogRecord) : Type 0 where
  pub trans : (t : ℕ) → IsTran t rs (course_in new_course t rs)
  pub taken : (n : ℕ) → is_taken_back rs n ≡ true → list_any (hits n) rs ≡ true
  pub single : (n : ℕ) → length (filter (hits n) rs) ≤ 1

course_push : (c : Course) (t : ℕ) (rs : List LogRecord) (r : LogRecord) → course_in c t (rs ++ r ∷ []) ≡ cond (r.tran == t) (after_body (course_in c t rs) r r.body) (course_in c t rs)
course_push c t [] r = refl
course_push c t (x ∷ rs) r = course_push (cond (x.tran == t) (after_body c x x.body) c) t rs r

-- ---- a record with a number of its own

untaken : (rs : List LogRecord) (r : LogRecord) → Knows rs → list_any (hits r.lrsn) rs ≡ false → is_taken_back rs r.lrsn ≡ false
untaken rs r k fresh = not_if (is_taken_back rs r.lrsn) (λ h. clash (list_any (hits r.lrsn) rs) (k.taken r.lrsn h) fresh)

few_more : (a : ℕ) (b : Bool) → a ≤ 1 → (b ≡ true → a ≡ 0) → a + cond b 1 0 ≤ 1
few_more a true h z = let e = z refl in omega (arith, e)
few_more a false h z = omega (arith, h)

single_more : (rs : List LogRecord) (r : LogRecord) → Knows rs → list_any (hits r.lrsn) rs ≡ false → (n : ℕ) → length (filter (hits n) (rs ++ r ∷ [])) ≤ 1
single_more rs r k fresh n =
    subst (λ (m : ℕ). m ≤ 1) (sym (count_end (hits n) rs r))
    (few_more (length (filter (hits n) rs)) (hits n r) (k.single n) (λ h. zero_of (hits n) rs (ap (λ (m : ℕ). list_any (hits m) rs) (same n r.lrsn (and_right (is_row_change r.body) (n == r.lrsn) h)) ∙ fresh)))

taken_still : (rs : List LogRecord) (r : LogRecord) → Knows rs → ((n : ℕ) → takes_back n r.body ≡ false) → (n : ℕ) → is_taken_back (rs ++ r ∷ []) n ≡ true → list_any (hits n) (rs ++ r ∷ []) ≡ true
taken_still rs r k plain n h = any_push (hits n) rs r ∙ or_left (list_any (hits n) rs) (hits n r) (k.taken n (sym (taken_kept rs r n (plain n)) ∙ h))

-- the row changes that aren't taken back, with one that takes none back
undo_push : (t : ℕ) (rs : List LogRecord) (r : LogRecord) → ((n : ℕ) → takes_back n r.body ≡ false) → filter (its t (rs ++ r ∷ [])) (rs ++ r ∷ []) ≡ filter (its t rs) rs ++ cond (its t (rs ++ r ∷ []) r) (r ∷ []) []
undo_push t rs r plain =
    filter-append (its t (rs ++ r ∷ [])) rs (r ∷ [])
    ∙ ap (λ (l : List LogRecord). l ++ cond (its t (rs ++ r ∷ []) r) (r ∷ []) [])
    (filter_agree (its t (rs ++ r ∷ [])) (its t rs) (λ s. ap (λ (b : Bool). is_row_change s.body && ((s.tran == t) && not b)) (taken_kept rs r s.lrsn (plain s.lrsn))) rs)

no_its : (t : ℕ) (rs : List LogRecord) (r : LogRecord) → is_row_change r.body ≡ false → its t rs r ≡ false
no_its t rs r h = ap (λ (b : Bool). b && ((r.tran == t) && not (is_taken_back rs r.lrsn))) h

-- ---- records that change no course but by a Commit

abbrev course_kept : Bool → Course → Course
course_kept b c = record { undo = c.undo; undone = c.undone; is_committed = c.is_committed || b; is_ended = c.is_ended }

tran_quiet : (t : ℕ) (rs : List LogRecord) (r : LogRecord) (c d : Course) → IsTran t rs c → d.undo ≡ c.undo → d.undone ≡ c.undone → d.is_committed ≡ (c.is_committed || (is_commit r.body && (r.tran == t))) → ((n : ℕ) → takes_back n r.body ≡ false) → is_compensation r.body ≡ false
    → is_row_change r.body ≡ false → IsTran t (rs ++ r ∷ []) d
tran_quiet t rs r c d k undo undone committed plain comp row = record {
  committed = committed ∙ ap (λ (b : Bool). b || (is_commit r.body && (r.tran == t))) k.committed ∙ sym (commit_more rs r t);
  undone = ap (λ (l : List LogRecord). length l == 0) undone ∙ k.undone ∙ ap not (sym (undone_kept rs r t comp));
  undo =
      undo ∙ k.undo
      ∙ sym (undo_push t rs r plain ∙ ap (λ (b : Bool). filter (its t rs) rs ++ cond b (r ∷ []) []) (no_its t (rs ++ r ∷ []) r row) ∙ append-nil (filter (its t rs) rs));
}

quiet_when : (t : ℕ) (rs : List LogRecord) (r : LogRecord) (c d : Course) (q : Bool) → (r.tran == t) ≡ q → IsTran t rs c → d.undo ≡ c.undo → d.undone ≡ c.undone → d.is_committed ≡ (c.is_committed || is_commit r.body) → ((n : ℕ) → takes_back n r.body ≡ false)
    → is_compensation r.body ≡ false → is_row_change r.body ≡ false → IsTran t (rs ++ r ∷ []) (cond q d c)
quiet_when t rs r c d true e k undo undone committed plain comp row =
    tran_quiet t rs r c d k undo undone (committed ∙ ap (λ (b : Bool). c.is_committed || b) (sym (ap (λ (b : Bool). is_commit r.body && b) e ∙ with_true (is_commit r.body)))) plain comp row
quiet_when t rs r c d false e k undo undone committed plain comp row =
    tran_quiet t rs r c c k refl refl (sym (ap (λ (b : Bool). c.is_committed || b) (ap (λ (b : Bool). is_commit r.body && b) e ∙ with_false (is_commit r.body)) ∙ or_false c.is_committed)) plain comp row

quiet_body : (b : Body) (c : Course) (r : LogRecord) → is_row_change b ≡ false → is_compensation b ≡ false → ((after_body c r b).undo ≡ c.undo) × ((after_body c r b).undone ≡ c.undone) × ((after_body c r b).is_committed ≡ (c.is_committed || is_commit b))
quiet_body (body.RowChange ch) c r h k = absurd (clash true refl h)
quiet_body (body.Compensation ch undone) c r h k = absurd (clash true refl k)
quiet_body (body.System patches) c r h k = (refl, refl, sym (or_false c.is_committed))
quiet_body body.Commit c r h k = (refl, refl, sym (or_right c.is_committed true refl))
quiet_body body.Ended c r h k = (refl, refl, sym (or_false c.is_committed))
quiet_body (body.Checkpoint offset) c r h k = (refl, refl, sym (or_false c.is_committed))
quiet_body body.RestartEnd c r h k = (refl, refl, sym (or_false c.is_committed))

knows_quiet : (rs : List LogRecord) (r : LogRecord) → Knows rs → list_any (hits r.lrsn) rs ≡ false → is_row_change r.body ≡ false → is_compensation r.body ≡ false → ((n : ℕ) → takes_back n r.body ≡ false) → Knows (rs ++ r ∷ [])
knows_quiet rs r k fresh row comp plain = record {
  trans = λ t.
      let b = quiet_body r.body (course_in new_course t rs) r row comp in
      subst (λ (c : Course). IsTran t (rs ++ r ∷ []) c) (sym (course_push new_course t rs r))
      (quiet_when t rs r (course_in new_course t rs) (after_body (course_in new_course t rs) r r.body) (r.tran == t) refl (k.trans t) b.0 b.1 b.2 plain comp row);
  taken = taken_still rs r k plain;
  single = single_more rs r k fresh;
}

-- ---- a row change

same_record : (r : LogRecord) (c : RowChange) → r.body ≡ body.RowChange c → row_record r c ≡ r
same_record r c e = ap (λ (b : Body). of_body r b) (sym e)

change_when : (t : ℕ) (rs : List LogRecord) (r : LogRecord) (ch : RowChange) (c : Course) (q : Bool) → (r.tran == t) ≡ q → r.body ≡ body.RowChange ch → is_taken_back rs r.lrsn ≡ false → IsTran t rs c → IsTran t (rs ++ r ∷ []) (cond q (changed c (row_record r ch)) c)
change_when t rs r ch c true e is fresh k = record {
  committed = k.committed ∙ sym (commit_kept rs r t (ap is_commit is));
  undone = k.undone ∙ ap not (sym (undone_kept rs r t (ap is_compensation is)));
  undo =
      ap (λ (l : List LogRecord). l ++ row_record r ch ∷ []) k.undo
      ∙ ap (λ (x : LogRecord). filter (its t rs) rs ++ x ∷ []) (same_record r ch is)
      ∙ sym (undo_push t rs r (λ n. ap (takes_back n) is)
      ∙ ap (λ (b : Bool). filter (its t rs) rs ++ cond b (r ∷ []) []) (three (is_row_change r.body) (r.tran == t) (is_taken_back (rs ++ r ∷ []) r.lrsn) (ap is_row_change is) e (taken_kept rs r r.lrsn (ap (takes_back r.lrsn) is) ∙ fresh)));
}
change_when t rs r ch c false e is fresh k = record {
  committed = k.committed ∙ sym (commit_kept rs r t (ap is_commit is));
  undone = k.undone ∙ ap not (sym (undone_kept rs r t (ap is_compensation is)));
  undo =
      k.undo
      ∙ sym (undo_push t rs r (λ n. ap (takes_back n) is)
      ∙ ap (λ (b : Bool). filter (its t rs) rs ++ cond b (r ∷ []) []) (other_tran (is_row_change r.body) (r.tran == t) (is_taken_back (rs ++ r ∷ []) r.lrsn) e)
      ∙ append-nil (filter (its t rs) rs));
}

knows_change : (rs : List LogRecord) (r : LogRecord) (ch : RowChange) → r.body ≡ body.RowChange ch → Knows rs → list_any (hits r.lrsn) rs ≡ false → Knows (rs ++ r ∷ [])
knows_change rs r ch is k fresh = record {
  trans = λ t.
      subst (λ (c : Course). IsTran t (rs ++ r ∷ []) c) (sym (course_push new_course t rs r ∙ ap (λ (b : Body). cond (r.tran == t) (after_body (course_in new_course t rs) r b) (course_in new_course t rs)) is))
      (change_when t rs r ch (course_in new_course t rs) (r.tran == t) refl is (untaken rs r k fresh) (k.trans t));
  taken = taken_still rs r k (λ n. ap (takes_back n) is);
  single = single_more rs r k fresh;
}

-- ---- a compensation

-- the only one that passes a test among those that pass another
only_one : (p : LogRecord → Bool) (n : ℕ) (rs : List LogRecord) → (f : Found (hits n) rs) → list_any (hits n) f.rest ≡ false → filter (λ s. hits n s && p s) rs ≡ cond (p f.it) (f.it ∷ []) []
only_one p n rs f rest =
    ap (λ (l : List LogRecord). filter (λ s. hits n s && p s) l) f.split
    ∙ filter-append (λ s. hits n s && p s) f.front (f.it ∷ f.rest)
    ∙ ap (λ (l : List LogRecord). l ++ filter (λ s. hits n s && p s) (f.it ∷ f.rest)) (none_of (hits n) p f.front f.before)
    ∙ ap (λ (b : Bool). cond (b && p f.it) (f.it ∷ filter (λ s. hits n s && p s) f.rest) (filter (λ s. hits n s && p s) f.rest)) f.passes
    ∙ ap (λ (l : List LogRecord). cond (p f.it) (f.it ∷ l) l) (none_of (hits n) p f.rest rest)

-- the last of a list has the number
hits_last : (n : ℕ) (xs : List LogRecord) → (l : Last xs) → (l.it.lrsn == n) ≡ true → filter (λ s. (n == s.lrsn)) xs ≡ filter (λ s. (n == s.lrsn)) l.front ++ l.it ∷ []
hits_last n xs l e =
    ap (λ (q : List LogRecord). filter (λ s. (n == s.lrsn)) q) l.split
    ∙ filter-append (λ s. (n == s.lrsn)) l.front (l.it ∷ [])
    ∙ ap (λ (b : Bool). filter (λ s. (n == s.lrsn)) l.front ++ cond b (l.it ∷ []) []) (turned_round n l.it.lrsn ∙ e)

by_number : (t n : ℕ) (rs : List LogRecord) → filter (λ s. (n == s.lrsn)) (filter (its t rs) rs) ≡ filter (λ s. hits n s && its t rs s) rs
by_number t n rs =
    twice_filtered (its t rs) (λ s. (n == s.lrsn)) rs
    ∙ filter_agree (λ s. its t rs s && (n == s.lrsn)) (λ s. hits n s && its t rs s) (λ s. regrouped (is_row_change s.body) ((s.tran == t) && not (is_taken_back rs s.lrsn)) (n == s.lrsn)) rs

-- the same by the one that has the number
its_found : (t n : ℕ) (rs : List LogRecord) → (f : Found (hits n) rs) → list_any (hits n) f.rest ≡ false → filter (λ s. (n == s.lrsn)) (filter (its t rs) rs) ≡ cond (its t rs f.it) (f.it ∷ []) []
its_found t n rs f rest = by_number t n rs ∙ only_one (its t rs) n rs f rest

-- a list of one at most that ends in one
pub record IsAlone (xs : List LogRecord) (x y : LogRecord) (b : Bool) : Type 0 where
  pub empty_is : xs ≡ []
  pub same_is : x ≡ y
  pub is : b ≡ true

one_alone : (xs : List LogRecord) (x y : LogRecord) (b : Bool) → xs ++ x ∷ [] ≡ cond b (y ∷ []) [] → IsAlone xs x y b
one_alone [] x y true h = record { empty_is = refl; same_is = first_same x y h; is = refl }
one_alone [] x y false h = absurd (not_empty x [] h)
one_alone (z ∷ xs) x y true h = absurd (too_long z xs x y h)
one_alone (z ∷ xs) x y false h = absurd (not_empty z (xs ++ x ∷ []) h)

-- what is known of the change that is taken back
pub record Undoes (rs : List LogRecord) (t undone : ℕ) : Type 0 where
  pub found : Found (hits undone) rs
  pub rest : list_any (hits undone) found.rest ≡ false
  pub last : Last (course_in new_course t rs).undo
  pub alone : IsAlone (filter (λ s. (undone == s.lrsn)) last.front) last.it found.it (its t rs found.it)
  pub uncommitted : has_commit rs t ≡ false

is_there : (t n : ℕ) (rs xs : List LogRecord) → (l : Last xs) → xs ≡ filter (its t rs) rs → (l.it.lrsn == n) ≡ true → list_any (hits n) rs ≡ true
is_there t n rs xs l same_list e = by_bool (list_any (hits n) rs) (list_any (hits n) rs ≡ true) (λ h. h) (λ h.
    absurd (not_empty_end (filter (λ s. (n == s.lrsn)) l.front) l.it
    (sym (hits_last n xs l e) ∙ ap (λ (q : List LogRecord). filter (λ s. (n == s.lrsn)) q) same_list ∙ by_number t n rs ∙ none_of (hits n) (its t rs) rs h)))

undoes : (rs : List LogRecord) (t undone : ℕ) → Knows rs → (course_in new_course t rs).is_committed ≡ false → is_next undone (course_in new_course t rs).undo ≡ true → Undoes rs t undone
undoes rs t undone k uncommitted next =
    let l : Last (course_in new_course t rs).undo = next_last undone (course_in new_course t rs).undo next in
    let e : (l.it.lrsn == undone) ≡ true = next_is undone (course_in new_course t rs).undo l next in
    let f : Found (hits undone) rs = find_first (hits undone) rs (is_there t undone rs (course_in new_course t rs).undo l (k.trans t).undo e) in
    let r : list_any (hits undone) f.rest ≡ false = found_rest (hits undone) rs f (k.single undone) in record {
      found = f;
      rest = r;
      last = l;
      alone =
          one_alone (filter (λ s. (undone == s.lrsn)) l.front) l.it f.it (its t rs f.it)
          (sym (hits_last undone (course_in new_course t rs).undo l e) ∙ ap (λ (q : List LogRecord). filter (λ s. (undone == s.lrsn)) q) (k.trans t).undo ∙ its_found t undone rs f r);
      uncommitted = sym (k.trans t).committed ∙ uncommitted;
    }

-- what the record is
pub record IsUndo (r : LogRecord) (undone : ℕ) : Type 0 where
  pub takes : (n : ℕ) → takes_back n r.body ≡ (undone == n)
  pub commit : is_commit r.body ≡ false
  pub comp : is_compensation r.body ≡ true
  pub row : is_row_change r.body ≡ false

taken_now : (rs : List LogRecord) (r : LogRecord) (undone n : ℕ) → IsUndo r undone → is_taken_back (rs ++ r ∷ []) n ≡ (is_taken_back rs n || (undone == n))
taken_now rs r undone n u = taken_more rs r n ∙ ap (λ (b : Bool). is_taken_back rs n || b) (u.takes n)

undone_now : (rs : List LogRecord) (r : LogRecord) (undone t : ℕ) → IsUndo r undone → has_undone (rs ++ r ∷ []) t ≡ (has_undone rs t || (r.tran == t))
undone_now rs r undone t u = undone_more rs r t ∙ ap (λ (b : Bool). has_undone rs t || (b && (r.tran == t))) u.comp

undo_now : (t : ℕ) (rs : List LogRecord) (r : LogRecord) (undone : ℕ) → IsUndo r undone → filter (its t (rs ++ r ∷ [])) (rs ++ r ∷ []) ≡ filter (λ s. its t rs s && not (undone == s.lrsn)) rs
undo_now t rs r undone u =
    filter-append (its t (rs ++ r ∷ [])) rs (r ∷ [])
    ∙ ap (λ (b : Bool). filter (its t (rs ++ r ∷ [])) rs ++ cond b (r ∷ []) []) (no_its t (rs ++ r ∷ []) r u.row)
    ∙ append-nil (filter (its t (rs ++ r ∷ [])) rs)
    ∙ filter_agree (its t (rs ++ r ∷ [])) (λ s. its t rs s && not (undone == s.lrsn))
    (λ s. ap (λ (b : Bool). is_row_change s.body && ((s.tran == t) && not b)) (taken_now rs r undone s.lrsn u) ∙ less_its (is_row_change s.body) (s.tran == t) (is_taken_back rs s.lrsn) (undone == s.lrsn)) rs

not_zero : (n : ℕ) → 1 ≤ n → (n == 0) ≡ false
not_zero n h = grind (arith, nat_tests)

longer : (xs : List LogRecord) (x : LogRecord) → (length (xs ++ x ∷ []) == 0) ≡ false
longer xs x = not_zero (length (xs ++ x ∷ [])) (let e = length-append xs (x ∷ []) in omega (arith, e))

some_undone : (xs ys : List LogRecord) (x : LogRecord) → ys ≡ x ∷ [] → (length (xs ++ ys) == 0) ≡ false
some_undone xs ys x h = ap (λ (l : List LogRecord). length (xs ++ l) == 0) h ∙ longer xs x

any_one : (p : LogRecord → Bool) (front : List LogRecord) (it : LogRecord) (rest : List LogRecord) → p it ≡ true → list_any p (front ++ it ∷ rest) ≡ true
any_one p [] it rest h = or_left (p it) (list_any p rest) h
any_one p (x ∷ xs) it rest h = or_right (p x) (list_any p (xs ++ it ∷ rest)) (any_one p xs it rest h)

its_tran : (t : ℕ) (rs : List LogRecord) (s : LogRecord) → its t rs s ≡ true → s.tran ≡ t
its_tran t rs s h = same s.tran t (and_left (s.tran == t) (not (is_taken_back rs s.lrsn)) (and_right (is_row_change s.body) _ h))

its_untaken : (t : ℕ) (rs : List LogRecord) (s : LogRecord) → its t rs s ≡ true → is_taken_back rs s.lrsn ≡ false
its_untaken t rs s h = not_true (is_taken_back rs s.lrsn) (and_right (s.tran == t) (not (is_taken_back rs s.lrsn)) (and_right (is_row_change s.body) _ h))

-- the last has the number, too
number_of : (rs : List LogRecord) (t undone : ℕ) → (d : Undoes rs t undone) → (undone == d.last.it.lrsn) ≡ true
number_of rs t undone d = ap (λ (x : LogRecord). undone == x.lrsn) d.alone.same_is ∙ and_right (is_row_change d.found.it.body) (undone == d.found.it.lrsn) d.found.passes

hit_there : (p : LogRecord → Bool) (rs : List LogRecord) → (f : Found p rs) → list_any p rs ≡ true
hit_there p rs f = ap (list_any p) f.split ∙ any_one p f.front f.it f.rest f.passes

tran_undone : (rs : List LogRecord) (r : LogRecord) (undone : ℕ) → Knows rs → IsUndo r undone → (d : Undoes rs r.tran undone) → IsTran r.tran (rs ++ r ∷ []) (undone_one (course_in new_course r.tran rs))
tran_undone rs r undone k u d =
    record {
      committed = (k.trans r.tran).committed ∙ sym (commit_kept rs r r.tran u.commit);
      undone =
          some_undone (course_in new_course r.tran rs).undone (drop (length (course_in new_course r.tran rs).undo - 1) (course_in new_course r.tran rs).undo) d.last.it d.last.rest_is
          ∙ sym (ap not (undone_now rs r undone r.tran u ∙ or_right (has_undone rs r.tran) (r.tran == r.tran) (itself r.tran)));
      undo =
          d.last.front_is
          ∙ sym (undo_now r.tran rs r undone u
          ∙ sym (twice_filtered (its r.tran rs) (λ s. not (undone == s.lrsn)) rs)
          ∙ ap (λ (q : List LogRecord). filter (λ s. not (undone == s.lrsn)) q) (sym (k.trans r.tran).undo ∙ d.last.split)
          ∙ filter-append (λ s. not (undone == s.lrsn)) d.last.front (d.last.it ∷ [])
          ∙ ap (λ (l : List LogRecord). l ++ cond (not (undone == d.last.it.lrsn)) (d.last.it ∷ []) []) (none_left (λ s. (undone == s.lrsn)) d.last.front d.alone.empty_is)
          ∙ ap (λ (b : Bool). d.last.front ++ cond (not b) (d.last.it ∷ []) []) (number_of rs r.tran undone d)
          ∙ append-nil d.last.front);
    }

tran_other : (t : ℕ) (rs : List LogRecord) (r : LogRecord) (undone : ℕ) → Knows rs → IsUndo r undone → (d : Undoes rs r.tran undone) → (r.tran == t) ≡ false → IsTran t (rs ++ r ∷ []) (course_in new_course t rs)
tran_other t rs r undone k u d other = record {
  committed = (k.trans t).committed ∙ sym (commit_kept rs r t u.commit);
  undone = (k.trans t).undone ∙ ap not (sym (undone_now rs r undone t u ∙ ap (λ (b : Bool). has_undone rs t || b) other ∙ or_false (has_undone rs t)));
  undo =
      (k.trans t).undo
      ∙ sym (undo_now t rs r undone u
      ∙ both_none (its t rs) (λ s. (undone == s.lrsn)) rs
      (ap length (sym (twice_filtered (its t rs) (λ s. (undone == s.lrsn)) rs) ∙ its_found t undone rs d.found d.rest
      ∙ ap (λ (b : Bool). cond b (d.found.it ∷ []) [])
      (other_tran (is_row_change d.found.it.body) (d.found.it.tran == t) (is_taken_back rs d.found.it.lrsn)
      (ap (λ (n : ℕ). n == t) (its_tran r.tran rs d.found.it d.alone.is) ∙ other)))));
}

undone_when : (t : ℕ) (rs : List LogRecord) (r : LogRecord) (undone : ℕ) → Knows rs → IsUndo r undone → Undoes rs r.tran undone → (q : Bool) → (r.tran == t) ≡ q → IsTran t (rs ++ r ∷ []) (cond q (undone_one (course_in new_course t rs)) (course_in new_course t rs))
undone_when t rs r undone k u d true e = subst (λ (n : ℕ). IsTran n (rs ++ r ∷ []) (undone_one (course_in new_course n rs))) (same r.tran t e) (tran_undone rs r undone k u d)
undone_when t rs r undone k u d false e = tran_other t rs r undone k u d e

-- a compensation of the transaction takes the last change back
next_when : (t : ℕ) (rs : List LogRecord) (r : LogRecord) (undone : ℕ) (q b : Bool) → (q ≡ true → b ≡ true) → cond q (cond b (undone_one (course_in new_course t rs)) (course_in new_course t rs)) (course_in new_course t rs) ≡ cond q (undone_one (course_in new_course t rs)) (course_in new_course t rs)
next_when t rs r undone true b h = ap (λ (x : Bool). cond x (undone_one (course_in new_course t rs)) (course_in new_course t rs)) (h refl)
next_when t rs r undone false b h = refl

knows_undone : (rs : List LogRecord) (r : LogRecord) (ch : RowChange) (undone : ℕ) → r.body ≡ body.Compensation ch undone → Knows rs → list_any (hits r.lrsn) rs ≡ false → is_next undone (course_in new_course r.tran rs).undo ≡ true → Undoes rs r.tran undone → Knows (rs ++ r ∷ [])
knows_undone rs r ch undone is k fresh next d =
    let u : IsUndo r undone = record { takes = λ n. ap (takes_back n) is; commit = ap is_commit is; comp = ap is_compensation is; row = ap is_row_change is } in record {
      trans = λ t.
          subst (λ (c : Course). IsTran t (rs ++ r ∷ []) c)
          (sym (course_push new_course t rs r ∙ ap (λ (b : Body). cond (r.tran == t) (after_body (course_in new_course t rs) r b) (course_in new_course t rs)) is
          ∙ next_when t rs r undone (r.tran == t) (is_next undone (course_in new_course t rs).undo) (λ e. ap (λ (n : ℕ). is_next undone (course_in new_course n rs).undo) (sym (same r.tran t e)) ∙ next)))
          (undone_when t rs r undone k u d (r.tran == t) refl);
      taken = λ n h.
          any_push (hits n) rs r
          ∙ or_left (list_any (hits n) rs) (hits n r)
          (by_bool (is_taken_back rs n) (list_any (hits n) rs ≡ true) (λ e. k.taken n e)
          (λ e. ap (λ (m : ℕ). list_any (hits m) rs) (sym (same undone n (second_true (is_taken_back rs n) (undone == n) (sym (taken_now rs r undone n u) ∙ h) e))) ∙ hit_there (hits undone) rs d.found));
      single = single_more rs r k fresh;
    }

-- ---- the next record

some_fault : (n : ℕ) → Some n ≡ None → ⊥
some_fault n h = clash true refl (ap (λ (o : Option ℕ). is_some o) h)

none_fault : (b : Bool) (at : ℕ) → unless b at ≡ None → b ≡ true
none_fault true at h = refl
none_fault false at h = absurd (some_fault at h)

comp_fault : (co b : Bool) (m n : ℕ) → cond co (Some m) (unless b n) ≡ None → (co ≡ false) × (b ≡ true)
comp_fault true b m n h = absurd (some_fault m h)
comp_fault false b m n h = (refl, none_fault b n h)

inverts_row : (ch : RowChange) (b : Body) → InvertsBody ch b → changes_row ch b ≡ true
inverts_row ch (body.RowChange d) h = ap (λ (x : RowChange). (x.table == d.table) && (x.key == d.key)) h ∙ and_both (d.table == d.table) (d.key == d.key) (itself d.table) (itself d.key)
inverts_row ch (body.Compensation d undone) h = absurd h
inverts_row ch (body.System patches) h = absurd h
inverts_row ch body.Commit h = absurd h
inverts_row ch body.Ended h = absurd h
inverts_row ch (body.Checkpoint offset) h = absurd h
inverts_row ch body.RestartEnd h = absurd h

takes_one : (rs : List LogRecord) (t : ℕ) (ch : RowChange) (undone : ℕ) → (d : Undoes rs t undone) → Inverts ch (slice_get (course_in new_course t rs).undo (length (course_in new_course t rs).undo - 1)) → TakesBackOne rs t ch undone
takes_one rs t ch undone d inverts =
    let last : InvertsBody ch d.last.it.body = subst (λ (o : Option LogRecord). Inverts ch o) d.last.last_is inverts in
    let number : d.found.it.lrsn ≡ undone = sym (same undone d.found.it.lrsn (and_right (is_row_change d.found.it.body) (undone == d.found.it.lrsn) d.found.passes)) in record {
      front = d.found.front;
      it = d.found.it;
      rest = d.found.rest;
      split = d.found.split;
      row_is = inverts_row ch d.found.it.body (subst (λ (x : LogRecord). InvertsBody ch x.body) d.alone.same_is last);
      tran_is = its_tran t rs d.found.it d.alone.is;
      number_is = number;
      before = d.found.before;
      behind = d.rest;
      uncommitted = d.uncommitted;
      untaken = ap (λ (n : ℕ). is_taken_back rs n) (sym number) ∙ its_untaken t rs d.found.it d.alone.is;
    }

next_by : (rs : List LogRecord) (r : LogRecord) (b : Body) → r.body ≡ b → Knows rs → list_any (hits r.lrsn) rs ≡ false → body_fault (course_in new_course r.tran rs) r b ≡ None → TakesBack (course_in new_course r.tran rs) b → BodyMayTurn rs r b × Knows (rs ++ r ∷ [])
next_by rs r (body.RowChange ch) e k fresh fits takes = (untaken rs r k fresh, knows_change rs r ch e k fresh)
next_by rs r (body.Compensation ch undone) e k fresh fits takes =
    let both = comp_fault (course_in new_course r.tran rs).is_committed (is_next undone (course_in new_course r.tran rs).undo) _ _ fits in
    let d : Undoes rs r.tran undone = undoes rs r.tran undone k both.0 both.1 in
    (takes_one rs r.tran ch undone d takes, knows_undone rs r ch undone e k fresh both.1 d)
next_by rs r (body.System patches) e k fresh fits takes = (tt, knows_quiet rs r k fresh (ap is_row_change e) (ap is_compensation e) (λ n. ap (takes_back n) e))
next_by rs r body.Commit e k fresh fits takes =
    let none : not (has_undone rs r.tran) ≡ true = sym (k.trans r.tran).undone ∙ and_right (not (course_in new_course r.tran rs).is_committed) (nothing_undone (course_in new_course r.tran rs)) (none_fault _ _ fits) in
    (not_true (has_undone rs r.tran) none, knows_quiet rs r k fresh (ap is_row_change e) (ap is_compensation e) (λ n. ap (takes_back n) e))
next_by rs r body.Ended e k fresh fits takes = (tt, knows_quiet rs r k fresh (ap is_row_change e) (ap is_compensation e) (λ n. ap (takes_back n) e))
next_by rs r (body.Checkpoint offset) e k fresh fits takes = (tt, knows_quiet rs r k fresh (ap is_row_change e) (ap is_compensation e) (λ n. ap (takes_back n) e))
next_by rs r body.RestartEnd e k fresh fits takes = (tt, knows_quiet rs r k fresh (ap is_row_change e) (ap is_compensation e) (λ n. ap (takes_back n) e))

-- ---- all records

abbrev AreMerged : List LogRecord → Type 0
AreMerged rs = AllByRecursion (λ (r : LogRecord). is_merged r.body ≡ true) rs

drawn_is : (b : Body) → is_merged b ≡ true → is_drawn b ≡ true
drawn_is (body.RowChange c) h = refl
drawn_is (body.Compensation c undone) h = refl
drawn_is (body.System patches) h = refl
drawn_is body.Commit h = refl
drawn_is body.Ended h = h
drawn_is (body.Checkpoint offset) h = h
drawn_is body.RestartEnd h = h

row_drawn : (b : Body) → is_row_change b ≡ true → is_drawn b ≡ true
row_drawn (body.RowChange c) h = refl
row_drawn (body.Compensation c undone) h = refl
row_drawn (body.System patches) h = refl
row_drawn body.Commit h = refl
row_drawn body.Ended h = h
row_drawn (body.Checkpoint offset) h = h
row_drawn body.RestartEnd h = h

among_here : (n : ℕ) (b : Bool) (ns : List ℕ) → b ≡ true → is_among n (cond b (n ∷ ns) ns) ≡ true
among_here n true ns h = or_left (n == n) (is_among n ns) (itself n)
among_here n false ns h = absurd (clash false h refl)

among_past : (n m : ℕ) (b : Bool) (ns : List ℕ) → is_among n ns ≡ true → is_among n (cond b (m ∷ ns) ns) ≡ true
among_past n m true ns h = or_right (m == n) (is_among n ns) h
among_past n m false ns h = h

among_later : (xs : List LogRecord) (r : LogRecord) (rs : List LogRecord) → is_drawn r.body ≡ true → is_among r.lrsn (drawn_numbers (xs ++ r ∷ rs)) ≡ true
among_later [] r rs h = among_here r.lrsn (is_drawn r.body) (drawn_numbers rs) h
among_later (x ∷ xs) r rs h = among_past r.lrsn x.lrsn (is_drawn x.body) (drawn_numbers (xs ++ r ∷ rs)) (among_later xs r rs h)

-- a number that differs from those behind it
differs_here : (n m : ℕ) (b : Bool) (ns : List ℕ) → all_differ (cond b (m ∷ ns) ns) ≡ true → b ≡ true → is_among n ns ≡ true → (n == m) ≡ false
differs_here n m true ns h e among = not_if (n == m) (λ is.
    clash (is_among m ns) (ap (λ (k : ℕ). is_among k ns) (sym (same n m is)) ∙ among) (not_true (is_among m ns) (and_left (not (is_among m ns)) (all_differ ns) h)))
differs_here n m false ns h e among = absurd (clash false e refl)

differ_rest : (m : ℕ) (b : Bool) (ns : List ℕ) → all_differ (cond b (m ∷ ns) ns) ≡ true → all_differ ns ≡ true
differ_rest m true ns h = and_right (not (is_among m ns)) (all_differ ns) h
differ_rest m false ns h = h

hit_none : (row e : Bool) → (row ≡ true → e ≡ false) → (row && e) ≡ false
hit_none true e h = h refl
hit_none false e h = refl

fresh_one : (xs : List LogRecord) (r : LogRecord) (rs : List LogRecord) → is_drawn r.body ≡ true → all_differ (drawn_numbers (xs ++ r ∷ rs)) ≡ true → list_any (hits r.lrsn) xs ≡ false
fresh_one [] r rs drawn h = refl
fresh_one (x ∷ xs) r rs drawn h =
    ap (λ (b : Bool). b || list_any (hits r.lrsn) xs)
    (hit_none (is_row_change x.body) (r.lrsn == x.lrsn) (λ row. differs_here r.lrsn x.lrsn (is_drawn x.body) (drawn_numbers (xs ++ r ∷ rs)) h (row_drawn x.body row) (among_later xs r rs drawn)))
    ∙ fresh_one xs r rs drawn (differ_rest x.lrsn (is_drawn x.body) (drawn_numbers (xs ++ r ∷ rs)) h)

orderly : (early : Bool) (e rs : List LogRecord) → Knows e → EachFollows e rs → all_differ (drawn_numbers (e ++ rs)) ≡ true → AreMerged rs → (early ≡ true → are_early e rs ≡ true) → AreOrderly early e rs
orderly early e [] k follows differ merged_all early_is = tt
orderly early e (r ∷ rs) k follows differ merged_all early_is =
    let fresh : list_any (hits r.lrsn) e ≡ false = fresh_one e r rs (drawn_is r.body merged_all.0) differ in
    let next = next_by e r r.body refl k fresh follows.0.fits follows.0.takes_back in (
      record { early_is = λ h. and_left (is_early e r) (are_early (e ++ r ∷ []) rs) (early_is h); body_is = next.0 },
      orderly early (e ++ r ∷ []) rs next.1 follows.1 (subst (λ (l : List LogRecord). all_differ (drawn_numbers l) ≡ true) (sym (append_assoc e (r ∷ []) rs)) differ) merged_all.1
          (λ h. and_right (is_early e r) (are_early (e ++ r ∷ []) rs) (early_is h)),
    )

knows_none : Knows []
knows_none = record {
  trans = λ t. record { committed = refl; undone = refl; undo = refl };
  taken = λ n h. absurd (clash false h refl);
  single = λ n. omega arith;
}

-- ---- merged records

merged_if : (b : Bool) (r : LogRecord) (rs : List LogRecord) → is_merged r.body ≡ b → AreMerged rs → AreMerged (cond b (r ∷ rs) rs)
merged_if true r rs e h = (e, h)
merged_if false r rs e h = h

all_merged : (rs : List LogRecord) → AreMerged (kept rs)
all_merged [] = tt
all_merged (r ∷ rs) = merged_if (is_merged r.body) r (kept rs) refl (all_merged rs)

unmerged_commit : (b : Body) (x : Bool) → is_merged b ≡ false → (is_commit b && x) ≡ false
unmerged_commit (body.RowChange c) x h = absurd (clash true refl h)
unmerged_commit (body.Compensation c undone) x h = absurd (clash true refl h)
unmerged_commit (body.System patches) x h = absurd (clash true refl h)
unmerged_commit body.Commit x h = absurd (clash true refl h)
unmerged_commit body.Ended x h = refl
unmerged_commit (body.Checkpoint offset) x h = refl
unmerged_commit body.RestartEnd x h = refl

commits_same : (rs : List LogRecord) (tran : ℕ) → has_commit (kept rs) tran ≡ has_commit rs tran
commits_same rs tran = any_kept (λ (r : LogRecord). is_commit r.body && (r.tran == tran)) (λ r h. unmerged_commit r.body (r.tran == tran) h) rs

kept_append : (xs ys : List LogRecord) → kept (xs ++ ys) ≡ kept xs ++ kept ys
kept_append xs ys = filter-append (λ (r : LogRecord). is_merged r.body) xs ys

early_when : (e : List LogRecord) (r : LogRecord) (rs : List LogRecord) (b : Bool) → is_merged r.body ≡ b → is_early e r ≡ true → are_early (kept (e ++ r ∷ [])) (kept rs) ≡ true
    → are_early (kept e) (cond b (r ∷ kept rs) (kept rs)) ≡ true
early_when e r rs true is h ih =
    and_both (is_early (kept e) r) _
    (ap (λ (b : Bool). not (is_row_change r.body && b)) (commits_same e r.tran) ∙ h)
    (subst (λ (l : List LogRecord). are_early l (kept rs) ≡ true) (kept_append e (r ∷ []) ∙ ap (λ (b : Bool). kept e ++ cond b (r ∷ []) []) is) ih)
early_when e r rs false is h ih =
    subst (λ (l : List LogRecord). are_early l (kept rs) ≡ true) (kept_append e (r ∷ []) ∙ ap (λ (b : Bool). kept e ++ cond b (r ∷ []) []) is ∙ append-nil (kept e)) ih

early_kept : (e rs : List LogRecord) → are_early e rs ≡ true → are_early (kept e) (kept rs) ≡ true
early_kept e [] h = refl
early_kept e (r ∷ rs) h = early_when e r rs (is_merged r.body) refl (and_left (is_early e r) _ h) (early_kept (e ++ r ∷ []) rs (and_right (is_early e r) _ h))

abbrev pub Follow : Type 0
Follow = (bytes : List (List ℕ)) (logs : List Log) → AreWholeLogs 1 bytes logs → AreTransactions logs → EachFollows [] (merged logs)

pub orders_hold : Follow → OrdersHold
orders_hold follow logs bytes early whole trans early_is =
    orderly early [] (merged logs) knows_none (follow bytes logs whole trans) (merged_drawn logs trans)
    (subst AreMerged (sym (merged_is (all_records logs))) (all_merged (by_lrsn (all_records logs))))
    (λ h. subst (λ (l : List LogRecord). are_early [] l ≡ true) (sym (merged_is (all_records logs))) (early_kept [] (by_lrsn (all_records logs)) (early_is h)))
