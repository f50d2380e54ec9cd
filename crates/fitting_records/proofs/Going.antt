-- Records that are passed by the order of their numbers: one more.
use Rattle.std.proofs.Common.{◌≡◌, ◌≢◌, ◌⊎◌, inl, inr, ℕ, zero, suc, ◌-◌, ◌<◌, ◌≤◌, Bool, true, false, cond, List, [], ◌∷◌, ◌++◌, length, Option, Some, None, refl, sym, ap, subst, ◌∙◌, arith, append_assoc}
use Rattle.std.specs.Prelude.{◌==◌, nat_lt, not, ◌||◌, ◌&&◌}
use Rattle.std.specs.List.{AllByRecursion}
use Rattle.std.specs.Cmp.{nat_cmp_total}
use Rattle.std.specs.FinMap.{get, insert, remove, get-remove}
use Rattle.std.proofs.lemmas.Bool.{ltb-true, ltb-false}
use Rattle.std.proofs.lemmas.Bool.Decides.{nat_tests}
use Rattle.std.proofs.lemmas.List.{append-nil}
use Rattle.std.proofs.lemmas.List.Folds.{list_any-append}
use Rattle.ds_model.specs.declared.log.LogRecord.{LogRecord}
use Rattle.ds_model.specs.declared.log.Body.{Body}
use Rattle.ds_model.specs.declared.log.Body.TheVariants as body
use Rattle.ds_model.specs.Logs.{is_commit, has_commit}
use Rattle.log_record.specs.Changes.{is_drawn}
use Rattle.log_trans.specs.declared.course.Course.{Course}
use Rattle.log_trans.specs.Courses as courses
use Rattle.log_trans.specs.Courses.{new_course}
use Rattle.log_trans.specs.Numbers.{greatest}
use Rattle.log_trans.specs.Damage.{body_fault}
use Rattle.sound_disk.specs.Settled.{is_row_change}
use Rattle.sound_disk.specs.Transactions.{drawn_numbers, is_among, all_differ, speak_of, course_in, is_named, TakesBack, MayFollow, EachFollows}
use Rattle.fitting_records.specs.declared.standing.Standing.{Standing}
use Rattle.fitting_records.specs.declared.passing.OpenTran.{OpenTran}
use Rattle.fitting_records.specs.declared.passing.Passing.{Passing}
use Rattle.fitting_records.specs.Standings.{new_standing, may_take, after_body, standing}
use Rattle.fitting_records.specs.Passings.{OpenTrans, is_apart, closes, begins, goes_on, may_pass, standing_in, gone_on, trans_with, greater, passed}
use Rattle.fitting_records.specs.Passed.{list_at, all_of, with_record, is_early, are_early, IsOpen, ArePassed}
use Rattle.fitting_records.proofs.Taking.{and_left, and_right, and_both, MayTake, may_take_is, stands_after}
use Rattle.fitting_records.proofs.Knowing.{same_key, put_at, drawn_more, speak_more, course_last}
use Rattle.fitting_records.proofs.Fronts.{follow_more}

-- ---- tests

equal : (m n : ℕ) → (m == n) ≡ true → m ≡ n
equal m n e = grind (arith, nat_tests)

pub itself : (n : ℕ) → (n == n) ≡ true
itself n = grind (arith, nat_tests)

turned : (m n : ℕ) → (m == n) ≡ false → (n == m) ≡ false
turned m n e = grind (arith, nat_tests)

pub some_number : (n : ℕ) → (n == 0) ≡ false → 1 ≤ n
some_number n e = grind (arith, nat_tests)

pub false_unless : (b : Bool) → (b ≡ true → ⊥) → b ≡ false
false_unless true h = absurd (h refl)
false_unless false h = refl

pub or_cases : (a b : Bool) → (a || b) ≡ true → (a ≡ true) ⊎ (b ≡ true)
or_cases true b h = inl refl
or_cases false b h = inr h

pub or_left : (a b : Bool) → a ≡ true → (a || b) ≡ true
or_left true b h = refl
or_left false b h = absurd cc

pub or_right : (a b : Bool) → b ≡ true → (a || b) ≡ true
or_right true b h = refl
or_right false b h = h

or_none : (a : Bool) → (a || false) ≡ true → a ≡ true
or_none true h = refl
or_none false h = absurd cc

not_both : (a b : Bool) → b ≡ false → not (a && b) ≡ true
not_both true b h = ap not h
not_both false b h = refl

neither_left : (a b : Bool) → (a || b) ≡ false → a ≡ false
neither_left true b h = absurd cc
neither_left false b h = refl

neither_right : (a b : Bool) → (a || b) ≡ false → b ≡ false
neither_right true b h = absurd cc
neither_right false b h = h

no_one : (a b : Bool) → a ≡ false → not (a && b) ≡ true
no_one true b h = absurd cc
no_one false b h = refl

-- ---- numbers

rises_to : (d : Bool) (a b : ℕ) → (not d || nat_lt a b) ≡ true → a ≤ cond d b a
rises_to true a b h = let lt = ltb-true a b h in omega (arith, lt)
rises_to false a b h = omega arith

drawn_above : (d : Bool) (a b : ℕ) → d ≡ true → (not d || nat_lt a b) ≡ true → a < b
drawn_above true a b e h = ltb-true a b h
drawn_above false a b e h = absurd cc

drawn_is : (d : Bool) (a b : ℕ) → d ≡ true → cond d b a ≡ b
drawn_is true a b e = refl
drawn_is false a b e = absurd cc

greater_when : (c : Bool) (a b : ℕ) → nat_lt a b ≡ c → (a ≤ cond c b a) × (b ≤ cond c b a)
greater_when true a b e = let lt = ltb-true a b e in (omega (arith, lt), omega arith)
greater_when false a b e = let le = ltb-false a b e in (omega arith, omega (arith, le))

greater_is : (a b : ℕ) → (a ≤ greater a b) × (b ≤ greater a b)
greater_is a b = greater_when (nat_lt a b) a b refl

-- ---- lists of which one gets one record more

at_each : (ls : List (List LogRecord)) (k : ℕ) (r : LogRecord) (i : ℕ) → k < length ls → ((i ≡ k) × (list_at (with_record ls k r) i ≡ list_at ls k ++ r ∷ [])) ⊎ ((i ≢ k) × (list_at (with_record ls k r) i ≡ list_at ls i))
at_each [] k r i h = absurd (omega arith)
at_each (l ∷ ls) zero r zero h = inl (refl, refl)
at_each (l ∷ ls) zero r (suc i) h = inr (λ e. absurd (omega (arith, e)), refl)
at_each (l ∷ ls) (suc k) r zero h = inr (λ e. absurd (omega (arith, e)), refl)
at_each (l ∷ ls) (suc k) r (suc i) h = more (at_each ls k r i (omega (arith, h)))
  where
    more : ((i ≡ k) × (list_at (with_record ls k r) i ≡ list_at ls k ++ r ∷ [])) ⊎ ((i ≢ k) × (list_at (with_record ls k r) i ≡ list_at ls i))
        → ((suc i ≡ suc k) × (list_at (with_record ls k r) i ≡ list_at ls k ++ r ∷ [])) ⊎ ((suc i ≢ suc k) × (list_at (with_record ls k r) i ≡ list_at ls i))
    more (inl p) = inl (ap suc p.0, p.1)
    more (inr p) = inr (λ e. p.0 (omega (arith, e)), p.1)

-- who speaks of a transaction then
spoken_by : (t i k : ℕ) (before now : List LogRecord) (own : List LogRecord) (r : LogRecord) → ((i ≡ k) × (now ≡ own ++ r ∷ [])) ⊎ ((i ≢ k) × (now ≡ before)) → (i ≡ k → before ≡ own) → speak_of t now ≡ true
    → (speak_of t before ≡ true) ⊎ ((r.tran ≡ t) × (i ≡ k))
spoken_by t i k before now own r (inl p) same h =
    by_one (or_cases (speak_of t own) (speak_of t (r ∷ [])) (sym (speak_more t own (r ∷ [])) ∙ ap (speak_of t) (sym p.1) ∙ h))
  where
    by_one : (speak_of t own ≡ true) ⊎ (speak_of t (r ∷ []) ≡ true) → (speak_of t before ≡ true) ⊎ ((r.tran ≡ t) × (i ≡ k))
    by_one (inl q) = inl (ap (speak_of t) (same p.0) ∙ q)
    by_one (inr q) = inr (equal r.tran t (or_none (r.tran == t) q), p.0)
spoken_by t i k before now own r (inr p) same h = inl (ap (speak_of t) (sym p.1) ∙ h)

spoken : (ls : List (List LogRecord)) (k : ℕ) (r : LogRecord) (t i : ℕ) → k < length ls → speak_of t (list_at (with_record ls k r) i) ≡ true → (speak_of t (list_at ls i) ≡ true) ⊎ ((r.tran ≡ t) × (i ≡ k))
spoken ls k r t i lt h = spoken_by t i k (list_at ls i) (list_at (with_record ls k r) i) (list_at ls k) r (at_each ls k r i lt) (λ e. ap (list_at ls) e) h

still_by : (t i k : ℕ) (before now own : List LogRecord) (r : LogRecord) → ((i ≡ k) × (now ≡ own ++ r ∷ [])) ⊎ ((i ≢ k) × (now ≡ before)) → (i ≡ k → before ≡ own) → speak_of t before ≡ true → speak_of t now ≡ true
still_by t i k before now own r (inl p) same h =
    ap (speak_of t) p.1 ∙ speak_more t own (r ∷ []) ∙ or_left (speak_of t own) (speak_of t (r ∷ [])) (ap (speak_of t) (sym (same p.0)) ∙ h)
still_by t i k before now own r (inr p) same h = ap (speak_of t) p.1 ∙ h

still_spoken : (ls : List (List LogRecord)) (k : ℕ) (r : LogRecord) (t i : ℕ) → k < length ls → speak_of t (list_at ls i) ≡ true → speak_of t (list_at (with_record ls k r) i) ≡ true
still_spoken ls k r t i lt h = still_by t i k (list_at ls i) (list_at (with_record ls k r) i) (list_at ls k) r (at_each ls k r i lt) (λ e. ap (list_at ls) e) h

at_place : (ls : List (List LogRecord)) (k : ℕ) (r : LogRecord) → k < length ls → list_at (with_record ls k r) k ≡ list_at ls k ++ r ∷ []
at_place [] k r h = absurd (omega arith)
at_place (l ∷ ls) zero r h = refl
at_place (l ∷ ls) (suc k) r h = at_place ls k r (omega (arith, h))

spoken_here : (ls : List (List LogRecord)) (k : ℕ) (r : LogRecord) → k < length ls → speak_of r.tran (list_at (with_record ls k r) k) ≡ true
spoken_here ls k r lt =
    ap (speak_of r.tran) (at_place ls k r lt) ∙ speak_more r.tran (list_at ls k) (r ∷ [])
    ∙ or_right (speak_of r.tran (list_at ls k)) (speak_of r.tran (r ∷ [])) (or_left (r.tran == r.tran) false (itself r.tran))

-- what a transaction's records come to then
course_when : (b : Bool) (c d : Course) → b ≡ true → cond b d c ≡ d
course_when true c d h = refl
course_when false c d h = absurd cc

course_unless : (b : Bool) (c d : Course) → b ≡ false → cond b d c ≡ c
course_unless true c d h = absurd cc
course_unless false c d h = refl

course_here : (ls : List (List LogRecord)) (k : ℕ) (r : LogRecord) → k < length ls → course_in new_course r.tran (list_at (with_record ls k r) k) ≡ courses.after_body (course_in new_course r.tran (list_at ls k)) r r.body
course_here ls k r lt =
    ap (course_in new_course r.tran) (at_place ls k r lt) ∙ course_last new_course r.tran (list_at ls k) r
    ∙ course_when (r.tran == r.tran) (course_in new_course r.tran (list_at ls k)) (courses.after_body (course_in new_course r.tran (list_at ls k)) r r.body) (itself r.tran)

other_by : (t i k : ℕ) (before now own : List LogRecord) (r : LogRecord) → ((i ≡ k) × (now ≡ own ++ r ∷ [])) ⊎ ((i ≢ k) × (now ≡ before)) → (i ≡ k → before ≡ own) → (r.tran == t) ≡ false
    → course_in new_course t now ≡ course_in new_course t before
other_by t i k before now own r (inl p) same differs =
    ap (course_in new_course t) p.1 ∙ course_last new_course t own r ∙ course_unless (r.tran == t) (course_in new_course t own) (courses.after_body (course_in new_course t own) r r.body) differs
    ∙ ap (course_in new_course t) (sym (same p.0))
other_by t i k before now own r (inr p) same differs = ap (course_in new_course t) p.1

course_other : (ls : List (List LogRecord)) (k : ℕ) (r : LogRecord) (t i : ℕ) → k < length ls → (r.tran == t) ≡ false → course_in new_course t (list_at (with_record ls k r) i) ≡ course_in new_course t (list_at ls i)
course_other ls k r t i lt differs = other_by t i k (list_at ls i) (list_at (with_record ls k r) i) (list_at ls k) r (at_each ls k r i lt) (λ e. ap (list_at ls) e) differs

course_none : (c : Course) (t : ℕ) (rs : List LogRecord) → speak_of t rs ≡ false → course_in c t rs ≡ c
course_none c t [] h = refl
course_none c t (r ∷ rs) h =
    ap (λ (d : Course). course_in d t rs) (course_unless (r.tran == t) c (courses.after_body c r r.body) (neither_left (r.tran == t) (speak_of t rs) h)) ∙ course_none c t rs (neither_right (r.tran == t) (speak_of t rs) h)

-- all records, with one more among them
record Split (ls : List (List LogRecord)) (k : ℕ) (r : LogRecord) : Type 0 where
  front : List LogRecord
  back : List LogRecord
  before : all_of ls ≡ front ++ back
  after : all_of (with_record ls k r) ≡ front ++ r ∷ back

split_at : (ls : List (List LogRecord)) (k : ℕ) (r : LogRecord) → k < length ls → Split ls k r
split_at [] k r h = absurd (omega arith)
split_at (l ∷ ls) zero r h = record { front = l; back = all_of ls; before = refl; after = append_assoc l (r ∷ []) (all_of ls) }
split_at (l ∷ ls) (suc k) r h =
    let s = split_at ls k r (omega (arith, h)) in
    record {
      front = l ++ s.front;
      back = s.back;
      before = ap (λ (x : List LogRecord). l ++ x) s.before ∙ sym (append_assoc l s.front s.back);
      after = ap (λ (x : List LogRecord). l ++ x) s.after ∙ sym (append_assoc l s.front (r ∷ s.back));
    }

-- ---- numbers that differ

not_among : (x n : ℕ) (xs ys : List ℕ) → not (is_among x (xs ++ ys)) ≡ true → (x == n) ≡ false → not (is_among x (xs ++ n ∷ ys)) ≡ true
not_among x n xs ys h differs =
    ap not (list_any-append (λ (m : ℕ). m == x) xs (n ∷ ys)) ∙ between (is_among x xs) (n == x) (is_among x ys) (turned x n differs) (ap not (sym (list_any-append (λ (m : ℕ). m == x) xs ys)) ∙ h)
  where
    between : (a b c : Bool) → b ≡ false → not (a || c) ≡ true → not (a || (b || c)) ≡ true
    between true b c e h = h
    between false true c e h = absurd cc
    between false false c e h = h

differ_in : (xs ys : List ℕ) (n : ℕ) → all_differ (xs ++ ys) ≡ true → is_among n (xs ++ ys) ≡ false → all_differ (xs ++ n ∷ ys) ≡ true
differ_in [] ys n h differs = and_both (not (is_among n ys)) (all_differ ys) (ap not differs) h
differ_in (x ∷ xs) ys n h differs =
    and_both (not (is_among x (xs ++ n ∷ ys))) (all_differ (xs ++ n ∷ ys))
    (not_among x n xs ys (and_left (not (is_among x (xs ++ ys))) (all_differ (xs ++ ys)) h) (false_unless (x == n) (λ e. let yes : is_among n (x ∷ (xs ++ ys)) ≡ true = or_left (x == n) (is_among n (xs ++ ys)) e in cc)))
    (differ_in xs ys n (and_right (not (is_among x (xs ++ ys))) (all_differ (xs ++ ys)) h)
    (false_unless (is_among n (xs ++ ys)) (λ e. let yes : is_among n (x ∷ (xs ++ ys)) ≡ true = or_right (x == n) (is_among n (xs ++ ys)) e in cc)))

differ_when : (d : Bool) (xs ys : List ℕ) (n : ℕ) → all_differ (xs ++ ys) ≡ true → (d ≡ true → is_among n (xs ++ ys) ≡ false) → all_differ (xs ++ cond d (n ∷ ys) ys) ≡ true
differ_when true xs ys n h differs = differ_in xs ys n h (differs refl)
differ_when false xs ys n h differs = h

differ_with : (xs ys : List LogRecord) (r : LogRecord) → all_differ (0 ∷ drawn_numbers (xs ++ ys)) ≡ true → (is_drawn r.body ≡ true → is_among r.lrsn (0 ∷ drawn_numbers (xs ++ ys)) ≡ false)
    → all_differ (0 ∷ drawn_numbers (xs ++ r ∷ ys)) ≡ true
differ_with xs ys r h differs =
    let e : drawn_numbers (xs ++ ys) ≡ drawn_numbers xs ++ drawn_numbers ys = drawn_more xs ys in
    ap (λ (l : List ℕ). all_differ (0 ∷ l)) (drawn_more xs (r ∷ ys))
    ∙ differ_when (is_drawn r.body) (0 ∷ drawn_numbers xs) (drawn_numbers ys) r.lrsn (ap (λ (l : List ℕ). all_differ (0 ∷ l)) (sym e) ∙ h) (λ d. ap (λ (l : List ℕ). is_among r.lrsn (0 ∷ l)) (sym e) ∙ differs d)

among_when : (d : Bool) (n m : ℕ) (xs ys : List ℕ) → is_among n (xs ++ cond d (m ∷ ys) ys) ≡ true → (is_among n (xs ++ ys) ≡ true) ⊎ ((d ≡ true) × (m ≡ n))
among_when true n m xs ys h = one (or_cases (is_among n xs) ((m == n) || is_among n ys) (sym (list_any-append (λ (k : ℕ). k == n) xs (m ∷ ys)) ∙ h))
  where
    whole : (is_among n xs || is_among n ys) ≡ true → is_among n (xs ++ ys) ≡ true
    whole q = list_any-append (λ (k : ℕ). k == n) xs ys ∙ q

    two : ((m == n) ≡ true) ⊎ (is_among n ys ≡ true) → (is_among n (xs ++ ys) ≡ true) ⊎ ((true ≡ true) × (m ≡ n))
    two (inl q) = inr (refl, equal m n q)
    two (inr q) = inl (whole (or_right (is_among n xs) (is_among n ys) q))

    one : (is_among n xs ≡ true) ⊎ (((m == n) || is_among n ys) ≡ true) → (is_among n (xs ++ ys) ≡ true) ⊎ ((true ≡ true) × (m ≡ n))
    one (inl q) = inl (whole (or_left (is_among n xs) (is_among n ys) q))
    one (inr q) = two (or_cases (m == n) (is_among n ys) q)
among_when false n m xs ys h = inl h

among_with : (n : ℕ) (xs ys : List LogRecord) (r : LogRecord) → is_among n (drawn_numbers (xs ++ r ∷ ys)) ≡ true → (is_among n (drawn_numbers (xs ++ ys)) ≡ true) ⊎ ((is_drawn r.body ≡ true) × (r.lrsn ≡ n))
among_with n xs ys r h = back (among_when (is_drawn r.body) n r.lrsn (drawn_numbers xs) (drawn_numbers ys) (ap (is_among n) (sym (drawn_more xs (r ∷ ys))) ∙ h))
  where
    back : (is_among n (drawn_numbers xs ++ drawn_numbers ys) ≡ true) ⊎ ((is_drawn r.body ≡ true) × (r.lrsn ≡ n)) → (is_among n (drawn_numbers (xs ++ ys)) ≡ true) ⊎ ((is_drawn r.body ≡ true) × (r.lrsn ≡ n))
    back (inl q) = inl (ap (is_among n) (drawn_more xs ys) ∙ q)
    back (inr q) = inr q

greatest_with : (xs ys : List LogRecord) (r : LogRecord) (g h : ℕ) → greatest (xs ++ ys) ≤ g → g ≤ h → r.lrsn ≤ h → greatest (xs ++ r ∷ ys) ≤ h
greatest_with [] ys r g h a b c = omega arith
greatest_with (x ∷ xs) ys r g h a b c = let more = greatest_with xs ys r g h (omega arith) b c in omega arith

-- ---- each log's records

follow_in : (ls : List (List LogRecord)) (k : ℕ) (r : LogRecord) → AllByRecursion (EachFollows []) ls → MayFollow (list_at ls k) r → AllByRecursion (EachFollows []) (with_record ls k r)
follow_in [] k r h m = tt
follow_in (l ∷ ls) zero r h m = (follow_more [] l r h.0 m, h.1)
follow_in (l ∷ ls) (suc k) r h m = (h.0, follow_in ls k r h.1 m)

-- ---- what a record that may pass is to its transaction

-- it is of none
record StandsApart (lists : List (List LogRecord)) (k : ℕ) (r : LogRecord) : Type 0 where
  none : r.tran ≡ 0
  apart : is_apart r.body ≡ true
  follow : MayFollow (list_at lists k) r

-- or it is the next of its own, which is open in this log or begins with it
record GoesOn (s : Passing) (walked : List LogRecord) (lists : List (List LogRecord)) (k now : ℕ) (r : LogRecord) : Type 0 where
  some : (r.tran == 0) ≡ false
  follow : MayFollow (list_at lists k) r
  here : (i : ℕ) → speak_of r.tran (list_at lists i) ≡ true → i ≡ k
  known : r.tran ≤ now
  standing_is : after_body (standing_in (get s.trans r.tran)) r r.body ≡ standing (courses.after_body (course_in new_course r.tran (list_at lists k)) r r.body)
  early : has_commit walked r.tran ≡ true → ⊥

apart_fits : (c : Course) (r : LogRecord) (b : Body) → is_apart b ≡ true → MayTake c r b
apart_fits c r (body.RowChange change) h = absurd cc
apart_fits c r (body.Compensation change undone) h = absurd cc
apart_fits c r (body.System patches) h = record { fits = refl; takes_back = tt }
apart_fits c r body.Commit h = absurd cc
apart_fits c r body.Ended h = absurd cc
apart_fits c r (body.Checkpoint offset) h = record { fits = refl; takes_back = tt }
apart_fits c r body.RestartEnd h = record { fits = refl; takes_back = tt }

may_follow : (earlier : List LogRecord) (r : LogRecord) (c : Course) → course_in new_course r.tran earlier ≡ c → is_named earlier r ≡ true → MayTake c r r.body → MayFollow earlier r
may_follow earlier r c e named take = record {
  named = named;
  fits = subst (λ (d : Course). body_fault d r r.body ≡ None) (sym e) take.fits;
  takes_back = subst (λ (d : Course). TakesBack d r.body) (sym e) take.takes_back;
}

stands_apart : (lists : List (List LogRecord)) (k : ℕ) (r : LogRecord) → (r.tran == 0) ≡ true → is_apart r.body ≡ true → StandsApart lists k r
stands_apart lists k r zero_is h = record {
  none = equal r.tran 0 zero_is;
  apart = h;
  follow =
      may_follow (list_at lists k) r (course_in new_course r.tran (list_at lists k)) refl
      (or_left ((r.tran == 0) || speak_of r.tran (list_at lists k)) (r.lrsn == r.tran) (or_left (r.tran == 0) (speak_of r.tran (list_at lists k)) zero_is))
      (apart_fits (course_in new_course r.tran (list_at lists k)) r r.body h);
}

begins_on : (s : Passing) (walked : List LogRecord) (lists : List (List LogRecord)) (k : ℕ) (r : LogRecord) → ArePassed s walked lists → (not (is_drawn r.body) || nat_lt s.last r.lrsn) ≡ true → (r.tran == 0) ≡ false → get s.trans r.tran ≡ None → begins r ≡ true
    → GoesOn s walked lists k (cond (is_drawn r.body) r.lrsn s.last) r
begins_on s walked lists k r p up some none b =
    let both = and_left (is_drawn r.body && (r.lrsn == r.tran)) (may_take new_standing r.body) b in
    let may = and_right (is_drawn r.body && (r.lrsn == r.tran)) (may_take new_standing r.body) b in
    let drawn = and_left (is_drawn r.body) (r.lrsn == r.tran) both in
    let named = and_right (is_drawn r.body) (r.lrsn == r.tran) both in
    let number : r.lrsn ≡ r.tran = equal r.lrsn r.tran named in
    let above : s.last < r.lrsn = drawn_above (is_drawn r.body) s.last r.lrsn drawn up in
    let now : cond (is_drawn r.body) r.lrsn s.last ≡ r.lrsn = drawn_is (is_drawn r.body) s.last r.lrsn drawn in
    let silent : speak_of r.tran (list_at lists k) ≡ false = false_unless (speak_of r.tran (list_at lists k)) (λ e. let old = p.known r.tran k e in absurd (omega (arith, old, above, number))) in
    let course : course_in new_course r.tran (list_at lists k) ≡ new_course = course_none new_course r.tran (list_at lists k) silent in
    record {
      some = some;
      follow = may_follow (list_at lists k) r new_course course (or_right ((r.tran == 0) || speak_of r.tran (list_at lists k)) (r.lrsn == r.tran) named) (may_take_is new_course r r.body may);
      here = λ i e. let old = p.known r.tran i e in absurd (omega (arith, old, above, number));
      known = omega (arith, now, number);
      standing_is =
          ap (λ (o : Option OpenTran). after_body (standing_in o) r r.body) none ∙ stands_after new_course r r.body may
          ∙ ap (λ (c : Course). standing (courses.after_body c r r.body)) (sym course);
      early = λ e. let old = p.commits r.tran e in let le = old.1 in absurd (omega (arith, le, above, number));
    }

pub no_value : {A : Type 0} (o : Option A) (x : A) → o ≡ None → o ≡ Some x → ⊥
no_value o x e f = cc

takes_on : (s : Passing) (walked : List LogRecord) (lists : List (List LogRecord)) (member : ℕ) (r : LogRecord) (o : OpenTran) → ArePassed s walked lists → (not (is_drawn r.body) || nat_lt s.last r.lrsn) ≡ true → (r.tran == 0) ≡ false
    → get s.trans r.tran ≡ Some o → ((o.home == member) && may_take o.standing r.body) ≡ true → GoesOn s walked lists (member - 1) (cond (is_drawn r.body) r.lrsn s.last) r
takes_on s walked lists member r o p up some is b =
    let its = p.opened r.tran o is in
    let home : o.home ≡ member = equal o.home member (and_left (o.home == member) (may_take o.standing r.body) b) in
    let own : List LogRecord = list_at lists (member - 1) in
    let speaks : speak_of r.tran own ≡ true = subst (λ (h : ℕ). speak_of r.tran (list_at lists (h - 1)) ≡ true) home its.speaks in
    let stands : o.standing ≡ standing (course_in new_course r.tran own) = subst (λ (h : ℕ). o.standing ≡ standing (course_in new_course r.tran (list_at lists (h - 1)))) home its.standing_is in
    let may : may_take (standing (course_in new_course r.tran own)) r.body ≡ true = ap (λ (x : Standing). may_take x r.body) (sym stands) ∙ and_right (o.home == member) (may_take o.standing r.body) b in
    let old = p.known r.tran (member - 1) speaks in
    let on = rises_to (is_drawn r.body) s.last r.lrsn up in
    record {
      some = some;
      follow =
          may_follow own r (course_in new_course r.tran own) refl (or_left ((r.tran == 0) || speak_of r.tran own) (r.lrsn == r.tran) (or_right (r.tran == 0) (speak_of r.tran own) speaks))
          (may_take_is (course_in new_course r.tran own) r r.body may);
      here = λ i e. p.homes r.tran i (member - 1) its.some e speaks;
      known = omega (arith, old, on);
      standing_is = ap (λ (x : Option OpenTran). after_body (standing_in x) r r.body) is ∙ ap (λ (x : Standing). after_body x r r.body) stands ∙ stands_after (course_in new_course r.tran own) r r.body may;
      early = λ e. no_value (get s.trans r.tran) o (p.commits r.tran e).2 is;
    }

goes_by : (s : Passing) (walked : List LogRecord) (lists : List (List LogRecord)) (member : ℕ) (r : LogRecord) (o : Option OpenTran) → ArePassed s walked lists → (not (is_drawn r.body) || nat_lt s.last r.lrsn) ≡ true → (r.tran == 0) ≡ false
    → get s.trans r.tran ≡ o → goes_on o member r ≡ true → GoesOn s walked lists (member - 1) (cond (is_drawn r.body) r.lrsn s.last) r
goes_by s walked lists member r None p up some is b = begins_on s walked lists (member - 1) r p up some is b
goes_by s walked lists member r (Some o) p up some is b = takes_on s walked lists member r o p up some is b

-- ---- what is open behind it

trans_when : (b : Bool) (trans : OpenTrans) (k : ℕ) (v : OpenTran) (t : ℕ) → get (cond b (remove trans k) (insert trans k v)) t ≡ cond (k == t) (cond b None (Some v)) (get trans t)
trans_when true trans k v t = get-remove nat_cmp_total trans k t ∙ ap (λ (b : Bool). cond b None (get trans t)) (same_key t k)
trans_when false trans k v t = put_at trans k v t

carried : (lists : List (List LogRecord)) (k : ℕ) (r : LogRecord) (t : ℕ) (o : OpenTran) → k < length lists → (r.tran == t) ≡ false → IsOpen lists t o → IsOpen (with_record lists k r) t o
carried lists k r t o lt differs is = record {
  some = is.some;
  home = is.home;
  speaks = still_spoken lists k r t (o.home - 1) lt is.speaks;
  standing_is = is.standing_is ∙ ap standing (sym (course_other lists k r t (o.home - 1) lt differs));
}

opened_one : (lists : List (List LogRecord)) (member : ℕ) (r : LogRecord) (o : Option OpenTran) → 1 ≤ member → member - 1 < length lists → (r.tran == 0) ≡ false
    → after_body (standing_in o) r r.body ≡ standing (courses.after_body (course_in new_course r.tran (list_at lists (member - 1))) r r.body) → IsOpen (with_record lists (member - 1) r) r.tran (gone_on o member r)
opened_one lists member r o some lt differs e = record {
  some = some_number r.tran differs;
  home = some;
  speaks = spoken_here lists (member - 1) r lt;
  standing_is = e ∙ ap standing (sym (course_here lists (member - 1) r lt));
}

same_value : {A : Type 0} (x y : A) → (let o : Option A = Some x in o ≡ Some y) → x ≡ y
same_value x y e = cc

no_some : {A : Type 0} (y : A) → (let o : Option A = None in o ≡ Some y) → ⊥
no_some y e = cc

opened_by : (c b : Bool) (lists : List (List LogRecord)) (member : ℕ) (r : LogRecord) (t : ℕ) (before : Option OpenTran) (v o : OpenTran) → (r.tran == t) ≡ b → member - 1 < length lists → IsOpen (with_record lists (member - 1) r) r.tran v
    → ((x : OpenTran) → before ≡ Some x → IsOpen lists t x) → cond b (cond c None (Some v)) before ≡ Some o → IsOpen (with_record lists (member - 1) r) t o
opened_by true true lists member r t before v o e lt one old h = absurd (no_some o h)
opened_by false true lists member r t before v o e lt one old h =
    subst (λ (k : ℕ). IsOpen (with_record lists (member - 1) r) k o) (equal r.tran t e) (subst (λ (x : OpenTran). IsOpen (with_record lists (member - 1) r) r.tran x) (same_value v o h) one)
opened_by c false lists member r t before v o e lt one old h = carried lists (member - 1) r t o lt e (old o h)

-- ---- Commit records

commit_cases : (walked : List LogRecord) (r : LogRecord) (t : ℕ) → has_commit (walked ++ r ∷ []) t ≡ true → (has_commit walked t ≡ true) ⊎ ((is_commit r.body ≡ true) × (r.tran ≡ t))
commit_cases walked r t h = cases (or_cases (has_commit walked t) (has_commit (r ∷ []) t) (sym (list_any-append (λ (x : LogRecord). is_commit x.body && (x.tran == t)) walked (r ∷ [])) ∙ h))
  where
    cases : (has_commit walked t ≡ true) ⊎ (has_commit (r ∷ []) t ≡ true) → (has_commit walked t ≡ true) ⊎ ((is_commit r.body ≡ true) × (r.tran ≡ t))
    cases (inl q) = inl q
    cases (inr q) =
        let one : (is_commit r.body && (r.tran == t)) ≡ true = or_none (is_commit r.body && (r.tran == t)) q in
        inr (and_left (is_commit r.body) (r.tran == t) one, equal r.tran t (and_right (is_commit r.body) (r.tran == t) one))

commit_closes : (b : Body) → is_commit b ≡ true → closes b ≡ true
commit_closes (body.RowChange change) h = absurd cc
commit_closes (body.Compensation change undone) h = absurd cc
commit_closes (body.System patches) h = absurd cc
commit_closes body.Commit h = refl
commit_closes body.Ended h = absurd cc
commit_closes (body.Checkpoint offset) h = absurd cc
commit_closes body.RestartEnd h = absurd cc

no_commit : (b : Body) → is_apart b ≡ true → is_commit b ≡ true → ⊥
no_commit (body.RowChange change) h k = cc
no_commit (body.Compensation change undone) h k = cc
no_commit (body.System patches) h k = cc
no_commit body.Commit h k = cc
no_commit body.Ended h k = cc
no_commit (body.Checkpoint offset) h k = cc
no_commit body.RestartEnd h k = cc

no_row_change : (b : Body) → is_apart b ≡ true → is_row_change b ≡ false
no_row_change (body.RowChange change) h = absurd cc
no_row_change (body.Compensation change undone) h = absurd cc
no_row_change (body.System patches) h = refl
no_row_change body.Commit h = absurd cc
no_row_change body.Ended h = absurd cc
no_row_change (body.Checkpoint offset) h = refl
no_row_change body.RestartEnd h = refl

early_with : (earlier walked : List LogRecord) (r : LogRecord) → are_early earlier walked ≡ true → is_early (earlier ++ walked) r ≡ true → are_early earlier (walked ++ r ∷ []) ≡ true
early_with earlier [] r h one = and_both (is_early earlier r) true (subst (λ (l : List LogRecord). is_early l r ≡ true) (append-nil earlier) one) refl
early_with earlier (x ∷ xs) r h one =
    and_both (is_early earlier x) (are_early (earlier ++ x ∷ []) (xs ++ r ∷ [])) (and_left (is_early earlier x) (are_early (earlier ++ x ∷ []) xs) h)
    (early_with (earlier ++ x ∷ []) xs r (and_right (is_early earlier x) (are_early (earlier ++ x ∷ []) xs) h) (subst (λ (l : List LogRecord). is_early l r ≡ true) (sym (append_assoc earlier (x ∷ []) xs)) one))

-- ---- one record more

-- what both kinds of records leave
record Leaves (s : Passing) (walked : List LogRecord) (lists : List (List LogRecord)) (k now : ℕ) (trans : OpenTrans) (r : LogRecord) : Type 0 where
  follow : MayFollow (list_at lists k) r
  known : r.tran ≤ now
  here : (i : ℕ) → 1 ≤ r.tran → speak_of r.tran (list_at lists i) ≡ true → i ≡ k
  opened : (t : ℕ) (o : OpenTran) → get trans t ≡ Some o → IsOpen (with_record lists k r) t o
  commits : (t : ℕ) → has_commit (walked ++ r ∷ []) t ≡ true → (1 ≤ t) × (t ≤ now) × (get trans t ≡ None)
  early : is_early walked r ≡ true

carried_on : (lists : List (List LogRecord)) (k : ℕ) (r : LogRecord) (t : ℕ) (o : OpenTran) → r.tran ≡ 0 → k < length lists → IsOpen lists t o → IsOpen (with_record lists k r) t o
carried_on lists k r t o none lt is =
    carried lists k r t o lt (false_unless (r.tran == t) (λ e. let same = equal r.tran t e in let some = is.some in absurd (omega (arith, same, some, none)))) is

apart_leaves : (s : Passing) (walked : List LogRecord) (lists : List (List LogRecord)) (k now : ℕ) (r : LogRecord) → ArePassed s walked lists → k < length lists → s.last ≤ now → StandsApart lists k r → Leaves s walked lists k now s.trans r
apart_leaves s walked lists k now r p lt on is = record {
  follow = is.follow;
  known = (let none = is.none in omega (arith, none));
  here = λ i some e. let none = is.none in absurd (omega (arith, none, some));
  opened = λ t o h. carried_on lists k r t o is.none lt (p.opened t o h);
  commits = λ t h. commits t (commit_cases walked r t h);
  early = no_one (is_row_change r.body) (has_commit walked r.tran) (no_row_change r.body is.apart);
}
  where
    commits : (t : ℕ) → (has_commit walked t ≡ true) ⊎ ((is_commit r.body ≡ true) × (r.tran ≡ t)) → (1 ≤ t) × (t ≤ now) × (get s.trans t ≡ None)
    commits t (inl h) = let old = p.commits t h in let le = old.1 in (old.0, omega (arith, le, on), old.2)
    commits t (inr h) = absurd (no_commit r.body is.apart h.0)

none_closed : (b c : Bool) (v : OpenTran) (before : Option OpenTran) → b ≡ true → c ≡ true → cond b (cond c None (Some v)) before ≡ None
none_closed true true v before e f = refl
none_closed true false v before e f = absurd cc
none_closed false c v before e f = absurd cc

none_other : (b c : Bool) (v : OpenTran) (before : Option OpenTran) → b ≡ false → before ≡ None → cond b (cond c None (Some v)) before ≡ None
none_other true c v before e f = absurd cc
none_other false c v before e f = f

goes_leaves : (s : Passing) (walked : List LogRecord) (lists : List (List LogRecord)) (member now : ℕ) (r : LogRecord) → ArePassed s walked lists → 1 ≤ member → member - 1 < length lists → s.last ≤ now → GoesOn s walked lists (member - 1) now r
    → Leaves s walked lists (member - 1) now (trans_with s.trans member r) r
goes_leaves s walked lists member now r p some lt on is = record {
  follow = is.follow;
  known = is.known;
  here = λ i one e. is.here i e;
  opened = λ t o h.
      opened_by (closes r.body) (r.tran == t) lists member r t (get s.trans t) (gone_on (get s.trans r.tran) member r) o refl lt
      (opened_one lists member r (get s.trans r.tran) some lt is.some is.standing_is) (p.opened t) (sym (trans_when (closes r.body) s.trans r.tran (gone_on (get s.trans r.tran) member r) t) ∙ h);
  commits = λ t h. commits t (commit_cases walked r t h);
  early = not_both (is_row_change r.body) (has_commit walked r.tran) (false_unless (has_commit walked r.tran) is.early);
}
  where
    commits : (t : ℕ) → (has_commit walked t ≡ true) ⊎ ((is_commit r.body ≡ true) × (r.tran ≡ t)) → (1 ≤ t) × (t ≤ now) × (get (trans_with s.trans member r) t ≡ None)
    commits t (inl h) =
        let old = p.commits t h in
        let le = old.1 in
        let other : (r.tran == t) ≡ false = false_unless (r.tran == t) (λ e. is.early (subst (λ (k : ℕ). has_commit walked k ≡ true) (sym (equal r.tran t e)) h)) in (
          old.0,
          omega (arith, le, on),
          trans_when (closes r.body) s.trans r.tran (gone_on (get s.trans r.tran) member r) t ∙ none_other (r.tran == t) (closes r.body) (gone_on (get s.trans r.tran) member r) (get s.trans t) other old.2,
        )
    commits t (inr h) =
        let it : (r.tran == t) ≡ true = subst (λ (k : ℕ). (r.tran == k) ≡ true) h.1 (itself r.tran) in
        let one = some_number r.tran is.some in
        let le = is.known in
        let same = h.1 in (
          omega (arith, one, same),
          omega (arith, le, same),
          trans_when (closes r.body) s.trans r.tran (gone_on (get s.trans r.tran) member r) t
              ∙ none_closed (r.tran == t) (closes r.body) (gone_on (get s.trans r.tran) member r) (get s.trans t) it (commit_closes r.body h.0),
        )

leaves_by : (z : Bool) (s : Passing) (walked : List LogRecord) (lists : List (List LogRecord)) (member now : ℕ) (r : LogRecord) → (r.tran == 0) ≡ z → now ≡ cond (is_drawn r.body) r.lrsn s.last → ArePassed s walked lists → 1 ≤ member
    → member - 1 < length lists → (not (is_drawn r.body) || nat_lt s.last r.lrsn) ≡ true → cond z (is_apart r.body) (goes_on (get s.trans r.tran) member r) ≡ true
    → Leaves s walked lists (member - 1) now (cond z s.trans (trans_with s.trans member r)) r
leaves_by true s walked lists member now r e is p some lt up may =
    let on : s.last ≤ now = subst (λ (n : ℕ). s.last ≤ n) (sym is) (rises_to (is_drawn r.body) s.last r.lrsn up) in
    apart_leaves s walked lists (member - 1) now r p lt on (stands_apart lists (member - 1) r e may)
leaves_by false s walked lists member now r e is p some lt up may =
    let on : s.last ≤ now = subst (λ (n : ℕ). s.last ≤ n) (sym is) (rises_to (is_drawn r.body) s.last r.lrsn up) in
    goes_leaves s walked lists member now r p some lt on (subst (λ (n : ℕ). GoesOn s walked lists (member - 1) n r) (sym is) (goes_by s walked lists member r (get s.trans r.tran) p up e refl may))

-- one speaks of a transaction in one log
homes_by : (lists : List (List LogRecord)) (k : ℕ) (r : LogRecord) (t i j : ℕ) → ((u a b : ℕ) → 1 ≤ u → speak_of u (list_at lists a) ≡ true → speak_of u (list_at lists b) ≡ true → a ≡ b)
    → ((a : ℕ) → 1 ≤ r.tran → speak_of r.tran (list_at lists a) ≡ true → a ≡ k) → 1 ≤ t
    → (speak_of t (list_at lists i) ≡ true) ⊎ ((r.tran ≡ t) × (i ≡ k)) → (speak_of t (list_at lists j) ≡ true) ⊎ ((r.tran ≡ t) × (j ≡ k)) → i ≡ j
homes_by lists k r t i j homes here some (inl p) (inl q) = homes t i j some p q
homes_by lists k r t i j homes here some (inl p) (inr q) =
    here i (let same = q.0 in omega (arith, same, some)) (subst (λ (u : ℕ). speak_of u (list_at lists i) ≡ true) (sym q.0) p) ∙ sym q.1
homes_by lists k r t i j homes here some (inr p) (inl q) =
    p.1 ∙ sym (here j (let same = p.0 in omega (arith, same, some)) (subst (λ (u : ℕ). speak_of u (list_at lists j) ≡ true) (sym p.0) q))
homes_by lists k r t i j homes here some (inr p) (inr q) = p.1 ∙ sym q.1

known_by : (last now t : ℕ) (k i : ℕ) (r : LogRecord) (lists : List (List LogRecord)) → ((u a : ℕ) → speak_of u (list_at lists a) ≡ true → u ≤ last) → last ≤ now → r.tran ≤ now → (speak_of t (list_at lists i) ≡ true) ⊎ ((r.tran ≡ t) × (i ≡ k)) → t ≤ now
known_by last now t k i r lists known on its (inl p) = let le = known t i p in omega (arith, le, on)
known_by last now t k i r lists known on its (inr p) = let same = p.0 in omega (arith, same, its)

-- its number differs from those that were drawn before
new_number : (s : Passing) (walked : List LogRecord) (lists : List (List LogRecord)) (xs ys : List LogRecord) (r : LogRecord) → ArePassed s walked lists → all_of lists ≡ xs ++ ys → (not (is_drawn r.body) || nat_lt s.last r.lrsn) ≡ true → is_drawn r.body ≡ true
    → is_among r.lrsn (0 ∷ drawn_numbers (xs ++ ys)) ≡ false
new_number s walked lists xs ys r p e up drawn =
    let above = drawn_above (is_drawn r.body) s.last r.lrsn drawn up in
    false_unless (is_among r.lrsn (0 ∷ drawn_numbers (xs ++ ys))) (λ h. was above (or_cases (0 == r.lrsn) (is_among r.lrsn (drawn_numbers (xs ++ ys))) h))
  where
    was : s.last < r.lrsn → ((0 == r.lrsn) ≡ true) ⊎ (is_among r.lrsn (drawn_numbers (xs ++ ys)) ≡ true) → ⊥
    was above (inl q) = let none = equal 0 r.lrsn q in absurd (omega (arith, none, above))
    was above (inr q) = let old = p.last_is r.lrsn (subst (λ (l : List LogRecord). is_among r.lrsn (drawn_numbers l) ≡ true) (sym e) q) in absurd (omega (arith, old, above))

last_by : (s : Passing) (now n : ℕ) (lists : List (List LogRecord)) (xs ys : List LogRecord) (r : LogRecord) → ((m : ℕ) → is_among m (drawn_numbers (all_of lists)) ≡ true → m ≤ s.last) → all_of lists ≡ xs ++ ys → s.last ≤ now
    → (is_drawn r.body ≡ true → now ≡ r.lrsn) → (is_among n (drawn_numbers (xs ++ ys)) ≡ true) ⊎ ((is_drawn r.body ≡ true) × (r.lrsn ≡ n)) → n ≤ now
last_by s now n lists xs ys r last e on its (inl q) = let old = last n (subst (λ (l : List LogRecord). is_among n (drawn_numbers l) ≡ true) (sym e) q) in omega (arith, old, on)
last_by s now n lists xs ys r last e on its (inr q) = let is = its q.0 in let same = q.1 in omega (arith, is, same)

pub goes : (s : Passing) (walked : List LogRecord) (lists : List (List LogRecord)) (member : ℕ) (r : LogRecord) → ArePassed s walked lists → may_pass s member r ≡ true → 1 ≤ member → member ≤ length lists
    → ArePassed (passed s member r) (walked ++ r ∷ []) (with_record lists (member - 1) r)
goes s walked lists member r p may some most =
    let k : ℕ = member - 1 in
    let lt : member - 1 < length lists = omega (arith, some, most) in
    let z : Bool = r.tran == 0 in
    let up : (not (is_drawn r.body) || nat_lt s.last r.lrsn) ≡ true = and_left (not (is_drawn r.body) || nat_lt s.last r.lrsn) (cond (r.tran == 0) (is_apart r.body) (goes_on (get s.trans r.tran) member r)) may in
    let its : cond (r.tran == 0) (is_apart r.body) (goes_on (get s.trans r.tran) member r) ≡ true = and_right (not (is_drawn r.body) || nat_lt s.last r.lrsn) (cond (r.tran == 0) (is_apart r.body) (goes_on (get s.trans r.tran) member r)) may in
    let now : ℕ = cond (is_drawn r.body) r.lrsn s.last in
    let on : s.last ≤ now = rises_to (is_drawn r.body) s.last r.lrsn up in
    let left : Leaves s walked lists k now (cond (r.tran == 0) s.trans (trans_with s.trans member r)) r = leaves_by (r.tran == 0) s walked lists member now r refl refl p some lt up its in
    let parts = split_at lists k r lt in
    let great = greater_is s.greatest r.lrsn in
    record {
      differ = ap (λ (l : List LogRecord). all_differ (0 ∷ drawn_numbers l)) parts.after
          ∙ differ_with parts.front parts.back r (ap (λ (l : List LogRecord). all_differ (0 ∷ drawn_numbers l)) (sym parts.before) ∙ p.differ) (new_number s walked lists parts.front parts.back r p parts.before up);
      last_is = λ n h.
          last_by s now n lists parts.front parts.back r p.last_is parts.before on (drawn_is (is_drawn r.body) s.last r.lrsn)
          (among_with n parts.front parts.back r (subst (λ (l : List LogRecord). is_among n (drawn_numbers l) ≡ true) parts.after h));
      greatest_is = subst (λ (l : List LogRecord). greatest l ≤ greater s.greatest r.lrsn) (sym parts.after)
          (greatest_with parts.front parts.back r s.greatest (greater s.greatest r.lrsn) (subst (λ (l : List LogRecord). greatest l ≤ s.greatest) parts.before p.greatest_is) great.0 great.1);
      known = λ t i h. known_by s.last now t k i r lists p.known on left.known (spoken lists k r t i lt h);
      homes = λ t i j one h g. homes_by lists k r t i j p.homes left.here one (spoken lists k r t i lt h) (spoken lists k r t j lt g);
      opened = left.opened;
      follow = follow_in lists k r p.follow left.follow;
      commits = left.commits;
      early = early_with [] walked r p.early left.early;
    }
