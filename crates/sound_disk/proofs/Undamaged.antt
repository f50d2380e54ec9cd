-- The logs of a sound disk have no number that can't stand there: what is known behind each record, and that the next one agrees with it.
use Rattle.std.proofs.Common.{◌≡◌, ℕ, ◌+◌, ◌<◌, ◌≤◌, Bool, true, false, cond, List, [], ◌∷◌, ◌++◌, length, Option, Some, None, Result, Ok, Err, refl, sym, ap, subst, ◌∙◌, arith, append_assoc}
use Rattle.std.specs.Prelude.{◌==◌, nat_lt, not, ◌||◌, ◌&&◌, is_some}
use Rattle.std.specs.List.{AllByRecursion, list_any, list_all}
use Rattle.std.specs.Ordering.{nat_cmp, eq_by_cmp}
use Rattle.std.specs.Cmp.{nat_cmp_total}
use Rattle.std.specs.FinMap.{FinMap, get, insert, empty, get-insert, get-empty}
use Rattle.std.proofs.lemmas.Bool.Decides.{nat_tests}
use Rattle.std.proofs.lemmas.List.{append-nil}
use Rattle.std.proofs.lemmas.List.Folds.{list_any-append, list_all-append}
use Rattle.ds_model.specs.declared.log.LogRecord.{LogRecord}
use Rattle.ds_model.specs.RecordBytes.{record_bytes}
use Rattle.log_record.specs.declared.log.Log.{Log}
use Rattle.log_record.specs.Changes.{is_drawn}
use Rattle.restart_plan.specs.Given.{all_records, RisesFrom}
use Rattle.log_trans.specs.declared.course.Course.{Course}
use Rattle.log_trans.specs.declared.known.Known.{Known}
use Rattle.log_trans.specs.declared.damage.Damaged.{Damaged}
use Rattle.log_trans.specs.Courses.{new_course, after_body, course_of}
use Rattle.log_trans.specs.Damage.{number_at, tran_at, body_fault, is_home, tran_fault, record_fault, nothing_known, known_with, judged, damage_from, goes_on, damage_among, log_damage}
use Rattle.sound_disk.specs.Transactions.{drawn_numbers, is_among, all_differ, speak_of, stands_apart, stand_apart, course_in, MayFollow, EachFollows, AreTransactions}

-- ---- tests

same_key : (q k : ℕ) → eq_by_cmp nat_cmp q k ≡ (k == q)
same_key q k = grind (arith, nat_tests)

itself : (n : ℕ) → (n == n) ≡ true
itself n = grind (arith, nat_tests)

eq_turn : (m n : ℕ) → (m == n) ≡ (n == m)
eq_turn m n = grind (arith, nat_tests)

equal : (m n : ℕ) → (m == n) ≡ true → m ≡ n
equal m n e = grind (arith, nat_tests)

and_left : (a b : Bool) → (a && b) ≡ true → a ≡ true
and_left true b h = refl
and_left false b h = h

and_right : (a b : Bool) → (a && b) ≡ true → b ≡ true
and_right true b h = h
and_right false b h = absurd cc

and_both : (a b : Bool) → a ≡ true → b ≡ true → (a && b) ≡ true
and_both true b h k = k
and_both false b h k = h

or_left : (a b : Bool) → (a || b) ≡ false → a ≡ false
or_left true b h = h
or_left false b h = refl

or_right : (a b : Bool) → (a || b) ≡ false → b ≡ false
or_right true b h = absurd cc
or_right false b h = h

or_none : (a : Bool) → (a || false) ≡ a
or_none true = refl
or_none false = refl

or_turn : (a b : Bool) → (a || b) ≡ (b || a)
or_turn true true = refl
or_turn true false = refl
or_turn false true = refl
or_turn false false = refl

not_true : (b : Bool) → not b ≡ true → b ≡ false
not_true true h = absurd cc
not_true false h = refl

not_same : (k t : ℕ) → (k == 0) ≡ true → (t == 0) ≡ false → (k == t) ≡ false
not_same k t e some = grind (arith, nat_tests)

not_turned : (o t : ℕ) → (t == o) ≡ false → (o == t) ≡ false
not_turned o t e = eq_turn o t ∙ e

-- ---- what is known

-- of all records that were passed: their numbers; and of transactions without any of them nothing
record Counts (done : List LogRecord) (known : Known) : Type 0 where
  drawn : (n : ℕ) → is_some (get known.drawn n) ≡ is_among n (drawn_numbers done)
  no_home : (t : ℕ) → speak_of t done ≡ false → get known.homes t ≡ None
  no_course : (t : ℕ) → speak_of t done ≡ false → get known.courses t ≡ None

-- of transactions without records in other logs: that they stand in this one, and what their records in it come to
record Owns (member : ℕ) (others earlier : List LogRecord) (known : Known) : Type 0 where
  home : (t : ℕ) → speak_of t others ≡ false → is_home member (get known.homes t) ≡ true
  course : (t : ℕ) → (t == 0) ≡ false → speak_of t others ≡ false → course_of (get known.courses t) ≡ course_in new_course t earlier

-- ---- maps

put_at : {X : Type 0} (m : FinMap nat_cmp X) (k : ℕ) (v : X) (q : ℕ) → get (insert m k v) q ≡ cond (k == q) (Some v) (get m q)
put_at m k v q = get-insert nat_cmp_total m k v q ∙ ap (λ (b : Bool). cond b (Some v) (get m q)) (same_key q k)

some_if : {X : Type 0} (b : Bool) (v : X) (o : Option X) → is_some (cond b (Some v) o) ≡ (b || is_some o)
some_if true v o = refl
some_if false v o = refl

none_if : {X : Type 0} (b : Bool) (v : X) (o : Option X) → b ≡ false → o ≡ None → cond b (Some v) o ≡ None
none_if true v o h k = absurd cc
none_if false v o h k = k

-- ---- one record more

drawn_when : (b : Bool) (n : ℕ) (xs ys zs : List ℕ) → xs ≡ ys ++ zs → cond b (n ∷ xs) xs ≡ cond b (n ∷ ys) ys ++ zs
drawn_when true n xs ys zs e = ap (λ (l : List ℕ). n ∷ l) e
drawn_when false n xs ys zs e = e

drawn_more : (xs ys : List LogRecord) → drawn_numbers (xs ++ ys) ≡ drawn_numbers xs ++ drawn_numbers ys
drawn_more [] ys = refl
drawn_more (x ∷ xs) ys = drawn_when (is_drawn x.body) x.lrsn (drawn_numbers (xs ++ ys)) (drawn_numbers xs) (drawn_numbers ys) (drawn_more xs ys)

among_more : (n : ℕ) (xs ys : List ℕ) → is_among n (xs ++ ys) ≡ (is_among n xs || is_among n ys)
among_more n xs ys = list_any-append (λ (m : ℕ). m == n) xs ys

speak_more : (t : ℕ) (xs ys : List LogRecord) → speak_of t (xs ++ ys) ≡ (speak_of t xs || speak_of t ys)
speak_more t xs ys = list_any-append (λ (r : LogRecord). r.tran == t) xs ys

speak_one : (t : ℕ) (done : List LogRecord) (r : LogRecord) → speak_of t (done ++ r ∷ []) ≡ false → (speak_of t done ≡ false) × ((r.tran == t) ≡ false)
speak_one t done r h =
    let e : (speak_of t done || ((r.tran == t) || false)) ≡ false = sym (speak_more t done (r ∷ [])) ∙ h in
    (or_left (speak_of t done) ((r.tran == t) || false) e, or_left (r.tran == t) false (or_right (speak_of t done) ((r.tran == t) || false) e))

drawn_step : (b : Bool) (m : FinMap nat_cmp ℕ) (member k n : ℕ) (ns : List ℕ) → is_some (get m n) ≡ is_among n ns → is_some (get (cond b (insert m k member) m) n) ≡ is_among n (ns ++ cond b (k ∷ []) [])
drawn_step true m member k n ns h =
    ap (λ (o : Option ℕ). is_some o) (put_at m k member n) ∙ some_if (k == n) member (get m n) ∙ ap (λ (b : Bool). (k == n) || b) h
    ∙ or_turn (k == n) (is_among n ns) ∙ ap (λ (b : Bool). is_among n ns || b) (sym (or_none (k == n))) ∙ sym (among_more n ns (k ∷ []))
drawn_step false m member k n ns h = h ∙ ap (λ (l : List ℕ). is_among n l) (sym (append-nil ns))

home_step : (z : Bool) (m : FinMap nat_cmp ℕ) (member k t : ℕ) → (k == t) ≡ false → get m t ≡ None → get (cond z m (insert m k member)) t ≡ None
home_step true m member k t e h = h
home_step false m member k t e h = put_at m k member t ∙ none_if (k == t) member (get m t) e h

course_step : (z : Bool) (m : FinMap nat_cmp Course) (c : Course) (k t : ℕ) → (k == t) ≡ false → get m t ≡ None → get (cond z m (insert m k c)) t ≡ None
course_step true m c k t e h = h
course_step false m c k t e h = put_at m k c t ∙ none_if (k == t) c (get m t) e h

counts_more : (member : ℕ) (done : List LogRecord) (known : Known) (r : LogRecord) → Counts done known → Counts (done ++ r ∷ []) (known_with member known r)
counts_more member done known r h = record {
  drawn = λ n. drawn_step (is_drawn r.body) known.drawn member r.lrsn n (drawn_numbers done) (h.drawn n) ∙ ap (λ (l : List ℕ). is_among n l) (sym (drawn_more done (r ∷ [])));
  no_home = λ t none. let both = speak_one t done r none in home_step (r.tran == 0) known.homes member r.tran t both.1 (h.no_home t both.0);
  no_course = λ t none. let both = speak_one t done r none in course_step (r.tran == 0) known.courses (after_body (course_of (get known.courses r.tran)) r r.body) r.tran t both.1 (h.no_course t both.0);
}

-- ---- the own log

home_if : (b : Bool) (member : ℕ) (o : Option ℕ) → is_home member o ≡ true → is_home member (cond b (Some member) o) ≡ true
home_if true member o h = itself member
home_if false member o h = h

owned_home : (z : Bool) (m : FinMap nat_cmp ℕ) (member k t : ℕ) → is_home member (get m t) ≡ true → is_home member (get (cond z m (insert m k member)) t) ≡ true
owned_home true m member k t h = h
owned_home false m member k t h = ap (λ (o : Option ℕ). is_home member o) (put_at m k member t) ∙ home_if (k == t) member (get m t) h

course_last : (c : Course) (t : ℕ) (earlier : List LogRecord) (r : LogRecord) → course_in c t (earlier ++ r ∷ []) ≡ cond (r.tran == t) (after_body (course_in c t earlier) r r.body) (course_in c t earlier)
course_last c t [] r = refl
course_last c t (x ∷ xs) r = course_last (cond (x.tran == t) (after_body c x x.body) c) t xs r

-- the courses are told before the record; so they are behind it
course_put : (b : Bool) (m : FinMap nat_cmp Course) (r : LogRecord) (t : ℕ) (c : Course) → (r.tran == t) ≡ b → course_of (get m t) ≡ c
    → course_of (cond b (Some (after_body (course_of (get m r.tran)) r r.body)) (get m t)) ≡ cond b (after_body c r r.body) c
course_put true m r t c e h = ap (λ (k : ℕ). after_body (course_of (get m k)) r r.body) (equal r.tran t e) ∙ ap (λ (d : Course). after_body d r r.body) h
course_put false m r t c e h = h

owned_course : (z : Bool) (m : FinMap nat_cmp Course) (r : LogRecord) (t : ℕ) (c : Course) → (r.tran == 0) ≡ z → (t == 0) ≡ false → course_of (get m t) ≡ c
    → course_of (get (cond z m (insert m r.tran (after_body (course_of (get m r.tran)) r r.body))) t) ≡ cond (r.tran == t) (after_body c r r.body) c
owned_course true m r t c e some h =
    let other : (r.tran == t) ≡ false = not_same r.tran t e some in
    h ∙ ap (λ (b : Bool). cond b (after_body c r r.body) c) (sym other)
owned_course false m r t c e some h =
    ap (λ (o : Option Course). course_of o) (put_at m r.tran (after_body (course_of (get m r.tran)) r r.body) t) ∙ course_put (r.tran == t) m r t c refl h

owns_more : (member : ℕ) (others earlier : List LogRecord) (known : Known) (r : LogRecord) → Owns member others earlier known → Owns member others (earlier ++ r ∷ []) (known_with member known r)
owns_more member others earlier known r h = record {
  home = λ t none. owned_home (r.tran == 0) known.homes member r.tran t (h.home t none);
  course = λ t some none. owned_course (r.tran == 0) known.courses r t (course_in new_course t earlier) refl some (h.course t some none) ∙ sym (course_last new_course t earlier r);
}

-- ---- no fault in a record

low_is : (n low : ℕ) → low ≤ n → nat_lt n low ≡ false
low_is n low h = grind (arith, nat_tests)

number_if : (d s : Bool) → (d ≡ true → s ≡ false) → (d && s) ≡ false
number_if true s h = h refl
number_if false s h = refl

home_or : (b : Bool) (at : ℕ) (fault : Option ℕ) → b ≡ true → fault ≡ None → cond b fault (Some at) ≡ None
home_or true at fault e h = h
home_or false at fault e h = absurd cc

tran_or : (z : Bool) (fault : Option ℕ) → (z ≡ false → fault ≡ None) → cond z None fault ≡ None
tran_or true fault h = refl
tran_or false fault h = h refl

no_tran_fault : (member : ℕ) (others earlier : List LogRecord) (known : Known) (r : LogRecord) → Owns member others earlier known → ((r.tran == 0) ≡ false → speak_of r.tran others ≡ false) → MayFollow earlier r → tran_fault member known r ≡ None
no_tran_fault member others earlier known r o apart f =
    tran_or (r.tran == 0) (cond (is_home member (get known.homes r.tran)) (body_fault (course_of (get known.courses r.tran)) r r.body) (Some (tran_at r)))
    (λ some. home_or (is_home member (get known.homes r.tran)) (tran_at r) (body_fault (course_of (get known.courses r.tran)) r r.body) (o.home r.tran (apart some))
    (ap (λ (c : Course). body_fault c r r.body) (o.course r.tran some (apart some)) ∙ f.fits))

fault_if : (a b : Bool) (n : ℕ) (fault : Option ℕ) → a ≡ false → b ≡ false → fault ≡ None → cond (a || b) (Some n) fault ≡ None
fault_if true b n fault h k e = absurd cc
fault_if false true n fault h k e = absurd cc
fault_if false false n fault h k e = e

no_fault : (member low : ℕ) (done others earlier : List LogRecord) (known : Known) (r : LogRecord) → Counts done known → Owns member others earlier known → low ≤ r.lrsn → (is_drawn r.body ≡ true → is_among r.lrsn (drawn_numbers done) ≡ false)
    → ((r.tran == 0) ≡ false → speak_of r.tran others ≡ false) → MayFollow earlier r → record_fault member known low r ≡ None
no_fault member low done others earlier known r k o le new apart f =
    fault_if (nat_lt r.lrsn low) (is_drawn r.body && is_some (get known.drawn r.lrsn)) number_at (tran_fault member known r) (low_is r.lrsn low le)
    (number_if (is_drawn r.body) (is_some (get known.drawn r.lrsn)) (λ d. k.drawn r.lrsn ∙ new d))
    (no_tran_fault member others earlier known r o apart f)

-- ---- numbers that differ

differ_tail : (x : ℕ) (xs : List ℕ) → all_differ (x ∷ xs) ≡ true → all_differ xs ≡ true
differ_tail x xs h = and_right (not (is_among x xs)) (all_differ xs) h

differ_behind : (xs ys : List ℕ) (n : ℕ) → all_differ (xs ++ n ∷ ys) ≡ true → is_among n xs ≡ false
differ_behind [] ys n h = refl
differ_behind (x ∷ xs) ys n h =
    let head : is_among x (xs ++ n ∷ ys) ≡ false = not_true (is_among x (xs ++ n ∷ ys)) (and_left (not (is_among x (xs ++ n ∷ ys))) (all_differ (xs ++ n ∷ ys)) h) in
    let both : (is_among x xs || ((n == x) || is_among x ys)) ≡ false = sym (among_more x xs (n ∷ ys)) ∙ head in
    let other : (n == x) ≡ false = or_left (n == x) (is_among x ys) (or_right (is_among x xs) ((n == x) || is_among x ys) both) in
    let other_way : (x == n) ≡ false = eq_turn x n ∙ other in
    ap (λ (b : Bool). b || is_among n xs) other_way ∙ differ_behind xs ys n (differ_tail x (xs ++ n ∷ ys) h)

new_if : (b : Bool) (xs ys : List ℕ) (n : ℕ) → all_differ (xs ++ cond b (n ∷ ys) ys) ≡ true → b ≡ true → is_among n xs ≡ false
new_if true xs ys n h e = differ_behind xs ys n h
new_if false xs ys n h e = absurd cc

new_number : (done rest : List LogRecord) (r : LogRecord) → all_differ (drawn_numbers (done ++ r ∷ rest)) ≡ true → is_drawn r.body ≡ true → is_among r.lrsn (drawn_numbers done) ≡ false
new_number done rest r h = new_if (is_drawn r.body) (drawn_numbers done) (drawn_numbers rest) r.lrsn (ap (λ (l : List ℕ). all_differ l) (sym (drawn_more done (r ∷ rest))) ∙ h)

-- ---- logs that stand apart

apart_tail_one : (o : LogRecord) (z a b : Bool) → (z || not (a || b)) ≡ true → (z || not b) ≡ true
apart_tail_one o true a b h = refl
apart_tail_one o false true b h = absurd cc
apart_tail_one o false false b h = h

apart_tail : (others : List LogRecord) (r : LogRecord) (xs : List LogRecord) → stands_apart others (r ∷ xs) ≡ true → stands_apart others xs ≡ true
apart_tail [] r xs h = refl
apart_tail (o ∷ os) r xs h =
    and_both ((o.tran == 0) || not (speak_of o.tran xs)) (stands_apart os xs)
    (apart_tail_one o (o.tran == 0) (r.tran == o.tran) (speak_of o.tran xs) (and_left ((o.tran == 0) || not (speak_of o.tran (r ∷ xs))) (stands_apart os (r ∷ xs)) h))
    (apart_tail os r xs (and_right ((o.tran == 0) || not (speak_of o.tran (r ∷ xs))) (stands_apart os (r ∷ xs)) h))

apart_rest : (others xs ys : List LogRecord) → stands_apart others (xs ++ ys) ≡ true → stands_apart others ys ≡ true
apart_rest others [] ys h = h
apart_rest others (x ∷ xs) ys h = apart_rest others xs ys (apart_tail others x (xs ++ ys) h)

other_tran : (z e : Bool) (b : Bool) (o t : ℕ) → (o == 0) ≡ z → (t == 0) ≡ false → (t == o) ≡ e → (z || not (e || b)) ≡ true → (o == t) ≡ false
other_tran true e b o t hz some he h = not_same o t hz some
other_tran false true b o t hz some he h = absurd cc
other_tran false false b o t hz some he h = not_turned o t he

apart_head : (others : List LogRecord) (r : LogRecord) (xs : List LogRecord) → stands_apart others (r ∷ xs) ≡ true → (r.tran == 0) ≡ false → speak_of r.tran others ≡ false
apart_head [] r xs h some = refl
apart_head (o ∷ os) r xs h some =
    let head = and_left ((o.tran == 0) || not (speak_of o.tran (r ∷ xs))) (stands_apart os (r ∷ xs)) h in
    let other : (o.tran == r.tran) ≡ false = other_tran (o.tran == 0) (r.tran == o.tran) (speak_of o.tran xs) o.tran r.tran refl some refl head in
    ap (λ (b : Bool). b || speak_of r.tran os) other ∙ apart_head os r xs (and_right ((o.tran == 0) || not (speak_of o.tran (r ∷ xs))) (stands_apart os (r ∷ xs)) h) some

-- ---- one log

-- the records of a log are passed without damage, and what is known behind them tells of them too
record Passes (member low at : ℕ) (known : Known) (done rs : List LogRecord) : Type 0 where
  behind : Known
  is : damage_from member known low at rs ≡ Ok behind
  counts : Counts (done ++ rs) behind

passes : (member low at : ℕ) (done others earlier rs later : List LogRecord) (known : Known) → Counts done known → Owns member others earlier known → RisesFrom low rs → EachFollows earlier rs
    → all_differ (drawn_numbers (done ++ (rs ++ later))) ≡ true → stands_apart others (rs ++ later) ≡ true → Passes member low at known done rs
passes member low at done others earlier [] later known k o rises follow differ apart =
    record { behind = known; is = refl; counts = subst (λ (l : List LogRecord). Counts l known) (sym (append-nil done)) k }
passes member low at done others earlier (r ∷ rs) later known k o rises follow differ apart =
    let none : record_fault member known low r ≡ None =
    no_fault member low done others earlier known r k o rises.0 (new_number done (rs ++ later) r differ) (apart_head others r (rs ++ later) apart) follow.0 in
    let more : all_differ (drawn_numbers ((done ++ r ∷ []) ++ (rs ++ later))) ≡ true = ap (λ (l : List LogRecord). all_differ (drawn_numbers l)) (append_assoc done (r ∷ []) (rs ++ later)) ∙ differ in
    let p = passes member r.lrsn (at + length (record_bytes r)) (done ++ r ∷ []) others (earlier ++ r ∷ []) rs later (known_with member known r)
    (counts_more member done known r k) (owns_more member others earlier known r o) rises.1 follow.1 more (apart_tail others r (rs ++ later) apart) in
    record {
      behind = p.behind;
      is = ap (λ (f : Option ℕ). judged at f (damage_from member (known_with member known r) r.lrsn (at + length (record_bytes r)) rs)) none ∙ p.is;
      counts = subst (λ (l : List LogRecord). Counts l p.behind) (append_assoc done (r ∷ []) rs) p.counts;
    }

-- ---- all logs

owns_none : (member : ℕ) (done : List LogRecord) (known : Known) → Counts done known → Owns member done [] known
owns_none member done known k = record {
  home = λ t none. ap (λ (o : Option ℕ). is_home member o) (k.no_home t none);
  course = λ t some none. ap (λ (o : Option Course). course_of o) (k.no_course t none);
}

none_damaged : (done : List LogRecord) (known : Known) (logs : List Log) → Counts done known → AllByRecursion (λ (l : Log). RisesFrom 0 l.records) logs → AllByRecursion (λ (l : Log). EachFollows [] l.records) logs
    → all_differ (drawn_numbers (done ++ all_records logs)) ≡ true → stands_apart done (all_records logs) ≡ true → stand_apart logs ≡ true → damage_among known logs ≡ None
none_damaged done known [] k rises follow differ apart stand = refl
none_damaged done known (log ∷ logs) k rises follow differ apart stand =
    let p = passes log.member 0 0 done done [] log.records (all_records logs) known k (owns_none log.member done known k) rises.0 follow.0 differ apart in
    let more : all_differ (drawn_numbers ((done ++ log.records) ++ all_records logs)) ≡ true = ap (λ (l : List LogRecord). all_differ (drawn_numbers l)) (append_assoc done log.records (all_records logs)) ∙ differ in
    let both : stands_apart (done ++ log.records) (all_records logs) ≡ true =
    list_all-append (λ (r : LogRecord). (r.tran == 0) || not (speak_of r.tran (all_records logs))) done log.records
    ∙ and_both (stands_apart done (all_records logs)) (stands_apart log.records (all_records logs)) (apart_rest done log.records (all_records logs) apart)
    (and_left (stands_apart log.records (all_records logs)) (stand_apart logs) stand) in
    ap (λ (f : Result Known ℕ). goes_on (λ (m : Known). damage_among m logs) log.member f) p.is
    ∙ none_damaged (done ++ log.records) p.behind logs p.counts rises.1 follow.1 more both (and_right (stands_apart log.records (all_records logs)) (stand_apart logs) stand)

nothing_counts : Counts [] nothing_known
nothing_counts = record {
  drawn = λ n. ap (λ (o : Option ℕ). is_some o) (get-empty {X = ℕ} nat_cmp n);
  no_home = λ t none. get-empty {X = ℕ} nat_cmp t;
  no_course = λ t none. get-empty {X = Course} nat_cmp t;
}

pub undamaged : (logs : List Log) → AllByRecursion (λ (l : Log). RisesFrom 0 l.records) logs → AreTransactions logs → log_damage logs ≡ None
undamaged logs rises h = none_damaged [] nothing_known logs nothing_counts rises h.follow (differ_tail 0 (drawn_numbers (all_records logs)) h.numbers) refl h.homes
