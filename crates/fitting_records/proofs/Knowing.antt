-- What is seen of the records so far, and that it tells exactly whether the next one fits them.
use Rattle.std.proofs.Common.{◌≡◌, ℕ, Bool, true, false, cond, List, [], ◌∷◌, ◌++◌, Option, Some, None, refl, sym, ap, ◌∙◌, arith, append_assoc}
use Rattle.std.specs.Prelude.{◌==◌, not, ◌||◌, ◌&&◌, is_some}
use Rattle.std.specs.Ordering.{nat_cmp, eq_by_cmp}
use Rattle.std.specs.Cmp.{nat_cmp_total}
use Rattle.std.specs.FinMap.{FinMap, get, insert, get-insert, get-empty}
use Rattle.std.proofs.lemmas.Bool.Decides.{nat_tests}
use Rattle.std.proofs.lemmas.List.{append-nil}
use Rattle.std.proofs.lemmas.List.Folds.{list_any-append}
use Rattle.ds_model.specs.declared.log.LogRecord.{LogRecord}
use Rattle.log_record.specs.Changes.{is_drawn}
use Rattle.log_trans.specs.declared.course.Course.{Course}
use Rattle.log_trans.specs.Courses as courses
use Rattle.log_trans.specs.Courses.{new_course}
use Rattle.sound_disk.specs.Transactions.{drawn_numbers, is_among, speak_of, course_in, MayFollow}
use Rattle.fitting_records.specs.declared.standing.Standing.{Standing}
use Rattle.fitting_records.specs.Standings.{new_standing, may_take, after_body, standing}
use Rattle.fitting_records.specs.Fitting.{Seen, Numbers, nothing_seen, is_new, is_home, is_first, follows_on, follows, fits, standing_of, seen_with, trans_of, behind_log}
use Rattle.fitting_records.proofs.Taking.{and_left, and_right, and_both, MayTake, may_take_is, is_taken, stands_after}

-- ---- tests

pub same_key : (q k : ℕ) → eq_by_cmp nat_cmp q k ≡ (k == q)
same_key q k = grind (arith, nat_tests)

eq_turn : (m n : ℕ) → (m == n) ≡ (n == m)
eq_turn m n = grind (arith, nat_tests)

equal : (m n : ℕ) → (m == n) ≡ true → m ≡ n
equal m n e = grind (arith, nat_tests)

or_none : (a : Bool) → (a || false) ≡ a
or_none true = refl
or_none false = refl

or_turn : (a b : Bool) → (a || b) ≡ (b || a)
or_turn true true = refl
or_turn true false = refl
or_turn false true = refl
or_turn false false = refl

or_moved : (a b c : Bool) → ((a || b) || c) ≡ (b || (a || c))
or_moved true true c = refl
or_moved true false c = refl
or_moved false true c = refl
or_moved false false c = refl

-- ---- maps

pub put_at : {X : Type 0} (m : FinMap nat_cmp X) (k : ℕ) (v : X) (q : ℕ) → get (insert m k v) q ≡ cond (k == q) (Some v) (get m q)
put_at m k v q = get-insert nat_cmp_total m k v q ∙ ap (λ (b : Bool). cond b (Some v) (get m q)) (same_key q k)

some_if : {X : Type 0} (b : Bool) (v : X) (o : Option X) → is_some (cond b (Some v) o) ≡ (b || is_some o)
some_if true v o = refl
some_if false v o = refl

pub has_put : {X : Type 0} (m : FinMap nat_cmp X) (k : ℕ) (v : X) (q : ℕ) → is_some (get (insert m k v) q) ≡ ((k == q) || is_some (get m q))
has_put m k v q = ap (λ (o : Option _). is_some o) (put_at m k v q) ∙ some_if (k == q) v (get m q)

-- ---- lists with one record more

drawn_when : (b : Bool) (n : ℕ) (xs ys zs : List ℕ) → xs ≡ ys ++ zs → cond b (n ∷ xs) xs ≡ cond b (n ∷ ys) ys ++ zs
drawn_when true n xs ys zs e = ap (λ (l : List ℕ). n ∷ l) e
drawn_when false n xs ys zs e = e

pub drawn_more : (xs ys : List LogRecord) → drawn_numbers (xs ++ ys) ≡ drawn_numbers xs ++ drawn_numbers ys
drawn_more [] ys = refl
drawn_more (x ∷ xs) ys = drawn_when (is_drawn x.body) x.lrsn (drawn_numbers (xs ++ ys)) (drawn_numbers xs) (drawn_numbers ys) (drawn_more xs ys)

pub speak_more : (t : ℕ) (xs ys : List LogRecord) → speak_of t (xs ++ ys) ≡ (speak_of t xs || speak_of t ys)
speak_more t xs ys = list_any-append (λ (r : LogRecord). r.tran == t) xs ys

pub course_last : (c : Course) (t : ℕ) (earlier : List LogRecord) (r : LogRecord) → course_in c t (earlier ++ r ∷ []) ≡ cond (r.tran == t) (courses.after_body (course_in c t earlier) r r.body) (course_in c t earlier)
course_last c t [] r = refl
course_last c t (x ∷ xs) r = course_last (cond (x.tran == t) (courses.after_body c x x.body) c) t xs r

-- ---- what is seen

-- of the records of the logs before, and of those of this log
pub record Knows (others before : List LogRecord) (seen : Seen) : Type 0 where
  pub drawn : (n : ℕ) → is_some (get seen.drawn n) ≡ is_among n (drawn_numbers (others ++ before))
  pub elsewhere : (t : ℕ) → is_some (get seen.elsewhere t) ≡ speak_of t others
  pub spoken : (t : ℕ) → is_some (get seen.trans t) ≡ speak_of t before
  pub stands : (t : ℕ) → standing_of (get seen.trans t) ≡ standing (course_in new_course t before)

pub knows_none : Knows [] [] nothing_seen
knows_none = record {
  drawn = λ n. ap (λ (o : Option Bool). is_some o) (get-empty {X = Bool} nat_cmp n);
  elsewhere = λ t. ap (λ (o : Option Bool). is_some o) (get-empty {X = Bool} nat_cmp t);
  spoken = λ t. ap (λ (o : Option Standing). is_some o) (get-empty {X = Standing} nat_cmp t);
  stands = λ t. ap (λ (o : Option Standing). standing_of o) (get-empty {X = Standing} nat_cmp t);
}

drawn_step : (b : Bool) (m : Numbers) (k n : ℕ) (ns : List ℕ) → is_some (get m n) ≡ is_among n ns → is_some (get (cond b (insert m k true) m) n) ≡ is_among n (ns ++ cond b (k ∷ []) [])
drawn_step true m k n ns h =
    has_put m k true n ∙ ap (λ (b : Bool). (k == n) || b) h
    ∙ or_turn (k == n) (is_among n ns) ∙ ap (λ (b : Bool). is_among n ns || b) (sym (or_none (k == n))) ∙ sym (list_any-append (λ (m : ℕ). m == n) ns (k ∷ []))
drawn_step false m k n ns h = h ∙ ap (λ (l : List ℕ). is_among n l) (sym (append-nil ns))

drawn_last : (others before : List LogRecord) (r : LogRecord) → drawn_numbers (others ++ before) ++ drawn_numbers (r ∷ []) ≡ drawn_numbers (others ++ (before ++ r ∷ []))
drawn_last others before r = sym (drawn_more (others ++ before) (r ∷ [])) ∙ ap (λ (l : List LogRecord). drawn_numbers l) (append_assoc others before (r ∷ []))

may_follow : (o : Option Standing) (r : LogRecord) → follows_on o r ≡ true → may_take (standing_of o) r.body ≡ true
may_follow None r h = and_right (is_first r) (may_take new_standing r.body) h
may_follow (Some s) r h = h

stands_if : (b : Bool) (o p : Option Standing) (c d : Course) (r : LogRecord) → may_take (standing_of o) r.body ≡ true → (b ≡ true → standing_of o ≡ standing c) → standing_of p ≡ standing c
    → standing_of (cond b (Some (after_body (standing_of o) r r.body)) p) ≡ standing (cond b (courses.after_body c r r.body) c)
stands_if true o p c d r may h k = ap (λ (s : Standing). after_body s r r.body) (h refl) ∙ stands_after c r r.body (ap (λ (s : Standing). may_take s r.body) (sym (h refl)) ∙ may)
stands_if false o p c d r may h k = k

pub knows_more : (others before : List LogRecord) (seen : Seen) (r : LogRecord) → fits seen r ≡ true → Knows others before seen → Knows others (before ++ r ∷ []) (seen_with seen r)
knows_more others before seen r fit h = record {
  drawn = λ n. drawn_step (is_drawn r.body) seen.drawn r.lrsn n (drawn_numbers (others ++ before)) (h.drawn n) ∙ ap (λ (l : List ℕ). is_among n l) (drawn_last others before r);
  elsewhere = h.elsewhere;
  spoken = λ t.
      has_put seen.trans r.tran (after_body (standing_of (get seen.trans r.tran)) r r.body) t ∙ ap (λ (b : Bool). (r.tran == t) || b) (h.spoken t)
      ∙ or_turn (r.tran == t) (speak_of t before) ∙ ap (λ (b : Bool). speak_of t before || b) (sym (or_none (r.tran == t))) ∙ sym (speak_more t before (r ∷ []));
  stands = λ t.
      ap (λ (o : Option Standing). standing_of o) (put_at seen.trans r.tran (after_body (standing_of (get seen.trans r.tran)) r r.body) t)
      ∙ stands_if (r.tran == t) (get seen.trans r.tran) (get seen.trans t) (course_in new_course t before) new_course r
      (may_follow (get seen.trans r.tran) r (and_right (is_new seen r && is_home seen r) (follows seen r) fit))
      (λ e. ap (λ (k : ℕ). standing_of (get seen.trans k)) (equal r.tran t e) ∙ h.stands t) (h.stands t)
      ∙ ap (λ (c : Course). standing c) (sym (course_last new_course t before r));
}

pub trans_has : (m : Numbers) (rs : List LogRecord) (t : ℕ) → is_some (get (trans_of m rs) t) ≡ (is_some (get m t) || speak_of t rs)
trans_has m [] t = sym (or_none (is_some (get m t)))
trans_has m (r ∷ rs) t =
    trans_has (insert m r.tran true) rs t ∙ ap (λ (b : Bool). b || speak_of t rs) (has_put m r.tran true t) ∙ or_moved (r.tran == t) (is_some (get m t)) (speak_of t rs)

pub knows_behind : (others before : List LogRecord) (seen : Seen) → Knows others before seen → Knows (others ++ before) [] (behind_log seen before)
knows_behind others before seen h = record {
  drawn = λ n. h.drawn n ∙ ap (λ (l : List LogRecord). is_among n (drawn_numbers l)) (sym (append-nil (others ++ before)));
  elsewhere = λ t. trans_has seen.elsewhere before t ∙ ap (λ (b : Bool). b || speak_of t before) (h.elsewhere t) ∙ sym (speak_more t others before);
  spoken = λ t. ap (λ (o : Option Standing). is_some o) (get-empty {X = Standing} nat_cmp t);
  stands = λ t. ap (λ (o : Option Standing). standing_of o) (get-empty {X = Standing} nat_cmp t);
}

-- ---- the next record

abbrev pub has_new_number : List LogRecord → LogRecord → Bool
has_new_number earlier r = not (is_drawn r.body && is_among r.lrsn (0 ∷ drawn_numbers earlier))

abbrev pub has_home : List LogRecord → LogRecord → Bool
has_home others r = (r.tran == 0) || not (speak_of r.tran others)

-- what it must be behind those of the logs before and those of its own
pub record MayStand (others before : List LogRecord) (r : LogRecord) : Type 0 where
  pub number : has_new_number (others ++ before) r ≡ true
  pub home : has_home others r ≡ true
  pub follow : MayFollow before r

new_if : (d z s : Bool) → (not d || (not z && not s)) ≡ not (d && (z || s))
new_if true true s = refl
new_if true false s = refl
new_if false z s = refl

new_is : (others before : List LogRecord) (seen : Seen) (r : LogRecord) → Knows others before seen → is_new seen r ≡ has_new_number (others ++ before) r
new_is others before seen r h =
    new_if (is_drawn r.body) (r.lrsn == 0) (is_some (get seen.drawn r.lrsn))
    ∙ ap (λ (b : Bool). not (is_drawn r.body && (b || is_some (get seen.drawn r.lrsn)))) (eq_turn r.lrsn 0)
    ∙ ap (λ (b : Bool). not (is_drawn r.body && ((0 == r.lrsn) || b))) (h.drawn r.lrsn)

home_is : (others before : List LogRecord) (seen : Seen) (r : LogRecord) → Knows others before seen → is_home seen r ≡ has_home others r
home_is others before seen r h = ap (λ (b : Bool). (r.tran == 0) || not b) (h.elsewhere r.tran)

named_first : (z s f : Bool) → (z || f) ≡ true → (z || s || f) ≡ true
named_first true s f h = refl
named_first false true f h = refl
named_first false false f h = h

named_later : (z s f : Bool) → s ≡ true → (z || s || f) ≡ true
named_later true s f h = refl
named_later false true f h = refl
named_later false false f h = absurd cc

first_named : (z s f : Bool) → s ≡ false → (z || s || f) ≡ true → (z || f) ≡ true
first_named true s f h k = refl
first_named false true f h k = absurd cc
first_named false false f h k = k

taken_by : (s : Standing) (c : Course) (r : LogRecord) → s ≡ standing c → may_take s r.body ≡ true → MayTake c r r.body
taken_by s c r e h = may_take_is c r r.body (ap (λ (x : Standing). may_take x r.body) (sym e) ∙ h)

takes_by : (s : Standing) (c : Course) (r : LogRecord) → s ≡ standing c → MayTake c r r.body → may_take s r.body ≡ true
takes_by s c r e h = ap (λ (x : Standing). may_take x r.body) e ∙ is_taken c r r.body h

follows_is : (o : Option Standing) (before : List LogRecord) (r : LogRecord) → is_some o ≡ speak_of r.tran before → standing_of o ≡ standing (course_in new_course r.tran before)
    → follows_on o r ≡ true → MayFollow before r
follows_is None before r h e f =
    let m = taken_by new_standing (course_in new_course r.tran before) r e (and_right (is_first r) (may_take new_standing r.body) f) in
    record {
      named = named_first (r.tran == 0) (speak_of r.tran before) (r.lrsn == r.tran) (and_left (is_first r) (may_take new_standing r.body) f);
      fits = m.fits;
      takes_back = m.takes_back;
    }
follows_is (Some s) before r h e f =
    let m = taken_by s (course_in new_course r.tran before) r e f in
    record { named = named_later (r.tran == 0) (speak_of r.tran before) (r.lrsn == r.tran) (sym h); fits = m.fits; takes_back = m.takes_back }

is_followed : (o : Option Standing) (before : List LogRecord) (r : LogRecord) → is_some o ≡ speak_of r.tran before → standing_of o ≡ standing (course_in new_course r.tran before)
    → MayFollow before r → follows_on o r ≡ true
is_followed None before r h e f =
    and_both (is_first r) (may_take new_standing r.body) (first_named (r.tran == 0) (speak_of r.tran before) (r.lrsn == r.tran) (sym h) f.named)
    (takes_by new_standing (course_in new_course r.tran before) r e (record { fits = f.fits; takes_back = f.takes_back }))
is_followed (Some s) before r h e f = takes_by s (course_in new_course r.tran before) r e (record { fits = f.fits; takes_back = f.takes_back })

pub stands_where_it_fits : (others before : List LogRecord) (seen : Seen) (r : LogRecord) → Knows others before seen → fits seen r ≡ true → MayStand others before r
stands_where_it_fits others before seen r k h =
    let both = and_left (is_new seen r && is_home seen r) (follows seen r) h in
    record {
      number = sym (new_is others before seen r k) ∙ and_left (is_new seen r) (is_home seen r) both;
      home = sym (home_is others before seen r k) ∙ and_right (is_new seen r) (is_home seen r) both;
      follow = follows_is (get seen.trans r.tran) before r (k.spoken r.tran) (k.stands r.tran) (and_right (is_new seen r && is_home seen r) (follows seen r) h);
    }

pub fits_where_it_stands : (others before : List LogRecord) (seen : Seen) (r : LogRecord) → Knows others before seen → MayStand others before r → fits seen r ≡ true
fits_where_it_stands others before seen r k h =
    and_both (is_new seen r && is_home seen r) (follows seen r)
    (and_both (is_new seen r) (is_home seen r) (new_is others before seen r k ∙ h.number) (home_is others before seen r k ∙ h.home))
    (is_followed (get seen.trans r.tran) before r (k.spoken r.tran) (k.stands r.tran) h.follow)
