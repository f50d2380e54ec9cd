-- The open transactions among all courses, and that each has had a row change.
use Rattle.std.proofs.Common.{◌≡◌, ◌≢◌, ℕ, ◌+◌, ◌-◌, ◌<◌, Bool, true, false, cond, List, [], ◌∷◌, ◌++◌, length, drop, map, Option, Some, None, inl, inr, refl, sym, ap, subst, ◌∙◌, arith, append_assoc, length-append, length-drop}
use Rattle.std.specs.Prelude.{◌⊎◌, ◌==◌, not, ◌||◌, ◌&&◌, T, filter, slice_get, is_some}
use Rattle.std.specs.List.{AllByRecursion}
use Rattle.std.specs.Ordering.{nat_cmp, eq_by_cmp, is_lt}
use Rattle.std.specs.Cmp.{nat_cmp_total}
use Rattle.std.specs.FinMap.{FinMap, find, entries, entries_sorted, get, insert, empty, get-entries, get-insert, get-empty}
use Rattle.std.specs.FinMap.Entries.{below_all, is_sorted}
use Rattle.std.proofs.lemmas.Bool.{cond_both, or_cases, or_left, or_right, eqb-true, eq-eqb, ne_eqb, both_ways}
use Rattle.std.proofs.lemmas.Bool.Decides.{nat_tests}
use Rattle.std.proofs.lemmas.List.{append-nil}
use Rattle.std.proofs.lemmas.List.Folds.{list_any-append}
use Rattle.std.proofs.lemmas.Option.{slice_get_within}
use Rattle.ds_model.specs.declared.log.LogRecord.{LogRecord}
use Rattle.ds_model.specs.declared.log.Body.{Body}
use Rattle.ds_model.specs.declared.log.Body.TheVariants as body
use Rattle.ds_model.specs.RecordBytes.{IsAllowed, TranFits, is_of_tran}
use Rattle.log_trans.specs.declared.course.Course.{Course}
use Rattle.log_trans.specs.Courses as courses
use Rattle.log_trans.specs.Courses.{Courses, new_course, has_number, is_next, undone_one, after_body, with_record, courses_from, courses_of, is_open, open_among, open_tran, open_trans}
use Rattle.log_trans.specs.Damage.{body_fault, nothing_undone, unless, tran_at, undone_at}
use Rattle.sound_disk.specs.Transactions.{speak_of, course_in, MayFollow, EachFollows}
use Rattle.sound_plans.specs.Opens.{IsOpenTran, OpensTell, SomeIsUndone}

-- ---- tests

same_key : (q k : ℕ) → eq_by_cmp nat_cmp q k ≡ (k == q)
same_key q k = grind (arith, nat_tests)

or_none : (a : Bool) → (a || false) ≡ a
or_none true = refl
or_none false = refl

or_turn : (a b : Bool) → (a || b) ≡ (b || a)
or_turn true true = refl
or_turn true false = refl
or_turn false true = refl
or_turn false false = refl

-- ---- what the map of courses tells

put_at : {X : Type 0} (m : FinMap nat_cmp X) (k : ℕ) (v : X) (q : ℕ) → get (insert m k v) q ≡ cond (k == q) (Some v) (get m q)
put_at m k v q = get-insert nat_cmp_total m k v q ∙ ap (λ (b : Bool). cond b (Some v) (get m q)) (same_key q k)

some_if : {X : Type 0} (b : Bool) (v : X) (o : Option X) → is_some (cond b (Some v) o) ≡ (b || is_some o)
some_if true v o = refl
some_if false v o = refl

-- of the records so far: the transactions of which they speak, and what these come to; no other has a course
pub record Tells (earlier : List LogRecord) (m : Courses) : Type 0 where
  pub none : get m 0 ≡ None
  pub some : (t : ℕ) → (t == 0) ≡ false → is_some (get m t) ≡ speak_of t earlier
  pub course : (t : ℕ) → (t == 0) ≡ false → courses.course_of (get m t) ≡ course_in new_course t earlier

tells_none : Tells [] empty
tells_none = record {
  none = get-empty {X = Course} nat_cmp 0;
  some = λ t is. ap (λ (o : Option Course). is_some o) (get-empty {X = Course} nat_cmp t);
  course = λ t is. ap (λ (o : Option Course). courses.course_of o) (get-empty {X = Course} nat_cmp t);
}

course_last : (c : Course) (t : ℕ) (earlier : List LogRecord) (r : LogRecord) → course_in c t (earlier ++ r ∷ []) ≡ cond (r.tran == t) (after_body (course_in c t earlier) r r.body) (course_in c t earlier)
course_last c t [] r = refl
course_last c t (x ∷ xs) r = course_last (cond (x.tran == t) (after_body c x x.body) c) t xs r

speak_last : (t : ℕ) (earlier : List LogRecord) (r : LogRecord) → speak_of t (earlier ++ r ∷ []) ≡ (speak_of t earlier || (r.tran == t))
speak_last t earlier r = list_any-append (λ (s : LogRecord). s.tran == t) earlier (r ∷ []) ∙ ap (λ (b : Bool). speak_of t earlier || b) (or_none (r.tran == t))

not_both : (k t : ℕ) → (k == 0) ≡ true → (t == 0) ≡ false → (k == t) ≡ false
not_both k t z some = grind (arith, nat_tests)

course_if : (b : Bool) (m : Courses) (r : LogRecord) (t : ℕ) (c : Course) → (r.tran == t) ≡ b → courses.course_of (get m t) ≡ c
    → courses.course_of (cond b (Some (after_body (courses.course_of (get m r.tran)) r r.body)) (get m t)) ≡ cond b (after_body c r r.body) c
course_if true m r t c e h = ap (λ (k : ℕ). after_body (courses.course_of (get m k)) r r.body) (eqb-true r.tran t e) ∙ ap (λ (d : Course). after_body d r r.body) h
course_if false m r t c e h = h

abbrev own : Courses → LogRecord → Course
own m r = after_body (courses.course_of (get m r.tran)) r r.body

some_put : (z : Bool) (m : Courses) (r : LogRecord) (t : ℕ) (earlier : List LogRecord) → (r.tran == 0) ≡ z → (t == 0) ≡ false → is_some (get m t) ≡ speak_of t earlier
    → is_some (get (cond z m (insert m r.tran (own m r))) t) ≡ speak_of t (earlier ++ r ∷ [])
some_put true m r t earlier z is h =
    h ∙ sym (or_none (speak_of t earlier)) ∙ ap (λ (b : Bool). speak_of t earlier || b) (sym (not_both r.tran t z is)) ∙ sym (speak_last t earlier r)
some_put false m r t earlier z is h =
    ap (λ (o : Option Course). is_some o) (put_at m r.tran (own m r) t) ∙ some_if (r.tran == t) (own m r) (get m t)
    ∙ ap (λ (b : Bool). (r.tran == t) || b) h ∙ or_turn (r.tran == t) (speak_of t earlier) ∙ sym (speak_last t earlier r)

course_put : (z : Bool) (m : Courses) (r : LogRecord) (t : ℕ) (earlier : List LogRecord) → (r.tran == 0) ≡ z → (t == 0) ≡ false → courses.course_of (get m t) ≡ course_in new_course t earlier
    → courses.course_of (get (cond z m (insert m r.tran (own m r))) t) ≡ course_in new_course t (earlier ++ r ∷ [])
course_put true m r t earlier z is h =
    h ∙ ap (λ (b : Bool). cond b (after_body (course_in new_course t earlier) r r.body) (course_in new_course t earlier)) (sym (not_both r.tran t z is)) ∙ sym (course_last new_course t earlier r)
course_put false m r t earlier z is h =
    ap (λ (o : Option Course). courses.course_of o) (put_at m r.tran (own m r) t) ∙ course_if (r.tran == t) m r t (course_in new_course t earlier) refl h ∙ sym (course_last new_course t earlier r)

none_put : (z : Bool) (m : Courses) (r : LogRecord) → (r.tran == 0) ≡ z → get m 0 ≡ None → get (cond z m (insert m r.tran (own m r))) 0 ≡ None
none_put true m r z h = h
none_put false m r z h = put_at m r.tran (own m r) 0 ∙ ap (λ (b : Bool). cond b (Some (own m r)) (get m 0)) z ∙ h

tells_more : (earlier : List LogRecord) (m : Courses) (r : LogRecord) → Tells earlier m → Tells (earlier ++ r ∷ []) (with_record m r)
tells_more earlier m r h = record {
  none = none_put (r.tran == 0) m r refl h.none;
  some = λ t is. some_put (r.tran == 0) m r t earlier refl is (h.some t is);
  course = λ t is. course_put (r.tran == 0) m r t earlier refl is (h.course t is);
}

tells_from : (earlier rs : List LogRecord) (m : Courses) → Tells earlier m → Tells (earlier ++ rs) (courses_from m rs)
tells_from earlier [] m h = subst (λ (l : List LogRecord). Tells l m) (sym (append-nil earlier)) h
tells_from earlier (r ∷ rs) m h =
    subst (λ (l : List LogRecord). Tells l (courses_from (with_record m r) rs)) (append_assoc earlier (r ∷ []) rs) (tells_from (earlier ++ r ∷ []) rs (with_record m r) (tells_more earlier m r h))

pub tells_all : (records : List LogRecord) → Tells records (courses_of records)
tells_all records = tells_from [] records empty tells_none

-- ---- each entry is found by its key

abbrev Entries : Type 0
Entries = List (ℕ × Course)

above : (x k : ℕ) → T (is_lt (nat_cmp x k)) → eq_by_cmp nat_cmp k x ≡ false
above x k h = grind (arith, nat_tests)

itself : (k : ℕ) → eq_by_cmp nat_cmp k k ≡ true
itself k = grind (arith, nat_tests)

and_first : (a b : Bool) → T (a && b) → T a
and_first true b h = tt
and_first false b h = h

and_second : (a b : Bool) → T (a && b) → T b
and_second true b h = h
and_second false b h = absurd h

abbrev IsFound : Entries → ℕ × Course → Type 0
IsFound es e = find nat_cmp e.0 es ≡ Some e.1

behind : (x : ℕ) (c : Course) (all es : Entries) → T (below_all nat_cmp x es) → AllByRecursion (IsFound all) es → AllByRecursion (IsFound ((x, c) ∷ all)) es
behind x c all [] h f = tt
behind x c all (e ∷ es) h f =
    (ap (λ (b : Bool). cond b (Some c) (find nat_cmp e.0 all)) (above x e.0 (and_first (is_lt (nat_cmp x e.0)) (below_all nat_cmp x es) h)) ∙ f.0, behind x c all es (and_second (is_lt (nat_cmp x e.0)) (below_all nat_cmp x es) h) f.1)

found : (es : Entries) → T (is_sorted nat_cmp es) → AllByRecursion (IsFound es) es
found [] h = tt
found (e ∷ es) h =
    (ap (λ (b : Bool). cond b (Some e.1) (find nat_cmp e.0 es)) (itself e.0), behind e.0 e.1 es es (and_first (below_all nat_cmp e.0 es) (is_sorted nat_cmp es) h) (found es (and_second (below_all nat_cmp e.0 es) (is_sorted nat_cmp es) h)))

-- ---- the open ones

some_none : {A : Type 0} → (a : A) → Some a ≡ None → ⊥
some_none a e = cc

open_parts : (c e : Bool) → (not c && not e) ≡ true → c ≡ false
open_parts true e h = absurd cc
open_parts false e h = refl

tran_tells : (records : List LogRecord) (m : Courses) → Tells records m → (id : ℕ) (c : Course) → get m id ≡ Some c → is_open c ≡ true → IsOpenTran records (open_tran (id, c))
tran_tells records m h id c there opened =
    let numbered : id ≢ 0 = λ e. some_none c (sym there ∙ ap (get m) e ∙ h.none) in
    let some : (id == 0) ≡ false = ne_eqb id 0 numbered in
    let is : c ≡ course_in new_course id records = sym (ap (λ (o : Option Course). courses.course_of o) there) ∙ h.course id some in
    record {
      numbered = numbered;
      spoken = sym (h.some id some) ∙ ap (λ (o : Option Course). is_some o) there;
      uncommitted = ap (λ (d : Course). d.is_committed) (sym is) ∙ open_parts c.is_committed c.is_ended opened;
      undo_is = ap (λ (d : Course). d.undo) is;
      undone_is = ap (λ (d : Course). d.undone) is;
    }

among_if : (records : List LogRecord) (m : Courses) (e : ℕ × Course) (es : Entries) (b : Bool) → Tells records m → get m e.0 ≡ Some e.1 → is_open e.1 ≡ b → AllByRecursion (IsOpenTran records) (map open_tran es)
    → AllByRecursion (IsOpenTran records) (map open_tran (cond b (e ∷ es) es))
among_if records m e es true h there opened rest = (tran_tells records m h e.0 e.1 there opened, rest)
among_if records m e es false h there opened rest = rest

among : (records : List LogRecord) (m : Courses) (es : Entries) → Tells records m → AllByRecursion (IsFound (entries m)) es → AllByRecursion (IsOpenTran records) (open_among es)
among records m [] h f = tt
among records m (e ∷ es) h f =
    among_if records m e (filter (λ (x : ℕ × Course). is_open x.1) es) (is_open e.1) h (get-entries m e.0 ∙ f.0) refl (among records m es h f.1)

pub opens_tell : OpensTell
opens_tell records = among records (courses_of records) (entries (courses_of records)) (tells_all records) (found (entries (courses_of records)) (entries_sorted (courses_of records)))

-- ---- something was done

-- it has a Commit, or a row change
abbrev has_some : Course → Bool
has_some c = c.is_committed || (not (length c.undo == 0) || not (length c.undone == 0))

some_undo : (c : Course) → (length c.undo == 0) ≡ false → has_some c ≡ true
some_undo c h = or_right c.is_committed (not (length c.undo == 0) || not (length c.undone == 0)) (or_left (not (length c.undo == 0)) (not (length c.undone == 0)) (ap not h))

some_undone : (c : Course) → (length c.undone == 0) ≡ false → has_some c ≡ true
some_undone c h = or_right c.is_committed (not (length c.undo == 0) || not (length c.undone == 0)) (or_right (not (length c.undo == 0)) (not (length c.undone == 0)) (ap not h))

next_if : (c n : Bool) (a b : ℕ) → cond c (Some a) (unless n b) ≡ None → n ≡ true
next_if true n a b h = absurd cc
next_if false true a b h = refl
next_if false false a b h = absurd cc

within : (us : List LogRecord) (n : ℕ) (o : Option LogRecord) → slice_get us (length us - 1) ≡ o → has_number n o ≡ true → length us - 1 < length us
within us n None e h = absurd cc
within us n (Some x) e h = slice_get_within us (length us - 1) x e

popped : (c : Course) (n : ℕ) → is_next n c.undo ≡ true → (length (undone_one c).undone == 0) ≡ false
popped c n h =
    let some : length c.undo - 1 < length c.undo = within c.undo n (slice_get c.undo (length c.undo - 1)) refl h in
    let size : length (c.undone ++ drop (length c.undo - 1) c.undo) ≡ length c.undone + length (drop (length c.undo - 1) c.undo) = length-append c.undone (drop (length c.undo - 1) c.undo) in
    let last : length (drop (length c.undo - 1) c.undo) ≡ length c.undo - (length c.undo - 1) = length-drop (length c.undo - 1) c.undo in
    ne_eqb (length (undone_one c).undone) 0 (λ e. omega (arith, some, size, last, e))

ended_if : (c u n : Bool) (at : ℕ) → unless (c || (u && not n)) at ≡ None → (c ≡ true) ⊎ (n ≡ false)
ended_if true u n at h = inl refl
ended_if false true false at h = inr refl
ended_if false true true at h = absurd cc
ended_if false false n at h = absurd cc

pushed : (us : List LogRecord) (x : LogRecord) → (length (us ++ x ∷ []) == 0) ≡ false
pushed us x = let size : length (us ++ x ∷ []) ≡ length us + length (x ∷ []) = length-append us (x ∷ []) in ne_eqb (length (us ++ x ∷ [])) 0 (λ e. omega (arith, size, e))

own_some : (c : Course) (r : LogRecord) (b : Body) → TranFits (is_of_tran b) r.tran → (r.tran == 0) ≡ false → body_fault c r b ≡ None → has_some (after_body c r b) ≡ true
own_some c r (body.RowChange change) t some h = some_undo (after_body c r (body.RowChange change)) (pushed c.undo (courses.row_record r change))
own_some c r (body.Compensation change n) t some h =
    let next : is_next n c.undo ≡ true = next_if c.is_committed (is_next n c.undo) (tran_at r) (undone_at r) h in
    cond_both (is_next n c.undo) (undone_one c) c (λ (d : Course). has_some d ≡ true) (λ is. some_undone (undone_one c) (popped c n is)) (λ is. absurd (both_ways (is_next n c.undo) is next))
own_some c r (body.System patches) t some h = absurd (both_ways (r.tran == 0) some (eq-eqb r.tran 0 t))
own_some c r body.Commit t some h = refl
own_some c r body.Ended t some h = elim (ended_if c.is_committed (length c.undo == 0) (nothing_undone c) (tran_at r) h) [
  | inl e ↦ or_left c.is_committed (not (length c.undo == 0) || not (length c.undone == 0)) e
  | inr e ↦ some_undone c e
]
own_some c r (body.Checkpoint offset) t some h = absurd (both_ways (r.tran == 0) some (eq-eqb r.tran 0 t))
own_some c r body.RestartEnd t some h = absurd (both_ways (r.tran == 0) some (eq-eqb r.tran 0 t))

-- of each transaction of which the records speak
abbrev HaveSome : List LogRecord → Type 0
HaveSome rs = (t : ℕ) → (t == 0) ≡ false → speak_of t rs ≡ true → has_some (course_in new_course t rs) ≡ true

have_more : (rs : List LogRecord) (r : LogRecord) → IsAllowed r → MayFollow rs r → HaveSome rs → HaveSome (rs ++ r ∷ [])
have_more rs r a f h = λ t some is.
    subst (λ (c : Course). has_some c ≡ true) (sym (course_last new_course t rs r))
    (cond_both (r.tran == t) (after_body (course_in new_course t rs) r r.body) (course_in new_course t rs) (λ (c : Course). has_some c ≡ true)
    (λ own. let same : r.tran ≡ t = eqb-true r.tran t own in
    subst (λ (u : ℕ). has_some (after_body (course_in new_course u rs) r r.body) ≡ true) same
    (own_some (course_in new_course r.tran rs) r r.body a.tran_fits (ap (λ (u : ℕ). u == 0) same ∙ some) f.fits))
    (λ other. h t some (elim (or_cases (speak_of t rs) (r.tran == t) (sym (speak_last t rs r) ∙ is)) [
      | inl e ↦ e
      | inr e ↦ absurd (both_ways (r.tran == t) other e)
    ])))

have_from : (earlier rs : List LogRecord) → AllByRecursion IsAllowed rs → EachFollows earlier rs → HaveSome earlier → HaveSome (earlier ++ rs)
have_from earlier [] a f h = subst HaveSome (sym (append-nil earlier)) h
have_from earlier (r ∷ rs) a f h = subst HaveSome (append_assoc earlier (r ∷ []) rs) (have_from (earlier ++ r ∷ []) rs a.1 f.1 (have_more earlier r a.0 f.0 h))

have_none : HaveSome []
have_none = λ t some is. absurd cc

some_left : (c : Bool) (u n : Bool) → c ≡ false → u ≡ true → (c || (not u || not n)) ≡ true → n ≡ false
some_left true u n h k l = absurd cc
some_left false false n h k l = absurd cc
some_left false true true h k l = absurd cc
some_left false true false h k l = refl

pub some_is_undone : SomeIsUndone
some_is_undone records t a f o none =
    let c = course_in new_course t.id records in
    let some : has_some c ≡ true = have_from [] records a f have_none t.id (ne_eqb t.id 0 o.numbered) o.spoken in
    let empty : (length c.undo == 0) ≡ true = eq-eqb (length c.undo) 0 (ap (λ (us : List LogRecord). length us) (sym o.undo_is) ∙ none) in
    let e : (length t.undone == 0) ≡ (length c.undone == 0) = ap (λ (us : List LogRecord). length us == 0) o.undone_is in
    e ∙ some_left c.is_committed (length c.undo == 0) (length c.undone == 0) o.uncommitted empty some
