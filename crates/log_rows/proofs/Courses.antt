-- What the courses of transactions are to the records so far.
use Rattle.std.proofs.Common.{◌≡◌, ℕ, refl, sym, ◌∙◌, ap, subst, arith, Bool, true, false, cond, List, [], ◌∷◌, ◌++◌, Option, Some, None, take, drop, length, inl, inr, ⊎_elim}
use Rattle.std.specs.Prelude.{◌≢◌, ◌⊎◌, ◌-◌, ◌==◌, ◌&&◌, ◌||◌, not, if◌then◌else◌}
use Rattle.std.specs.Ordering.{nat_cmp, eq_by_cmp}
use Rattle.std.specs.Cmp.{nat_cmp_total}
use Rattle.std.specs.FinMap as finite
use Rattle.std.specs.FinMap.{FinMap, get, insert, get-insert, get-empty}
use Rattle.std.proofs.lemmas.Bool.{cases_eq, or_cases, or_left, or_right, eq-eqb, ne_eqb}
use Rattle.std.proofs.lemmas.Bool.Decides.{nat_tests}
use Rattle.std.proofs.lemmas.List.{take-append-drop}
use Rattle.ds_model.specs.Rows.{Spot}
use Rattle.ds_model.specs.declared.log.RowChange.{RowChange}
use Rattle.ds_model.specs.declared.log.Body.{Body}
use Rattle.ds_model.specs.declared.log.Body.TheVariants as body
use Rattle.ds_model.specs.declared.log.LogRecord.{LogRecord}
use Rattle.log_trans.specs.declared.course.Course.{Course}
use Rattle.log_trans.specs.Courses.{Courses, after_body, changed, course_of, courses_from, courses_of, is_next, is_open, new_course, row_record, undone_one, with_record}
use Rattle.log_rows.specs.Rows.{has_changed, has_row, is_change_of, is_closed, is_end}
use Rattle.log_rows.proofs.Both.{both_changed, both_closed, both_rows}

-- ---- tests
same_number : (q k : ℕ) → eq_by_cmp nat_cmp q k ≡ (k == q)
same_number q k = grind (arith, nat_tests)

or_false : (a : Bool) → (a || false) ≡ a
or_false true = refl
or_false false = refl

put_at : (m : Courses) (k : ℕ) (v : Course) (q : ℕ) → get (insert m k v) q ≡ cond (k == q) (Some v) (get m q)
put_at m k v q = get-insert nat_cmp_total m k v q ∙ ap (λ (b : Bool). cond b (Some v) (get m q)) (same_number q k)

-- ---- one course, of the transaction of this number
pub record Tells (seen : List LogRecord) (id : ℕ) (c : Course) : Type 0 where
  pub opened : is_open c ≡ not (is_closed seen id)
  pub rows : (s : Spot) → (has_row c.undo s || has_row c.undone s) ≡ true → has_changed seen id s ≡ true

-- with one record more of the transaction
closed_more : (seen : List LogRecord) (r : LogRecord) (id : ℕ) → is_closed (seen ++ r ∷ []) id ≡ (is_closed seen id || ((r.tran == id) && is_end r.body))
closed_more seen r id = both_closed seen (r ∷ []) id ∙ ap (λ (z : Bool). is_closed seen id || z) (or_false ((r.tran == id) && is_end r.body))

changed_more : (seen : List LogRecord) (r : LogRecord) (id : ℕ) (s : Spot) → has_changed (seen ++ r ∷ []) id s ≡ (has_changed seen id s || ((r.tran == id) && is_change_of s r.body))
changed_more seen r id s = both_changed seen (r ∷ []) id s ∙ ap (λ (z : Bool). has_changed seen id s || z) (or_false ((r.tran == id) && is_change_of s r.body))

still_changed : (seen : List LogRecord) (r : LogRecord) (id : ℕ) (s : Spot) → has_changed seen id s ≡ true → has_changed (seen ++ r ∷ []) id s ≡ true
still_changed seen r id s h = changed_more seen r id s ∙ or_left (has_changed seen id s) ((r.tran == id) && is_change_of s r.body) h

own_closed : (seen : List LogRecord) (r : LogRecord) (b : Body) → r.body ≡ b → is_closed (seen ++ r ∷ []) r.tran ≡ (is_closed seen r.tran || is_end b)
own_closed seen r b is = closed_more seen r r.tran ∙ ap (λ (z : Bool). is_closed seen r.tran || (z && is_end r.body)) (eq-eqb r.tran r.tran refl) ∙ ap (λ (z : Body). is_closed seen r.tran || is_end z) is

own_changed : (seen : List LogRecord) (r : LogRecord) (s : Spot) → is_change_of s r.body ≡ true → has_changed (seen ++ r ∷ []) r.tran s ≡ true
own_changed seen r s h = changed_more seen r r.tran s ∙ ap (λ (z : Bool). has_changed seen r.tran s || (z && is_change_of s r.body)) (eq-eqb r.tran r.tran refl) ∙ or_right (has_changed seen r.tran s) (is_change_of s r.body) h

not_or : (a b : Bool) → not (a || b) ≡ (not a && not b)
not_or true b = refl
not_or false b = refl

-- the rows of a course whose last change is taken back
or_swap : (a b c : Bool) → (a || (b || c)) ≡ true → ((a || c) || b) ≡ true
or_swap true b c h = refl
or_swap false true true h = refl
or_swap false true false h = refl
or_swap false false c h = grind (arith)

parts_rows : (c : Course) (s : Spot) → (has_row (undone_one c).undo s || has_row (undone_one c).undone s) ≡ true → (has_row c.undo s || has_row c.undone s) ≡ true
parts_rows c s h =
    let n : ℕ = length c.undo - 1 in
    let split : (has_row c.undone s || has_row (drop n c.undo) s) ≡ has_row (c.undone ++ drop n c.undo) s = sym (both_rows c.undone (drop n c.undo) s) in
    let whole : has_row c.undo s ≡ (has_row (take n c.undo) s || has_row (drop n c.undo) s) = ap (λ (z : List LogRecord). has_row z s) (sym (take-append-drop n c.undo)) ∙ both_rows (take n c.undo) (drop n c.undo) s in
    ap (λ (z : Bool). z || has_row c.undone s) whole
    ∙ or_swap (has_row (take n c.undo) s) (has_row c.undone s) (has_row (drop n c.undo) s) (ap (λ (z : Bool). has_row (take n c.undo) s || z) split ∙ h)

quiet : (seen : List LogRecord) (r : LogRecord) (c d : Course) → Tells seen r.tran c → is_end r.body ≡ false → is_open d ≡ is_open c
    → ((s : Spot) → (has_row d.undo s || has_row d.undone s) ≡ true → (has_row c.undo s || has_row c.undone s) ≡ true) → Tells (seen ++ r ∷ []) r.tran d
quiet seen r c d t none same rows = record {
  opened = same ∙ (t.opened ∙ ap not (sym (own_closed seen r r.body refl ∙ (ap (λ (z : Bool). is_closed seen r.tran || z) none ∙ or_false (is_closed seen r.tran)))));
  rows = λ s h. still_changed seen r r.tran s (t.rows s (rows s h));
}

pushed_rows : (c : Course) (r q : LogRecord) (s : Spot) → (has_row (c.undo ++ q ∷ []) s || has_row c.undone s) ≡ true → ((has_row c.undo s || has_row c.undone s) ≡ true) ⊎ (is_change_of s q.body ≡ true)
pushed_rows c r q s h = by (has_row c.undo s) (is_change_of s q.body) (has_row c.undone s) (ap (λ (z : Bool). z || has_row c.undone s) (sym (both_rows c.undo (q ∷ []) s ∙ ap (λ (z : Bool). has_row c.undo s || z) (or_false (is_change_of s q.body)))) ∙ h)
  where
    by : (a b d : Bool) → ((a || b) || d) ≡ true → ((a || d) ≡ true) ⊎ (b ≡ true)
    by true b d h = inl refl
    by false true d h = inr refl
    by false false d h = inl h

course_more : (seen : List LogRecord) (r : LogRecord) (c : Course) (b : Body) → r.body ≡ b → Tells seen r.tran c → Tells (seen ++ r ∷ []) r.tran (after_body c r b)
course_more seen r c (body.RowChange change) is t = record {
  opened = t.opened ∙ ap not (sym (own_closed seen r (body.RowChange change) is ∙ or_false (is_closed seen r.tran)));
  rows = λ s h. ⊎_elim
      (λ old. still_changed seen r r.tran s (t.rows s old))
      (λ new. own_changed seen r s (ap (λ (z : Body). is_change_of s z) is ∙ new))
      (pushed_rows c r (row_record r change) s h);
}
course_more seen r c (body.Compensation change undone) is t = by (is_next undone c.undo)
  where
    none : is_end r.body ≡ false
    none = ap is_end is

    by : (b : Bool) → Tells (seen ++ r ∷ []) r.tran (if b then undone_one c else c)
    by true = quiet seen r c (undone_one c) t none refl (parts_rows c)
    by false = quiet seen r c c t none refl (λ s h. h)
course_more seen r c (body.System patches) is t = quiet seen r c c t (ap is_end is) refl (λ s h. h)
course_more seen r c body.Commit is t = record {
  opened = sym (ap not (own_closed seen r body.Commit is ∙ or_true (is_closed seen r.tran)));
  rows = λ s h. still_changed seen r r.tran s (t.rows s h);
}
  where
    or_true : (a : Bool) → (a || true) ≡ true
    or_true true = refl
    or_true false = refl
course_more seen r c body.Ended is t = record {
  opened = and_false (not c.is_committed) ∙ sym (ap not (own_closed seen r body.Ended is ∙ or_true (is_closed seen r.tran)));
  rows = λ s h. still_changed seen r r.tran s (t.rows s h);
}
  where
    or_true : (a : Bool) → (a || true) ≡ true
    or_true true = refl
    or_true false = refl

    and_false : (a : Bool) → (a && false) ≡ false
    and_false true = refl
    and_false false = refl
course_more seen r c (body.Checkpoint offset) is t = quiet seen r c c t (ap is_end is) refl (λ s h. h)
course_more seen r c body.RestartEnd is t = quiet seen r c c t (ap is_end is) refl (λ s h. h)

-- ---- all courses
pub record AllTell (seen : List LogRecord) (cs : Courses) : Type 0 where
  pub tell : (id : ℕ) → id ≢ 0 → Tells seen id (course_of (get cs id))
  pub numbered : get cs 0 ≡ None

-- a record of another transaction, or of none
others : (seen : List LogRecord) (r : LogRecord) (id : ℕ) (c : Course) → r.tran ≢ id → Tells seen id c → Tells (seen ++ r ∷ []) id c
others seen r id c ne t = record {
  opened = t.opened ∙ ap not (sym (closed_more seen r id ∙ (ap (λ (z : Bool). is_closed seen id || (z && is_end r.body)) (ne_eqb r.tran id ne) ∙ or_false (is_closed seen id))));
  rows = λ s h. still_changed seen r id s (t.rows s h);
}

tell_as : (seen : List LogRecord) (id : ℕ) (o p : Option Course) → o ≡ p → Tells seen id (course_of p) → Tells seen id (course_of o)
tell_as seen id o p e t = subst (λ (z : Option Course). Tells seen id (course_of z)) (sym e) t

entered : (seen : List LogRecord) (cs : Courses) (r : LogRecord) → AllTell seen cs → r.tran ≢ 0 → AllTell (seen ++ r ∷ []) (insert cs r.tran (after_body (course_of (get cs r.tran)) r r.body))
entered seen cs r a ne = record {
  tell = λ id some. tell_as (seen ++ r ∷ []) id (get (insert cs r.tran next) id) (cond (r.tran == id) (Some next) (get cs id)) (put_at cs r.tran next id) (⊎_elim (own id some) (other id some) (cases_eq r.tran id));
  numbered = put_at cs r.tran next 0 ∙ (ap (λ (b : Bool). cond b (Some next) (get cs 0)) (ne_eqb r.tran 0 ne) ∙ a.numbered);
}
  where
    next : Course
    next = after_body (course_of (get cs r.tran)) r r.body

    own : (id : ℕ) → id ≢ 0 → r.tran ≡ id → Tells (seen ++ r ∷ []) id (course_of (cond (r.tran == id) (Some next) (get cs id)))
    own id some e =
        subst (λ (b : Bool). Tells (seen ++ r ∷ []) id (course_of (cond b (Some next) (get cs id)))) (sym (eq-eqb r.tran id e))
        (subst (λ (z : ℕ). Tells (seen ++ r ∷ []) z next) e (course_more seen r (course_of (get cs r.tran)) r.body refl (a.tell r.tran ne)))

    other : (id : ℕ) → id ≢ 0 → r.tran ≢ id → Tells (seen ++ r ∷ []) id (course_of (cond (r.tran == id) (Some next) (get cs id)))
    other id some e =
        subst (λ (b : Bool). Tells (seen ++ r ∷ []) id (course_of (cond b (Some next) (get cs id)))) (sym (ne_eqb r.tran id e))
        (others seen r id (course_of (get cs id)) e (a.tell id some))

left_as_it_was : (seen : List LogRecord) (cs : Courses) (r : LogRecord) → AllTell seen cs → r.tran ≡ 0 → AllTell (seen ++ r ∷ []) cs
left_as_it_was seen cs r a e = record {
  tell = λ id some. others seen r id (course_of (get cs id)) (λ (is : r.tran ≡ id). some (sym is ∙ e)) (a.tell id some);
  numbered = a.numbered;
}

one_more : (seen : List LogRecord) (cs : Courses) (r : LogRecord) → AllTell seen cs → AllTell (seen ++ r ∷ []) (with_record cs r)
one_more seen cs r a = ⊎_elim
    (λ e. subst (λ (b : Bool). AllTell (seen ++ r ∷ []) (if b then cs else next)) (sym (eq-eqb r.tran 0 e)) (left_as_it_was seen cs r a e))
    (λ ne. subst (λ (b : Bool). AllTell (seen ++ r ∷ []) (if b then cs else next)) (sym (ne_eqb r.tran 0 ne)) (entered seen cs r a ne))
    (cases_eq r.tran 0)
  where
    next : Courses
    next = insert cs r.tran (after_body (course_of (get cs r.tran)) r r.body)

moved : (seen : List LogRecord) (r : LogRecord) (rs : List LogRecord) → (seen ++ r ∷ []) ++ rs ≡ seen ++ (r ∷ rs)
moved [] r rs = refl
moved (q ∷ qs) r rs = ap (λ (z : List LogRecord). q ∷ z) (moved qs r rs)

all_more : (seen : List LogRecord) (cs : Courses) (rs : List LogRecord) → AllTell seen cs → AllTell (seen ++ rs) (courses_from cs rs)
all_more seen cs [] a = subst (λ (z : List LogRecord). AllTell z cs) (sym (rest seen)) a
  where
    rest : (xs : List LogRecord) → xs ++ [] ≡ xs
    rest [] = refl
    rest (x ∷ xs) = ap (λ (z : List LogRecord). x ∷ z) (rest xs)
all_more seen cs (r ∷ rs) a = subst (λ (z : List LogRecord). AllTell z (courses_from (with_record cs r) rs)) (moved seen r rs) (all_more (seen ++ r ∷ []) (with_record cs r) rs (one_more seen cs r a))

none_yet : AllTell [] finite.empty
none_yet = record {
  tell = λ id some. tell_as [] id (get finite.empty id) None (get-empty {X = Course} nat_cmp id) (record { opened = refl; rows = λ s h. h });
  numbered = get-empty {X = Course} nat_cmp 0;
}

pub all_tell : (records : List LogRecord) → AllTell records (courses_of records)
all_tell records = all_more [] finite.empty records none_yet
