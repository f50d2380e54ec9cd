-- The changes of the courses of allowed records are allowed.
use Rattle.std.proofs.Common.{◌≡◌, ℕ, zero, suc, refl, sym, ◌∙◌, ap, subst, arith, Bool, true, false, cond, List, [], ◌∷◌, ◌++◌, take, length, Option, Some, None}
use Rattle.std.specs.Prelude.{◌-◌, ◌==◌, if◌then◌else◌, map, filter}
use Rattle.std.specs.List.{AllByRecursion}
use Rattle.std.specs.Ordering.{nat_cmp, eq_by_cmp}
use Rattle.std.specs.Cmp.{nat_cmp_total}
use Rattle.std.specs.declared.cmp.Ordering.{Ordering}
use Rattle.std.specs.declared.cmp.Ordering.TheVariants.{Less, Equal, Greater}
use Rattle.std.specs.FinMap as finite
use Rattle.std.specs.FinMap.{entries, find, get, insert, entries-insert, get-entries, len-empty, len-entries}
use Rattle.std.specs.FinMap.Entries.{by_order, put}
use Rattle.ds_model.specs.RecordBytes.{IsAllowed, IsNumber}
use Rattle.ds_model.specs.declared.log.Body.{Body}
use Rattle.ds_model.specs.declared.log.Body.TheVariants as body
use Rattle.ds_model.specs.declared.log.LogRecord.{LogRecord}
use Rattle.ds_model.specs.declared.log.RowChange.{RowChange}
use Rattle.ds_model.specs.declared.log.Version.{Version}
use Rattle.ds_model.specs.declared.log.Version.TheVariants as version
use Rattle.log_trans.specs.declared.course.Course.{Course}
use Rattle.log_trans.specs.Courses.{Courses, after_body, course_of, courses_from, courses_of, is_next, is_open, new_course, open_among, open_tran, row_record, undone_one, with_record}
use Rattle.log_opens.specs.Puts.{HasAllowed, OpensAreAllowed}

-- ---- lists
all_push : {A : Type 0} → (P : A → Type 0) (xs : List A) (x : A) → AllByRecursion P xs → P x → AllByRecursion P (xs ++ x ∷ [])
all_push P [] x h new = (new, tt)
all_push P (y ∷ ys) x h new = (h.0, all_push P ys x h.1 new)

all_front : {A : Type 0} → (P : A → Type 0) (n : ℕ) (xs : List A) → AllByRecursion P xs → AllByRecursion P (take n xs)
all_front P zero [] h = tt
all_front P (suc n) [] h = tt
all_front P zero (x ∷ xs) h = tt
all_front P (suc n) (x ∷ xs) h = (h.0, all_front P n xs h.1)

-- ---- one course
abbrev AreAllowed : Course → Type 0
AreAllowed c = AllByRecursion IsAllowed c.undo

as_written : (v : Version) (n : ℕ) → IsNumber v n → IsNumber version.Two n
as_written version.One n h = omega arith
as_written version.Two n h = h

row_allowed : (r : LogRecord) (b : Body) (c : RowChange) → r.body ≡ b → b ≡ body.RowChange c → IsAllowed r → IsAllowed (row_record r c)
row_allowed r b c is row ok = subst (λ (z : Body). IsAllowed (record r { body = z })) (is ∙ row) ok

body_more : (c : Course) (r : LogRecord) (b : Body) → r.body ≡ b → IsAllowed r → AreAllowed c → AreAllowed (after_body c r b)
body_more c r (body.RowChange change) is ok h = all_push IsAllowed c.undo (row_record r change) h (row_allowed r (body.RowChange change) change is refl ok)
body_more c r (body.Compensation change undone) is ok h = by (is_next undone c.undo)
  where
    by : (b : Bool) → AreAllowed (if b then undone_one c else c)
    by true = all_front IsAllowed (length c.undo - 1) c.undo h
    by false = h
body_more c r (body.System patches) is ok h = h
body_more c r body.Commit is ok h = h
body_more c r body.Ended is ok h = h
body_more c r (body.Checkpoint offset) is ok h = h
body_more c r body.RestartEnd is ok h = h

-- ---- all courses
abbrev Fit : ℕ × Course → Type 0
Fit e = IsNumber version.Two e.0 × AreAllowed e.1

abbrev AllFit : Courses → Type 0
AllFit cs = AllByRecursion Fit (entries cs)

found_allowed : (id : ℕ) (es : List (ℕ × Course)) → AllByRecursion Fit es → AreAllowed (course_of (find nat_cmp id es))
found_allowed id [] a = tt
found_allowed id (e ∷ es) a = by (eq_by_cmp nat_cmp id e.0) (found_allowed id es a.1)
  where
    by : (b : Bool) → AreAllowed (course_of (find nat_cmp id es)) → AreAllowed (course_of (cond b (Some e.1) (find nat_cmp id es)))
    by true rest = a.0.1
    by false rest = rest

course_allowed : (cs : Courses) (id : ℕ) → AllFit cs → AreAllowed (course_of (get cs id))
course_allowed cs id a = subst (λ (o : Option Course). AreAllowed (course_of o)) (sym (get-entries cs id)) (found_allowed id (entries cs) a)

put_fits : (k : ℕ) (v : Course) (es : List (ℕ × Course)) → Fit (k, v) → AllByRecursion Fit es → AllByRecursion Fit (put nat_cmp k v es)
put_fits k v [] new a = (new, tt)
put_fits k v (e ∷ es) new a = by (nat_cmp k e.0) (put_fits k v es new a.1)
  where
    by : (o : Ordering) → AllByRecursion Fit (put nat_cmp k v es) → AllByRecursion Fit (by_order o ((k, v) ∷ e ∷ es) ((e.0, v) ∷ es) (e ∷ put nat_cmp k v es))
    by Less rest = (new, a)
    by Equal rest = ((a.0.0, new.1), a.1)
    by Greater rest = (a.0, rest)

one_fits : (cs : Courses) (r : LogRecord) → IsAllowed r → AllFit cs → AllFit (with_record cs r)
one_fits cs r ok a = by (r.tran == 0)
  where
    next : Course
    next = after_body (course_of (get cs r.tran)) r r.body

    by : (b : Bool) → AllFit (if b then cs else insert cs r.tran next)
    by true = a
    by false = subst (AllByRecursion Fit) (sym (entries-insert nat_cmp_total cs r.tran next))
        (put_fits r.tran next (entries cs) (as_written r.version r.tran ok.tran_in, body_more (course_of (get cs r.tran)) r r.body refl ok (course_allowed cs r.tran a)) a)

all_fit : (cs : Courses) (rs : List LogRecord) → AllByRecursion IsAllowed rs → AllFit cs → AllFit (courses_from cs rs)
all_fit cs [] ok a = a
all_fit cs (r ∷ rs) ok a = all_fit (with_record cs r) rs ok.1 (one_fits cs r ok.0 a)

-- ---- the open ones
among : (es : List (ℕ × Course)) → AllByRecursion Fit es → AllByRecursion HasAllowed (open_among es)
among [] a = tt
among (e ∷ es) a = by (is_open e.1) (among es a.1)
  where
    rest : List (ℕ × Course)
    rest = filter (λ (x : ℕ × Course). is_open x.1) es

    by : (b : Bool) → AllByRecursion HasAllowed (open_among es) → AllByRecursion HasAllowed (map open_tran (cond b (e ∷ rest) rest))
    by true more = (record { number = a.0.0; undo = a.0.1 }, more)
    by false more = more

none_fit : (es : List (ℕ × Course)) → length es ≡ 0 → AllByRecursion Fit es
none_fit [] none = tt
none_fit (e ∷ es) none = absurd (omega (arith, none))

pub opens_are_allowed : OpensAreAllowed
opens_are_allowed records ok =
    let none : AllFit finite.empty = none_fit (entries finite.empty) (sym (len-entries finite.empty) ∙ len-empty nat_cmp Course) in
    among (entries (courses_of records)) (all_fit finite.empty records ok none)
