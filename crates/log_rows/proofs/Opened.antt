-- The open transactions among all courses.
use Rattle.std.proofs.Common.{◌≡◌, ℕ, refl, sym, ◌∙◌, ap, subst, arith, Bool, true, false, cond, List, [], ◌∷◌, Option, Some, None}
use Rattle.std.specs.Prelude.{◌≢◌, ◌==◌, ◌&&◌, not, T, map, filter}
use Rattle.std.specs.List.{AllByRecursion}
use Rattle.std.specs.Ordering.{nat_cmp, eq_by_cmp, is_lt}
use Rattle.std.specs.Cmp.{nat_cmp_total}
use Rattle.std.specs.FinMap.{find, entries, entries_sorted, get, get-entries}
use Rattle.std.specs.FinMap.Entries.{below_all, is_sorted}
use Rattle.std.proofs.lemmas.Bool.Decides.{nat_tests}
use Rattle.std.proofs.lemmas.Bool.{cases_Bool}
use Rattle.ds_model.specs.declared.log.LogRecord.{LogRecord}
use Rattle.log_trans.specs.declared.course.Course.{Course}
use Rattle.log_trans.specs.Courses.{Courses, course_of, courses_of, is_open, open_among, open_tran, open_trans}
use Rattle.log_rows.specs.Rows.{IsOpenIn, OpenTell, is_closed}
use Rattle.log_rows.proofs.Courses.{AllTell, Tells, all_tell}

abbrev Entries : Type 0
Entries = List (ℕ × Course)

-- ---- each entry is found by its key
above : (x k : ℕ) → T (is_lt (nat_cmp x k)) → eq_by_cmp nat_cmp k x ≡ false
above x k h = grind (arith, nat_tests)

itself : (k : ℕ) → eq_by_cmp nat_cmp k k ≡ true
itself k = grind (arith, nat_tests)

and_first : (a b : Bool) → T (a && b) → T a
and_first true b h = tt
and_first false b h = h

and_second : (a b : Bool) → T (a && b) → T b
and_second true b h = h
and_second false b h = absurd h

abbrev IsFound : Entries → ℕ × Course → Type 0
IsFound es e = find nat_cmp e.0 es ≡ Some e.1

-- a smaller key in front isn't found
behind : (x : ℕ) (c : Course) (all es : Entries) → T (below_all nat_cmp x es) → AllByRecursion (IsFound all) es → AllByRecursion (IsFound ((x, c) ∷ all)) es
behind x c all [] h f = tt
behind x c all (e ∷ es) h f =
    (ap (λ (b : Bool). cond b (Some c) (find nat_cmp e.0 all)) (above x e.0 (and_first (is_lt (nat_cmp x e.0)) (below_all nat_cmp x es) h)) ∙ f.0, behind x c all es (and_second (is_lt (nat_cmp x e.0)) (below_all nat_cmp x es) h) f.1)

found : (es : Entries) → T (is_sorted nat_cmp es) → AllByRecursion (IsFound es) es
found [] h = tt
found (e ∷ es) h =
    (ap (λ (b : Bool). cond b (Some e.1) (find nat_cmp e.0 es)) (itself e.0), behind e.0 e.1 es es (and_first (below_all nat_cmp e.0 es) (is_sorted nat_cmp es) h) (found es (and_second (below_all nat_cmp e.0 es) (is_sorted nat_cmp es) h)))

-- ---- the open ones
not_true : (a : Bool) → true ≡ not a → a ≡ false
not_true true h = h
not_true false h = refl

some_course : (o : Option Course) (c : Course) → o ≡ Some c → course_of o ≡ c
some_course o c e = ap course_of e

some_none : {A : Type 0} → (a : A) → Some a ≡ None → ⊥
some_none a e = cc

tran_tells : (records : List LogRecord) (cs : Courses) → AllTell records cs → (id : ℕ) (c : Course) → get cs id ≡ Some c → is_open c ≡ true → IsOpenIn records (open_tran (id, c))
tran_tells records cs a id c there opened = record {
  numbered = some;
  unclosed = not_true (is_closed records id) (sym opened ∙ tells.opened);
  changed = tells.rows;
}
  where
    some : id ≢ 0
    some e = some_none c (sym there ∙ (ap (λ (z : ℕ). get cs z) e ∙ a.numbered))

    tells : Tells records id c
    tells = subst (λ (z : Course). Tells records id z) (some_course (get cs id) c there) (a.tell id some)

among : (records : List LogRecord) (cs : Courses) (es : Entries) → AllTell records cs → AllByRecursion (IsFound (entries cs)) es → AllByRecursion (IsOpenIn records) (open_among es)
among records cs [] a f = tt
among records cs (e ∷ es) a f = by (among records cs es a f.1) (is_open e.1) refl
  where
    by : AllByRecursion (IsOpenIn records) (open_among es) → (b : Bool) → is_open e.1 ≡ b → AllByRecursion (IsOpenIn records) (map open_tran (cond b (e ∷ filter (λ (x : ℕ × Course). is_open x.1) es) (filter (λ (x : ℕ × Course). is_open x.1) es)))
    by rest true opened = (tran_tells records cs a e.0 e.1 (get-entries cs e.0 ∙ f.0) opened, rest)
    by rest false opened = rest

pub open_tell : OpenTell
open_tell records = among records (courses_of records) (entries (courses_of records)) (all_tell records) (found (entries (courses_of records)) (entries_sorted (courses_of records)))
