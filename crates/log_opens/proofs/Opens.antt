-- What the courses of transactions are to the records so far, all of them.
use Rattle.std.proofs.Common.{◌≡◌, ℕ, refl, sym, ◌∙◌, ap, subst, arith, Bool, true, false, cond, List, [], ◌∷◌, ◌++◌, Option, Some, None, take, drop, length, inl, inr, ⊎_elim}
use Rattle.std.specs.Prelude.{◌≢◌, ◌⊎◌, ◌-◌, ◌==◌, ◌&&◌, ◌||◌, not, if◌then◌else◌, filter, map}
use Rattle.std.specs.Ordering.{nat_cmp, eq_by_cmp}
use Rattle.std.specs.Cmp.{nat_cmp_total}
use Rattle.std.specs.FinMap as finite
use Rattle.std.specs.FinMap.{FinMap, entries, find, get, insert, get-insert, get-empty, get-entries}
use Rattle.std.proofs.lemmas.Bool.{cases_eq, eq-eqb, eqb-true, ne_eqb, or_left, or_right}
use Rattle.std.proofs.lemmas.Bool.Decides.{nat_tests}
use Rattle.std.proofs.lemmas.List.{take-append-drop}
use Rattle.ds_model.specs.Rows.{Spot}
use Rattle.ds_model.specs.declared.log.Body.{Body}
use Rattle.ds_model.specs.declared.log.Body.TheVariants as body
use Rattle.ds_model.specs.declared.log.LogRecord.{LogRecord}
use Rattle.log_trans.specs.declared.course.Course.{Course}
use Rattle.log_trans.specs.declared.opened.OpenTran.{OpenTran}
use Rattle.log_trans.specs.Courses.{Courses, after_body, course_of, courses_from, courses_of, is_next, is_open, new_course, open_among, open_tran, row_record, undone_one, with_record}
use Rattle.log_rows.specs.Rows.{BothTell, has_changed, has_row, is_change_of, is_closed, is_end, touches}
use Rattle.log_opens.specs.Opens.{OpensAreAll, has_opened}

-- ---- tests
same_number : (q k : ℕ) → eq_by_cmp nat_cmp q k ≡ (k == q)
same_number q k = grind (arith, nat_tests)

or_false : (a : Bool) → (a || false) ≡ a
or_false true = refl
or_false false = refl

or_true : (a : Bool) → (a || true) ≡ true
or_true true = refl
or_true false = refl

and_false : (a : Bool) → (a && false) ≡ false
and_false true = refl
and_false false = refl

put_at : (m : Courses) (k : ℕ) (v : Course) (q : ℕ) → get (insert m k v) q ≡ cond (k == q) (Some v) (get m q)
put_at m k v q = get-insert nat_cmp_total m k v q ∙ ap (λ (b : Bool). cond b (Some v) (get m q)) (same_number q k)

-- ---- one course, of the transaction of this number
pub record Tells (seen : List LogRecord) (id : ℕ) (c : Course) : Type 0 where
  pub opened : is_open c ≡ not (is_closed seen id)
  pub rows : (s : Spot) → (has_row c.undo s || has_row c.undone s) ≡ has_changed seen id s

-- ---- all courses
pub record AllTell (seen : List LogRecord) (cs : Courses) : Type 0 where
  pub tell : (id : ℕ) → id ≢ 0 → Tells seen id (course_of (get cs id))

or_swap : (a b d : Bool) → ((a || b) || d) ≡ ((a || d) || b)
or_swap true b d = refl
or_swap false true d = sym (or_true d)
or_swap false false d = sym (or_false d)

or_apart : (a b c : Bool) → (a || (c || b)) ≡ ((a || b) || c)
or_apart true b c = refl
or_apart false true c = or_true c
or_apart false false c = or_false c

tell_as : (seen : List LogRecord) (id : ℕ) (o p : Option Course) → o ≡ p → Tells seen id (course_of p) → Tells seen id (course_of o)
tell_as seen id o p e t = subst (λ (z : Option Course). Tells seen id (course_of z)) (sym e) t

module _ (law : BothTell) where
  -- with one record more of the transaction
  closed_more : (seen : List LogRecord) (r : LogRecord) (id : ℕ) → is_closed (seen ++ r ∷ []) id ≡ (is_closed seen id || ((r.tran == id) && is_end r.body))
  closed_more seen r id = law.closed seen (r ∷ []) id ∙ ap (λ (z : Bool). is_closed seen id || z) (or_false ((r.tran == id) && is_end r.body))

  changed_more : (seen : List LogRecord) (r : LogRecord) (id : ℕ) (s : Spot) → has_changed (seen ++ r ∷ []) id s ≡ (has_changed seen id s || ((r.tran == id) && is_change_of s r.body))
  changed_more seen r id s = law.changed seen (r ∷ []) id s ∙ ap (λ (z : Bool). has_changed seen id s || z) (or_false ((r.tran == id) && is_change_of s r.body))

  own_closed : (seen : List LogRecord) (r : LogRecord) (b : Body) → r.body ≡ b → is_closed (seen ++ r ∷ []) r.tran ≡ (is_closed seen r.tran || is_end b)
  own_closed seen r b is = closed_more seen r r.tran ∙ ap (λ (z : Bool). is_closed seen r.tran || (z && is_end r.body)) (eq-eqb r.tran r.tran refl) ∙ ap (λ (z : Body). is_closed seen r.tran || is_end z) is

  own_changed : (seen : List LogRecord) (r : LogRecord) (b : Body) (s : Spot) → r.body ≡ b → has_changed (seen ++ r ∷ []) r.tran s ≡ (has_changed seen r.tran s || is_change_of s b)
  own_changed seen r b s is = changed_more seen r r.tran s ∙ ap (λ (z : Bool). has_changed seen r.tran s || (z && is_change_of s r.body)) (eq-eqb r.tran r.tran refl) ∙ ap (λ (z : Body). has_changed seen r.tran s || is_change_of s z) is

  -- the rows of a course whose last change is taken back
  parts_rows : (c : Course) (s : Spot) → (has_row (undone_one c).undo s || has_row (undone_one c).undone s) ≡ (has_row c.undo s || has_row c.undone s)
  parts_rows c s =
      let n : ℕ = length c.undo - 1 in
      let split : has_row (c.undone ++ drop n c.undo) s ≡ (has_row c.undone s || has_row (drop n c.undo) s) = law.rows c.undone (drop n c.undo) s in
      let whole : has_row c.undo s ≡ (has_row (take n c.undo) s || has_row (drop n c.undo) s) = ap (λ (z : List LogRecord). has_row z s) (sym (take-append-drop n c.undo)) ∙ law.rows (take n c.undo) (drop n c.undo) s in
      ap (λ (z : Bool). has_row (take n c.undo) s || z) split
      ∙ (or_apart (has_row (take n c.undo) s) (has_row (drop n c.undo) s) (has_row c.undone s) ∙ ap (λ (z : Bool). z || has_row c.undone s) (sym whole))

  -- a record that neither changes a row nor closes
  quiet : (seen : List LogRecord) (r : LogRecord) (c d : Course) (b : Body) → r.body ≡ b → Tells seen r.tran c → is_end b ≡ false → ((s : Spot) → is_change_of s b ≡ false) → is_open d ≡ is_open c
      → ((s : Spot) → (has_row d.undo s || has_row d.undone s) ≡ (has_row c.undo s || has_row c.undone s)) → Tells (seen ++ r ∷ []) r.tran d
  quiet seen r c d b is t none still same rows = record {
    opened = same ∙ (t.opened ∙ ap not (sym (own_closed seen r b is ∙ (ap (λ (z : Bool). is_closed seen r.tran || z) none ∙ or_false (is_closed seen r.tran)))));
    rows = λ s. rows s ∙ (t.rows s ∙ sym (own_changed seen r b s is ∙ (ap (λ (z : Bool). has_changed seen r.tran s || z) (still s) ∙ or_false (has_changed seen r.tran s))));
  }

  closes : (seen : List LogRecord) (r : LogRecord) (c d : Course) (b : Body) → r.body ≡ b → Tells seen r.tran c → is_end b ≡ true → ((s : Spot) → is_change_of s b ≡ false) → is_open d ≡ false
      → ((s : Spot) → (has_row d.undo s || has_row d.undone s) ≡ (has_row c.undo s || has_row c.undone s)) → Tells (seen ++ r ∷ []) r.tran d
  closes seen r c d b is t ends still over rows = record {
    opened = over ∙ sym (ap not (own_closed seen r b is ∙ (ap (λ (z : Bool). is_closed seen r.tran || z) ends ∙ or_true (is_closed seen r.tran))));
    rows = λ s. rows s ∙ (t.rows s ∙ sym (own_changed seen r b s is ∙ (ap (λ (z : Bool). has_changed seen r.tran s || z) (still s) ∙ or_false (has_changed seen r.tran s))));
  }

  course_more : (seen : List LogRecord) (r : LogRecord) (c : Course) (b : Body) → r.body ≡ b → Tells seen r.tran c → Tells (seen ++ r ∷ []) r.tran (after_body c r b)
  course_more seen r c (body.RowChange change) is t = record {
    opened = t.opened ∙ ap not (sym (own_closed seen r (body.RowChange change) is ∙ or_false (is_closed seen r.tran)));
    rows = λ s. ap (λ (z : Bool). z || has_row c.undone s) (law.rows c.undo (row_record r change ∷ []) s ∙ ap (λ (z : Bool). has_row c.undo s || z) (or_false (is_change_of s (body.RowChange change))))
        ∙ (or_swap (has_row c.undo s) (is_change_of s (body.RowChange change)) (has_row c.undone s)
        ∙ (ap (λ (z : Bool). z || is_change_of s (body.RowChange change)) (t.rows s) ∙ sym (own_changed seen r (body.RowChange change) s is)));
  }
  course_more seen r c (body.Compensation change undone) is t = by (is_next undone c.undo)
    where
      by : (b : Bool) → Tells (seen ++ r ∷ []) r.tran (if b then undone_one c else c)
      by true = quiet seen r c (undone_one c) (body.Compensation change undone) is t refl (λ s. refl) refl (parts_rows c)
      by false = quiet seen r c c (body.Compensation change undone) is t refl (λ s. refl) refl (λ s. refl)
  course_more seen r c (body.System patches) is t = quiet seen r c c (body.System patches) is t refl (λ s. refl) refl (λ s. refl)
  course_more seen r c body.Commit is t = closes seen r c (after_body c r body.Commit) body.Commit is t refl (λ s. refl) refl (λ s. refl)
  course_more seen r c body.Ended is t = closes seen r c (after_body c r body.Ended) body.Ended is t refl (λ s. refl) (and_false (not c.is_committed)) (λ s. refl)
  course_more seen r c (body.Checkpoint offset) is t = quiet seen r c c (body.Checkpoint offset) is t refl (λ s. refl) refl (λ s. refl)
  course_more seen r c body.RestartEnd is t = quiet seen r c c body.RestartEnd is t refl (λ s. refl) refl (λ s. refl)

  -- a record of another transaction, or of none
  others : (seen : List LogRecord) (r : LogRecord) (id : ℕ) (c : Course) → r.tran ≢ id → Tells seen id c → Tells (seen ++ r ∷ []) id c
  others seen r id c ne t = record {
    opened = t.opened ∙ ap not (sym (closed_more seen r id ∙ (ap (λ (z : Bool). is_closed seen id || (z && is_end r.body)) (ne_eqb r.tran id ne) ∙ or_false (is_closed seen id))));
    rows = λ s. t.rows s ∙ sym (changed_more seen r id s ∙ (ap (λ (z : Bool). has_changed seen id s || (z && is_change_of s r.body)) (ne_eqb r.tran id ne) ∙ or_false (has_changed seen id s)));
  }

  entered : (seen : List LogRecord) (cs : Courses) (r : LogRecord) → AllTell seen cs → r.tran ≢ 0 → AllTell (seen ++ r ∷ []) (insert cs r.tran (after_body (course_of (get cs r.tran)) r r.body))
  entered seen cs r a ne = record {
    tell = λ id some. tell_as (seen ++ r ∷ []) id (get (insert cs r.tran next) id) (cond (r.tran == id) (Some next) (get cs id)) (put_at cs r.tran next id) (⊎_elim (own id some) (other id some) (cases_eq r.tran id));
  }
    where
      next : Course
      next = after_body (course_of (get cs r.tran)) r r.body

      own : (id : ℕ) → id ≢ 0 → r.tran ≡ id → Tells (seen ++ r ∷ []) id (course_of (cond (r.tran == id) (Some next) (get cs id)))
      own id some e =
          subst (λ (b : Bool). Tells (seen ++ r ∷ []) id (course_of (cond b (Some next) (get cs id)))) (sym (eq-eqb r.tran id e))
          (subst (λ (z : ℕ). Tells (seen ++ r ∷ []) z next) e (course_more seen r (course_of (get cs r.tran)) r.body refl (a.tell r.tran ne)))

      other : (id : ℕ) → id ≢ 0 → r.tran ≢ id → Tells (seen ++ r ∷ []) id (course_of (cond (r.tran == id) (Some next) (get cs id)))
      other id some e =
          subst (λ (b : Bool). Tells (seen ++ r ∷ []) id (course_of (cond b (Some next) (get cs id)))) (sym (ne_eqb r.tran id e))
          (others seen r id (course_of (get cs id)) e (a.tell id some))

  left_as_it_was : (seen : List LogRecord) (cs : Courses) (r : LogRecord) → AllTell seen cs → r.tran ≡ 0 → AllTell (seen ++ r ∷ []) cs
  left_as_it_was seen cs r a e = record { tell = λ id some. others seen r id (course_of (get cs id)) (λ (is : r.tran ≡ id). some (sym is ∙ e)) (a.tell id some) }

  one_more : (seen : List LogRecord) (cs : Courses) (r : LogRecord) → AllTell seen cs → AllTell (seen ++ r ∷ []) (with_record cs r)
  one_more seen cs r a = ⊎_elim
      (λ e. subst (λ (b : Bool). AllTell (seen ++ r ∷ []) (if b then cs else next)) (sym (eq-eqb r.tran 0 e)) (left_as_it_was seen cs r a e))
      (λ ne. subst (λ (b : Bool). AllTell (seen ++ r ∷ []) (if b then cs else next)) (sym (ne_eqb r.tran 0 ne)) (entered seen cs r a ne))
      (cases_eq r.tran 0)
    where
      next : Courses
      next = insert cs r.tran (after_body (course_of (get cs r.tran)) r r.body)

  moved : (seen : List LogRecord) (r : LogRecord) (rs : List LogRecord) → (seen ++ r ∷ []) ++ rs ≡ seen ++ (r ∷ rs)
  moved [] r rs = refl
  moved (q ∷ qs) r rs = ap (λ (z : List LogRecord). q ∷ z) (moved qs r rs)

  none_behind : (xs : List LogRecord) → xs ++ [] ≡ xs
  none_behind [] = refl
  none_behind (x ∷ xs) = ap (λ (z : List LogRecord). x ∷ z) (none_behind xs)

  all_more : (seen : List LogRecord) (cs : Courses) (rs : List LogRecord) → AllTell seen cs → AllTell (seen ++ rs) (courses_from cs rs)
  all_more seen cs [] a = subst (λ (z : List LogRecord). AllTell z cs) (sym (none_behind seen)) a
  all_more seen cs (r ∷ rs) a = subst (λ (z : List LogRecord). AllTell z (courses_from (with_record cs r) rs)) (moved seen r rs) (all_more (seen ++ r ∷ []) (with_record cs r) rs (one_more seen cs r a))

  none_yet : AllTell [] finite.empty
  none_yet = record { tell = λ id some. tell_as [] id (get finite.empty id) None (get-empty {X = Course} nat_cmp id) (record { opened = refl; rows = λ s. refl }) }

  all_tell : (records : List LogRecord) → AllTell records (courses_of records)
  all_tell records = all_more [] finite.empty records none_yet

  -- ---- among the open ones
  no_rows : false ≡ true → ⊥
  no_rows e = cc

  none_found : (c : Course) → None ≡ Some c → ⊥
  none_found c e = cc

  same_course : (c d : Course) → Some c ≡ Some d → c ≡ d
  same_course c d e = cc

  among : (es : List (ℕ × Course)) (id : ℕ) (c : Course) (s : Spot) → find nat_cmp id es ≡ Some c → is_open c ≡ true → (has_row c.undo s || has_row c.undone s) ≡ true → has_opened (open_among es) id s ≡ true
  among [] id c s there opened rows = absurd (none_found c there)
  among (e ∷ es) id c s there opened rows = by (eq_by_cmp nat_cmp id e.0) refl there (among es id c s)
    where
      rest : List (ℕ × Course)
      rest = filter (λ (x : ℕ × Course). is_open x.1) es

      more : (b : Bool) → has_opened (map open_tran rest) id s ≡ true → has_opened (map open_tran (cond b (e ∷ rest) rest)) id s ≡ true
      more true h = or_right ((e.0 == id) && touches (open_tran e) s) (has_opened (map open_tran rest) id s) h
      more false h = h

      first : (b : Bool) → b ≡ true → ((e.0 == id) && touches (open_tran e) s) ≡ true → has_opened (map open_tran (cond b (e ∷ rest) rest)) id s ≡ true
      first true is h = or_left ((e.0 == id) && touches (open_tran e) s) (has_opened (map open_tran rest) id s) h
      first false is h = absurd (no_rows is)

      by : (b : Bool) → eq_by_cmp nat_cmp id e.0 ≡ b → cond b (Some e.1) (find nat_cmp id es) ≡ Some c
          → (find nat_cmp id es ≡ Some c → is_open c ≡ true → (has_row c.undo s || has_row c.undone s) ≡ true → has_opened (open_among es) id s ≡ true) → has_opened (map open_tran (cond (is_open e.1) (e ∷ rest) rest)) id s ≡ true
      by true same is go_on =
          let here : e.1 ≡ c = same_course e.1 c is in
          let number : (e.0 == id) ≡ true = sym (same_number id e.0) ∙ same in
          first (is_open e.1) (ap (λ (z : Course). is_open z) here ∙ opened)
          (ap (λ (z : Bool). z && touches (open_tran e) s) number ∙ (ap (λ (z : Course). has_row z.undo s || has_row z.undone s) here ∙ rows))
      by false other is go_on = more (is_open e.1) (go_on is opened rows)

  some_course : (cs : Courses) (id : ℕ) (o : Option Course) → get cs id ≡ o → (s : Spot) → (has_row (course_of o).undo s || has_row (course_of o).undone s) ≡ true → get cs id ≡ Some (course_of o)
  some_course cs id None is s rows = absurd (no_rows rows)
  some_course cs id (Some c) is s rows = is

  pub opens_are_all : OpensAreAll
  opens_are_all records id s some changed unclosed =
      let cs : Courses = courses_of records in
      let t : Tells records id (course_of (get cs id)) = (all_tell records).tell id some in
      let rows : (has_row (course_of (get cs id)).undo s || has_row (course_of (get cs id)).undone s) ≡ true = t.rows s ∙ changed in
      among (entries cs) id (course_of (get cs id)) s (sym (get-entries cs id) ∙ some_course cs id (get cs id) refl s rows) (t.opened ∙ ap not unclosed) rows
