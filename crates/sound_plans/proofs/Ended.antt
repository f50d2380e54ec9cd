-- A transaction that has committed, or of which nothing is left to be undone, has ended.
use Rattle.std.proofs.Common.{◌≡◌, ℕ, ◌-◌, Bool, true, false, List, [], ◌∷◌, ◌++◌, length, take, inl, inr, refl, sym, ap, subst, ◌∙◌, append_assoc}
use Rattle.std.specs.Prelude.{◌⊎◌, ◌==◌, not, ◌||◌, ◌&&◌}
use Rattle.std.specs.List.{list_all}
use Rattle.std.proofs.lemmas.Bool.{cond_both, cases_Bool, or_cases, or_parts, or_from, or_left, or_right, and_from, both_ways, eqb-true, eq-eqb}
use Rattle.std.proofs.lemmas.List.{append-nil, nil_from_length}
use Rattle.std.proofs.lemmas.List.Folds.{list_any-append}
use Rattle.ds_model.specs.declared.log.LogRecord.{LogRecord}
use Rattle.ds_model.specs.declared.log.RowChange.{RowChange}
use Rattle.ds_model.specs.declared.log.Body.{Body}
use Rattle.ds_model.specs.declared.log.Body.TheVariants as body
use Rattle.ds_model.specs.Logs.{has_commit}
use Rattle.log_trans.specs.declared.course.Course.{Course}
use Rattle.log_trans.specs.Courses.{new_course, has_number, is_next, undone_one, row_record, after_body}
use Rattle.sound_disk.specs.Settled.{is_row_change, takes_back, is_open}
use Rattle.sound_disk.specs.Transactions.{is_among, course_in}
use Rattle.sound_appends.proofs.Left.{is_change, has_change, is_taken, numbers, numbers_more, among_more, change_parts, undo_of, course_last, commits, itself}
use Rattle.sound_plans.specs.Opens.{course_of, EndsWhereNothingIsLeft}
use Rattle.sound_plans.proofs.Queues.{Snoc, snoc_view, got_last, all_but_last}

-- each row change of the transaction that isn't taken back is left
abbrev IsLeftOf : List LogRecord → ℕ → List LogRecord → Type 0
IsLeftOf rs t us = (k : ℕ) → has_change t k rs ≡ true → is_taken k rs ≡ false → is_among k (numbers us) ≡ true

abbrev AllLeft : List LogRecord → Type 0
AllLeft rs = (t : ℕ) → IsLeftOf rs t (undo_of rs t)

change_split : (t k : ℕ) (rs : List LogRecord) (r : LogRecord) → has_change t k (rs ++ r ∷ []) ≡ true → (has_change t k rs ≡ true) ⊎ (is_change t k r ≡ true)
change_split t k rs r h = elim (or_cases (has_change t k rs) (is_change t k r || false) (sym (list_any-append (λ (s : LogRecord). is_change t k s) rs (r ∷ [])) ∙ h)) [
  | inl e ↦ inl e
  | inr e ↦ elim (or_cases (is_change t k r) false e) [
    | inl f ↦ inr f
    | inr f ↦ absurd cc
  ]
]

taken_split : (k : ℕ) (rs : List LogRecord) (r : LogRecord) → is_taken k (rs ++ r ∷ []) ≡ false → (is_taken k rs ≡ false) × (takes_back k r.body ≡ false)
taken_split k rs r h =
    let p = or_parts (is_taken k rs) (takes_back k r.body || false) (sym (list_any-append (λ (s : LogRecord). takes_back k s.body) rs (r ∷ [])) ∙ h) in
    (p.0, (or_parts (takes_back k r.body) false p.1).0)

-- a record that changes no row for the transaction
stays : (rs : List LogRecord) (r : LogRecord) (t : ℕ) (us : List LogRecord) → IsLeftOf rs t us → ((k : ℕ) → is_change t k r ≡ true → ⊥) → IsLeftOf (rs ++ r ∷ []) t us
stays rs r t us h none = λ k is free. elim (change_split t k rs r is) [
  | inl e ↦ h k e (taken_split k rs r free).0
  | inr e ↦ absurd (none k e)
]

push : (rs : List LogRecord) (r : LogRecord) (t : ℕ) (us : List LogRecord) (c : RowChange) → IsLeftOf rs t us → IsLeftOf (rs ++ r ∷ []) t (us ++ row_record r c ∷ [])
push rs r t us c h = λ k is free.
    let either : (is_among k (numbers us) || ((r.lrsn == k) || false)) ≡ true = elim (change_split t k rs r is) [
      | inl e ↦ or_left (is_among k (numbers us)) ((r.lrsn == k) || false) (h k e (taken_split k rs r free).0)
      | inr e ↦ or_right (is_among k (numbers us)) ((r.lrsn == k) || false) (or_left (r.lrsn == k) false (eq-eqb r.lrsn k (change_parts t k r e).number))
    ] in
    ap (is_among k) (numbers_more us (row_record r c ∷ [])) ∙ among_more k (numbers us) (r.lrsn ∷ []) ∙ either

no_row : (b : Body) (t k : ℕ) (r : LogRecord) → r.body ≡ b → is_row_change b ≡ false → is_change t k r ≡ true → ⊥
no_row b t k r is none h = both_ways (is_row_change r.body) (ap is_row_change is ∙ none) (change_parts t k r h).row

none_next : (n : ℕ) (us : List LogRecord) → us ≡ [] → is_next n us ≡ true → ⊥
none_next n us e h = let k : is_next n [] ≡ true = subst (λ (l : List LogRecord). is_next n l ≡ true) e h in cc

next_number : (us : List LogRecord) (n : ℕ) (s : Snoc us) → is_next n us ≡ true → (s.last.lrsn == n) ≡ true
next_number us n s h = sym (ap (has_number n) (got_last us s.init s.last s.split)) ∙ h

none_left : (rs : List LogRecord) (t k : ℕ) → undo_of rs t ≡ [] → is_among k (numbers (undo_of rs t)) ≡ true → ⊥
none_left rs t k e h = let n : is_among k (numbers []) ≡ true = subst (λ (l : List LogRecord). is_among k (numbers l) ≡ true) e h in cc

-- what is taken out of the list has the number that is taken back
pop_split : (rs : List LogRecord) (r : LogRecord) (t n : ℕ) (us : List LogRecord) (c : RowChange) → IsLeftOf rs t us → r.body ≡ body.Compensation c n → Snoc us → is_next n us ≡ true → IsLeftOf (rs ++ r ∷ []) t (take (length us - 1) us)
pop_split rs r t n us c h is s next = λ k made free. elim (change_split t k rs r made) [
  | inr e ↦ absurd (no_row (body.Compensation c n) t k r is refl e)
  | inl e ↦ (
      let p = taken_split k rs r free in
      let other : (n == k) ≡ false = sym (ap (takes_back k) is) ∙ p.1 in
      let among : is_among k (numbers us) ≡ true = h k e p.0 in
      let number : (s.last.lrsn == n) ≡ true = next_number us n s next in
      let last : (s.last.lrsn == k) ≡ false = ap (λ (m : ℕ). m == k) (eqb-true s.last.lrsn n number) ∙ other in
      let parts : (is_among k (numbers s.init) || ((s.last.lrsn == k) || false)) ≡ true =
      sym (among_more k (numbers s.init) (s.last.lrsn ∷ [])) ∙ sym (ap (is_among k) (ap numbers s.split ∙ numbers_more s.init (s.last ∷ []))) ∙ among in
      let front : is_among k (numbers s.init) ≡ true = elim (or_cases (is_among k (numbers s.init)) ((s.last.lrsn == k) || false) parts) [
        | inl f ↦ f
        | inr f ↦ absurd (both_ways ((s.last.lrsn == k) || false) (or_from (s.last.lrsn == k) false last refl) f)
      ] in
      subst (λ (l : List LogRecord). is_among k (numbers l) ≡ true) (sym (all_but_last us s.init s.last s.split)) front)
]

pop : (rs : List LogRecord) (r : LogRecord) (t n : ℕ) (us : List LogRecord) (c : RowChange) → IsLeftOf rs t us → r.body ≡ body.Compensation c n → is_next n us ≡ true → IsLeftOf (rs ++ r ∷ []) t (take (length us - 1) us)
pop rs r t n us c h is next = elim (snoc_view us) [
  | inl e ↦ absurd (none_next n us e next)
  | inr s ↦ pop_split rs r t n us c h is s next
]

own_body : (rs : List LogRecord) (r : LogRecord) (t : ℕ) (c : Course) (b : Body) → IsLeftOf rs t c.undo → r.body ≡ b → IsLeftOf (rs ++ r ∷ []) t (after_body c r b).undo
own_body rs r t c (body.RowChange change) h is = push rs r t c.undo change h
own_body rs r t c (body.Compensation change n) h is =
    cond_both (is_next n c.undo) (undone_one c) c (λ (d : Course). IsLeftOf (rs ++ r ∷ []) t d.undo)
    (λ next. pop rs r t n c.undo change h is next) (λ other. stays rs r t c.undo h (λ k e. no_row (body.Compensation change n) t k r is refl e))
own_body rs r t c (body.System patches) h is = stays rs r t c.undo h (λ k e. no_row (body.System patches) t k r is refl e)
own_body rs r t c body.Commit h is = stays rs r t c.undo h (λ k e. no_row body.Commit t k r is refl e)
own_body rs r t c body.Ended h is = stays rs r t c.undo h (λ k e. no_row body.Ended t k r is refl e)
own_body rs r t c (body.Checkpoint offset) h is = stays rs r t c.undo h (λ k e. no_row (body.Checkpoint offset) t k r is refl e)
own_body rs r t c body.RestartEnd h is = stays rs r t c.undo h (λ k e. no_row body.RestartEnd t k r is refl e)

left_more : (rs : List LogRecord) (r : LogRecord) → AllLeft rs → AllLeft (rs ++ r ∷ [])
left_more rs r h = λ t.
    subst (λ (c : Course). IsLeftOf (rs ++ r ∷ []) t c.undo) (sym (course_last new_course t rs r))
    (cond_both (r.tran == t) (after_body (course_in new_course t rs) r r.body) (course_in new_course t rs) (λ (c : Course). IsLeftOf (rs ++ r ∷ []) t c.undo)
    (λ own. own_body rs r t (course_in new_course t rs) r.body (h t) refl)
    (λ other. stays rs r t (undo_of rs t) (h t) (λ k e. both_ways (r.tran == t) other (eq-eqb r.tran t (change_parts t k r e).tran))))

left_from : (earlier rs : List LogRecord) → AllLeft earlier → AllLeft (earlier ++ rs)
left_from earlier [] h = subst AllLeft (sym (append-nil earlier)) h
left_from earlier (r ∷ rs) h = subst AllLeft (append_assoc earlier (r ∷ []) rs) (left_from (earlier ++ r ∷ []) rs (left_more earlier r h))

left_none : AllLeft []
left_none = λ t k is free. absurd cc

all_left : (rs : List LogRecord) → AllLeft rs
all_left rs = left_from [] rs left_none

-- ---- so it has ended

settled_by : (row commit taken : Bool) → (commit ≡ true) ⊎ (taken ≡ true) → (row && not (commit || taken)) ≡ false
settled_by false commit taken h = refl
settled_by true true taken h = refl
settled_by true false true h = refl
settled_by true false false (inl e) = absurd cc
settled_by true false false (inr e) = absurd cc

not_and : (a b : Bool) → b ≡ false → not (a && b) ≡ true
not_and true b h = ap not h
not_and false b h = refl

-- one row change of the transaction, of which the records have one with its number
not_open : (rs : List LogRecord) (t : ℕ) (s : LogRecord) → (has_commit rs t ≡ true) ⊎ (undo_of rs t ≡ []) → s.tran ≡ t → has_change t s.lrsn rs ≡ true → is_open rs s ≡ false
not_open rs t s (inl e) tran made = settled_by (is_row_change s.body) (has_commit rs s.tran) (is_taken s.lrsn rs) (inl (ap (has_commit rs) tran ∙ e))
not_open rs t s (inr e) tran made = settled_by (is_row_change s.body) (has_commit rs s.tran) (is_taken s.lrsn rs) (inr (elim (cases_Bool (is_taken s.lrsn rs)) [
  | inl f ↦ f
  | inr f ↦ absurd (none_left rs t s.lrsn e (all_left rs t s.lrsn made f))
]))

no_row_open : (rs : List LogRecord) (s : LogRecord) → is_row_change s.body ≡ false → is_open rs s ≡ false
no_row_open rs s h = ap (λ (b : Bool). b && not (has_commit rs s.tran || is_taken s.lrsn rs)) h

passes : (rs : List LogRecord) (t : ℕ) (s : LogRecord) → (has_commit rs t ≡ true) ⊎ (undo_of rs t ≡ []) → ((k : ℕ) → is_change t k s ≡ true → has_change t k rs ≡ true) → not ((s.tran == t) && is_open rs s) ≡ true
passes rs t s h among = elim (cases_Bool (s.tran == t)) [
  | inr e ↦ ap (λ (b : Bool). not (b && is_open rs s)) e
  | inl e ↦ elim (cases_Bool (is_row_change s.body)) [
    | inr f ↦ not_and (s.tran == t) (is_open rs s) (no_row_open rs s f)
    | inl f ↦ (
        let is : is_change t s.lrsn s ≡ true = and_from (is_row_change s.body && (s.tran == t)) (s.lrsn == s.lrsn) (and_from (is_row_change s.body) (s.tran == t) f e) (itself s.lrsn) in
        not_and (s.tran == t) (is_open rs s) (not_open rs t s h (eqb-true s.tran t e) (among s.lrsn is)))
  ]
]

each_passes : (rs done xs : List LogRecord) (t : ℕ) → rs ≡ done ++ xs → (has_commit rs t ≡ true) ⊎ (undo_of rs t ≡ []) → list_all (λ (s : LogRecord). not ((s.tran == t) && is_open rs s)) xs ≡ true
each_passes rs done [] t e h = refl
each_passes rs done (x ∷ xs) t e h =
    let among : (k : ℕ) → is_change t k x ≡ true → has_change t k rs ≡ true =
    λ k is. ap (has_change t k) e ∙ list_any-append (λ (s : LogRecord). is_change t k s) done (x ∷ xs) ∙ or_right (has_change t k done) (has_change t k (x ∷ xs)) (or_left (is_change t k x) (has_change t k xs) is) in
    and_from (not ((x.tran == t) && is_open rs x)) (list_all (λ (s : LogRecord). not ((s.tran == t) && is_open rs s)) xs) (passes rs t x h among)
    (each_passes rs (done ++ x ∷ []) xs t (e ∙ sym (append_assoc done (x ∷ []) xs)) h)

settled_course : (rs : List LogRecord) (t : ℕ) → ((course_of rs t).is_committed ≡ true) ⊎ (length (course_of rs t).undo ≡ 0) → (has_commit rs t ≡ true) ⊎ (undo_of rs t ≡ [])
settled_course rs t (inl e) = inl (sym (commits t rs) ∙ e)
settled_course rs t (inr e) = inr (nil_from_length (undo_of rs t) e)

pub ends_where_nothing_is_left : EndsWhereNothingIsLeft
ends_where_nothing_is_left rs t h = each_passes rs [] rs t refl (settled_course rs t h)
