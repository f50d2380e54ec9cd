-- Of transactions for which nothing is put into a plan's queue nothing is to be undone.
use Rattle.std.proofs.Common.{◌≡◌, ◌≢◌, ℕ, zero, suc, ◌-◌, ◌≤◌, Bool, true, false, cond, List, [], ◌∷◌, ◌++◌, length, map, Option, Some, None, inl, inr, refl, sym, ap, subst, ◌∙◌, arith, append_assoc}
use Rattle.std.specs.Prelude.{◌⊎◌, ◌==◌, not, ◌||◌, ◌&&◌, filter, slice_get}
use Rattle.std.specs.List.{AllByRecursion}
use Rattle.std.specs.Ordering.{nat_cmp, eq_by_cmp}
use Rattle.std.specs.FinMap.{entries, find, get, get-entries}
use Rattle.std.proofs.lemmas.Bool.{cond_both, cases_Bool, or_cases, or_left, or_right, both_ways, eqb-true, ne_eqb}
use Rattle.std.proofs.lemmas.Bool.Decides.{nat_tests}
use Rattle.std.proofs.lemmas.List.{append-nil, nil_from_length}
use Rattle.std.proofs.lemmas.List.Elements.{filter-append}
use Rattle.ds_model.specs.declared.log.LogRecord.{LogRecord}
use Rattle.ds_model.specs.declared.log.RowChange.{RowChange}
use Rattle.ds_model.specs.declared.log.Body.{Body}
use Rattle.ds_model.specs.declared.log.Body.TheVariants as body
use Rattle.log_record.specs.declared.log.Log.{Log}
use Rattle.log_trans.specs.declared.course.Course.{Course}
use Rattle.log_trans.specs.declared.opened.OpenTran.{OpenTran}
use Rattle.log_trans.specs.Courses as courses
use Rattle.log_trans.specs.Courses.{Courses, new_course, is_next, undone_one, after_body, courses_of, is_open, open_among, open_tran, open_trans}
use Rattle.log_trans.specs.Damage.{body_fault, nothing_undone, unless, tran_at, undone_at}
use Rattle.restart_plan.specs.declared.opened.Undo.{Undo}
use Rattle.sound_disk.specs.Transactions.{is_among, course_in, MayFollow, EachFollows}
use Rattle.sound_appends.proofs.Left.{course_last}
use Rattle.sound_plans.specs.Opens.{course_of, IsOpenTran, OpensTell}
use Rattle.sound_plans.specs.Queues.{records_for, undos, IsOwnChange, is_of, IsSettled}
use Rattle.sound_plans.proofs.Opens.{Tells, tells_all}
use Rattle.sound_plans.proofs.Members.{IsSoundLog}
use Rattle.sound_plans.proofs.Planned_queue.{put_tran, put_trans, put_last, put_log, put_logs, ids, all_pass, tran_of}
use Rattle.sound_plans.proofs.Queues.{own_some, head_none}

-- ---- a transaction that has ended

-- it has a Commit, or it was rolled back whole
abbrev pub IsOver : Course → Type 0
IsOver c = (c.is_committed ≡ true) ⊎ ((c.undo ≡ []) × ((length c.undone == 0) ≡ false))

abbrev pub OverIfEnded : Course → Type 0
OverIfEnded c = c.is_ended ≡ true → IsOver c

unless_none : (b : Bool) (at : ℕ) → unless b at ≡ None → b ≡ true
unless_none true at h = refl
unless_none false at h = absurd cc

-- no compensation stands beside a Commit, or where nothing is left
none_beside : (c n : Bool) (a b : ℕ) → c ≡ true → cond c (Some a) (unless n b) ≡ None → ⊥
none_beside true n a b e h = cc
none_beside false n a b e h = cc

none_next_if : (c n : Bool) (a b : ℕ) → cond c (Some a) (unless n b) ≡ None → n ≡ true
none_next_if true n a b h = absurd cc
none_next_if false true a b h = refl
none_next_if false false a b h = absurd cc

nothing_next : (n : ℕ) (us : List LogRecord) → us ≡ [] → is_next n us ≡ true → ⊥
nothing_next n us e h = let k : is_next n [] ≡ true = subst (λ (l : List LogRecord). is_next n l ≡ true) e h in cc

ended_cases : (c u n : Bool) (at : ℕ) → unless (c || (u && not n)) at ≡ None → (c ≡ true) ⊎ ((u ≡ true) × (n ≡ false))
ended_cases true u n at h = inl refl
ended_cases false true false at h = inr (refl, refl)
ended_cases false true true at h = absurd cc
ended_cases false false n at h = absurd cc

ended_back : (b : Bool) (c : Course) → (cond b (undone_one c) c).is_ended ≡ true → c.is_ended ≡ true
ended_back true c h = h
ended_back false c h = h

row_fits : (c : Course) (r : LogRecord) (change : RowChange) → body_fault c r (body.RowChange change) ≡ None → (length c.undone == 0) ≡ true
row_fits c r change h = unless_none (nothing_undone c) (tran_at r) h

over_row : (c : Course) (r : LogRecord) (change : RowChange) → IsOver c → body_fault c r (body.RowChange change) ≡ None → IsOver (after_body c r (body.RowChange change))
over_row c r change (inl e) h = inl e
over_row c r change (inr e) h = absurd (both_ways (length c.undone == 0) e.1 (row_fits c r change h))

over_back : (c : Course) (r : LogRecord) (change : RowChange) (n : ℕ) → IsOver c → body_fault c r (body.Compensation change n) ≡ None → IsOver (after_body c r (body.Compensation change n))
over_back c r change n (inl e) h = absurd (none_beside c.is_committed (is_next n c.undo) (tran_at r) (undone_at r) e h)
over_back c r change n (inr e) h = absurd (nothing_next n c.undo e.0 (none_next_if c.is_committed (is_next n c.undo) (tran_at r) (undone_at r) h))

ended_over : (c : Course) (r : LogRecord) → body_fault c r body.Ended ≡ None → IsOver (courses.ended c)
ended_over c r h = elim (ended_cases c.is_committed (length c.undo == 0) (nothing_undone c) (tran_at r) h) [
  | inl e ↦ inl e
  | inr e ↦ inr (nil_from_length c.undo (eqb-true (length c.undo) 0 e.0), e.1)
]

over_more : (c : Course) (r : LogRecord) (b : Body) → OverIfEnded c → body_fault c r b ≡ None → OverIfEnded (after_body c r b)
over_more c r (body.RowChange change) h fits = λ is. over_row c r change (h is) fits
over_more c r (body.Compensation change n) h fits = λ is. over_back c r change n (h (ended_back (is_next n c.undo) c is)) fits
over_more c r (body.System patches) h fits = h
over_more c r body.Commit h fits = λ is. inl refl
over_more c r body.Ended h fits = λ is. ended_over c r fits
over_more c r (body.Checkpoint offset) h fits = h
over_more c r body.RestartEnd h fits = h

abbrev pub AllOver : List LogRecord → Type 0
AllOver rs = (t : ℕ) → OverIfEnded (course_in new_course t rs)

over_last : (rs : List LogRecord) (r : LogRecord) → MayFollow rs r → AllOver rs → AllOver (rs ++ r ∷ [])
over_last rs r f h = λ t.
    subst OverIfEnded (sym (course_last new_course t rs r))
    (cond_both (r.tran == t) (after_body (course_in new_course t rs) r r.body) (course_in new_course t rs) OverIfEnded
    (λ own. over_more (course_in new_course t rs) r r.body (h t) (subst (λ (u : ℕ). body_fault (course_in new_course u rs) r r.body ≡ None) (eqb-true r.tran t own) f.fits))
    (λ other. h t))

over_from : (earlier rs : List LogRecord) → EachFollows earlier rs → AllOver earlier → AllOver (earlier ++ rs)
over_from earlier [] f h = subst AllOver (sym (append-nil earlier)) h
over_from earlier (r ∷ rs) f h = subst AllOver (append_assoc earlier (r ∷ []) rs) (over_from (earlier ++ r ∷ []) rs f.1 (over_last earlier r f.0 h))

over_none : AllOver []
over_none = λ t is. absurd cc

pub all_over : (rs : List LogRecord) → EachFollows [] rs → AllOver rs
all_over rs f = over_from [] rs f over_none

-- ---- each open transaction is listed

same_key : (k n : ℕ) → eq_by_cmp nat_cmp k n ≡ (n == k)
same_key k n = grind (arith, nat_tests)

pub listed : (es : List (ℕ × Course)) (t : ℕ) (c : Course) → find nat_cmp t es ≡ Some c → is_open c ≡ true → is_among t (ids (open_among es)) ≡ true
listed [] t c h o = absurd cc
listed (e ∷ es) t c h o = elim (cases_Bool (e.0 == t)) [
  | inl is ↦ (
      let here : Some e.1 ≡ Some c = sym (ap (λ (b : Bool). cond b (Some e.1) (find nat_cmp t es)) (same_key t e.0 ∙ is)) ∙ h in
      let same : e.1 ≡ c = cc in
      let opened : is_open e.1 ≡ true = ap is_open same ∙ o in
      ap (λ (b : Bool). is_among t (ids (map open_tran (cond b (e ∷ filter (λ (f : ℕ × Course). is_open f.1) es) (filter (λ (f : ℕ × Course). is_open f.1) es))))) opened
      ∙ or_left (e.0 == t) (is_among t (ids (open_among es))) is)
  | inr other ↦ (
      let there : find nat_cmp t es ≡ Some c = sym (ap (λ (b : Bool). cond b (Some e.1) (find nat_cmp t es)) (same_key t e.0 ∙ other)) ∙ h in
      let rest = listed es t c there o in
      cond_both (is_open e.1) (e ∷ filter (λ (f : ℕ × Course). is_open f.1) es) (filter (λ (f : ℕ × Course). is_open f.1) es) (λ (l : List (ℕ × Course)). is_among t (ids (map open_tran l)) ≡ true)
      (λ is. or_right (e.0 == t) (is_among t (ids (open_among es))) rest) (λ is. rest))
]

pub some_course : (rs : List LogRecord) (m : Courses) (t : ℕ) (o : Option Course) → Tells rs m → (t == 0) ≡ false → get m t ≡ o → (course_in new_course t rs ≡ new_course) ⊎ (o ≡ Some (course_in new_course t rs))
some_course rs m t None h some e = inl (sym (h.course t some) ∙ ap courses.course_of e)
some_course rs m t (Some c) h some e = inr (ap (λ (d : Course). Some d) (sym (ap courses.course_of e) ∙ h.course t some))

pub open_is : (c : Course) → c.is_committed ≡ false → c.is_ended ≡ false → is_open c ≡ true
open_is c h k = ap (λ (b : Bool). not b && not c.is_ended) h ∙ ap not k

-- a transaction is settled, or listed as open
settled_or_listed : (rs : List LogRecord) (t : ℕ) → EachFollows [] rs → (t == 0) ≡ false → (((course_of rs t).is_committed ≡ true) ⊎ ((course_of rs t).undo ≡ [])) ⊎ (is_among t (ids (open_trans rs)) ≡ true)
settled_or_listed rs t f some =
    let c = course_in new_course t rs in
    elim (cases_Bool c.is_committed) [
      | inl e ↦ inl (inl e)
      | inr e ↦ elim (cases_Bool c.is_ended) [
        | inl k ↦ elim (all_over rs f t k) [
          | inl o ↦ inl (inl o)
          | inr o ↦ inl (inr o.0)
        ]
        | inr k ↦ elim (some_course rs (courses_of rs) t (get (courses_of rs) t) (tells_all rs) some refl) [
          | inl n ↦ inl (inr (ap (λ (d : Course). d.undo) n))
          | inr s ↦ inr (listed (entries (courses_of rs)) t c (sym (get-entries (courses_of rs) t) ∙ s) (open_is c e k))
        ]
      ]
    ]

get_none : (xs : List LogRecord) (n : ℕ) → slice_get xs n ≡ None → length xs ≤ n
get_none [] n h = omega arith
get_none (x ∷ xs) zero h = absurd cc
get_none (x ∷ xs) (suc n) h = let ih = get_none xs n h in omega (arith, ih)

-- ---- nothing was put

left_nil : (xs ys : List Undo) → xs ++ ys ≡ [] → xs ≡ []
left_nil [] ys h = refl
left_nil (x ∷ xs) ys h = absurd cc

right_nil : (xs ys : List Undo) → xs ++ ys ≡ [] → ys ≡ []
right_nil [] ys h = h
right_nil (x ∷ xs) ys h = absurd cc

front_nil : (p : Undo → Bool) (xs ys : List Undo) → filter p (xs ++ ys) ≡ [] → filter p xs ≡ []
front_nil p xs ys h = left_nil (filter p xs) (filter p ys) (sym (filter-append p xs ys) ∙ h)

back_nil : (p : Undo → Bool) (xs ys : List Undo) → filter p (xs ++ ys) ≡ [] → filter p ys ≡ []
back_nil p xs ys h = right_nil (filter p xs) (filter p ys) (sym (filter-append p xs ys) ∙ h)

tran_nil : (m : ℕ) (o : OpenTran) → o.id ≢ 0 → AllByRecursion (IsOwnChange o.id) o.undo → put_tran m o ≡ [] → o.undo ≡ []
tran_nil m o some own h = elim (cases_Bool (length o.undo == 0)) [
  | inl e ↦ nil_from_length o.undo (eqb-true (length o.undo) 0 e)
  | inr e ↦ (
      let first : put_tran m o ≡ undos m o.id true o.undo = ap (λ (b : Bool). cond b [] (cond (length o.undo == 0) [] (undos m o.id true o.undo))) (ne_eqb o.id 0 some) ∙ ap (λ (b : Bool). cond b [] (undos m o.id true o.undo)) e in
      head_none m o.id true o.undo own (sym first ∙ h))
]

trans_nil : (m t : ℕ) (ts : List OpenTran) (log : Log) → IsSoundLog log → AllByRecursion (IsOpenTran log.records) ts → is_among t (ids ts) ≡ true → filter (is_of m t) (put_trans m ts) ≡ [] → (course_of log.records t).undo ≡ []
trans_nil m t [] log s o is h = absurd cc
trans_nil m t (x ∷ ts) log s o is h = elim (or_cases (x.id == t) (is_among t (ids ts)) is) [
  | inl e ↦ (
      let id : x.id ≡ t = eqb-true x.id t e in
      let own : filter (is_of m x.id) (put_tran m x) ≡ put_tran m x = all_pass m x.id (put_tran m x) (tran_of m x) in
      let nothing : put_tran m x ≡ [] = sym own ∙ ap (λ (n : ℕ). filter (is_of m n) (put_tran m x)) id ∙ front_nil (is_of m t) (put_tran m x) (put_trans m ts) h in
      let undo : x.undo ≡ [] = tran_nil m x o.0.numbered (subst (AllByRecursion (IsOwnChange x.id)) (sym o.0.undo_is) (s.neat x.id).own) nothing in
      ap (λ (n : ℕ). (course_of log.records n).undo) (sym id) ∙ sym o.0.undo_is ∙ undo)
  | inr e ↦ trans_nil m t ts log s o.1 e (back_nil (is_of m t) (put_tran m x) (put_trans m ts) h)
]

none_of_zero : (t : ℕ) (us : List LogRecord) → t ≡ 0 → AllByRecursion (IsOwnChange t) us → us ≡ []
none_of_zero t [] z h = refl
none_of_zero t (u ∷ us) z h = absurd (own_some t u h.0 z)

last_there : (x : LogRecord) (rs : List LogRecord) → slice_get (x ∷ rs) (length (x ∷ rs) - 1) ≡ None → ⊥
last_there x rs h = let n = get_none (x ∷ rs) (length (x ∷ rs) - 1) h in omega (arith, n)

pub no_records : (rs : List LogRecord) → slice_get rs (length rs - 1) ≡ None → rs ≡ []
no_records [] h = refl
no_records (x ∷ rs) h = absurd (last_there x rs h)

-- of one log
log_settled : OpensTell → (log : Log) (t : ℕ) (found : Option LogRecord) → slice_get log.records (length log.records - 1) ≡ found → IsSoundLog log → filter (is_of log.member t) (put_last log.member (open_trans log.records) found) ≡ []
    → ((course_of log.records t).is_committed ≡ true) ⊎ ((course_of log.records t).undo ≡ [])
log_settled tell log t None e s h = inr (ap (λ (rs : List LogRecord). (course_of rs t).undo) (no_records log.records e))
log_settled tell log t (Some last) e s h = elim (cases_Bool (t == 0)) [
  | inl z ↦ inr (none_of_zero t (course_of log.records t).undo (eqb-true t 0 z) (s.neat t).own)
  | inr z ↦ elim (settled_or_listed log.records t s.follow z) [
    | inl k ↦ k
    | inr k ↦ inr (trans_nil log.member t (open_trans log.records) log s (tell log.records) k h)
  ]
]

-- of all
pub nothing_settled : OpensTell → (m t : ℕ) (logs : List Log) → AllByRecursion IsSoundLog logs → filter (is_of m t) (put_logs logs) ≡ [] → IsSettled logs m t
nothing_settled tell m t [] s h = inr refl
nothing_settled tell m t (log ∷ logs) s h = elim (cases_Bool (log.member == m)) [
  | inl e ↦ (
      let is : log.member ≡ m = eqb-true log.member m e in
      let records : records_for (log ∷ logs) m ≡ log.records = ap (λ (b : Bool). cond b log.records (records_for logs m)) e in
      let own : filter (is_of log.member t) (put_log log) ≡ [] = ap (λ (n : ℕ). filter (is_of n t) (put_log log)) is ∙ front_nil (is_of m t) (put_log log) (put_logs logs) h in
      subst (λ (rs : List LogRecord). ((course_of rs t).is_committed ≡ true) ⊎ ((course_of rs t).undo ≡ [])) (sym records)
      (log_settled tell log t (slice_get log.records (length log.records - 1)) refl s.0 own))
  | inr e ↦ (
      let records : records_for (log ∷ logs) m ≡ records_for logs m = ap (λ (b : Bool). cond b log.records (records_for logs m)) e in
      subst (λ (rs : List LogRecord). ((course_of rs t).is_committed ≡ true) ⊎ ((course_of rs t).undo ≡ [])) (sym records)
      (nothing_settled tell m t logs s.1 (back_nil (is_of m t) (put_log log) (put_logs logs) h)))
]
