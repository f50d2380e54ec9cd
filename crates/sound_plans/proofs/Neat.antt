-- What is to be undone of a transaction are row changes of it, whose numbers rise.
use Rattle.std.proofs.Common.{◌≡◌, ℕ, zero, suc, ◌-◌, ◌<◌, ◌≤◌, true, false, List, [], ◌∷◌, ◌++◌, length, take, inl, inr, refl, sym, ap, subst, ◌∙◌, arith, append_assoc}
use Rattle.std.specs.Prelude.{◌==◌}
use Rattle.std.specs.List.{AllByRecursion}
use Rattle.std.proofs.lemmas.Bool.{cond_both, or_cases, or_left, or_right, both_ways, eqb-true}
use Rattle.std.proofs.lemmas.List.{append-nil}
use Rattle.ds_model.specs.declared.log.LogRecord.{LogRecord}
use Rattle.ds_model.specs.declared.log.RowChange.{RowChange}
use Rattle.ds_model.specs.declared.log.Body.{Body}
use Rattle.ds_model.specs.declared.log.Body.TheVariants as body
use Rattle.ds_model.specs.RecordBytes.{IsAllowed, BodyIsAllowed, TranFits, is_of_tran}
use Rattle.log_record.specs.Changes.{is_drawn}
use Rattle.log_trans.specs.declared.course.Course.{Course}
use Rattle.log_trans.specs.Courses.{new_course, is_next, undone_one, row_record, after_body}
use Rattle.log_merge.specs.Merging.{RisesFrom}
use Rattle.sound_disk.specs.Transactions.{drawn_numbers, is_among, all_differ, course_in, EachFollows}
use Rattle.sound_appends.proofs.Left.{has_change, is_change, change_parts, numbers, change_drawn, drawn_more, differ_front, IsLeft, AreLeft, undo_of, course_last, left_none, left_with, new_number, itself}
use Rattle.sound_plans.specs.Queues.{IsOwnChange}

-- ---- records whose numbers rise

abbrev pub AreStrict : List LogRecord → Type 0
AreStrict [] = Unit {0}
AreStrict (r ∷ rs) = AllByRecursion (λ (s : LogRecord). r.lrsn < s.lrsn) rs × AreStrict rs

all_push : (P : LogRecord → Type 0) (rs : List LogRecord) (r : LogRecord) → AllByRecursion P rs → P r → AllByRecursion P (rs ++ r ∷ [])
all_push P [] r h k = (k, tt)
all_push P (x ∷ rs) r h k = (h.0, all_push P rs r h.1 k)

all_take : (P : LogRecord → Type 0) (n : ℕ) (rs : List LogRecord) → AllByRecursion P rs → AllByRecursion P (take n rs)
all_take P zero rs h = tt
all_take P (suc n) [] h = tt
all_take P (suc n) (x ∷ rs) h = (h.0, all_take P n rs h.1)

strict_push : (rs : List LogRecord) (r : LogRecord) → AreStrict rs → AllByRecursion (λ (s : LogRecord). s.lrsn < r.lrsn) rs → AreStrict (rs ++ r ∷ [])
strict_push [] r h low = (tt, tt)
strict_push (x ∷ rs) r h low = (all_push (λ (s : LogRecord). x.lrsn < s.lrsn) rs r h.0 low.0, strict_push rs r h.1 low.1)

strict_take : (n : ℕ) (rs : List LogRecord) → AreStrict rs → AreStrict (take n rs)
strict_take zero rs h = tt
strict_take (suc n) [] h = tt
strict_take (suc n) (x ∷ rs) h = (all_take (λ (s : LogRecord). x.lrsn < s.lrsn) n rs h.0, strict_take n rs h.1)

-- ---- numbers below the next one

rises_to : (low : ℕ) (rs : List LogRecord) (r : LogRecord) → RisesFrom low (rs ++ r ∷ []) → low ≤ r.lrsn
rises_to low [] r h = h.0
rises_to low (x ∷ rs) r h = let up = rises_to x.lrsn rs r h.1 in let first = h.0 in omega (arith, up, first)

low_change : (t k low : ℕ) (rs : List LogRecord) (r : LogRecord) → RisesFrom low (rs ++ r ∷ []) → has_change t k rs ≡ true → k ≤ r.lrsn
low_change t k low [] r h is = absurd cc
low_change t k low (x ∷ rs) r h is = elim (or_cases (is_change t k x) (has_change t k rs) is) [
  | inl e ↦ (let number = (change_parts t k x e).number in let up = rises_to x.lrsn rs r h.1 in omega (arith, number, up))
  | inr e ↦ low_change t k x.lrsn rs r h.1 e
]

not_same : (k n : ℕ) (ns : List ℕ) → is_among k ns ≡ true → is_among n ns ≡ false → k ≡ n → ⊥
not_same k n ns is new e = both_ways (is_among n ns) new (ap (λ (m : ℕ). is_among m ns) (sym e) ∙ is)

all_among : (n : ℕ) (us : List LogRecord) → ((k : ℕ) → is_among k (numbers us) ≡ true → k < n) → AllByRecursion (λ (s : LogRecord). s.lrsn < n) us
all_among n [] h = tt
all_among n (u ∷ us) h =
    (h u.lrsn (or_left (u.lrsn == u.lrsn) (is_among u.lrsn (numbers us)) (itself u.lrsn)), all_among n us (λ k is. h k (or_right (u.lrsn == k) (is_among k (numbers us)) is)))

left_below : (rs : List LogRecord) (r : LogRecord) (t : ℕ) (us : List LogRecord) → IsLeft rs t us → RisesFrom 0 (rs ++ r ∷ []) → is_among r.lrsn (drawn_numbers rs) ≡ false → AllByRecursion (λ (s : LogRecord). s.lrsn < r.lrsn) us
left_below rs r t us h rises new = all_among r.lrsn us (λ k is.
    let made = h.made k is in
    let low = low_change t k 0 rs r rises made in
    let other : k ≡ r.lrsn → ⊥ = not_same k r.lrsn (drawn_numbers rs) (change_drawn t k rs made) new in
    omega (arith, low, other))

-- ---- one transaction

pub record IsNeat (t : ℕ) (us : List LogRecord) : Type 0 where
  pub own : AllByRecursion (IsOwnChange t) us
  pub strict : AreStrict us

row_allowed : (r : LogRecord) (c : RowChange) → r.body ≡ body.RowChange c → IsAllowed r → IsAllowed (row_record r c)
row_allowed r c is a = record {
  lrsn_in = a.lrsn_in;
  tran_fits = subst (λ (b : Body). TranFits (is_of_tran b) r.tran) is a.tran_fits;
  tran_in = a.tran_in;
  body_is = subst (BodyIsAllowed r.version) is a.body_is;
}

neat_push : (rs : List LogRecord) (r : LogRecord) (t : ℕ) (us : List LogRecord) (c : RowChange) → IsLeft rs t us → IsNeat t us → IsAllowed r → r.body ≡ body.RowChange c → r.tran ≡ t → RisesFrom 0 (rs ++ r ∷ []) → is_among r.lrsn (drawn_numbers rs) ≡ false
    → IsNeat t (us ++ row_record r c ∷ [])
neat_push rs r t us c left h a is tran rises new = record {
  own = all_push (IsOwnChange t) us (row_record r c) h.own (record { allowed = row_allowed r c is a; tran_is = tran; change = c; body_is = refl });
  strict = strict_push us (row_record r c) h.strict (left_below rs r t us left rises new);
}

neat_take : (t n : ℕ) (us : List LogRecord) → IsNeat t us → IsNeat t (take n us)
neat_take t n us h = record { own = all_take (IsOwnChange t) n us h.own; strict = strict_take n us h.strict }

neat_body : (rs : List LogRecord) (r : LogRecord) (t : ℕ) (c : Course) (b : Body) → IsLeft rs t c.undo → IsNeat t c.undo → IsAllowed r → r.body ≡ b → r.tran ≡ t → RisesFrom 0 (rs ++ r ∷ []) → (is_drawn b ≡ true → is_among r.lrsn (drawn_numbers rs) ≡ false)
    → IsNeat t (after_body c r b).undo
neat_body rs r t c (body.RowChange change) left h a is tran rises new = neat_push rs r t c.undo change left h a is tran rises (new refl)
neat_body rs r t c (body.Compensation change n) left h a is tran rises new =
    cond_both (is_next n c.undo) (undone_one c) c (λ (d : Course). IsNeat t d.undo) (λ e. neat_take t (length c.undo - 1) c.undo h) (λ e. h)
neat_body rs r t c (body.System patches) left h a is tran rises new = h
neat_body rs r t c body.Commit left h a is tran rises new = h
neat_body rs r t c body.Ended left h a is tran rises new = h
neat_body rs r t c (body.Checkpoint offset) left h a is tran rises new = h
neat_body rs r t c body.RestartEnd left h a is tran rises new = h

-- ---- all transactions of a log

abbrev pub AreNeat : List LogRecord → Type 0
AreNeat rs = (t : ℕ) → IsNeat t (undo_of rs t)

neat_more : (rs : List LogRecord) (r : LogRecord) → AreLeft rs → AreNeat rs → IsAllowed r → RisesFrom 0 (rs ++ r ∷ []) → all_differ (drawn_numbers (rs ++ r ∷ [])) ≡ true → AreNeat (rs ++ r ∷ [])
neat_more rs r left h a rises differ = λ t.
    subst (λ (c : Course). IsNeat t c.undo) (sym (course_last new_course t rs r))
    (cond_both (r.tran == t) (after_body (course_in new_course t rs) r r.body) (course_in new_course t rs) (λ (c : Course). IsNeat t c.undo)
    (λ own. neat_body rs r t (course_in new_course t rs) r.body (left.left t) (h t) a refl (eqb-true r.tran t own) rises (new_number rs r differ))
    (λ other. h t))

rises_front : (low : ℕ) (xs ys : List LogRecord) → RisesFrom low (xs ++ ys) → RisesFrom low xs
rises_front low [] ys h = tt
rises_front low (x ∷ xs) ys h = (h.0, rises_front x.lrsn xs ys h.1)

neat_from : (earlier rs : List LogRecord) → AreLeft earlier → AreNeat earlier → AllByRecursion IsAllowed rs → EachFollows earlier rs → RisesFrom 0 (earlier ++ rs) → all_differ (drawn_numbers (earlier ++ rs)) ≡ true → AreNeat (earlier ++ rs)
neat_from earlier [] left h a f rises differ = subst AreNeat (sym (append-nil earlier)) h
neat_from earlier (r ∷ rs) left h a f rises differ =
    let same : (earlier ++ r ∷ []) ++ rs ≡ earlier ++ r ∷ rs = append_assoc earlier (r ∷ []) rs in
    let all : all_differ (drawn_numbers ((earlier ++ r ∷ []) ++ rs)) ≡ true = subst (λ (l : List LogRecord). all_differ (drawn_numbers l) ≡ true) (sym same) differ in
    let up : RisesFrom 0 ((earlier ++ r ∷ []) ++ rs) = subst (RisesFrom 0) (sym same) rises in
    let front : all_differ (drawn_numbers (earlier ++ r ∷ [])) ≡ true =
    differ_front (drawn_numbers (earlier ++ r ∷ [])) (drawn_numbers rs) (subst (λ (ns : List ℕ). all_differ ns ≡ true) (drawn_more (earlier ++ r ∷ []) rs) all) in
    subst AreNeat same (neat_from (earlier ++ r ∷ []) rs (left_with earlier r left front f.0) (neat_more earlier r left h a.0 (rises_front 0 (earlier ++ r ∷ []) rs up) front) a.1 f.1 up all)

neat_none : AreNeat []
neat_none = λ t. record { own = tt; strict = tt }

-- of a log whose records may stand there, rise and fit each other
pub are_neat : (rs : List LogRecord) → AllByRecursion IsAllowed rs → EachFollows [] rs → RisesFrom 0 rs → all_differ (drawn_numbers rs) ≡ true → AreNeat rs
are_neat rs a f rises differ = neat_from [] rs left_none neat_none a f rises differ
