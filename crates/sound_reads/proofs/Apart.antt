-- A transaction that has a record behind a Checkpoint from which a log is kept has none before it.
use Rattle.std.proofs.Common.{◌≡◌, ℕ, ◌≤◌, ◌<◌, Bool, true, false, cond, List, [], ◌∷◌, ◌++◌, None, inl, inr, refl, sym, ap, subst, ◌∙◌, append_assoc, arith}
use Rattle.std.specs.Prelude.{◌⊎◌, ◌==◌, nat_lt, nat_le, not, ◌||◌, ◌&&◌}
use Rattle.std.specs.List.{AllByRecursion, list_all}
use Rattle.std.proofs.lemmas.Bool.{cases_Bool, both_ways, and_parts, or_parts}
use Rattle.std.proofs.lemmas.Bool.Decides.{nat_tests}
use Rattle.std.proofs.lemmas.List.{append-nil}
use Rattle.std.proofs.lemmas.List.Folds.{list_any-append}
use Rattle.ds_model.specs.declared.log.LogRecord.{LogRecord}
use Rattle.ds_model.specs.declared.log.Body.{Body}
use Rattle.ds_model.specs.declared.log.Body.TheVariants as body
use Rattle.ds_model.specs.declared.log.Version.{Version}
use Rattle.ds_model.specs.RecordBytes.{IsAllowed, is_of_tran, TranFits, is_written}
use Rattle.log_merge.specs.Merging.{RisesFrom}
use Rattle.log_reader.specs.Held.{names, is_earlier}
use Rattle.log_trans.specs.declared.course.Course.{Course}
use Rattle.log_trans.specs.Courses.{new_course, after_body}
use Rattle.log_trans.specs.Damage.{body_fault}
use Rattle.sound_disk.specs.Transactions.{speak_of, course_in, TakesBack, MayFollow, EachFollows}
use Rattle.sound_reads.specs.Reads.{BeginThere, MayBeginAt}

-- no record of the front is of this transaction
abbrev pub IsAway : List LogRecord → LogRecord → Type 0
IsAway front r = (r.tran == 0) ≡ false → speak_of r.tran front ≡ false

-- ---- a transaction has the number of its first record

equal : (m n : ℕ) → (m == n) ≡ true → m ≡ n
equal m n e = grind (arith, nat_tests)

speak_more : (t : ℕ) (xs ys : List LogRecord) → speak_of t (xs ++ ys) ≡ (speak_of t xs || speak_of t ys)
speak_more t xs ys = list_any-append (λ (r : LogRecord). r.tran == t) xs ys

or_none : (a b : Bool) → a ≡ false → b ≡ false → (a || (b || false)) ≡ false
or_none true b h k = absurd cc
or_none false true h k = absurd cc
or_none false false h k = refl

named_is : (a b d : Bool) → a ≡ false → b ≡ false → (a || b || d) ≡ true → d ≡ true
named_is true b d h k e = absurd cc
named_is false true d h k e = absurd cc
named_is false false d h k e = e

-- so none of the front has a greater one than all numbers of the front
first_number : (t n : ℕ) (earlier xs ys : List LogRecord) → (t == 0) ≡ false → speak_of t earlier ≡ false → EachFollows earlier (xs ++ ys) → AllByRecursion (λ (x : LogRecord). x.lrsn ≤ n) xs → speak_of t xs ≡ true → t ≤ n
first_number t n earlier [] ys some none follow low e = absurd cc
first_number t n earlier (x ∷ xs) ys some none follow low e =
    elim (cases_Bool (x.tran == t)) as (λ _. t ≤ n) [
      | inl here ↦
          let is : x.tran ≡ t = equal x.tran t here in
          let a : (x.tran == 0) ≡ false = ap (λ (k : ℕ). k == 0) is ∙ some in
          let b : speak_of x.tran earlier ≡ false = ap (λ (k : ℕ). speak_of k earlier) is ∙ none in
          let number : x.lrsn ≡ x.tran = equal x.lrsn x.tran (named_is (x.tran == 0) (speak_of x.tran earlier) (x.lrsn == x.tran) a b follow.0.named) in
          let le = low.0 in
          omega (arith, is, number, le)
      | inr other ↦
          let more : speak_of t (earlier ++ x ∷ []) ≡ false = speak_more t earlier (x ∷ []) ∙ or_none (speak_of t earlier) (x.tran == t) none other in
          let rest : speak_of t xs ≡ true = sym (ap (λ (b : Bool). b || speak_of t xs) other) ∙ e in
          first_number t n (earlier ++ x ∷ []) xs ys some more follow.1 low.1 rest
    ]

-- ---- numbers before the Checkpoint

pub all_low : (low n : ℕ) (xs : List LogRecord) (r : LogRecord) (rs : List LogRecord) → RisesFrom low (xs ++ r ∷ rs) → r.lrsn ≡ n → (low ≤ n) × AllByRecursion (λ (x : LogRecord). x.lrsn ≤ n) xs
all_low low n [] r rs h e = (let le = h.0 in omega (arith, le, e), tt)
all_low low n (x ∷ xs) r rs h e =
    let more = all_low x.lrsn n xs r rs h.1 e in
    (let one = more.0 in let le = h.0 in omega (arith, one, le), (more.0, more.1))

-- ---- records behind it

no_tran : (place : ℕ) (v : Version) (b : Body) (t : ℕ) → (is_written v && names place b) ≡ true → TranFits (is_of_tran b) t → t ≡ 0
no_tran place v (body.RowChange change) t e h = absurd (let p = and_parts (is_written v) false e in both_ways false refl p.1)
no_tran place v (body.Compensation change undone) t e h = absurd (let p = and_parts (is_written v) false e in both_ways false refl p.1)
no_tran place v (body.System patches) t e h = h
no_tran place v body.Commit t e h = absurd (let p = and_parts (is_written v) false e in both_ways false refl p.1)
no_tran place v body.Ended t e h = absurd (let p = and_parts (is_written v) false e in both_ways false refl p.1)
no_tran place v (body.Checkpoint offset) t e h = h
no_tran place v body.RestartEnd t e h = h

later_is : (low t : ℕ) → (t == 0) ≡ false → not (nat_lt 0 t && nat_le t low) ≡ true → low < t
later_is low t some e = grind (arith, nat_tests)

away_if : (t : ℕ) (xs : List LogRecord) (b : Bool) → speak_of t xs ≡ b → (b ≡ true → ⊥) → speak_of t xs ≡ false
away_if t xs true e f = absurd (f refl)
away_if t xs false e f = e

each_away : (n : ℕ) (front rest : List LogRecord) → ((t : ℕ) → (t == 0) ≡ false → n < t → speak_of t front ≡ false) → list_all (λ (r : LogRecord). not (is_earlier n r)) rest ≡ true → AllByRecursion (IsAway front) rest
each_away n front [] f h = tt
each_away n front (r ∷ rs) f h =
    let p = and_parts (not (is_earlier n r)) (list_all (λ (s : LogRecord). not (is_earlier n s)) rs) h in
    (λ some. f r.tran some (later_is n r.tran some p.0), each_away n front rs f p.1)

begin_away : (place : ℕ) (front : List LogRecord) (r : LogRecord) (rs : List LogRecord) → RisesFrom 0 (front ++ r ∷ rs) → EachFollows [] (front ++ r ∷ rs) → AllByRecursion IsAllowed (r ∷ rs) → BeginThere place r rs → AllByRecursion (IsAway front) (r ∷ rs)
begin_away place front r rs rises follow allowed h =
    let low = (all_low 0 r.lrsn front r rs rises refl).1 in
    let none : r.tran ≡ 0 = no_tran place r.version r.body r.tran h.begins allowed.0.tran_fits in (
      λ some. absurd (both_ways (r.tran == 0) some (ap (λ (k : ℕ). k == 0) none)),
      each_away r.lrsn front rs
          (λ t some lt. away_if t front (speak_of t front) refl (λ e. let le = first_number t r.lrsn [] front (r ∷ rs) some refl follow low e in let no : ⊥ = omega (arith, le, lt) in no))
          h.later,
    )

none_before : (rs : List LogRecord) → AllByRecursion (IsAway []) rs
none_before [] = tt
none_before (r ∷ rs) = (λ some. refl, none_before rs)

may_begin_away : (place : ℕ) (front rest : List LogRecord) → RisesFrom 0 (front ++ rest) → EachFollows [] (front ++ rest) → AllByRecursion IsAllowed rest → MayBeginAt place rest → AllByRecursion (IsAway front) rest
may_begin_away place front [] rises follow allowed h = absurd h
may_begin_away place front (r ∷ rs) rises follow allowed h = begin_away place front r rs rises follow allowed h

pub rest_away : (place : ℕ) (front rest : List LogRecord) → RisesFrom 0 (front ++ rest) → EachFollows [] (front ++ rest) → AllByRecursion IsAllowed rest → (front ≡ []) ⊎ MayBeginAt place rest → AllByRecursion (IsAway front) rest
rest_away place front rest rises follow allowed (inl e) = subst (λ (xs : List LogRecord). AllByRecursion (IsAway xs) rest) (sym e) (none_before rest)
rest_away place front rest rises follow allowed (inr h) = may_begin_away place front rest rises follow allowed h

-- ---- their courses

-- records without the transaction leave its course
pub course_stays : (c : Course) (t : ℕ) (xs : List LogRecord) → speak_of t xs ≡ false → course_in c t xs ≡ c
course_stays c t [] e = refl
course_stays c t (x ∷ xs) e =
    let p = or_parts (x.tran == t) (speak_of t xs) e in
    ap (λ (b : Bool). course_in (cond b (after_body c x x.body) c) t xs) p.0 ∙ course_stays c t xs p.1

pub course_more : (c : Course) (t : ℕ) (xs ys : List LogRecord) → course_in c t (xs ++ ys) ≡ course_in (course_in c t xs) t ys
course_more c t [] ys = refl
course_more c t (x ∷ xs) ys = course_more (cond (x.tran == t) (after_body c x x.body) c) t xs ys

pub same_course : (t : ℕ) (front rest : List LogRecord) → speak_of t front ≡ false → course_in new_course t (front ++ rest) ≡ course_in new_course t rest
same_course t front rest e = course_more new_course t front rest ∙ ap (λ (c : Course). course_in c t rest) (course_stays new_course t front e)

-- ---- they follow each other without the front

-- a record of no transaction may follow anything
free_fits : (c : Course) (r : LogRecord) (b : Body) (t : ℕ) → t ≡ 0 → TranFits (is_of_tran b) t → (body_fault c r b ≡ None) × TakesBack c b
free_fits c r (body.RowChange change) t e h = absurd (h e)
free_fits c r (body.Compensation change undone) t e h = absurd (h e)
free_fits c r (body.System patches) t e h = (refl, tt)
free_fits c r body.Commit t e h = absurd (h e)
free_fits c r body.Ended t e h = absurd (h e)
free_fits c r (body.Checkpoint offset) t e h = (refl, tt)
free_fits c r body.RestartEnd t e h = (refl, tt)

named_free : (z b d : Bool) → z ≡ true → (z || b || d) ≡ true
named_free true b d h = refl
named_free false b d h = absurd cc

named_still : (z a b d : Bool) → a ≡ false → (z || (a || b) || d) ≡ true → (z || b || d) ≡ true
named_still z true b d e h = absurd cc
named_still z false b d e h = h

may_follow : (front earlier : List LogRecord) (r : LogRecord) → IsAllowed r → IsAway front r → MayFollow (front ++ earlier) r → MayFollow earlier r
may_follow front earlier r allowed away h =
    elim (cases_Bool (r.tran == 0)) as (λ _. MayFollow earlier r) [
      | inl zero ↦
          let none : r.tran ≡ 0 = equal r.tran 0 zero in
          let free = free_fits (course_in new_course r.tran earlier) r r.body r.tran none allowed.tran_fits in
          record { named = named_free (r.tran == 0) (speak_of r.tran earlier) (r.lrsn == r.tran) zero; fits = free.0; takes_back = free.1 }
      | inr some ↦
          let e : speak_of r.tran front ≡ false = away some in
          let course : course_in new_course r.tran (front ++ earlier) ≡ course_in new_course r.tran earlier = same_course r.tran front earlier e in
          record {
            named = named_still (r.tran == 0) (speak_of r.tran front) (speak_of r.tran earlier) (r.lrsn == r.tran) e
                (ap (λ (b : Bool). (r.tran == 0) || b || (r.lrsn == r.tran)) (sym (speak_more r.tran front earlier)) ∙ h.named);
            fits = ap (λ (c : Course). body_fault c r r.body) (sym course) ∙ h.fits;
            takes_back = subst (λ (c : Course). TakesBack c r.body) course h.takes_back;
          }
    ]

each_follows : (front earlier rest : List LogRecord) → AllByRecursion IsAllowed rest → AllByRecursion (IsAway front) rest → EachFollows (front ++ earlier) rest → EachFollows earlier rest
each_follows front earlier [] allowed away h = tt
each_follows front earlier (r ∷ rs) allowed away h = (
  may_follow front earlier r allowed.0 away.0 h.0,
  each_follows front (earlier ++ r ∷ []) rs allowed.1 away.1 (subst (λ (xs : List LogRecord). EachFollows xs rs) (append_assoc front earlier (r ∷ [])) h.1),
)

behind_front : (earlier front rest : List LogRecord) → EachFollows earlier (front ++ rest) → EachFollows (earlier ++ front) rest
behind_front earlier [] rest h = subst (λ (xs : List LogRecord). EachFollows xs rest) (sym (append-nil earlier)) h
behind_front earlier (x ∷ xs) rest h = subst (λ (l : List LogRecord). EachFollows l rest) (append_assoc earlier (x ∷ []) xs) (behind_front (earlier ++ x ∷ []) xs rest h.1)

pub rest_follows : (front rest : List LogRecord) → AllByRecursion IsAllowed rest → AllByRecursion (IsAway front) rest → EachFollows [] (front ++ rest) → EachFollows [] rest
rest_follows front rest allowed away h =
    each_follows front [] rest allowed away (subst (λ (xs : List LogRecord). EachFollows xs rest) (sym (append-nil front)) (behind_front [] front rest h))
