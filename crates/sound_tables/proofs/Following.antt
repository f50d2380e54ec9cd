-- The merged records of sound logs fit each other, as those of one log do.
use Rattle.std.proofs.Common.{◌≡◌, ℕ, ◌+◌, Bool, true, false, cond, List, [], ◌∷◌, ◌++◌, None, inl, inr, refl, sym, ap, subst, ◌∙◌}
use Rattle.std.specs.Prelude.{◌==◌, ◌||◌}
use Rattle.std.specs.List.{AllByRecursion}
use Rattle.std.proofs.lemmas.Bool.{cond_both, cases_Bool, or_parts, or_left, or_right, and_parts, eqb-true, eq-eqb, both_ways}
use Rattle.std.proofs.lemmas.List.{append-nil}
use Rattle.std.proofs.lemmas.List.Folds.{list_any-append}
use Rattle.std.proofs.lemmas.List.Elements.{filter-append}
use Rattle.ds_model.specs.declared.log.LogRecord.{LogRecord}
use Rattle.ds_model.specs.declared.log.Body.{Body}
use Rattle.ds_model.specs.declared.log.Body.TheVariants as body
use Rattle.ds_model.specs.RecordBytes.{IsAllowed, TranFits, is_of_tran}
use Rattle.log_record.specs.declared.log.Log.{Log}
use Rattle.log_trans.specs.declared.course.Course.{Course}
use Rattle.log_trans.specs.Courses.{new_course, is_next, undone_one, after_body}
use Rattle.log_trans.specs.Damage.{body_fault}
use Rattle.log_merge.specs.Merging.{is_merged, kept, all_records, RisesFrom}
use Rattle.sound_disk.specs.Whole_logs.{AreWholeLogs}
use Rattle.sound_disk.specs.Transactions.{speak_of, stands_apart, stand_apart, course_in, TakesBack, EachFollows, AreTransactions}
use Rattle.sound_disk.specs.Versions.{merged}
use Rattle.sound_appends.specs.Appends.{course_of}
use Rattle.sound_appends.proofs.Left.{itself, course_last}
use Rattle.sound_appends.proofs.Numbers.{until, all_split}
use Rattle.sound_appends.proofs.Open.{apart_from, Alone, stands_alone}
use Rattle.sound_tables.proofs.Sorted.{own_of, filter_rises, own_merged}

-- ---- the records of one transaction alone

-- the record may stand where its transaction has come to this, and had records before or had none
record MayGo (spoken : Bool) (c : Course) (r : LogRecord) : Type 0 where
  named : ((r.tran == 0) || spoken || (r.lrsn == r.tran)) ≡ true
  fits : body_fault c r r.body ≡ None
  takes_back : TakesBack c r.body

abbrev Goes : Bool → Course → List LogRecord → Type 0
Goes spoken c [] = Unit {0}
Goes spoken c (r ∷ rs) = MayGo spoken c r × Goes true (after_body c r r.body) rs

speak_last : (t : ℕ) (earlier : List LogRecord) (r : LogRecord) → speak_of t (earlier ++ r ∷ []) ≡ (speak_of t earlier || ((r.tran == t) || false))
speak_last t earlier r = list_any-append (λ (s : LogRecord). s.tran == t) earlier (r ∷ [])

or_none : (a : Bool) → (a || false) ≡ a
or_none true = refl
or_none false = refl

-- behind a record of another transaction
other_course : (t : ℕ) (earlier : List LogRecord) (r : LogRecord) → (r.tran == t) ≡ false → course_in new_course t (earlier ++ r ∷ []) ≡ course_in new_course t earlier
other_course t earlier r other =
    course_last new_course t earlier r
    ∙ ap (λ (b : Bool). cond b (after_body (course_in new_course t earlier) r r.body) (course_in new_course t earlier)) other

other_speech : (t : ℕ) (earlier : List LogRecord) (r : LogRecord) → (r.tran == t) ≡ false → speak_of t (earlier ++ r ∷ []) ≡ speak_of t earlier
other_speech t earlier r other =
    speak_last t earlier r ∙ ap (λ (b : Bool). speak_of t earlier || (b || false)) other ∙ or_none (speak_of t earlier)

-- and behind one of its own
own_course : (earlier : List LogRecord) (r : LogRecord) → course_in new_course r.tran (earlier ++ r ∷ []) ≡ after_body (course_in new_course r.tran earlier) r r.body
own_course earlier r =
    course_last new_course r.tran earlier r
    ∙ ap (λ (b : Bool). cond b (after_body (course_in new_course r.tran earlier) r r.body) (course_in new_course r.tran earlier)) (itself r.tran)

own_speech : (earlier : List LogRecord) (r : LogRecord) → speak_of r.tran (earlier ++ r ∷ []) ≡ true
own_speech earlier r =
    speak_last r.tran earlier r ∙ or_right (speak_of r.tran earlier) ((r.tran == r.tran) || false) (or_left (r.tran == r.tran) false (itself r.tran))

-- what the transaction has come to behind these records, of which it has some
abbrev GoesOn : ℕ → List LogRecord → List LogRecord → Type 0
GoesOn t earlier rs = Goes (speak_of t earlier) (course_in new_course t earlier) (own_of t rs)

goes_other : (t : ℕ) (earlier : List LogRecord) (r : LogRecord) (rs : List LogRecord) → (r.tran == t) ≡ false → GoesOn t (earlier ++ r ∷ []) rs → GoesOn t earlier rs
goes_other t earlier r rs other h =
    subst (λ (c : Course). Goes (speak_of t earlier) c (own_of t rs)) (other_course t earlier r other)
    (subst (λ (b : Bool). Goes b (course_in new_course t (earlier ++ r ∷ [])) (own_of t rs)) (other_speech t earlier r other) h)

other_goes : (t : ℕ) (earlier : List LogRecord) (r : LogRecord) (rs : List LogRecord) → (r.tran == t) ≡ false → GoesOn t earlier rs → GoesOn t (earlier ++ r ∷ []) rs
other_goes t earlier r rs other h =
    subst (λ (c : Course). Goes (speak_of t (earlier ++ r ∷ [])) c (own_of t rs)) (sym (other_course t earlier r other))
    (subst (λ (b : Bool). Goes b (course_in new_course t earlier) (own_of t rs)) (sym (other_speech t earlier r other)) h)

abbrev OwnGoes : List LogRecord → LogRecord → List LogRecord → Type 0
OwnGoes earlier r rs = Goes true (after_body (course_in new_course r.tran earlier) r r.body) (own_of r.tran rs)

goes_own : (earlier : List LogRecord) (r : LogRecord) (rs : List LogRecord) → GoesOn r.tran (earlier ++ r ∷ []) rs → OwnGoes earlier r rs
goes_own earlier r rs h =
    subst (λ (c : Course). Goes true c (own_of r.tran rs)) (own_course earlier r)
    (subst (λ (b : Bool). Goes b (course_in new_course r.tran (earlier ++ r ∷ [])) (own_of r.tran rs)) (own_speech earlier r) h)

own_goes : (earlier : List LogRecord) (r : LogRecord) (rs : List LogRecord) → OwnGoes earlier r rs → GoesOn r.tran (earlier ++ r ∷ []) rs
own_goes earlier r rs h =
    subst (λ (c : Course). Goes (speak_of r.tran (earlier ++ r ∷ [])) c (own_of r.tran rs)) (sym (own_course earlier r))
    (subst (λ (b : Bool). Goes b (after_body (course_in new_course r.tran earlier) r r.body) (own_of r.tran rs)) (sym (own_speech earlier r)) h)

-- ---- records that fit each other, by their transactions

goes_of : (t : ℕ) (earlier rs : List LogRecord) → EachFollows earlier rs → GoesOn t earlier rs
goes_of t earlier [] h = tt
goes_of t earlier (r ∷ rs) h =
    cond_both (r.tran == t) (r ∷ own_of t rs) (own_of t rs) (λ (l : List LogRecord). Goes (speak_of t earlier) (course_in new_course t earlier) l)
    (λ own. subst (λ (u : ℕ). Goes (speak_of u earlier) (course_in new_course u earlier) (r ∷ own_of u rs)) (eqb-true r.tran t own) (
      record { named = h.0.named; fits = h.0.fits; takes_back = h.0.takes_back },
      goes_own earlier r rs (goes_of r.tran (earlier ++ r ∷ []) rs h.1),
    ))
    (λ other. goes_other t earlier r rs other (goes_of t (earlier ++ r ∷ []) rs h.1))

first_own : (earlier : List LogRecord) (r : LogRecord) (rs : List LogRecord) → GoesOn r.tran earlier (r ∷ rs) → MayGo (speak_of r.tran earlier) (course_in new_course r.tran earlier) r × OwnGoes earlier r rs
first_own earlier r rs h =
    subst (λ (b : Bool). Goes (speak_of r.tran earlier) (course_in new_course r.tran earlier) (cond b (r ∷ own_of r.tran rs) (own_of r.tran rs))) (itself r.tran) h

first_other : (t : ℕ) (earlier : List LogRecord) (r : LogRecord) (rs : List LogRecord) → (r.tran == t) ≡ false → GoesOn t earlier (r ∷ rs) → GoesOn t earlier rs
first_other t earlier r rs other h =
    subst (λ (b : Bool). Goes (speak_of t earlier) (course_in new_course t earlier) (cond b (r ∷ own_of t rs) (own_of t rs))) other h

rest_goes : (t : ℕ) (earlier : List LogRecord) (r : LogRecord) (rs : List LogRecord) → GoesOn r.tran earlier (r ∷ rs) → GoesOn t earlier (r ∷ rs) → GoesOn t (earlier ++ r ∷ []) rs
rest_goes t earlier r rs mine h = elim (cases_Bool (r.tran == t)) [
  | inl own ↦ subst (λ (u : ℕ). GoesOn u (earlier ++ r ∷ []) rs) (eqb-true r.tran t own) (own_goes earlier r rs (first_own earlier r rs mine).1)
  | inr other ↦ other_goes t earlier r rs other (first_other t earlier r rs other h)
]

follows_of : (earlier rs : List LogRecord) → ((t : ℕ) → GoesOn t earlier rs) → EachFollows earlier rs
follows_of earlier [] h = tt
follows_of earlier (r ∷ rs) h =
    let mine = (first_own earlier r rs (h r.tran)).0 in (
      record { named = mine.named; fits = mine.fits; takes_back = mine.takes_back },
      follows_of (earlier ++ r ∷ []) rs (λ t. rest_goes t earlier r rs (h r.tran) (h t)),
    )

-- ---- without the records that are not merged

-- whether the transaction has an Ended record doesn't matter to those behind it
abbrev pub calm : Course → Course
calm c = record { undo = c.undo; undone = c.undone; is_committed = c.is_committed; is_ended = false }

calm_fault : (c : Course) (r : LogRecord) (b : Body) → body_fault (calm c) r b ≡ body_fault c r b
calm_fault c r (body.RowChange change) = refl
calm_fault c r (body.Compensation change undone) = refl
calm_fault c r (body.System patches) = refl
calm_fault c r body.Commit = refl
calm_fault c r body.Ended = refl
calm_fault c r (body.Checkpoint offset) = refl
calm_fault c r body.RestartEnd = refl

calm_takes : (c : Course) (b : Body) → TakesBack c b → TakesBack (calm c) b
calm_takes c (body.RowChange change) h = h
calm_takes c (body.Compensation change undone) h = h
calm_takes c (body.System patches) h = h
calm_takes c body.Commit h = h
calm_takes c body.Ended h = h
calm_takes c (body.Checkpoint offset) h = h
calm_takes c body.RestartEnd h = h

calm_undone : (b : Bool) (c : Course) → calm (cond b (undone_one c) c) ≡ cond b (undone_one (calm c)) (calm c)
calm_undone true c = refl
calm_undone false c = refl

calm_merged : (c : Course) (r : LogRecord) (b : Body) → is_merged b ≡ true → calm (after_body c r b) ≡ after_body (calm c) r b
calm_merged c r (body.RowChange change) h = refl
calm_merged c r (body.Compensation change undone) h = calm_undone (is_next undone c.undo) c
calm_merged c r (body.System patches) h = refl
calm_merged c r body.Commit h = refl
calm_merged c r body.Ended h = absurd cc
calm_merged c r (body.Checkpoint offset) h = absurd cc
calm_merged c r body.RestartEnd h = absurd cc

calm_other : (c : Course) (r : LogRecord) (b : Body) → is_merged b ≡ false → calm (after_body c r b) ≡ calm c
calm_other c r (body.RowChange change) h = absurd cc
calm_other c r (body.Compensation change undone) h = absurd cc
calm_other c r (body.System patches) h = absurd cc
calm_other c r body.Commit h = absurd cc
calm_other c r body.Ended h = refl
calm_other c r (body.Checkpoint offset) h = refl
calm_other c r body.RestartEnd h = refl

calm_goes : (spoken : Bool) (c : Course) (r : LogRecord) → MayGo spoken c r → MayGo spoken (calm c) r
calm_goes spoken c r h = record { named = h.named; fits = calm_fault c r r.body ∙ h.fits; takes_back = calm_takes c r.body h.takes_back }

-- a transaction doesn't begin with a record that isn't merged
none_first : (c : Course) (r : LogRecord) (b : Body) → is_merged b ≡ false → TranFits (is_of_tran b) r.tran → (r.tran == 0) ≡ false → body_fault new_course r b ≡ None → ⊥
none_first c r (body.RowChange change) h fits some free = cc
none_first c r (body.Compensation change undone) h fits some free = cc
none_first c r (body.System patches) h fits some free = cc
none_first c r body.Commit h fits some free = cc
none_first c r body.Ended h fits some free = cc
none_first c r (body.Checkpoint offset) h fits some free = both_ways (r.tran == 0) some (eq-eqb r.tran 0 fits)
none_first c r body.RestartEnd h fits some free = both_ways (r.tran == 0) some (eq-eqb r.tran 0 fits)

-- the record is the transaction's and may stand in a log
abbrev IsOf : ℕ → LogRecord → Type 0
IsOf t r = (r.tran ≡ t) × IsAllowed r

spoken_for : (t : ℕ) (spoken : Bool) (c : Course) (r : LogRecord) → (t == 0) ≡ false → IsOf t r → is_merged r.body ≡ false → (spoken ≡ false → c ≡ new_course) → MayGo spoken c r → spoken ≡ true
spoken_for t true c r some own other new h = refl
spoken_for t false c r some own other new h =
    absurd (none_first c r r.body other own.1.tran_fits (ap (λ (u : ℕ). u == 0) own.0 ∙ some) (subst (λ (d : Course). body_fault d r r.body ≡ None) (new refl) h.fits))

kept_goes : (t : ℕ) (spoken : Bool) (c : Course) (rs : List LogRecord) → (t == 0) ≡ false → AllByRecursion (IsOf t) rs → (spoken ≡ false → c ≡ new_course) → Goes spoken c rs → Goes spoken (calm c) (kept rs)
kept_goes t spoken c [] some own new h = tt
kept_goes t spoken c (r ∷ rs) some own new h =
    let rest : Goes true (calm (after_body c r r.body)) (kept rs) = kept_goes t true (after_body c r r.body) rs some own.1 (λ e. absurd cc) h.1 in
    cond_both (is_merged r.body) (r ∷ kept rs) (kept rs) (λ (l : List LogRecord). Goes spoken (calm c) l)
    (λ is. (calm_goes spoken c r h.0, subst (λ (d : Course). Goes true d (kept rs)) (calm_merged c r r.body is) rest))
    (λ other. subst (λ (b : Bool). Goes b (calm c) (kept rs)) (sym (spoken_for t spoken c r some own.0 other new h.0))
    (subst (λ (d : Course). Goes true d (kept rs)) (calm_other c r r.body other) rest))

-- ---- the records of no transaction

free_goes : (spoken : Bool) (c : Course) (r : LogRecord) (b : Body) → r.body ≡ b → TranFits (is_of_tran b) r.tran → r.tran ≡ 0 → MayGo spoken c r
free_goes spoken c r (body.RowChange change) is fits none = absurd (fits none)
free_goes spoken c r (body.Compensation change undone) is fits none = absurd (fits none)
free_goes spoken c r (body.System patches) is fits none = record {
  named = or_left ((r.tran == 0) || spoken) (r.lrsn == r.tran) (or_left (r.tran == 0) spoken (eq-eqb r.tran 0 none));
  fits = ap (body_fault c r) is;
  takes_back = subst (TakesBack c) (sym is) tt;
}
free_goes spoken c r body.Commit is fits none = absurd (fits none)
free_goes spoken c r body.Ended is fits none = absurd (fits none)
free_goes spoken c r (body.Checkpoint offset) is fits none = record {
  named = or_left ((r.tran == 0) || spoken) (r.lrsn == r.tran) (or_left (r.tran == 0) spoken (eq-eqb r.tran 0 none));
  fits = ap (body_fault c r) is;
  takes_back = subst (TakesBack c) (sym is) tt;
}
free_goes spoken c r body.RestartEnd is fits none = record {
  named = or_left ((r.tran == 0) || spoken) (r.lrsn == r.tran) (or_left (r.tran == 0) spoken (eq-eqb r.tran 0 none));
  fits = ap (body_fault c r) is;
  takes_back = subst (TakesBack c) (sym is) tt;
}

all_free : (spoken : Bool) (c : Course) (rs : List LogRecord) → AllByRecursion (IsOf 0) rs → Goes spoken c rs
all_free spoken c [] h = tt
all_free spoken c (r ∷ rs) h = (free_goes spoken c r r.body refl h.0.1.tran_fits h.0.0, all_free true (after_body c r r.body) rs h.1)

-- ---- all logs

own_none : (t : ℕ) (rs : List LogRecord) → speak_of t rs ≡ false → own_of t rs ≡ []
own_none t [] h = refl
own_none t (r ∷ rs) h =
    let p = or_parts (r.tran == t) (speak_of t rs) h in
    ap (λ (b : Bool). cond b (r ∷ own_of t rs) (own_of t rs)) p.0 ∙ own_none t rs p.1

-- a transaction's records are those of one log
own_home : (Q : List LogRecord → Type 0) (t : ℕ) (logs : List Log) → (t == 0) ≡ false → Q [] → stand_apart logs ≡ true → AllByRecursion (λ (l : Log). Q (own_of t l.records)) logs → Q (own_of t (all_records logs))
own_home Q t [] some none h each = none
own_home Q t (l ∷ ls) some none h each =
    let p = and_parts (stands_apart l.records (all_records ls)) (stand_apart ls) h in
    let both : own_of t (l.records ++ all_records ls) ≡ own_of t l.records ++ own_of t (all_records ls) = filter-append (λ (r : LogRecord). r.tran == t) l.records (all_records ls) in
    elim (cases_Bool (speak_of t l.records)) [
      | inl is ↦ (
          let rest : own_of t (all_records ls) ≡ [] = own_none t (all_records ls) (apart_from t l.records (all_records ls) p.0 some is) in
          subst Q (sym (both ∙ ap (λ (rs : List LogRecord). own_of t l.records ++ rs) rest ∙ append-nil (own_of t l.records))) each.0)
      | inr is ↦ (
          let first : own_of t l.records ≡ [] = own_none t l.records is in
          subst Q (sym (both ∙ ap (λ (rs : List LogRecord). rs ++ own_of t (all_records ls)) first)) (own_home Q t ls some none p.1 each.1))
    ]

each_log : (P Q : Log → Type 0) (logs : List Log) → ((l : Log) → P l → Q l) → AllByRecursion P logs → AllByRecursion Q logs
each_log P Q [] f h = tt
each_log P Q (l ∷ ls) f h = (f l h.0, each_log P Q ls f h.1)

each_own : (t : ℕ) (rs : List LogRecord) → AllByRecursion IsAllowed rs → AllByRecursion (IsOf t) (own_of t rs)
each_own t [] h = tt
each_own t (r ∷ rs) h =
    cond_both (r.tran == t) (r ∷ own_of t rs) (own_of t rs) (AllByRecursion (IsOf t)) (λ own. ((eqb-true r.tran t own, h.0), each_own t rs h.1)) (λ other. each_own t rs h.1)

each_both : (xs ys : List LogRecord) → AllByRecursion IsAllowed xs → AllByRecursion IsAllowed ys → AllByRecursion IsAllowed (xs ++ ys)
each_both [] ys h k = k
each_both (x ∷ xs) ys h k = (h.0, each_both xs ys h.1 k)

pub all_allowed : (member : ℕ) (bytes : List (List ℕ)) (logs : List Log) → AreWholeLogs member bytes logs → AllByRecursion IsAllowed (all_records logs)
all_allowed member [] [] h = tt
all_allowed member [] (log ∷ logs) h = absurd h
all_allowed member (bs ∷ rest) [] h = absurd h
all_allowed member (bs ∷ rest) (log ∷ logs) h = each_both log.records (all_records logs) h.0.records_are.allowed (all_allowed (member + 1) rest logs h.1)

all_rise : (member : ℕ) (bytes : List (List ℕ)) (logs : List Log) → AreWholeLogs member bytes logs → AllByRecursion (λ (l : Log). RisesFrom 0 l.records) logs
all_rise member [] [] h = tt
all_rise member [] (log ∷ logs) h = absurd h
all_rise member (bs ∷ rest) [] h = absurd h
all_rise member (bs ∷ rest) (log ∷ logs) h = (h.0.rising, all_rise (member + 1) rest logs h.1)

-- the records of a transaction among the merged ones
pub merged_own : (bytes : List (List ℕ)) (logs : List Log) (t : ℕ) → (t == 0) ≡ false → AreWholeLogs 1 bytes logs → AreTransactions logs → own_of t (merged logs) ≡ kept (own_of t (all_records logs))
merged_own bytes logs t some w h =
    own_merged t (all_records logs) (own_home (RisesFrom 0) t logs some tt h.homes
    (each_log (λ (l : Log). RisesFrom 0 l.records) (λ (l : Log). RisesFrom 0 (own_of t l.records)) logs (λ l rises. filter_rises (λ (r : LogRecord). r.tran == t) 0 l.records rises) (all_rise 1 bytes logs w)))

-- all of them fit each other
pub merged_follow : (bytes : List (List ℕ)) (logs : List Log) → AreWholeLogs 1 bytes logs → AreTransactions logs → AllByRecursion IsAllowed (merged logs) → EachFollows [] (merged logs)
merged_follow bytes logs w h allowed = follows_of [] (merged logs) (λ t. elim (cases_Bool (t == 0)) [
  | inl none ↦ subst (λ (u : ℕ). Goes false new_course (own_of u (merged logs))) (sym (eqb-true t 0 none)) (all_free false new_course (own_of 0 (merged logs)) (each_own 0 (merged logs) allowed))
  | inr some ↦ subst (Goes false new_course) (sym (merged_own bytes logs t some w h))
      (kept_goes t false new_course (own_of t (all_records logs)) some (each_own t (all_records logs) (all_allowed 1 bytes logs w)) (λ e. refl)
      (own_home (Goes false new_course) t logs some tt h.homes
      (each_log (λ (l : Log). EachFollows [] l.records) (λ (l : Log). Goes false new_course (own_of t l.records)) logs (λ l f. goes_of t [] l.records f) h.follow)))
])

-- ---- what a transaction comes to

own_course_in : (c : Course) (t : ℕ) (rs : List LogRecord) → course_in c t (own_of t rs) ≡ course_in c t rs
own_course_in c t [] = refl
own_course_in c t (r ∷ rs) =
    cond_both (r.tran == t) (r ∷ own_of t rs) (own_of t rs) (λ (l : List LogRecord). course_in c t l ≡ course_in (cond (r.tran == t) (after_body c r r.body) c) t rs)
    (λ own. own_course_in (cond (r.tran == t) (after_body c r r.body) c) t rs)
    (λ other. own_course_in c t rs ∙ sym (ap (λ (b : Bool). course_in (cond b (after_body c r r.body) c) t rs) other))

calm_if : (b : Bool) (x y z : Course) → calm x ≡ z → calm (cond b x y) ≡ cond b z (calm y)
calm_if true x y z e = e
calm_if false x y z e = refl

calm_same : (b : Bool) (x y : Course) → calm x ≡ calm y → calm (cond b x y) ≡ calm y
calm_same true x y e = e
calm_same false x y e = refl

calm_course : (c : Course) (t : ℕ) (rs : List LogRecord) → calm (course_in c t rs) ≡ course_in (calm c) t (kept rs)
calm_course c t [] = refl
calm_course c t (r ∷ rs) =
    let behind = cond (r.tran == t) (after_body c r r.body) c in
    let rest : calm (course_in behind t rs) ≡ course_in (calm behind) t (kept rs) = calm_course behind t rs in
    cond_both (is_merged r.body) (r ∷ kept rs) (kept rs) (λ (l : List LogRecord). calm (course_in behind t rs) ≡ course_in (calm c) t l)
    (λ is. rest ∙ ap (λ (d : Course). course_in d t (kept rs)) (calm_if (r.tran == t) (after_body c r r.body) c (after_body (calm c) r r.body) (calm_merged c r r.body is)))
    (λ other. rest ∙ ap (λ (d : Course). course_in d t (kept rs)) (calm_same (r.tran == t) (after_body c r r.body) c (calm_other c r r.body other)))

own_split : (t : ℕ) (front : List Log) (log : Log) (back : List Log) → Alone front log back t → own_of t (all_records (front ++ log ∷ back)) ≡ own_of t log.records
own_split t front log back a =
    let mine : LogRecord → Bool = λ r. r.tran == t in
    ap (own_of t) (all_split front log back)
    ∙ filter-append mine (until front log) (all_records back)
    ∙ ap (λ (rs : List LogRecord). rs ++ own_of t (all_records back)) (filter-append mine (all_records front) log.records)
    ∙ ap (λ (rs : List LogRecord). (rs ++ own_of t log.records) ++ own_of t (all_records back)) (own_none t (all_records front) a.before)
    ∙ ap (λ (rs : List LogRecord). own_of t log.records ++ rs) (own_none t (all_records back) a.behind)
    ∙ append-nil (own_of t log.records)

-- by its own log, as by the merged records
pub merged_course : (bytes : List (List ℕ)) (front : List Log) (log : Log) (back : List Log) (t : ℕ) → (t == 0) ≡ false → speak_of t log.records ≡ true
    → AreWholeLogs 1 bytes (front ++ log ∷ back) → AreTransactions (front ++ log ∷ back) → calm (course_of log t) ≡ course_in new_course t (merged (front ++ log ∷ back))
merged_course bytes front log back t some is w h =
    let logs = front ++ log ∷ back in
    ap calm (sym (own_course_in new_course t log.records))
    ∙ ap (λ (rs : List LogRecord). calm (course_in new_course t rs)) (sym (own_split t front log back (stands_alone front log back t h.homes some is)))
    ∙ calm_course new_course t (own_of t (all_records logs))
    ∙ ap (course_in new_course t) (sym (merged_own bytes logs t some w h))
    ∙ own_course_in new_course t (merged logs)
