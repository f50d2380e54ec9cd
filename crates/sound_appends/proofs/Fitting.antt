-- The records of transactions fit each other with a record more.
use Rattle.std.proofs.Common.{◌≡◌, ℕ, ◌-◌, ◌<◌, Bool, true, false, cond, List, [], ◌∷◌, ◌++◌, length, Some, None, inl, inr, refl, sym, ap, subst, ◌∙◌, arith, append_assoc}
use Rattle.std.specs.Prelude.{◌==◌, not, ◌||◌, ◌&&◌, slice_get}
use Rattle.std.specs.List.{AllByRecursion}
use Rattle.std.proofs.lemmas.Bool.{or_cases, or_parts, or_from, or_left, or_right, and_from, and_parts, eqb-true, eq-eqb, ne_eqb, both_ways, cases_Bool}
use Rattle.std.proofs.lemmas.List.{append-nil}
use Rattle.std.proofs.lemmas.List.Folds.{list_any-append, list_all-append}
use Rattle.ds_model.specs.declared.log.LogRecord.{LogRecord}
use Rattle.ds_model.specs.declared.log.Body.{Body}
use Rattle.ds_model.specs.declared.log.Body.TheVariants as body
use Rattle.ds_model.specs.RecordBytes.{IsAllowed, TranFits, is_of_tran}
use Rattle.log_record.specs.declared.log.Log.{Log}
use Rattle.log_record.specs.Changes.{is_drawn}
use Rattle.log_trans.specs.declared.course.Course.{Course}
use Rattle.log_trans.specs.Courses.{new_course, is_next, after_body}
use Rattle.log_trans.specs.Damage.{body_fault, nothing_undone, unless, tran_at, undone_at}
use Rattle.log_trans.specs.Numbers.{greatest}
use Rattle.log_merge.specs.Merging.{all_records}
use Rattle.sound_disk.specs.Laws.{with_record}
use Rattle.sound_disk.specs.Transactions.{drawn_numbers, is_among, all_differ, speak_of, stands_apart, stand_apart, course_in, Inverts, TakesBack, MayFollow, EachFollows, AreTransactions}
use Rattle.sound_appends.specs.Appends.{course_of, IsNext, Appends}
use Rattle.sound_appends.proofs.Numbers.{until, all_split, all_with, above_all}
use Rattle.sound_appends.proofs.Left.{eq_turn, among_more, drawn_more, differ_tail}
use Rattle.sound_appends.proofs.Open.{apart_from, is_next_by}

-- ---- numbers

or_swap : (a b c : Bool) → (a || (b || c)) ≡ (b || (a || c))
or_swap true true c = refl
or_swap true false c = refl
or_swap false b c = refl

among_swap : (n : ℕ) (xs ys : List ℕ) (m : ℕ) → is_among n (xs ++ m ∷ ys) ≡ ((m == n) || is_among n (xs ++ ys))
among_swap n xs ys m =
    among_more n xs (m ∷ ys) ∙ or_swap (is_among n xs) (m == n) (is_among n ys) ∙ ap (λ (b : Bool). (m == n) || b) (sym (among_more n xs ys))

differ_between : (xs ys : List ℕ) (n : ℕ) → all_differ (xs ++ ys) ≡ true → is_among n (xs ++ ys) ≡ false → all_differ (xs ++ n ∷ ys) ≡ true
differ_between [] ys n h none = ap (λ (b : Bool). not b && all_differ ys) none ∙ h
differ_between (x ∷ xs) ys n h none =
    let d = differ_tail x (xs ++ ys) h in
    let o = or_parts (x == n) (is_among n (xs ++ ys)) none in
    let apart : is_among x (xs ++ n ∷ ys) ≡ false = among_swap x xs ys n ∙ or_from (n == x) (is_among x (xs ++ ys)) (eq_turn n x ∙ o.0) d.0 in
    ap (λ (b : Bool). not b && all_differ (xs ++ n ∷ ys)) apart ∙ differ_between xs ys n d.1 o.1

not_if : (b : Bool) (m n : ℕ) (ns : List ℕ) → m < n → is_among n ns ≡ false → is_among n (cond b (m ∷ ns) ns) ≡ false
not_if true m n ns low h = or_from (m == n) (is_among n ns) (ne_eqb m n (λ e. omega (arith, low, e))) h
not_if false m n ns low h = h

-- no number of the records is above the greatest
not_above : (n : ℕ) (rs : List LogRecord) → greatest rs < n → is_among n (drawn_numbers rs) ≡ false
not_above n [] h = refl
not_above n (r ∷ rs) h = not_if (is_drawn r.body) r.lrsn n (drawn_numbers rs) (omega arith) (not_above n rs (omega arith))

differ_if : (b : Bool) (xs ys : List ℕ) (n : ℕ) → all_differ (xs ++ ys) ≡ true → (b ≡ true → is_among n (xs ++ ys) ≡ false) → all_differ (xs ++ cond b (n ∷ ys) ys) ≡ true
differ_if true xs ys n h none = differ_between xs ys n h (none refl)
differ_if false xs ys n h none = h

numbers_with : (xs ys : List LogRecord) (r : LogRecord) → all_differ (0 ∷ drawn_numbers (xs ++ ys)) ≡ true → (is_drawn r.body ≡ true → greatest (xs ++ ys) < r.lrsn) → all_differ (0 ∷ drawn_numbers (xs ++ r ∷ ys)) ≡ true
numbers_with xs ys r h high =
    let split : drawn_numbers (xs ++ ys) ≡ drawn_numbers xs ++ drawn_numbers ys = drawn_more xs ys in
    let old : all_differ ((0 ∷ drawn_numbers xs) ++ drawn_numbers ys) ≡ true = subst (λ (ns : List ℕ). all_differ (0 ∷ ns) ≡ true) split h in
    let new : is_drawn r.body ≡ true → is_among r.lrsn ((0 ∷ drawn_numbers xs) ++ drawn_numbers ys) ≡ false =
    λ is. let low = high is in subst (λ (ns : List ℕ). is_among r.lrsn (0 ∷ ns) ≡ false) split
    (or_from (0 == r.lrsn) (is_among r.lrsn (drawn_numbers (xs ++ ys))) (ne_eqb 0 r.lrsn (λ e. omega (arith, low, e))) (not_above r.lrsn (xs ++ ys) low)) in
    subst (λ (ns : List ℕ). all_differ (0 ∷ ns) ≡ true) (sym (drawn_more xs (r ∷ ys))) (differ_if (is_drawn r.body) (0 ∷ drawn_numbers xs) (drawn_numbers ys) r.lrsn old new)

-- ---- homes

-- a transaction of which its log speaks, or none
abbrev is_known : LogRecord → List LogRecord → Bool
is_known r own = (r.tran == 0) || speak_of r.tran own

speak_split : (t : ℕ) (xs ys : List LogRecord) → speak_of t (xs ++ ys) ≡ (speak_of t xs || speak_of t ys)
speak_split t xs ys = list_any-append (λ (s : LogRecord). s.tran == t) xs ys

speech_if : (a b c : Bool) → (b ≡ true → a ≡ true) → (a || (b || c)) ≡ (a || c)
speech_if true b c h = refl
speech_if false true c h = absurd (both_ways false refl (h refl))
speech_if false false c h = refl

speech_known : (t : ℕ) (xs : List LogRecord) (r : LogRecord) → (t == 0) ≡ false → is_known r xs ≡ true → (r.tran == t) ≡ true → speak_of t xs ≡ true
speech_known t xs r some known e =
    let same : r.tran ≡ t = eqb-true r.tran t e in
    elim (or_cases (r.tran == 0) (speak_of r.tran xs) known) [
      | inl z ↦ absurd (both_ways (t == 0) some (subst (λ (n : ℕ). (n == 0) ≡ true) same z))
      | inr z ↦ subst (λ (n : ℕ). speak_of n xs ≡ true) same z
    ]

-- who speaks of a transaction speaks of it with such a record, and no more
same_speech : (t : ℕ) (xs ys : List LogRecord) (r : LogRecord) → (t == 0) ≡ false → is_known r xs ≡ true → speak_of t (xs ++ r ∷ ys) ≡ speak_of t (xs ++ ys)
same_speech t xs ys r some known =
    speak_split t xs (r ∷ ys)
    ∙ speech_if (speak_of t xs) (r.tran == t) (speak_of t ys) (speech_known t xs r some known)
    ∙ sym (speak_split t xs ys)

apart_one : (z a b : Bool) → (z ≡ false → a ≡ b) → (z || not a) ≡ (z || not b)
apart_one true a b h = refl
apart_one false a b h = ap not (h refl)

apart_same : (rs xs ys : List LogRecord) (r : LogRecord) → is_known r xs ≡ true → stands_apart rs (xs ++ r ∷ ys) ≡ stands_apart rs (xs ++ ys)
apart_same [] xs ys r known = refl
apart_same (s ∷ rs) xs ys r known =
    ap (λ (b : Bool). b && stands_apart rs (xs ++ r ∷ ys)) (apart_one (s.tran == 0) (speak_of s.tran (xs ++ r ∷ ys)) (speak_of s.tran (xs ++ ys)) (λ some. same_speech s.tran xs ys r some known))
    ∙ ap (λ (b : Bool). ((s.tran == 0) || not (speak_of s.tran (xs ++ ys))) && b) (apart_same rs xs ys r known)

known_if : (z a b : Bool) → (z || b) ≡ true → (z || (a || b)) ≡ true
known_if true a b h = refl
known_if false true b h = refl
known_if false false b h = h

known_until : (front : List Log) (log : Log) (r : LogRecord) → is_known r log.records ≡ true → is_known r (until front log) ≡ true
known_until front log r known =
    ap (λ (b : Bool). (r.tran == 0) || b) (speak_split r.tran (all_records front) log.records)
    ∙ known_if (r.tran == 0) (speak_of r.tran (all_records front)) (speak_of r.tran log.records) known

apart_own : (r : LogRecord) (own others : List LogRecord) → is_known r own ≡ true → stands_apart own others ≡ true → ((r.tran == 0) || not (speak_of r.tran others)) ≡ true
apart_own r own others known h = elim (cases_Bool (r.tran == 0)) [
  | inl z ↦ or_left (r.tran == 0) (not (speak_of r.tran others)) z
  | inr z ↦ elim (or_cases (r.tran == 0) (speak_of r.tran own) known) [
    | inl y ↦ absurd (both_ways (r.tran == 0) z y)
    | inr y ↦ or_right (r.tran == 0) (not (speak_of r.tran others)) (ap not (apart_from r.tran own others h z y))
  ]
]

stands_with : (r : LogRecord) (own others : List LogRecord) → is_known r own ≡ true → stands_apart own others ≡ true → stands_apart (own ++ r ∷ []) others ≡ true
stands_with r own others known h =
    let one = apart_own r own others known h in
    list_all-append (λ (s : LogRecord). (s.tran == 0) || not (speak_of s.tran others)) own (r ∷ [])
    ∙ and_from (stands_apart own others) (((r.tran == 0) || not (speak_of r.tran others)) && true) h (and_from ((r.tran == 0) || not (speak_of r.tran others)) true one refl)

stand_with : (front : List Log) (log : Log) (back : List Log) (r : LogRecord) → is_known r log.records ≡ true → stand_apart (front ++ log ∷ back) ≡ true → stand_apart (front ++ with_record log r ∷ back) ≡ true
stand_with [] log back r known h =
    let p = and_parts (stands_apart log.records (all_records back)) (stand_apart back) h in
    and_from (stands_apart (log.records ++ r ∷ []) (all_records back)) (stand_apart back) (stands_with r log.records (all_records back) known p.0) p.1
stand_with (x ∷ xs) log back r known h =
    let p = and_parts (stands_apart x.records (all_records (xs ++ log ∷ back))) (stand_apart (xs ++ log ∷ back)) h in
    let apart : stands_apart x.records (all_records (xs ++ with_record log r ∷ back)) ≡ true =
    ap (stands_apart x.records) (all_with xs log back r)
    ∙ apart_same x.records (until xs log) (all_records back) r (known_until xs log r known)
    ∙ ap (stands_apart x.records) (sym (all_split xs log back))
    ∙ p.0 in
    and_from (stands_apart x.records (all_records (xs ++ with_record log r ∷ back))) (stand_apart (xs ++ with_record log r ∷ back)) apart (stand_with xs log back r known p.1)

-- ---- the records of one transaction

silent : (c : Course) (t : ℕ) (rs : List LogRecord) → speak_of t rs ≡ false → course_in c t rs ≡ c
silent c t [] h = refl
silent c t (r ∷ rs) h =
    let p = or_parts (r.tran == t) (speak_of t rs) h in
    ap (λ (b : Bool). course_in (cond b (after_body c r r.body) c) t rs) p.0 ∙ silent c t rs p.1

known_by : (logs : List Log) (log : Log) (r : LogRecord) (b : Body) → IsNext logs log r b → TranFits (is_of_tran b) r.tran → speak_of r.tran log.records ≡ false → (r.tran == 0) ≡ true
known_by logs log r (body.RowChange change) h fits none = absurd h
known_by logs log r (body.Compensation change undone) h fits none =
    let nothing : slice_get (course_of log r.tran).undo (length (course_of log r.tran).undo - 1) ≡ None = ap (λ (c : Course). slice_get c.undo (length c.undo - 1)) (silent new_course r.tran log.records none) in
    let last = h.last in absurd cc
known_by logs log r (body.System patches) h fits none = absurd h
known_by logs log r body.Commit h fits none = absurd h
known_by logs log r body.Ended h fits none =
    let nothing : (length (course_of log r.tran).undone == 0) ≡ true = ap (λ (c : Course). length c.undone == 0) (silent new_course r.tran log.records none) in
    absurd (both_ways (length (course_of log r.tran).undone == 0) h.some nothing)
known_by logs log r (body.Checkpoint offset) h fits none = eq-eqb r.tran 0 fits
known_by logs log r body.RestartEnd h fits none = eq-eqb r.tran 0 fits

known : (logs : List Log) (log : Log) (r : LogRecord) → IsNext logs log r r.body → IsAllowed r → is_known r log.records ≡ true
known logs log r h allowed = elim (cases_Bool (speak_of r.tran log.records)) [
  | inl e ↦ or_right (r.tran == 0) (speak_of r.tran log.records) e
  | inr e ↦ or_left (r.tran == 0) (speak_of r.tran log.records) (known_by logs log r r.body h allowed.tran_fits e)
]

compensation_fits : (c n : Bool) (a b : ℕ) → c ≡ false → n ≡ true → cond c (Some a) (unless n b) ≡ None
compensation_fits true n a b h k = absurd cc
compensation_fits false true a b h k = refl
compensation_fits false false a b h k = absurd cc

ended_fits : (c u n : Bool) (at : ℕ) → u ≡ true → n ≡ false → unless (c || (u && not n)) at ≡ None
ended_fits true u n at h k = refl
ended_fits false true false at h k = refl
ended_fits false true true at h k = absurd cc
ended_fits false false n at h k = absurd cc

fits : (logs : List Log) (log : Log) (r : LogRecord) (b : Body) → IsNext logs log r b → body_fault (course_of log r.tran) r b ≡ None
fits logs log r (body.RowChange change) h = absurd h
fits logs log r (body.Compensation change undone) h =
    let c = course_of log r.tran in
    compensation_fits c.is_committed (is_next undone c.undo) (tran_at r) (undone_at r) h.uncommitted (is_next_by c h.made undone h.last h.number_is)
fits logs log r (body.System patches) h = absurd h
fits logs log r body.Commit h = absurd h
fits logs log r body.Ended h =
    let c = course_of log r.tran in
    ended_fits c.is_committed (length c.undo == 0) (nothing_undone c) (tran_at r) (eq-eqb (length c.undo) 0 h.undone) h.some
fits logs log r (body.Checkpoint offset) h = refl
fits logs log r body.RestartEnd h = refl

takes : (logs : List Log) (log : Log) (r : LogRecord) (b : Body) → IsNext logs log r b → TakesBack (course_of log r.tran) b
takes logs log r (body.RowChange change) h = absurd h
takes logs log r (body.Compensation change undone) h = subst (Inverts change) (sym h.last) h.inverts
takes logs log r (body.System patches) h = absurd h
takes logs log r body.Commit h = absurd h
takes logs log r body.Ended h = tt
takes logs log r (body.Checkpoint offset) h = tt
takes logs log r body.RestartEnd h = tt

named_if : (z s l : Bool) → (z || s) ≡ true → (z || s || l) ≡ true
named_if true s l h = refl
named_if false true l h = refl
named_if false false l h = absurd cc

may_follow : (logs : List Log) (log : Log) (r : LogRecord) → IsNext logs log r r.body → IsAllowed r → MayFollow log.records r
may_follow logs log r h allowed = record {
  named = named_if (r.tran == 0) (speak_of r.tran log.records) (r.lrsn == r.tran) (known logs log r h allowed);
  fits = fits logs log r r.body h;
  takes_back = takes logs log r r.body h;
}

follows_more : (earlier rs : List LogRecord) (r : LogRecord) → EachFollows earlier rs → MayFollow (earlier ++ rs) r → EachFollows earlier (rs ++ r ∷ [])
follows_more earlier [] r h f = (subst (λ (l : List LogRecord). MayFollow l r) (append-nil earlier) f, tt)
follows_more earlier (x ∷ rs) r h f = (h.0, follows_more (earlier ++ x ∷ []) rs r h.1 (subst (λ (l : List LogRecord). MayFollow l r) (sym (append_assoc earlier (x ∷ []) rs)) f))

follow_with : (front : List Log) (log : Log) (back : List Log) (r : LogRecord) → MayFollow log.records r → AllByRecursion (λ (l : Log). EachFollows [] l.records) (front ++ log ∷ back)
    → AllByRecursion (λ (l : Log). EachFollows [] l.records) (front ++ with_record log r ∷ back)
follow_with [] log back r f h = (follows_more [] log.records r h.0 f, h.1)
follow_with (x ∷ xs) log back r f h = (h.0, follow_with xs log back r f h.1)

-- ---- all logs

transactions_with : (front : List Log) (log : Log) (back : List Log) (r : LogRecord) → IsAllowed r → IsNext (front ++ log ∷ back) log r r.body → AreTransactions (front ++ log ∷ back) → AreTransactions (front ++ with_record log r ∷ back)
transactions_with front log back r allowed h t =
    let before : all_records (front ++ log ∷ back) ≡ until front log ++ all_records back = all_split front log back in
    let high : is_drawn r.body ≡ true → greatest (until front log ++ all_records back) < r.lrsn =
    λ is. let e = above_all (front ++ log ∷ back) log r r.body h is in let same = ap greatest before in omega (arith, e, same) in
    let old : all_differ (0 ∷ drawn_numbers (until front log ++ all_records back)) ≡ true = subst (λ (rs : List LogRecord). all_differ (0 ∷ drawn_numbers rs) ≡ true) before t.numbers in
    record {
      numbers = subst (λ (rs : List LogRecord). all_differ (0 ∷ drawn_numbers rs) ≡ true) (sym (all_with front log back r)) (numbers_with (until front log) (all_records back) r old high);
      homes = stand_with front log back r (known (front ++ log ∷ back) log r h allowed) t.homes;
      follow = follow_with front log back r (may_follow (front ++ log ∷ back) log r h allowed) t.follow;
    }

pub keeps_transactions : (logs after : List Log) (r : LogRecord) → Appends logs r after → AreTransactions logs → AreTransactions after
keeps_transactions logs after r h t =
    subst AreTransactions (sym h.after_are) (transactions_with h.front h.log h.back r h.allowed (subst (λ (ls : List Log). IsNext ls h.log r r.body) h.logs_are h.next) (subst AreTransactions h.logs_are t))
