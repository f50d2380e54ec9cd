-- Which transactions of a log have open row changes, where its records fit each other.
use Rattle.std.proofs.Common.{◌≡◌, ℕ, zero, suc, ◌+◌, ◌-◌, ◌<◌, Bool, true, false, cond, List, [], ◌∷◌, ◌++◌, length, take, Option, Some, None, is_some, refl, sym, ap, subst, ◌∙◌, arith, append_assoc}
use Rattle.std.specs.Prelude.{◌==◌, not, ◌||◌, ◌&&◌, slice_get}
use Rattle.std.specs.List.{list_any, list_all}
use Rattle.std.specs.Ordering.{nat_cmp, eq_by_cmp}
use Rattle.std.specs.Cmp.{nat_cmp_total}
use Rattle.std.specs.FinMap.{get, remove, insert, get-insert, get-remove, get-empty}
use Rattle.std.proofs.lemmas.Bool.Decides.{nat_tests}
use Rattle.std.proofs.lemmas.List.{append-nil}
use Rattle.std.proofs.lemmas.List.Folds.{list_any-append}
use Rattle.ds_model.specs.declared.log.LogRecord.{LogRecord}
use Rattle.ds_model.specs.declared.log.RowChange.{RowChange}
use Rattle.ds_model.specs.declared.log.Body.{Body}
use Rattle.ds_model.specs.declared.log.Body.TheVariants as body
use Rattle.ds_model.specs.Logs.{is_commit, has_commit}
use Rattle.log_trans.specs.declared.course.Course.{Course}
use Rattle.log_trans.specs.Courses as courses
use Rattle.log_trans.specs.Courses.{new_course, has_number, is_next, undone_one, row_record}
use Rattle.sound_disk.specs.Settled.{is_row_change, is_open, has_ended}
use Rattle.sound_disk.specs.Checkpoints.{next_place}
use Rattle.sound_disk.specs.Transactions.{is_among, drawn_numbers, all_differ, course_in, EachFollows}
use Rattle.sound_appends.proofs.Left.{is_change, has_change, is_taken, numbers, numbers_more, change_parts, undo_of, are_left, course_last}
use Rattle.kept_checkpoints.specs.declared.scan.LogScan.{LogScan}
use Rattle.kept_checkpoints.specs.Scan.{Open, numbers_of, is_number, is_last, taken_back, with_numbers, with_body, nothing_scanned, scanned, scan_from}
use Rattle.kept_checkpoints.specs.Recheck.{settled_with}
use Rattle.kept_checkpoints.proofs.Holding.{held, held_removed, held_with, same, ended, decide}

-- ---- numbers that are held are those that are left to be undone

same_last : (n : ℕ) (us : List LogRecord) (k : ℕ) → is_number n (slice_get (numbers us) k) ≡ has_number n (slice_get us k)
same_last n [] k = refl
same_last n (u ∷ us) zero = refl
same_last n (u ∷ us) (suc k) = same_last n us k

counted : (us : List LogRecord) → length (numbers us) ≡ length us
counted [] = refl
counted (u ∷ us) = ap suc (counted us)

fronts : (k : ℕ) (us : List LogRecord) → take k (numbers us) ≡ numbers (take k us)
fronts zero us = refl
fronts (suc k) [] = refl
fronts (suc k) (u ∷ us) = ap (λ (l : List ℕ). u.lrsn ∷ l) (fronts k us)

same_next : (n : ℕ) (us : List LogRecord) → is_last n (numbers us) ≡ is_next n us
same_next n us = ap (λ (k : ℕ). is_number n (slice_get (numbers us) (k - 1))) (counted us) ∙ same_last n us (length us - 1)

taken_by : (b : Bool) (c : Course) (k : ℕ) → cond b (take k (numbers c.undo)) (numbers c.undo) ≡ numbers (cond b (record { undo = take k c.undo; undone = (undone_one c).undone; is_committed = c.is_committed; is_ended = c.is_ended }) c).undo
taken_by true c k = fronts k c.undo
taken_by false c k = refl

taken_same : (n : ℕ) (c : Course) → taken_back n (numbers c.undo) ≡ numbers (cond (is_next n c.undo) (undone_one c) c).undo
taken_same n c =
    ap (λ (b : Bool). cond b (take (length (numbers c.undo) - 1) (numbers c.undo)) (numbers c.undo)) (same_next n c.undo)
    ∙ ap (λ (k : ℕ). cond (is_next n c.undo) (take (k - 1) (numbers c.undo)) (numbers c.undo)) (counted c.undo)
    ∙ taken_by (is_next n c.undo) c (length c.undo - 1)

-- ---- one record more

-- of a transaction without a Commit among the records
abbrev Holds : Open → List LogRecord → Type 0
Holds changes done = (t : ℕ) → has_commit done t ≡ false → held changes t ≡ numbers (undo_of done t)

turned : (m n : ℕ) → (m == n) ≡ (n == m)
turned m n = grind (arith, nat_tests)

or_left_none : (a b : Bool) → (a || b) ≡ false → a ≡ false
or_left_none true b h = absurd cc
or_left_none false b h = refl

or_right_none : (a b : Bool) → (a || b) ≡ false → b ≡ false
or_right_none true b h = absurd cc
or_right_none false b h = h

commit_before : (done : List LogRecord) (r : LogRecord) (t : ℕ) → has_commit (done ++ r ∷ []) t ≡ false → (has_commit done t ≡ false) × ((is_commit r.body && (r.tran == t)) ≡ false)
commit_before done r t h =
    let both : (has_commit done t || ((is_commit r.body && (r.tran == t)) || false)) ≡ false = sym (list_any-append (λ (s : LogRecord). is_commit s.body && (s.tran == t)) done (r ∷ [])) ∙ h in
    (or_left_none (has_commit done t) _ both, or_left_none (is_commit r.body && (r.tran == t)) false (or_right_none (has_commit done t) _ both))

-- what it leaves of its own transaction, and of the others
own_holds : (changes : Open) (done : List LogRecord) (r : LogRecord) (b : Body) → held changes r.tran ≡ numbers (undo_of done r.tran) → is_commit b ≡ false
    → held (with_body changes r.tran r.lrsn b) r.tran ≡ numbers (courses.after_body (course_in new_course r.tran done) r b).undo
own_holds changes done r (body.RowChange change) h none =
    held_with changes r.tran (held changes r.tran ++ r.lrsn ∷ []) r.tran ∙ ap (λ (b : Bool). cond b (held changes r.tran ++ r.lrsn ∷ []) (held changes r.tran)) (itself r.tran)
    ∙ ap (λ (l : List ℕ). l ++ r.lrsn ∷ []) h ∙ sym (numbers_more (undo_of done r.tran) (row_record r change ∷ []))
  where
    itself : (n : ℕ) → (n == n) ≡ true
    itself n = grind (arith, nat_tests)
own_holds changes done r (body.Compensation change n) h none =
    held_with changes r.tran (taken_back n (held changes r.tran)) r.tran ∙ ap (λ (b : Bool). cond b (taken_back n (held changes r.tran)) (held changes r.tran)) (itself r.tran)
    ∙ ap (taken_back n) h ∙ taken_same n (course_in new_course r.tran done)
  where
    itself : (n : ℕ) → (n == n) ≡ true
    itself n = grind (arith, nat_tests)
own_holds changes done r (body.System patches) h none = h
own_holds changes done r body.Commit h none = absurd cc
own_holds changes done r body.Ended h none = h
own_holds changes done r (body.Checkpoint offset) h none = h
own_holds changes done r body.RestartEnd h none = h

other_holds : (changes : Open) (r : LogRecord) (b : Body) (t : ℕ) → (t == r.tran) ≡ false → held (with_body changes r.tran r.lrsn b) t ≡ held changes t
other_holds changes r (body.RowChange change) t e =
    held_with changes r.tran (held changes r.tran ++ r.lrsn ∷ []) t ∙ ap (λ (b : Bool). cond b (held changes r.tran ++ r.lrsn ∷ []) (held changes t)) e
other_holds changes r (body.Compensation change n) t e =
    held_with changes r.tran (taken_back n (held changes r.tran)) t ∙ ap (λ (b : Bool). cond b (taken_back n (held changes r.tran)) (held changes t)) e
other_holds changes r (body.System patches) t e = refl
other_holds changes r body.Commit t e = held_removed changes r.tran t ∙ ap (λ (b : Bool). cond b [] (held changes t)) e
other_holds changes r body.Ended t e = refl
other_holds changes r (body.Checkpoint offset) t e = refl
other_holds changes r body.RestartEnd t e = refl

and_true_none : (a b : Bool) → (a && b) ≡ false → b ≡ true → a ≡ false
and_true_none true b h k = absurd cc
and_true_none false b h k = refl

one_holds : (changes : Open) (done : List LogRecord) (r : LogRecord) (t : ℕ) (own : Bool) → (r.tran == t) ≡ own → Holds changes done → has_commit done t ≡ false → (is_commit r.body && (r.tran == t)) ≡ false
    → held (with_body changes r.tran r.lrsn r.body) t ≡ numbers (cond own (courses.after_body (course_in new_course t done) r r.body) (course_in new_course t done)).undo
one_holds changes done r t true e h none other =
    let is : r.tran ≡ t = same r.tran t e in
    subst (λ (n : ℕ). held (with_body changes r.tran r.lrsn r.body) n ≡ numbers (courses.after_body (course_in new_course n done) r r.body).undo) is
    (own_holds changes done r r.body (h r.tran (subst (λ (n : ℕ). has_commit done n ≡ false) (sym is) none)) (and_true_none (is_commit r.body) (r.tran == t) other e))
one_holds changes done r t false e h none other = other_holds changes r r.body t (turned t r.tran ∙ e) ∙ h t none

holds_more : (changes : Open) (done : List LogRecord) (r : LogRecord) → Holds changes done → Holds (with_body changes r.tran r.lrsn r.body) (done ++ r ∷ [])
holds_more changes done r h t none =
    let both = commit_before done r t none in
    one_holds changes done r t (r.tran == t) refl h both.0 both.1 ∙ sym (ap (λ (c : Course). numbers c.undo) (course_last new_course t done r))

holds_all : (s : LogScan) (at : ℕ) (done rs : List LogRecord) → Holds s.changes done → Holds (scan_from s at rs).changes (done ++ rs)
holds_all s at done [] h = subst (Holds s.changes) (sym (append-nil done)) h
holds_all s at done (r ∷ rs) h =
    subst (Holds (scan_from (scanned s at r) (next_place at r) rs).changes) (append_assoc done (r ∷ []) rs) (holds_all (scanned s at r) (next_place at r) (done ++ r ∷ []) rs (holds_more s.changes done r h))

holds_none : Holds nothing_scanned.changes []
holds_none t none = ap (λ (o : Option (List ℕ)). numbers_of o) (get-empty {X = List ℕ} nat_cmp t)

-- ---- a transaction is held with some number

abbrev some_number : List ℕ → Bool
some_number [] = false
some_number (n ∷ ns) = true

abbrev Full : Open → Type 0
Full changes = (t : ℕ) → is_some (get changes t) ≡ some_number (held changes t)

same_key : (q k : ℕ) → eq_by_cmp nat_cmp q k ≡ (q == k)
same_key q k = grind (arith, nat_tests)

full_if : (b : Bool) (n : ℕ) (ns : List ℕ) (o : Option (List ℕ)) → is_some o ≡ some_number (numbers_of o) → is_some (cond b (Some (n ∷ ns)) o) ≡ some_number (numbers_of (cond b (Some (n ∷ ns)) o))
full_if true n ns o h = refl
full_if false n ns o h = h

gone_full : (b : Bool) (o : Option (List ℕ)) → is_some o ≡ some_number (numbers_of o) → is_some (cond b None o) ≡ some_number (numbers_of (cond b None o))
gone_full true o h = refl
gone_full false o h = h

full_removed : (changes : Open) (tran : ℕ) → Full changes → Full (remove changes tran)
full_removed changes tran h t =
    subst (λ (o : Option (List ℕ)). is_some o ≡ some_number (numbers_of o)) (sym (get-remove nat_cmp_total changes tran t)) (gone_full (eq_by_cmp nat_cmp t tran) (get changes t) (h t))

full_with : (changes : Open) (tran : ℕ) (ns : List ℕ) → Full changes → Full (with_numbers changes tran ns)
full_with changes tran [] h t = h t
full_with changes tran (n ∷ ns) h t =
    subst (λ (o : Option (List ℕ)). is_some o ≡ some_number (numbers_of o)) (sym (get-insert nat_cmp_total changes tran (n ∷ ns) t)) (full_if (eq_by_cmp nat_cmp t tran) n ns (get changes t) (h t))

full_body : (changes : Open) (tran lrsn : ℕ) (b : Body) → Full changes → Full (with_body changes tran lrsn b)
full_body changes tran lrsn (body.RowChange change) h = full_with (remove changes tran) tran (held changes tran ++ lrsn ∷ []) (full_removed changes tran h)
full_body changes tran lrsn (body.Compensation change n) h = full_with (remove changes tran) tran (taken_back n (held changes tran)) (full_removed changes tran h)
full_body changes tran lrsn (body.System patches) h = h
full_body changes tran lrsn body.Commit h = full_removed changes tran h
full_body changes tran lrsn body.Ended h = h
full_body changes tran lrsn (body.Checkpoint offset) h = h
full_body changes tran lrsn body.RestartEnd h = h

full_all : (s : LogScan) (at : ℕ) (rs : List LogRecord) → Full s.changes → Full (scan_from s at rs).changes
full_all s at [] h = h
full_all s at (r ∷ rs) h = full_all (scanned s at r) (next_place at r) rs (full_body s.changes r.tran r.lrsn r.body h)

full_none : Full nothing_scanned.changes
full_none t = subst (λ (o : Option (List ℕ)). is_some o ≡ some_number (numbers_of o)) (sym (get-empty {X = List ℕ} nat_cmp t)) refl

-- ---- an open row change

and_none : (a : Bool) → (a && false) ≡ false
and_none true = refl
and_none false = refl

open_when : (row own commit taken : Bool) → row ≡ true → own ≡ true → commit ≡ false → taken ≡ false → not (own && (row && not (commit || taken))) ≡ false
open_when true true false false a b c d = refl
open_when true true false true a b c d = absurd cc
open_when true true true taken a b c d = absurd cc
open_when true false commit taken a b c d = absurd cc
open_when false own commit taken a b c d = absurd cc

-- a row change of the transaction that no record takes back is open, if there is no Commit
not_ended : (t k : ℕ) (all rs : List LogRecord) → has_change t k rs ≡ true → is_taken k all ≡ false → has_commit all t ≡ false → list_all (λ (r : LogRecord). not ((r.tran == t) && is_open all r)) rs ≡ false
not_ended t k all [] h free none = absurd cc
not_ended t k all (r ∷ rs) h free none =
    decide (is_change t k r) _
    (λ e.
    let p = change_parts t k r e in
    ap (λ (b : Bool). b && list_all (λ (x : LogRecord). not ((x.tran == t) && is_open all x)) rs)
    (open_when (is_row_change r.body) (r.tran == t) (has_commit all r.tran) (is_taken r.lrsn all) p.row (own r.tran t p.tran) (ap (has_commit all) p.tran ∙ none) (ap (λ (n : ℕ). is_taken n all) p.number ∙ free)))
    (λ e. ap (λ (b : Bool). not ((r.tran == t) && is_open all r) && b) (not_ended t k all rs (rest (is_change t k r) (has_change t k rs) e h) free none) ∙ and_none (not ((r.tran == t) && is_open all r)))
  where
    own : (m n : ℕ) → m ≡ n → (m == n) ≡ true
    own m n e = grind (arith, nat_tests)

    rest : (a b : Bool) → a ≡ false → (a || b) ≡ true → b ≡ true
    rest true b e k = absurd cc
    rest false b e k = k

first_among : (n : ℕ) (ns : List ℕ) → is_among n (n ∷ ns) ≡ true
first_among n ns = ap (λ (b : Bool). b || is_among n ns) (itself n)
  where
    itself : (m : ℕ) → (m == m) ≡ true
    itself m = grind (arith, nat_tests)

not_ended_of : (records : List LogRecord) (t : ℕ) (ns : List ℕ) → EachFollows [] records → all_differ (drawn_numbers records) ≡ true → has_commit records t ≡ false → numbers (undo_of records t) ≡ ns → some_number ns ≡ true → has_ended records t ≡ false
not_ended_of records t [] f differ none is some = absurd cc
not_ended_of records t (n ∷ ns) f differ none is some =
    let left = (are_left records f differ).left t in
    let among : is_among n (numbers (undo_of records t)) ≡ true = subst (λ (l : List ℕ). is_among n l ≡ true) (sym is) (first_among n ns) in
    not_ended t n records records (left.made n among) (left.kept n among) none

-- ---- a transaction with a Commit has ended

ended_when : (own row taken : Bool) → not (own && (row && not (true || taken))) ≡ true
ended_when true true taken = refl
ended_when true false taken = refl
ended_when false row taken = refl

committed_one : (all : List LogRecord) (t : ℕ) (r : LogRecord) → has_commit all t ≡ true → not ((r.tran == t) && is_open all r) ≡ true
committed_one all t r h =
    decide (r.tran == t) _
    (λ e. ap (λ (b : Bool). not ((r.tran == t) && (is_row_change r.body && not (b || is_taken r.lrsn all)))) (ap (has_commit all) (same r.tran t e) ∙ h) ∙ ended_when (r.tran == t) (is_row_change r.body) (is_taken r.lrsn all))
    (λ e. ap (λ (b : Bool). not (b && is_open all r)) e)

committed_ended : (all rs : List LogRecord) (t : ℕ) → has_commit all t ≡ true → list_all (λ (r : LogRecord). not ((r.tran == t) && is_open all r)) rs ≡ true
committed_ended all [] t h = refl
committed_ended all (r ∷ rs) t h = ap (λ (b : Bool). b && list_all (λ (x : LogRecord). not ((x.tran == t) && is_open all x)) rs) (committed_one all t r h) ∙ committed_ended all rs t h

-- ---- transactions that have a Commit are let go

abbrev pub settled_from : Open → List LogRecord → Open
settled_from changes [] = changes
settled_from changes (r ∷ rs) = settled_from (settled_with changes r.tran r.body) rs

gone_by : (changes : Open) (tran t : ℕ) (b : Body) → is_some (get (settled_with changes tran b) t) ≡ (not (is_commit b && (tran == t)) && is_some (get changes t))
gone_by changes tran t body.Commit = ap (λ (o : Option (List ℕ)). is_some o) (get-remove nat_cmp_total changes tran t) ∙ gone_if (eq_by_cmp nat_cmp t tran) (tran == t) (get changes t) (same_key t tran ∙ turned t tran)
  where
    gone_if : (a b : Bool) (o : Option (List ℕ)) → a ≡ b → is_some (cond a None o) ≡ (not b && is_some o)
    gone_if true true o e = refl
    gone_if true false o e = absurd cc
    gone_if false true o e = absurd cc
    gone_if false false o e = refl
gone_by changes tran t (body.RowChange change) = refl
gone_by changes tran t (body.Compensation change n) = refl
gone_by changes tran t (body.System patches) = refl
gone_by changes tran t body.Ended = refl
gone_by changes tran t (body.Checkpoint offset) = refl
gone_by changes tran t body.RestartEnd = refl

not_either : (a b c : Bool) → (not a && (not b && c)) ≡ (not (b || a) && c)
not_either true true c = refl
not_either true false c = refl
not_either false true c = refl
not_either false false c = refl

settled_is : (changes : Open) (rs : List LogRecord) (t : ℕ) → is_some (get (settled_from changes rs) t) ≡ (not (has_commit rs t) && is_some (get changes t))
settled_is changes [] t = refl
settled_is changes (r ∷ rs) t =
    settled_is (settled_with changes r.tran r.body) rs t ∙ ap (λ (b : Bool). not (has_commit rs t) && b) (gone_by changes r.tran t r.body)
    ∙ not_either (has_commit rs t) (is_commit r.body && (r.tran == t)) (is_some (get changes t))

abbrev pub open_of : List LogRecord → Open
open_of records = settled_from (scan_from nothing_scanned 0 records).changes records

exact_by : (records : List LogRecord) (t : ℕ) (commit some : Bool) → has_commit records t ≡ commit → is_some (get (scan_from nothing_scanned 0 records).changes t) ≡ some → EachFollows [] records → all_differ (drawn_numbers records) ≡ true
    → (not commit && some) ≡ not (has_ended records t)
exact_by records t true some c e f differ = sym (ap (λ (b : Bool). not b) (committed_ended records records t c))
exact_by records t false false c e f differ = sym (ap (λ (b : Bool). not b) (ended records t e))
exact_by records t false true c e f differ =
    let holds : held (scan_from nothing_scanned 0 records).changes t ≡ numbers (undo_of records t) = holds_all nothing_scanned 0 [] records holds_none t c in
    let full : some_number (held (scan_from nothing_scanned 0 records).changes t) ≡ true = sym (full_all nothing_scanned 0 records full_none t) ∙ e in
    sym (ap (λ (b : Bool). not b) (not_ended_of records t (held (scan_from nothing_scanned 0 records).changes t) f differ c (sym holds) full))

-- a transaction is held exactly if it has open row changes
pub exact : (records : List LogRecord) (t : ℕ) → EachFollows [] records → all_differ (drawn_numbers records) ≡ true → is_some (get (open_of records) t) ≡ not (has_ended records t)
exact records t f differ =
    settled_is (scan_from nothing_scanned 0 records).changes records t
    ∙ exact_by records t (has_commit records t) (is_some (get (scan_from nothing_scanned 0 records).changes t)) refl refl f differ
