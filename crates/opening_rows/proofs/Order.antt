-- Records of some transactions, in the order of their numbers.
use Rattle.std.proofs.Common.{◌≡◌, ℕ, ◌<◌, ◌≤◌, Bool, true, false, true≢false, ◌||◌, cond, leb, List, [], ◌∷◌, ◌++◌, refl, sym, ap, subst, ◌∙◌, append_assoc, arith}
use Rattle.std.specs.Prelude.{◌==◌, ◌&&◌}
use Rattle.std.specs.List.{filter, AllByRecursion}
use Rattle.std.specs.FinMap as finite
use Rattle.std.proofs.lemmas.List.Folds.{flat_map-map}
use Rattle.ds_model.specs.declared.log.LogRecord.{LogRecord}
use Rattle.ds_model.specs.declared.log.Body.{Body}
use Rattle.ds_model.specs.declared.log.Body.TheVariants as body
use Rattle.ds_model.specs.Rows.{Rows}
use Rattle.ds_model.specs.Logs.{is_commit, has_commit, put_by_lrsn, by_lrsn, after_body, after_records, rows_of_logs}
use Rattle.log_record.specs.declared.log.Log.{Log}
use Rattle.log_merge.specs.Merging.{RisesFrom, all_records}
use Rattle.log_heads.specs.Logs.{together, NoneFalls, IsTaken}
use Rattle.report_check.specs.Records.{records_of}
use Rattle.opening_rows.specs.Pending.{is_pending}
use Rattle.opening_rows.specs.Rows.{AreRead, rows_by, counts}
use Rattle.opening_rows.proofs.Committing.{is_change, has_change, change_at, counts_right}

leb-within : (m n : ℕ) → m ≤ n → leb m n ≡ true
leb-within m n h = grind arith

leb-above : (m n : ℕ) → n < m → leb m n ≡ false
leb-above m n h = grind arith

within-leb : (m n : ℕ) → leb m n ≡ true → m ≤ n
within-leb m n e = grind arith

above-leb : (m n : ℕ) → leb m n ≡ false → n < m
above-leb m n e = grind arith

-- no number is below low
abbrev From : ℕ → List LogRecord → Type 0
From low l = AllByRecursion (λ (r : LogRecord). low ≤ r.lrsn) l

from_rises : (low n : ℕ) (l : List LogRecord) → low ≤ n → RisesFrom n l → From low l
from_rises low n [] le h = tt
from_rises low n (r ∷ rs) le h = (omega (arith, h.0), from_rises low r.lrsn rs (omega (arith, h.0)) h.1)

put_first : (r : LogRecord) (l : List LogRecord) → From r.lrsn l → put_by_lrsn r l ≡ r ∷ l
put_first r [] h = refl
put_first r (s ∷ ss) h = ap (λ b. cond b (r ∷ s ∷ ss) (s ∷ put_by_lrsn r ss)) (leb-within r.lrsn s.lrsn h.0)

put_behind : (r s : LogRecord) (ss : List LogRecord) → s.lrsn < r.lrsn → put_by_lrsn r (s ∷ ss) ≡ s ∷ put_by_lrsn r ss
put_behind r s ss lt = ap (λ b. cond b (r ∷ s ∷ ss) (s ∷ put_by_lrsn r ss)) (leb-above r.lrsn s.lrsn lt)

rises_put_when : (b : Bool) (low : ℕ) (r s : LogRecord) (ss us : List LogRecord) → leb r.lrsn s.lrsn ≡ b → low ≤ r.lrsn → low ≤ s.lrsn
    → RisesFrom s.lrsn ss → (s.lrsn ≤ r.lrsn → RisesFrom s.lrsn us) → RisesFrom low (cond b (r ∷ s ∷ ss) (s ∷ us))
rises_put_when true low r s ss us e r_in s_in h more = (r_in, (within-leb r.lrsn s.lrsn e, h))
rises_put_when false low r s ss us e r_in s_in h more = (s_in, more (omega (arith, above-leb r.lrsn s.lrsn e)))

rises_put : (low : ℕ) (r : LogRecord) (l : List LogRecord) → low ≤ r.lrsn → RisesFrom low l → RisesFrom low (put_by_lrsn r l)
rises_put low r [] le h = (le, tt)
rises_put low r (s ∷ ss) le h = rises_put_when (leb r.lrsn s.lrsn) low r s ss (put_by_lrsn r ss) refl le h.0 h.1 (λ below. rises_put s.lrsn r ss below h.1)

rises_by : (l : List LogRecord) → RisesFrom 0 (by_lrsn l)
rises_by [] = tt
rises_by (r ∷ rs) = rises_put 0 r (by_lrsn rs) (omega arith) (rises_by rs)

-- ---- those that pass a test

from_kept_when : (b : Bool) (low : ℕ) (r : LogRecord) (us : List LogRecord) → low ≤ r.lrsn → From low us → From low (cond b (r ∷ us) us)
from_kept_when true low r us le h = (le, h)
from_kept_when false low r us le h = h

from_kept : (p : LogRecord → Bool) (low : ℕ) (l : List LogRecord) → From low l → From low (filter p l)
from_kept p low [] h = tt
from_kept p low (r ∷ rs) h = from_kept_when (p r) low r (filter p rs) h.0 (from_kept p low rs h.1)

keep_first : (b : Bool) (r : LogRecord) (l : List LogRecord) → From r.lrsn l → cond b (r ∷ l) l ≡ cond b (put_by_lrsn r l) l
keep_first true r l h = sym (put_first r l h)
keep_first false r l h = refl

keep_behind : (b c : Bool) (r s : LogRecord) (l : List LogRecord) → s.lrsn < r.lrsn → cond c (s ∷ cond b (put_by_lrsn r l) l) (cond b (put_by_lrsn r l) l) ≡ cond b (put_by_lrsn r (cond c (s ∷ l) l)) (cond c (s ∷ l) l)
keep_behind true true r s l lt = sym (put_behind r s l lt)
keep_behind true false r s l lt = refl
keep_behind false c r s l lt = refl

kept_put_when : (p : LogRecord → Bool) (b : Bool) (r s : LogRecord) (ss : List LogRecord) → leb r.lrsn s.lrsn ≡ b → RisesFrom s.lrsn ss
    → filter p (put_by_lrsn r ss) ≡ cond (p r) (put_by_lrsn r (filter p ss)) (filter p ss)
    → filter p (cond b (r ∷ s ∷ ss) (s ∷ put_by_lrsn r ss)) ≡ cond (p r) (put_by_lrsn r (filter p (s ∷ ss))) (filter p (s ∷ ss))
kept_put_when p true r s ss e h again =
    let le : r.lrsn ≤ s.lrsn = within-leb r.lrsn s.lrsn e in
    keep_first (p r) r (filter p (s ∷ ss)) (from_kept p r.lrsn (s ∷ ss) (le, from_rises r.lrsn s.lrsn ss le h))
kept_put_when p false r s ss e h again = ap (λ (l : List LogRecord). cond (p s) (s ∷ l) l) again ∙ keep_behind (p r) (p s) r s (filter p ss) (above-leb r.lrsn s.lrsn e)

kept_put : (p : LogRecord → Bool) (low : ℕ) (r : LogRecord) (l : List LogRecord) → RisesFrom low l → filter p (put_by_lrsn r l) ≡ cond (p r) (put_by_lrsn r (filter p l)) (filter p l)
kept_put p low r [] h = refl
kept_put p low r (s ∷ ss) h = kept_put_when p (leb r.lrsn s.lrsn) r s ss refl h.1 (kept_put p s.lrsn r ss h.1)

by_if : (b : Bool) (r : LogRecord) (l : List LogRecord) → cond b (put_by_lrsn r (by_lrsn l)) (by_lrsn l) ≡ by_lrsn (cond b (r ∷ l) l)
by_if true r l = refl
by_if false r l = refl

-- those that are kept of records in order are in order
pub kept_by : (p : LogRecord → Bool) (l : List LogRecord) → filter p (by_lrsn l) ≡ by_lrsn (filter p l)
kept_by p [] = refl
kept_by p (r ∷ rs) = kept_put p 0 r (by_lrsn rs) (rises_by rs) ∙ ap (λ (l : List LogRecord). cond (p r) (put_by_lrsn r l) l) (kept_by p rs) ∙ by_if (p r) r (filter p rs)

-- ---- rows

step_when : (b : Bool) (rows : Rows) (r : LogRecord) (rs : List LogRecord) → after_records rows (cond b (r ∷ rs) rs) ≡ after_records (cond b (after_body rows r.body) rows) rs
step_when true rows r rs = refl
step_when false rows r rs = refl

-- one record more
pub row_more : (keeps : ℕ → Bool) (rows : Rows) (member : ℕ) (r : LogRecord) (before after : List (List LogRecord)) → IsTaken member r before after → NoneFalls before
    → rows_by keeps rows before ≡ rows_by keeps (cond (keeps r.tran) (after_body rows r.body) rows) after
row_more keeps rows member r before after is none =
    ap (λ (l : List LogRecord). after_records rows (filter (λ (x : LogRecord). keeps x.tran) l)) (is.lowest none)
    ∙ step_when (keeps r.tran) rows r (filter (λ (x : LogRecord). keeps x.tran) (by_lrsn (together after)))

pub none_together : (lists : List (List LogRecord)) → AreRead lists → together lists ≡ []
none_together [] h = refl
none_together (l ∷ ls) h = ap (λ (x : List LogRecord). x ++ together ls) h.0 ∙ none_together ls h.1

-- none is left
pub rows_done : (keeps : ℕ → Bool) (rows : Rows) (lists : List (List LogRecord)) → AreRead lists → rows_by keeps rows lists ≡ rows
rows_done keeps rows lists h = ap (λ (l : List LogRecord). after_records rows (filter (λ (x : LogRecord). keeps x.tran) (by_lrsn l))) (none_together lists h)

-- ---- transactions that have committed

or_turned : (a b c : Bool) → (a || (b || c)) ≡ (b || (a || c))
or_turned true true c = refl
or_turned true false c = refl
or_turned false b c = refl

commits_put_when : (b : Bool) (r s : LogRecord) (ss us : List LogRecord) (tran : ℕ) → has_commit us tran ≡ has_commit (r ∷ ss) tran → has_commit (cond b (r ∷ s ∷ ss) (s ∷ us)) tran ≡ has_commit (r ∷ s ∷ ss) tran
commits_put_when true r s ss us tran e = refl
commits_put_when false r s ss us tran e =
    ap (λ (x : Bool). (is_commit s.body && (s.tran == tran)) || x) e ∙ or_turned (is_commit s.body && (s.tran == tran)) (is_commit r.body && (r.tran == tran)) (has_commit ss tran)

commits_put : (r : LogRecord) (l : List LogRecord) (tran : ℕ) → has_commit (put_by_lrsn r l) tran ≡ has_commit (r ∷ l) tran
commits_put r [] tran = refl
commits_put r (s ∷ ss) tran = commits_put_when (leb r.lrsn s.lrsn) r s ss (put_by_lrsn r ss) tran (commits_put r ss tran)

-- the order says nothing of them
pub commits_by : (l : List LogRecord) (tran : ℕ) → has_commit (by_lrsn l) tran ≡ has_commit l tran
commits_by [] tran = refl
commits_by (r ∷ rs) tran = commits_put r (by_lrsn rs) tran ∙ ap (λ (x : Bool). (is_commit r.body && (r.tran == tran)) || x) (commits_by rs tran)

-- ---- rows of other records

unchanged : (b : Body) (rows : Rows) → is_change b ≡ false → after_body rows b ≡ rows
unchanged body.Commit rows e = refl
unchanged (body.RowChange change) rows e = absurd (true≢false e)
unchanged (body.Compensation change undone) rows e = refl
unchanged (body.System patches) rows e = refl
unchanged body.Ended rows e = refl
unchanged (body.Checkpoint offset) rows e = refl
unchanged body.RestartEnd rows e = refl

changes_when : (b c : Bool) (rows : Rows) (r : LogRecord) (xs ys : List LogRecord) → is_change r.body ≡ b → ((m : Rows) → after_records m xs ≡ after_records m ys) → after_records rows (cond c (r ∷ xs) xs) ≡ after_records rows (cond (b && c) (r ∷ ys) ys)
changes_when true true rows r xs ys e same = same (after_body rows r.body)
changes_when true false rows r xs ys e same = same rows
changes_when false true rows r xs ys e same = ap (λ (m : Rows). after_records m xs) (unchanged r.body rows e) ∙ same rows
changes_when false false rows r xs ys e same = same rows

abbrev pub changes_of : (LogRecord → Bool) → LogRecord → Bool
changes_of p r = is_change r.body && p r

-- only row changes count
pub changes_only : (p : LogRecord → Bool) (l : List LogRecord) (rows : Rows) → after_records rows (filter p l) ≡ after_records rows (filter (changes_of p) l)
changes_only p [] rows = refl
changes_only p (r ∷ rs) rows = changes_when (is_change r.body) (p r) rows r (filter p rs) (filter (changes_of p) rs) refl (λ m. changes_only p rs m)

and_when : (a b c : Bool) → (a ≡ true → b ≡ c) → (a && b) ≡ (a && c)
and_when true b c h = h refl
and_when false b c h = refl

behind : (pre rs : List LogRecord) (r : LogRecord) → (pre ++ r ∷ []) ++ rs ≡ pre ++ r ∷ rs
behind pre rs r = append_assoc pre (r ∷ []) rs

-- tests that agree on transactions with row changes keep the same of these
changes_agree : (p q : ℕ → Bool) (pre rs : List LogRecord) → ((tran : ℕ) → has_change (pre ++ rs) tran ≡ true → p tran ≡ q tran) → filter (changes_of (λ (r : LogRecord). p r.tran)) rs ≡ filter (changes_of (λ (r : LogRecord). q r.tran)) rs
changes_agree p q pre [] same = refl
changes_agree p q pre (r ∷ rs) same =
    ap (λ (b : Bool). cond b (r ∷ filter (changes_of (λ (x : LogRecord). p x.tran)) rs) (filter (changes_of (λ (x : LogRecord). p x.tran)) rs)) (and_when (is_change r.body) (p r.tran) (q r.tran) (λ is. same r.tran (change_at pre rs r is)))
    ∙ ap (λ (l : List LogRecord). cond (is_change r.body && q r.tran) (r ∷ l) l) (changes_agree p q (pre ++ r ∷ []) rs (λ tran has. same tran (subst (λ (l : List LogRecord). has_change l tran ≡ true) (behind pre rs r) has)))

rows_agree : (p q : ℕ → Bool) (l : List LogRecord) → ((tran : ℕ) → has_change l tran ≡ true → p tran ≡ q tran)
    → after_records finite.empty (filter (λ (r : LogRecord). p r.tran) (by_lrsn l)) ≡ after_records finite.empty (filter (λ (r : LogRecord). q r.tran) (by_lrsn l))
rows_agree p q l same =
    let f : LogRecord → Bool = λ r. p r.tran in
    let g : LogRecord → Bool = λ r. q r.tran in
    changes_only f (by_lrsn l) finite.empty
    ∙ ap (after_records finite.empty) (kept_by (changes_of f) l ∙ ap by_lrsn (changes_agree p q [] l same) ∙ sym (kept_by (changes_of g) l))
    ∙ sym (changes_only g (by_lrsn l) finite.empty)

-- the rows for which logs stand
pub rows_are : (pending committed : ℕ → Bool) (logs : List Log) → ((tran : ℕ) → pending tran ≡ is_pending tran false (all_records logs)) → ((tran : ℕ) → committed tran ≡ (pending tran && has_commit (together (records_of logs)) tran))
    → rows_by (counts pending committed) finite.empty (records_of logs) ≡ rows_of_logs (records_of logs)
rows_are pending committed logs are found =
    let all : List LogRecord = together (records_of logs) in
    let same : all ≡ all_records logs = flat_map-map (λ (l : List LogRecord). l) (λ (l : Log). l.records) logs in
    let its : (tran : ℕ) → pending tran ≡ is_pending tran false all = λ tran. are tran ∙ ap (λ (l : List LogRecord). is_pending tran false l) (sym same) in
    rows_agree (counts pending committed) (has_commit all) all (λ tran has. counts_right pending committed all tran (its tran) (found tran) has) ∙ ap (after_records finite.empty) (kept_by (λ (r : LogRecord). has_commit all r.tran) all)
