-- The merged records are those of all logs, in the order of their numbers, that change pages or commit; they say the same of open row changes and of
-- the rows that are left.
use Rattle.std.proofs.Common.{◌≡◌, ℕ, zero, suc, ◌+◌, ◌<◌, ◌≤◌, Bool, true, false, cond, leb, List, [], ◌∷◌, ◌++◌, length, map, refl, sym, ap, subst, ◌∙◌, arith}
use Rattle.std.specs.Prelude.{◌==◌, not, ◌||◌, ◌&&◌, filter}
use Rattle.std.specs.List.{list_any, flat_map, AllByRecursion, sum_by}
use Rattle.std.specs.List.Sorted.{IsPermutation}
use Rattle.std.specs.FinMap as finite
use Rattle.std.specs.FinMap.{len-entries}
use Rattle.std.proofs.lemmas.List.Elements.{filter_agree}
use Rattle.std.proofs.lemmas.List.Sums.{sum_by-cons}
use Rattle.std.proofs.lemmas.List.Sorted.{list_any-IsPermutation, sum_by-IsPermutation}
use Rattle.ds_base.specs.declared.row.Row.{Row}
use Rattle.ds_model.specs.declared.log.LogRecord.{LogRecord}
use Rattle.ds_model.specs.declared.log.Body.{Body}
use Rattle.ds_model.specs.declared.log.Body.TheVariants as body
use Rattle.ds_model.specs.Rows.{Spot, Rows, listed}
use Rattle.ds_model.specs.Logs.{is_commit, has_commit, put_by_lrsn, by_lrsn, after_body, after_records, rows_of_records}
use Rattle.log_record.specs.declared.log.Log.{Log}
use Rattle.log_merge.specs.Merging.{RisesFrom, is_merged, kept, all_records, in_order}
use Rattle.sound_disk.specs.Settled.{is_row_change, takes_back, is_settled, is_open}
use Rattle.sound_disk.specs.Numbers_left.{open_changes}

leb-within : (m n : ℕ) → m ≤ n → leb m n ≡ true
leb-within m n h = grind arith

leb-above : (m n : ℕ) → n < m → leb m n ≡ false
leb-above m n h = grind arith

within-leb : (m n : ℕ) → leb m n ≡ true → m ≤ n
within-leb m n e = grind arith

above-leb : (m n : ℕ) → leb m n ≡ false → n < m
above-leb m n e = grind arith

-- ---- a record that is put among those that pass a test

-- no number is below low
abbrev From : ℕ → List LogRecord → Type 0
From low l = AllByRecursion (λ (r : LogRecord). low ≤ r.lrsn) l

from_rises : (low n : ℕ) (l : List LogRecord) → low ≤ n → RisesFrom n l → From low l
from_rises low n [] le h = tt
from_rises low n (r ∷ rs) le h = (omega (arith, h.0), from_rises low r.lrsn rs (omega (arith, h.0)) h.1)

put_first : (r : LogRecord) (l : List LogRecord) → From r.lrsn l → put_by_lrsn r l ≡ r ∷ l
put_first r [] h = refl
put_first r (s ∷ ss) h = ap (λ b. cond b (r ∷ s ∷ ss) (s ∷ put_by_lrsn r ss)) (leb-within r.lrsn s.lrsn h.0)

put_behind : (r s : LogRecord) (ss : List LogRecord) → s.lrsn < r.lrsn → put_by_lrsn r (s ∷ ss) ≡ s ∷ put_by_lrsn r ss
put_behind r s ss lt = ap (λ b. cond b (r ∷ s ∷ ss) (s ∷ put_by_lrsn r ss)) (leb-above r.lrsn s.lrsn lt)

rises_put_when : (b : Bool) (low : ℕ) (r s : LogRecord) (ss us : List LogRecord) → leb r.lrsn s.lrsn ≡ b → low ≤ r.lrsn → low ≤ s.lrsn
    → RisesFrom s.lrsn ss → (s.lrsn ≤ r.lrsn → RisesFrom s.lrsn us) → RisesFrom low (cond b (r ∷ s ∷ ss) (s ∷ us))
rises_put_when true low r s ss us e r_in s_in h more = (r_in, (within-leb r.lrsn s.lrsn e, h))
rises_put_when false low r s ss us e r_in s_in h more = (s_in, more (omega (arith, above-leb r.lrsn s.lrsn e)))

rises_put : (low : ℕ) (r : LogRecord) (l : List LogRecord) → low ≤ r.lrsn → RisesFrom low l → RisesFrom low (put_by_lrsn r l)
rises_put low r [] le h = (le, tt)
rises_put low r (s ∷ ss) le h = rises_put_when (leb r.lrsn s.lrsn) low r s ss (put_by_lrsn r ss) refl le h.0 h.1 (λ below. rises_put s.lrsn r ss below h.1)

rises_by : (l : List LogRecord) → RisesFrom 0 (by_lrsn l)
rises_by [] = tt
rises_by (r ∷ rs) = rises_put 0 r (by_lrsn rs) (omega arith) (rises_by rs)

from_kept_when : (b : Bool) (low : ℕ) (r : LogRecord) (us : List LogRecord) → low ≤ r.lrsn → From low us → From low (cond b (r ∷ us) us)
from_kept_when true low r us le h = (le, h)
from_kept_when false low r us le h = h

from_kept : (p : LogRecord → Bool) (low : ℕ) (l : List LogRecord) → From low l → From low (filter p l)
from_kept p low [] h = tt
from_kept p low (r ∷ rs) h = from_kept_when (p r) low r (filter p rs) h.0 (from_kept p low rs h.1)

keep_first : (b : Bool) (r : LogRecord) (l : List LogRecord) → From r.lrsn l → cond b (r ∷ l) l ≡ cond b (put_by_lrsn r l) l
keep_first true r l h = sym (put_first r l h)
keep_first false r l h = refl

keep_behind : (b c : Bool) (r s : LogRecord) (l : List LogRecord) → s.lrsn < r.lrsn → cond c (s ∷ cond b (put_by_lrsn r l) l) (cond b (put_by_lrsn r l) l) ≡ cond b (put_by_lrsn r (cond c (s ∷ l) l)) (cond c (s ∷ l) l)
keep_behind true true r s l lt = sym (put_behind r s l lt)
keep_behind true false r s l lt = refl
keep_behind false c r s l lt = refl

kept_put_when : (p : LogRecord → Bool) (b : Bool) (r s : LogRecord) (ss : List LogRecord) → leb r.lrsn s.lrsn ≡ b → RisesFrom s.lrsn ss
    → filter p (put_by_lrsn r ss) ≡ cond (p r) (put_by_lrsn r (filter p ss)) (filter p ss)
    → filter p (cond b (r ∷ s ∷ ss) (s ∷ put_by_lrsn r ss)) ≡ cond (p r) (put_by_lrsn r (filter p (s ∷ ss))) (filter p (s ∷ ss))
kept_put_when p true r s ss e h again =
    let le : r.lrsn ≤ s.lrsn = within-leb r.lrsn s.lrsn e in
    keep_first (p r) r (filter p (s ∷ ss)) (from_kept p r.lrsn (s ∷ ss) (le, from_rises r.lrsn s.lrsn ss le h))
kept_put_when p false r s ss e h again = ap (λ (l : List LogRecord). cond (p s) (s ∷ l) l) again ∙ keep_behind (p r) (p s) r s (filter p ss) (above-leb r.lrsn s.lrsn e)

kept_put : (p : LogRecord → Bool) (low : ℕ) (r : LogRecord) (l : List LogRecord) → RisesFrom low l → filter p (put_by_lrsn r l) ≡ cond (p r) (put_by_lrsn r (filter p l)) (filter p l)
kept_put p low r [] h = refl
kept_put p low r (s ∷ ss) h = kept_put_when p (leb r.lrsn s.lrsn) r s ss refl h.1 (kept_put p s.lrsn r ss h.1)

by_if : (b : Bool) (r : LogRecord) (l : List LogRecord) → cond b (put_by_lrsn r (by_lrsn l)) (by_lrsn l) ≡ by_lrsn (cond b (r ∷ l) l)
by_if true r l = refl
by_if false r l = refl

-- those that are kept of records in order are in order
pub kept_by : (p : LogRecord → Bool) (l : List LogRecord) → filter p (by_lrsn l) ≡ by_lrsn (filter p l)
kept_by p [] = refl
kept_by p (r ∷ rs) = kept_put p 0 r (by_lrsn rs) (rises_by rs) ∙ ap (λ (l : List LogRecord). cond (p r) (put_by_lrsn r l) l) (kept_by p rs) ∙ by_if (p r) r (filter p rs)

pub merged_is : (records : List LogRecord) → in_order records ≡ kept (by_lrsn records)
merged_is records = sym (kept_by (λ (r : LogRecord). is_merged r.body) records)

-- ---- in the order of numbers

abbrev pub KeepsAll : Type 0
KeepsAll = (records : List LogRecord) → IsPermutation (kept records) (in_order records)

any_when : (f : LogRecord → Bool) (b : Bool) (r : LogRecord) (more : List LogRecord) (rest : Bool) → list_any f more ≡ rest → (b ≡ false → f r ≡ false) → list_any f (cond b (r ∷ more) more) ≡ (f r || rest)
any_when f true r more rest h k = ap (λ (b : Bool). f r || b) h
any_when f false r more rest h k = h ∙ ap (λ (b : Bool). b || rest) (sym (k refl))

-- of records that are merged alone
abbrev pub IsOfMerged : (LogRecord → Bool) → Type 0
IsOfMerged f = (r : LogRecord) → is_merged r.body ≡ false → f r ≡ false

pub any_kept : (f : LogRecord → Bool) → IsOfMerged f → (rs : List LogRecord) → list_any f (kept rs) ≡ list_any f rs
any_kept f h [] = refl
any_kept f h (r ∷ rs) = any_when f (is_merged r.body) r (kept rs) (list_any f rs) (any_kept f h rs) (h r)

pub any_in_order : KeepsAll → (f : LogRecord → Bool) → IsOfMerged f → (rs : List LogRecord) → list_any f rs ≡ list_any f (in_order rs)
any_in_order keeps f h rs = sym (any_kept f h rs) ∙ list_any-IsPermutation f (kept rs) (in_order rs) (keeps rs)

commit_merged : (tran : ℕ) (b : Body) (t : ℕ) → is_merged b ≡ false → (is_commit b && (t == tran)) ≡ false
commit_merged tran (body.RowChange c) t h = absurd cc
commit_merged tran (body.Compensation c undone) t h = absurd cc
commit_merged tran (body.System patches) t h = absurd cc
commit_merged tran body.Commit t h = absurd cc
commit_merged tran body.Ended t h = refl
commit_merged tran (body.Checkpoint offset) t h = refl
commit_merged tran body.RestartEnd t h = refl

takes_merged : (lrsn : ℕ) (b : Body) → is_merged b ≡ false → takes_back lrsn b ≡ false
takes_merged lrsn (body.RowChange c) h = absurd cc
takes_merged lrsn (body.Compensation c undone) h = absurd cc
takes_merged lrsn (body.System patches) h = absurd cc
takes_merged lrsn body.Commit h = absurd cc
takes_merged lrsn body.Ended h = refl
takes_merged lrsn (body.Checkpoint offset) h = refl
takes_merged lrsn body.RestartEnd h = refl

row_merged : (b : Body) → is_merged b ≡ false → is_row_change b ≡ false
row_merged (body.RowChange c) h = absurd cc
row_merged (body.Compensation c undone) h = absurd cc
row_merged (body.System patches) h = absurd cc
row_merged body.Commit h = absurd cc
row_merged body.Ended h = refl
row_merged (body.Checkpoint offset) h = refl
row_merged body.RestartEnd h = refl

pub commits_in_order : KeepsAll → (rs : List LogRecord) (tran : ℕ) → has_commit rs tran ≡ has_commit (in_order rs) tran
commits_in_order keeps rs tran = any_in_order keeps (λ (r : LogRecord). is_commit r.body && (r.tran == tran)) (λ r h. commit_merged tran r.body r.tran h) rs

open_in_order : KeepsAll → (rs : List LogRecord) (r : LogRecord) → is_open rs r ≡ is_open (in_order rs) r
open_in_order keeps rs r =
    ap (λ (b : Bool). is_row_change r.body && not (b || list_any (λ (s : LogRecord). takes_back r.lrsn s.body) rs)) (commits_in_order keeps rs r.tran)
    ∙ ap (λ (b : Bool). is_row_change r.body && not (has_commit (in_order rs) r.tran || b)) (any_in_order keeps (λ (s : LogRecord). takes_back r.lrsn s.body) (λ s h. takes_merged r.lrsn s.body h) rs)

abbrev one_if : (LogRecord → Bool) → LogRecord → ℕ
one_if p r = cond (p r) 1 0

count_when : (b : Bool) (r : LogRecord) (l : List LogRecord) → length (cond b (r ∷ l) l) ≡ cond b 1 0 + length l
count_when true r l = omega arith
count_when false r l = omega arith

counted : (p : LogRecord → Bool) (rs : List LogRecord) → length (filter p rs) ≡ sum_by (one_if p) rs
counted p [] = refl
counted p (r ∷ rs) = count_when (p r) r (filter p rs) ∙ ap (λ (n : ℕ). one_if p r + n) (counted p rs) ∙ sym (sum_by-cons (one_if p) r rs)

sum_when : (p : LogRecord → Bool) (b : Bool) (r : LogRecord) (l : List LogRecord) (n : ℕ) → sum_by (one_if p) l ≡ n → (b ≡ false → p r ≡ false) → sum_by (one_if p) (cond b (r ∷ l) l) ≡ one_if p r + n
sum_when p true r l n h k = sum_by-cons (one_if p) r l ∙ ap (λ (m : ℕ). one_if p r + m) h
sum_when p false r l n h k = let zero_more : n ≡ 0 + n = omega arith in h ∙ zero_more ∙ ap (λ (b : Bool). cond b 1 0 + n) (sym (k refl))

sum_kept : (p : LogRecord → Bool) → IsOfMerged p → (rs : List LogRecord) → sum_by (one_if p) (kept rs) ≡ sum_by (one_if p) rs
sum_kept p h [] = refl
sum_kept p h (r ∷ rs) = sum_when p (is_merged r.body) r (kept rs) (sum_by (one_if p) rs) (sum_kept p h rs) (h r) ∙ sym (sum_by-cons (one_if p) r rs)

count_in_order : KeepsAll → (p : LogRecord → Bool) → IsOfMerged p → (rs : List LogRecord) → length (filter p rs) ≡ length (filter p (in_order rs))
count_in_order keeps p h rs =
    counted p rs ∙ sym (sum_kept p h rs) ∙ sym (sum_by-IsPermutation (one_if p) (kept rs) (in_order rs) (keeps rs)) ∙ sym (counted p (in_order rs))

none_and : (a b : Bool) → a ≡ false → (a && b) ≡ false
none_and true b h = absurd cc
none_and false b h = refl

pub open_same : KeepsAll → (rs : List LogRecord) → length (open_changes rs) ≡ length (open_changes (in_order rs))
open_same keeps rs =
    count_in_order keeps (is_open rs) (λ r h. none_and (is_row_change r.body) _ (row_merged r.body h)) rs
    ∙ ap length (filter_agree (is_open rs) (is_open (in_order rs)) (open_in_order keeps rs) (in_order rs))

-- ---- the rows of the logs

quiet : (rows : Rows) (b : Body) → is_merged b ≡ false → after_body rows b ≡ rows
quiet rows (body.RowChange c) h = absurd cc
quiet rows (body.Compensation c undone) h = refl
quiet rows (body.System patches) h = refl
quiet rows body.Commit h = refl
quiet rows body.Ended h = refl
quiet rows (body.Checkpoint offset) h = refl
quiet rows body.RestartEnd h = refl

abbrev pub no_rows : Rows
no_rows = finite.empty

abbrev pub chosen : (ℕ → Bool) → List LogRecord → List LogRecord
chosen p rs = filter (λ (r : LogRecord). p r.tran) rs

done_when : (rows : Rows) (c : Bool) (r : LogRecord) (xs : List LogRecord) → after_records rows (cond c (r ∷ xs) xs) ≡ after_records (cond c (after_body rows r.body) rows) xs
done_when rows true r xs = refl
done_when rows false r xs = refl

both_if : (rows : Rows) (b c : Bool) (r : LogRecord) (p : ℕ → Bool) (xs : List LogRecord) → is_merged r.body ≡ b → p r.tran ≡ c
    → after_records rows (chosen p (cond b (r ∷ xs) xs)) ≡ after_records (cond c (after_body rows r.body) rows) (chosen p xs)
both_if rows true c r p xs is e = ap (λ (b : Bool). after_records rows (cond b (r ∷ chosen p xs) (chosen p xs))) e ∙ done_when rows c r (chosen p xs)
both_if rows false true r p xs is e = ap (λ (m : Rows). after_records m (chosen p xs)) (sym (quiet rows r.body is))
both_if rows false false r p xs is e = refl

rows_kept : (p : ℕ → Bool) (rows : Rows) (rs : List LogRecord) → after_records rows (chosen p (kept rs)) ≡ after_records rows (chosen p rs)
rows_kept p rows [] = refl
rows_kept p rows (r ∷ rs) =
    both_if rows (is_merged r.body) (p r.tran) r p (kept rs) refl refl
    ∙ rows_kept p (cond (p r.tran) (after_body rows r.body) rows) rs
    ∙ sym (done_when rows (p r.tran) r (chosen p rs))

pub all_flat : (logs : List Log) → flat_map (λ (l : List LogRecord). l) (map (λ (l : Log). l.records) logs) ≡ all_records logs
all_flat [] = refl
all_flat (l ∷ ls) = ap (λ (rs : List LogRecord). l.records ++ rs) (all_flat ls)

pub rows_merged : KeepsAll → (rs : List LogRecord) → rows_of_records rs ≡ after_records no_rows (chosen (has_commit (in_order rs)) (in_order rs))
rows_merged keeps rs =
    ap (λ (l : List LogRecord). after_records no_rows l)
    (sym (kept_by (λ (r : LogRecord). has_commit rs r.tran) rs)
    ∙ filter_agree (λ (r : LogRecord). has_commit rs r.tran) (λ (r : LogRecord). has_commit (in_order rs) r.tran) (λ r. commits_in_order keeps rs r.tran) (by_lrsn rs))
    ∙ sym (rows_kept (has_commit (in_order rs)) no_rows (by_lrsn rs))
    ∙ ap (λ (l : List LogRecord). after_records no_rows (chosen (has_commit (in_order rs)) l)) (sym (merged_is rs))

mapped : {X Y : Type 0} (f : X → Y) (xs : List X) → length (map f xs) ≡ length xs
mapped f [] = refl
mapped f (x ∷ xs) = ap (λ (n : ℕ). suc n) (mapped f xs)

abbrev row_of_entry : Spot × List ℕ → Row
row_of_entry e = record { table = e.0.0; key = e.0.1; value = e.1 }

pub listed_len : (rows : Rows) → length (listed rows) ≡ finite.len rows
listed_len rows = mapped (λ (e : Spot × List ℕ). row_of_entry e) (finite.entries rows) ∙ sym (len-entries rows)
