-- Records in the order of their numbers.
use Rattle.std.proofs.Common.{◌≡◌, ℕ, ◌+◌, ◌<◌, ◌≤◌, Bool, true, false, cond, leb, List, [], ◌∷◌, ◌++◌, refl, sym, ap, ◌∙◌, arith}
use Rattle.std.specs.List.{AllByRecursion}
use Rattle.ds_model.specs.declared.log.LogRecord.{LogRecord}
use Rattle.ds_model.specs.Logs.{put_by_lrsn, by_lrsn}
use Rattle.log_merge.specs.Merging.{is_merged, kept, in_order, RisesFrom}

leb-within : (m n : ℕ) → m ≤ n → leb m n ≡ true
leb-within m n h = grind arith

leb-above : (m n : ℕ) → n < m → leb m n ≡ false
leb-above m n h = grind arith

pub within-leb : (m n : ℕ) → leb m n ≡ true → m ≤ n
within-leb m n e = grind arith

pub above-leb : (m n : ℕ) → leb m n ≡ false → n < m
above-leb m n e = grind arith

-- no number is below low
abbrev pub From : ℕ → List LogRecord → Type 0
From low l = AllByRecursion (λ (r : LogRecord). low ≤ r.lrsn) l

-- each number is above low
abbrev pub Above : ℕ → List LogRecord → Type 0
Above low l = AllByRecursion (λ (r : LogRecord). low < r.lrsn) l

pub from_rises : (low n : ℕ) (l : List LogRecord) → low ≤ n → RisesFrom n l → From low l
from_rises low n [] le h = tt
from_rises low n (r ∷ rs) le h = (omega (arith, h.0), from_rises low r.lrsn rs (omega (arith, h.0)) h.1)

pub from_lower : (low n : ℕ) (l : List LogRecord) → low ≤ n → From n l → From low l
from_lower low n [] le h = tt
from_lower low n (r ∷ rs) le h = (omega (arith, h.0), from_lower low n rs le h.1)

pub above_from : (low n : ℕ) (l : List LogRecord) → low < n → From n l → Above low l
above_from low n [] lt h = tt
above_from low n (r ∷ rs) lt h = (omega (arith, h.0), above_from low n rs lt h.1)

pub from_both : (low : ℕ) (xs ys : List LogRecord) → From low xs → From low ys → From low (xs ++ ys)
from_both low [] ys p q = q
from_both low (x ∷ xs) ys p q = (p.0, from_both low xs ys p.1 q)

-- ---- a record that is put

put_first : (r : LogRecord) (l : List LogRecord) → From r.lrsn l → put_by_lrsn r l ≡ r ∷ l
put_first r [] h = refl
put_first r (s ∷ ss) h = ap (λ b. cond b (r ∷ s ∷ ss) (s ∷ put_by_lrsn r ss)) (leb-within r.lrsn s.lrsn h.0)

put_behind : (r s : LogRecord) (ss : List LogRecord) → s.lrsn < r.lrsn → put_by_lrsn r (s ∷ ss) ≡ s ∷ put_by_lrsn r ss
put_behind r s ss lt = ap (λ b. cond b (r ∷ s ∷ ss) (s ∷ put_by_lrsn r ss)) (leb-above r.lrsn s.lrsn lt)

from_put_when : (b : Bool) (low : ℕ) (r s : LogRecord) (ss us : List LogRecord) → low ≤ r.lrsn → From low (s ∷ ss) → From low us → From low (cond b (r ∷ s ∷ ss) (s ∷ us))
from_put_when true low r s ss us le h k = (le, h)
from_put_when false low r s ss us le h k = (h.0, k)

from_put : (low : ℕ) (r : LogRecord) (l : List LogRecord) → low ≤ r.lrsn → From low l → From low (put_by_lrsn r l)
from_put low r [] le h = (le, tt)
from_put low r (s ∷ ss) le h = from_put_when (leb r.lrsn s.lrsn) low r s ss (put_by_lrsn r ss) le h (from_put low r ss le h.1)

from_by : (low : ℕ) (l : List LogRecord) → From low l → From low (by_lrsn l)
from_by low [] h = tt
from_by low (r ∷ rs) h = from_put low r (by_lrsn rs) h.0 (from_by low rs h.1)

-- ---- the least record of all is the first

pub first_least : (r : LogRecord) (l : List LogRecord) → From r.lrsn l → by_lrsn (r ∷ l) ≡ r ∷ by_lrsn l
first_least r l h = put_first r (by_lrsn l) (from_by r.lrsn l h)

-- also behind records of greater numbers
pub least_behind : (r : LogRecord) (l m n : List LogRecord) → Above r.lrsn l → by_lrsn m ≡ r ∷ by_lrsn n → by_lrsn (l ++ m) ≡ r ∷ by_lrsn (l ++ n)
least_behind r [] m n h e = e
least_behind r (s ∷ ss) m n h e = ap (put_by_lrsn s) (least_behind r ss m n h.1 e) ∙ put_behind s r (by_lrsn (ss ++ n)) h.0

-- ---- those that change pages or commit

rises_put_when : (b : Bool) (low : ℕ) (r s : LogRecord) (ss us : List LogRecord) → leb r.lrsn s.lrsn ≡ b → low ≤ r.lrsn → low ≤ s.lrsn
    → RisesFrom s.lrsn ss → (s.lrsn ≤ r.lrsn → RisesFrom s.lrsn us) → RisesFrom low (cond b (r ∷ s ∷ ss) (s ∷ us))
rises_put_when true low r s ss us e r_in s_in h more = (r_in, (within-leb r.lrsn s.lrsn e, h))
rises_put_when false low r s ss us e r_in s_in h more = (s_in, more (omega (arith, above-leb r.lrsn s.lrsn e)))

rises_put : (low : ℕ) (r : LogRecord) (l : List LogRecord) → low ≤ r.lrsn → RisesFrom low l → RisesFrom low (put_by_lrsn r l)
rises_put low r [] le h = (le, tt)
rises_put low r (s ∷ ss) le h = rises_put_when (leb r.lrsn s.lrsn) low r s ss (put_by_lrsn r ss) refl le h.0 h.1 (λ below. rises_put s.lrsn r ss below h.1)

rises_by : (l : List LogRecord) → RisesFrom 0 (by_lrsn l)
rises_by [] = tt
rises_by (r ∷ rs) = rises_put 0 r (by_lrsn rs) (omega arith) (rises_by rs)

from_kept_when : (b : Bool) (low : ℕ) (r : LogRecord) (us : List LogRecord) → low ≤ r.lrsn → From low us → From low (cond b (r ∷ us) us)
from_kept_when true low r us le h = (le, h)
from_kept_when false low r us le h = h

from_kept : (low : ℕ) (l : List LogRecord) → From low l → From low (kept l)
from_kept low [] h = tt
from_kept low (r ∷ rs) h = from_kept_when (is_merged r.body) low r (kept rs) h.0 (from_kept low rs h.1)

-- the record in front of the kept ones, if it is kept
abbrev keep : LogRecord → List LogRecord → List LogRecord
keep r l = cond (is_merged r.body) (r ∷ l) l

abbrev put_if : LogRecord → List LogRecord → List LogRecord
put_if r l = cond (is_merged r.body) (put_by_lrsn r l) l

keep_first : (b : Bool) (r : LogRecord) (l : List LogRecord) → From r.lrsn l → cond b (r ∷ l) l ≡ cond b (put_by_lrsn r l) l
keep_first true r l h = sym (put_first r l h)
keep_first false r l h = refl

keep_behind : (b c : Bool) (r s : LogRecord) (l : List LogRecord) → s.lrsn < r.lrsn → cond c (s ∷ cond b (put_by_lrsn r l) l) (cond b (put_by_lrsn r l) l) ≡ cond b (put_by_lrsn r (cond c (s ∷ l) l)) (cond c (s ∷ l) l)
keep_behind true true r s l lt = sym (put_behind r s l lt)
keep_behind true false r s l lt = refl
keep_behind false c r s l lt = refl

kept_put_when : (b : Bool) (r s : LogRecord) (ss : List LogRecord) → leb r.lrsn s.lrsn ≡ b → RisesFrom s.lrsn ss → kept (put_by_lrsn r ss) ≡ put_if r (kept ss) → kept (cond b (r ∷ s ∷ ss) (s ∷ put_by_lrsn r ss)) ≡ put_if r (kept (s ∷ ss))
kept_put_when true r s ss e h again =
    let le : r.lrsn ≤ s.lrsn = within-leb r.lrsn s.lrsn e in
    keep_first (is_merged r.body) r (kept (s ∷ ss)) (from_kept r.lrsn (s ∷ ss) (le, from_rises r.lrsn s.lrsn ss le h))
kept_put_when false r s ss e h again = ap (keep s) again ∙ keep_behind (is_merged r.body) (is_merged s.body) r s (kept ss) (above-leb r.lrsn s.lrsn e)

kept_put : (low : ℕ) (r : LogRecord) (l : List LogRecord) → RisesFrom low l → kept (put_by_lrsn r l) ≡ put_if r (kept l)
kept_put low r [] h = refl
kept_put low r (s ∷ ss) h = kept_put_when (leb r.lrsn s.lrsn) r s ss refl h.1 (kept_put s.lrsn r ss h.1)

by_if : (b : Bool) (r : LogRecord) (l : List LogRecord) → cond b (put_by_lrsn r (by_lrsn l)) (by_lrsn l) ≡ by_lrsn (cond b (r ∷ l) l)
by_if true r l = refl
by_if false r l = refl

-- those that are kept of records in order are in order
pub kept_by : (l : List LogRecord) → kept (by_lrsn l) ≡ in_order l
kept_by [] = refl
kept_by (r ∷ rs) = kept_put 0 r (by_lrsn rs) (rises_by rs) ∙ ap (put_if r) (kept_by rs) ∙ by_if (is_merged r.body) r (kept rs)

keep_is : (b : Bool) (r : LogRecord) (l : List LogRecord) → cond b (r ∷ l) l ≡ cond b (r ∷ []) [] ++ l
keep_is true r l = refl
keep_is false r l = refl

-- so the merged records go on with the first record, if it is kept
pub merged_first : (r : LogRecord) (l m : List LogRecord) → by_lrsn l ≡ r ∷ by_lrsn m → in_order l ≡ kept (r ∷ []) ++ in_order m
merged_first r l m e = sym (kept_by l) ∙ ap kept e ∙ ap (keep r) (kept_by m) ∙ keep_is (is_merged r.body) r (in_order m)
