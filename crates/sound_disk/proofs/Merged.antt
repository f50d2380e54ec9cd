-- The records of all logs, merged: they may stand in logs, and the numbers of those that change pages rise.
use Rattle.std.proofs.Common.{◌≡◌, ℕ, ◌+◌, ◌<◌, ◌≤◌, Bool, true, false, cond, leb, List, [], ◌∷◌, ◌++◌, refl, sym, ap, subst, ◌∙◌, arith}
use Rattle.std.specs.Prelude.{◌==◌, nat_le, not, ◌||◌, ◌&&◌, filter, map}
use Rattle.std.specs.List.{AllByRecursion}
use Rattle.std.proofs.lemmas.Bool.Decides.{nat_tests}
use Rattle.ds_model.specs.declared.log.LogRecord.{LogRecord}
use Rattle.ds_model.specs.declared.log.Body.{Body}
use Rattle.ds_model.specs.declared.log.Body.TheVariants as body
use Rattle.ds_model.specs.Logs.{put_by_lrsn, by_lrsn}
use Rattle.ds_model.specs.RecordBytes.{IsAllowed}
use Rattle.page_format.specs.declared.patch.Patch.{Patch}
use Rattle.log_record.specs.declared.log.Log.{Log}
use Rattle.log_record.specs.Changes.{is_drawn}
use Rattle.restart_plan.specs.Given.{is_merged, kept, all_records, in_order, RisesFrom}
use Rattle.page_redo.specs.Given.{changes_of, Follows, AreInOrder, AreRecords}
use Rattle.sound_disk.specs.Whole_logs.{AreWholeLogs}
use Rattle.sound_disk.specs.Transactions.{drawn_numbers, is_among, all_differ, AreTransactions}
use Rattle.sound_disk.specs.Versions.{merged}
use Rattle.sound_disk.proofs.Logs.{each_append}

-- ---- what holds of all records holds of the merged ones

each_if : (P : LogRecord → Type 0) (b : Bool) (xs ys : List LogRecord) → AllByRecursion P xs → AllByRecursion P ys → AllByRecursion P (cond b xs ys)
each_if P true xs ys h k = h
each_if P false xs ys h k = k

each_kept : (P : LogRecord → Type 0) (rs : List LogRecord) → AllByRecursion P rs → AllByRecursion P (kept rs)
each_kept P [] h = tt
each_kept P (r ∷ rs) h = each_if P (is_merged r.body) (r ∷ kept rs) (kept rs) (h.0, each_kept P rs h.1) (each_kept P rs h.1)

each_put : (P : LogRecord → Type 0) (r : LogRecord) (ss : List LogRecord) → P r → AllByRecursion P ss → AllByRecursion P (put_by_lrsn r ss)
each_put P r [] p h = (p, tt)
each_put P r (s ∷ ss) p h = each_if P (nat_le r.lrsn s.lrsn) (r ∷ s ∷ ss) (s ∷ put_by_lrsn r ss) (p, h) (h.0, each_put P r ss p h.1)

each_sorted : (P : LogRecord → Type 0) (rs : List LogRecord) → AllByRecursion P rs → AllByRecursion P (by_lrsn rs)
each_sorted P [] h = tt
each_sorted P (r ∷ rs) h = each_put P r (by_lrsn rs) h.0 (each_sorted P rs h.1)

all_allowed : (member : ℕ) (bytes : List (List ℕ)) (logs : List Log) → AreWholeLogs member bytes logs → AllByRecursion IsAllowed (all_records logs)
all_allowed member [] [] h = tt
all_allowed member [] (log ∷ logs) h = absurd h
all_allowed member (bs ∷ rest) [] h = absurd h
all_allowed member (bs ∷ rest) (log ∷ logs) h = each_append IsAllowed log.records (all_records logs) h.0.records_are.allowed (all_allowed (member + 1) rest logs h.1)

-- ---- numbers

numbers_of : List LogRecord → List ℕ
numbers_of [] = []
numbers_of (r ∷ rs) = r.lrsn ∷ numbers_of rs

same_table : (b : Body) → is_merged b ≡ is_drawn b
same_table (body.RowChange change) = refl
same_table (body.Compensation change undone) = refl
same_table (body.System patches) = refl
same_table body.Commit = refl
same_table body.Ended = refl
same_table (body.Checkpoint offset) = refl
same_table body.RestartEnd = refl

numbers_if : (b : Bool) (r : LogRecord) (ks : List LogRecord) (ns : List ℕ) → numbers_of ks ≡ ns → numbers_of (cond b (r ∷ ks) ks) ≡ cond b (r.lrsn ∷ ns) ns
unfolding numbers_of
numbers_if true r ks ns e = ap (λ (xs : List ℕ). r.lrsn ∷ xs) e
numbers_if false r ks ns e = e

kept_numbers : (rs : List LogRecord) → numbers_of (kept rs) ≡ drawn_numbers rs
unfolding numbers_of
kept_numbers [] = refl
kept_numbers (r ∷ rs) =
    numbers_if (is_merged r.body) r (kept rs) (drawn_numbers rs) (kept_numbers rs)
    ∙ ap (λ (b : Bool). cond b (r.lrsn ∷ drawn_numbers rs) (drawn_numbers rs)) (same_table r.body)

-- ---- and of sorted ones

or_swap : (a b c : Bool) → (a || (b || c)) ≡ (b || (a || c))
or_swap true true c = refl
or_swap true false c = refl
or_swap false true c = refl
or_swap false false c = refl

among_if : (n : ℕ) (b : Bool) (xs ys : List LogRecord) (t : Bool) → is_among n (numbers_of xs) ≡ t → is_among n (numbers_of ys) ≡ t → is_among n (numbers_of (cond b xs ys)) ≡ t
among_if n true xs ys t h k = h
among_if n false xs ys t h k = k

among_put : (n : ℕ) (r : LogRecord) (ss : List LogRecord) → is_among n (numbers_of (put_by_lrsn r ss)) ≡ ((r.lrsn == n) || is_among n (numbers_of ss))
unfolding numbers_of
among_put n r [] = refl
among_put n r (s ∷ ss) =
    among_if n (nat_le r.lrsn s.lrsn) (r ∷ s ∷ ss) (s ∷ put_by_lrsn r ss) ((r.lrsn == n) || ((s.lrsn == n) || is_among n (numbers_of ss)))
    refl
    (ap (λ (b : Bool). (s.lrsn == n) || b) (among_put n r ss) ∙ or_swap (s.lrsn == n) (r.lrsn == n) (is_among n (numbers_of ss)))

differ_if : (b : Bool) (xs ys : List LogRecord) (t : Bool) → all_differ (numbers_of xs) ≡ t → all_differ (numbers_of ys) ≡ t → all_differ (numbers_of (cond b xs ys)) ≡ t
differ_if true xs ys t h k = h
differ_if false xs ys t h k = k

eq_swap : (m n : ℕ) → (m == n) ≡ (n == m)
eq_swap m n = grind (arith, nat_tests)

differ_swap : (e f a b d : Bool) → e ≡ f → (not (e || a) && (not b && d)) ≡ (not (f || b) && (not a && d))
differ_swap true true a b d h = refl
differ_swap true false a b d h = absurd cc
differ_swap false true a b d h = absurd cc
differ_swap false false true true d h = refl
differ_swap false false true false d h = refl
differ_swap false false false true d h = refl
differ_swap false false false false d h = refl

differ_put : (r : LogRecord) (ss : List LogRecord) → all_differ (numbers_of (put_by_lrsn r ss)) ≡ (not (is_among r.lrsn (numbers_of ss)) && all_differ (numbers_of ss))
unfolding numbers_of
differ_put r [] = refl
differ_put r (s ∷ ss) =
    differ_if (nat_le r.lrsn s.lrsn) (r ∷ s ∷ ss) (s ∷ put_by_lrsn r ss)
    (not ((s.lrsn == r.lrsn) || is_among r.lrsn (numbers_of ss)) && (not (is_among s.lrsn (numbers_of ss)) && all_differ (numbers_of ss)))
    refl
    (ap (λ (b : Bool). not b && all_differ (numbers_of (put_by_lrsn r ss))) (among_put s.lrsn r ss)
    ∙ ap (λ (b : Bool). not ((r.lrsn == s.lrsn) || is_among s.lrsn (numbers_of ss)) && b) (differ_put r ss)
    ∙ differ_swap (r.lrsn == s.lrsn) (s.lrsn == r.lrsn) (is_among s.lrsn (numbers_of ss)) (is_among r.lrsn (numbers_of ss)) (all_differ (numbers_of ss)) (eq_swap r.lrsn s.lrsn))

among_sorted : (n : ℕ) (rs : List LogRecord) → is_among n (numbers_of (by_lrsn rs)) ≡ is_among n (numbers_of rs)
unfolding numbers_of
among_sorted n [] = refl
among_sorted n (r ∷ rs) = among_put n r (by_lrsn rs) ∙ ap (λ (b : Bool). (r.lrsn == n) || b) (among_sorted n rs)

differ_sorted : (rs : List LogRecord) → all_differ (numbers_of (by_lrsn rs)) ≡ all_differ (numbers_of rs)
unfolding numbers_of
differ_sorted [] = refl
differ_sorted (r ∷ rs) =
    differ_put r (by_lrsn rs)
    ∙ ap (λ (b : Bool). not b && all_differ (numbers_of (by_lrsn rs))) (among_sorted r.lrsn rs)
    ∙ ap (λ (b : Bool). not (is_among r.lrsn (numbers_of rs)) && b) (differ_sorted rs)

merged_differ : (rs : List LogRecord) → all_differ (0 ∷ drawn_numbers rs) ≡ true → all_differ (0 ∷ numbers_of (in_order rs)) ≡ true
merged_differ rs h =
    ap (λ (b : Bool). not b && all_differ (numbers_of (in_order rs))) (among_sorted 0 (kept rs))
    ∙ ap (λ (b : Bool). not (is_among 0 (numbers_of (kept rs))) && b) (differ_sorted (kept rs))
    ∙ ap (λ (ns : List ℕ). all_differ (0 ∷ ns)) (kept_numbers rs) ∙ h

-- ---- they rise

and_left : (a b : Bool) → (a && b) ≡ true → a ≡ true
and_left true b h = refl
and_left false b h = h

and_right : (a b : Bool) → (a && b) ≡ true → b ≡ true
and_right true b h = h
and_right false b h = absurd cc

or_left : (a b : Bool) → not (a || b) ≡ true → a ≡ false
or_left true b h = absurd cc
or_left false b h = refl

above : (low n : ℕ) → low ≤ n → (n == low) ≡ false → low < n
above low n h e = grind (arith, nat_tests)

follows : (low : ℕ) (r : LogRecord) (ps : List Patch) → low < r.lrsn → Follows low r ps
follows low r [] h = omega arith
follows low r (p ∷ ps) h = h

rising : (low : ℕ) (rs : List LogRecord) → RisesFrom low rs → all_differ (low ∷ numbers_of rs) ≡ true → AreInOrder low rs
unfolding numbers_of
rising low [] h d = tt
rising low (r ∷ rs) h d =
    let apart = and_left (not ((r.lrsn == low) || is_among low (numbers_of rs))) (all_differ (r.lrsn ∷ numbers_of rs)) d in
    let rest = and_right (not ((r.lrsn == low) || is_among low (numbers_of rs))) (all_differ (r.lrsn ∷ numbers_of rs)) d in
    let lt = above low r.lrsn h.0 (or_left (r.lrsn == low) (is_among low (numbers_of rs)) apart) in
    (follows low r (changes_of r.body) lt, rising r.lrsn rs h.1 rest)

pub merged_are : ((records : List LogRecord) → RisesFrom 0 (in_order records)) → (bytes : List (List ℕ)) (logs : List Log) → AreWholeLogs 1 bytes logs → AreTransactions logs → AreRecords (merged logs)
merged_are rises bytes logs h t = (
  each_sorted IsAllowed (kept (all_records logs)) (each_kept IsAllowed (all_records logs) (all_allowed 1 bytes logs h)),
  rising 0 (merged logs) (rises (all_records logs)) (merged_differ (all_records logs) t.numbers),
)
