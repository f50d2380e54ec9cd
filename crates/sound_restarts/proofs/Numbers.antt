-- The greatest number of logs, and that of their merged records.
use Rattle.std.proofs.Common.{◌≡◌, ℕ, ◌+◌, ◌≤◌, Bool, true, false, cond, List, [], ◌∷◌, ◌++◌, length, arith}
use Rattle.std.specs.Prelude.{max, nat_lt, nat_le}
use Rattle.std.specs.List.{AllByRecursion}
use Rattle.std.proofs.lemmas.Bool.{cond_both, ltb-true, ltb-false}
use Rattle.ds_base.specs.declared.names.Volume.TheVariants as volume
use Rattle.ds_model.specs.declared.log.LogRecord.{LogRecord}
use Rattle.ds_model.specs.Logs.{put_by_lrsn, by_lrsn}
use Rattle.ds_model.specs.RecordBytes.{record_bytes}
use Rattle.log_record.specs.declared.log.Log.{Log}
use Rattle.log_trans.specs.Damage.{number_at}
use Rattle.log_trans.specs.Numbers.{greatest}
use Rattle.log_merge.specs.Merging.{is_merged, kept, all_records}
use Rattle.restart_plan.specs.declared.greatest.Greatest.{Greatest}
use Rattle.restart_plan.specs.Greatest.{no_number, with_number, greatest_from, greatest_among}
use Rattle.sound_disk.specs.Laws.{last_number}
use Rattle.sound_disk.specs.Versions.{merged}

greatest_append : (xs ys : List LogRecord) → greatest (xs ++ ys) ≡ max (greatest xs) (greatest ys)
greatest_append [] ys = omega arith
greatest_append (x ∷ xs) ys = let ih = greatest_append xs ys in omega (arith, ih)

one_number : (g : Greatest) (member at lrsn : ℕ) → (with_number g member at lrsn).lrsn ≡ max g.lrsn lrsn
one_number g member at lrsn =
    cond_both (nat_lt g.lrsn lrsn) (record { lrsn = lrsn; volume = volume.Log member; at = at + number_at }) g (λ (x : Greatest). x.lrsn ≡ max g.lrsn lrsn)
    (λ e. let lt = ltb-true g.lrsn lrsn e in omega (arith, lt)) (λ e. let le = ltb-false g.lrsn lrsn e in omega (arith, le))

from_number : (member at : ℕ) (g : Greatest) (rs : List LogRecord) → (greatest_from member at g rs).lrsn ≡ max g.lrsn (greatest rs)
from_number member at g [] = omega arith
from_number member at g (r ∷ rs) =
    let ih = from_number member (at + length (record_bytes r)) (with_number g member at r.lrsn) rs in
    let one = one_number g member at r.lrsn in
    omega (arith, ih, one)

among_number : (g : Greatest) (logs : List Log) → (greatest_among g logs).lrsn ≡ max g.lrsn (greatest (all_records logs))
among_number g [] = omega arith
among_number g (l ∷ logs) =
    let ih = among_number (greatest_from l.member 0 g l.records) logs in
    let one = from_number l.member 0 g l.records in
    let both = greatest_append l.records (all_records logs) in
    omega (arith, ih, one, both)

pub greatest_is : (logs : List Log) → (greatest_among no_number logs).lrsn ≡ greatest (all_records logs)
greatest_is logs = let e = among_number no_number logs in omega (arith, e)

-- ---- no merged record has a greater number

each_if : (P : LogRecord → Type 0) (b : Bool) (xs ys : List LogRecord) → AllByRecursion P xs → AllByRecursion P ys → AllByRecursion P (cond b xs ys)
each_if P true xs ys h k = h
each_if P false xs ys h k = k

each_kept : (P : LogRecord → Type 0) (rs : List LogRecord) → AllByRecursion P rs → AllByRecursion P (kept rs)
each_kept P [] h = tt
each_kept P (r ∷ rs) h = each_if P (is_merged r.body) (r ∷ kept rs) (kept rs) (h.0, each_kept P rs h.1) (each_kept P rs h.1)

each_put : (P : LogRecord → Type 0) (r : LogRecord) (ss : List LogRecord) → P r → AllByRecursion P ss → AllByRecursion P (put_by_lrsn r ss)
each_put P r [] p h = (p, tt)
each_put P r (s ∷ ss) p h = each_if P (nat_le r.lrsn s.lrsn) (r ∷ s ∷ ss) (s ∷ put_by_lrsn r ss) (p, h) (h.0, each_put P r ss p h.1)

each_sorted : (P : LogRecord → Type 0) (rs : List LogRecord) → AllByRecursion P rs → AllByRecursion P (by_lrsn rs)
each_sorted P [] h = tt
each_sorted P (r ∷ rs) h = each_put P r (by_lrsn rs) h.0 (each_sorted P rs h.1)

pub each_merged : (P : LogRecord → Type 0) (logs : List Log) → AllByRecursion P (all_records logs) → AllByRecursion P (merged logs)
each_merged P logs h = each_sorted P (kept (all_records logs)) (each_kept P (all_records logs) h)

none_above : (rs : List LogRecord) (n : ℕ) → greatest rs ≤ n → AllByRecursion (λ (r : LogRecord). r.lrsn ≤ n) rs
none_above [] n h = tt
none_above (r ∷ rs) n h = (omega (arith, h), none_above rs n (omega (arith, h)))

last_within : (rs : List LogRecord) (low n : ℕ) → low ≤ n → AllByRecursion (λ (r : LogRecord). r.lrsn ≤ n) rs → last_number low rs ≤ n
last_within [] low n le h = le
last_within (r ∷ rs) low n le h = last_within rs r.lrsn n h.0 h.1

pub last_merged : (logs : List Log) → last_number 0 (merged logs) ≤ greatest (all_records logs)
last_merged logs =
    let n = greatest (all_records logs) in
    last_within (merged logs) 0 (greatest (all_records logs)) (omega arith) (each_merged (λ (r : LogRecord). r.lrsn ≤ n) logs (none_above (all_records logs) n (omega arith)))
