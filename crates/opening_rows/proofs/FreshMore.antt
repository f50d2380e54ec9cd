-- Logs without the records that belong to no transaction, one log more.
use Rattle.std.proofs.Common.{◌≡◌, ℕ, ◌+◌, ◌<◌, List, [], ◌∷◌, ◌++◌, length, map, take, Option, Some, None, Ok, refl, sym, ap, subst, ◌∙◌, arith}
use Rattle.std.specs.Prelude.{Vec, IsErrOf}
use Rattle.std.specs.declared.alloc.Global.{Global}
use Rattle.std.proofs.lemmas.List.{map-append, take_all}
use Rattle.ds_disk.specs.Contents.{Contents, log_of, WhenTold}
use Rattle.ds_model.specs.declared.log.LogRecord.{LogRecord}
use Rattle.log_record.specs.declared.log.Log.{Log}
use Rattle.log_record.specs.Logs.{IsLogOf}
use Rattle.report_check.specs.Records.{records_of}
use Rattle.opening_rows.specs.declared.fault.LogsFault.{LogsFault}
use Rattle.opening_rows.specs.declared.fault.LogsFault.TheVariants.{Failed, Damaged}
use Rattle.opening_rows.specs.declared.reading.LogRead.{LogRead}
use Rattle.opening_rows.specs.declared.keeps.Keeps.TheVariants as which
use Rattle.opening_rows.specs.Reading.{AreLogsOf, HasDamage, ReadsBy}
use Rattle.opening_rows.specs.Kept.{keeps_of}
use Rattle.opening_rows.specs.LogReads.{IsRead, IsReadOf}
use Rattle.opening_rows.specs.Fresh.{of_trans, tails_of, AreOfTrans, AreReadSo, AddsLog}
use Rattle.opening_rows.proofs.Told.{reads_on, reads_to, told_all, same_at, one_more}
use Rattle.opening_rows.proofs.KeptMore.{ReadAs}

-- ---- one log more

trans_more : (had : ℕ) (whole logs new : List Log) (log : Log) (read : LogRead) → AreOfTrans whole logs → IsRead (keeps_of which.Each) had log read → records_of new ≡ records_of logs ++ read.taken.records.items ∷ [] → tails_of new ≡ tails_of logs ++ read.tail ∷ []
    → AreOfTrans (whole ++ log ∷ []) new
trans_more had whole logs new log read h k records tails = record {
  records_are = records ∙ ap (λ (x : List (List LogRecord)). x ++ read.taken.records.items ∷ []) h.records_are ∙ ap (λ (x : List LogRecord). map of_trans (records_of whole) ++ x ∷ []) k.taken.records_are
      ∙ sym (map-append of_trans (records_of whole) (log.records ∷ [])) ∙ ap (map of_trans) (sym (map-append (λ (l : Log). l.records) whole (log ∷ [])));
  tails_are = tails ∙ ap (λ (x : List ℕ). x ++ read.tail ∷ []) h.tails_are ∙ ap (λ (x : ℕ). tails_of whole ++ x ∷ []) k.tail_is ∙ sym (map-append (λ (l : Log). l.tail) whole (log ∷ []));
}

pub adds_log : {Y : Type 0} (a b : Option Contents) (m k n member had : ℕ) (old new : List Log) (read : LogRead) (y : Y) → ReadsBy a b m k (ReadAs member (keeps_of which.Each) had) HasDamage (Ok read) → member ≡ n + 1
    → records_of new ≡ records_of old ++ read.taken.records.items ∷ [] → tails_of new ≡ tails_of old ++ read.tail ∷ [] → ReadsBy a b m k (λ (x : Y) c. AddsLog n old new c) HasDamage (Ok y)
adds_log {Y} a b m k n member had old new read y p its records tails =
    reads_to a b m k (ReadAs member (keeps_of which.Each) had) HasDamage read (λ (x : Y) c. AddsLog n old new c) HasDamage (Ok y) p
    (λ c of. record {
      log = of.log;
      is_log = subst (λ (i : ℕ). IsLogOf (log_of c.logs i) of.log) its of.is_log;
      so = λ whole h. trans_more had whole old new of.log read h of.read records tails;
    })
    (λ i l h. absurd (no_error i l h)) (λ h. no_failure h)
  where
    no_error : (i l : ℕ) → IsErrOf {T = Y} {E = LogsFault} (Ok y) (Damaged i l) → ⊥
    no_error i l h = cc

    no_failure : IsErrOf {T = Y} {E = LogsFault} (Ok y) Failed → ⊥
    no_failure h = cc

-- ---- all logs

-- the first logs were read
abbrev pub AreFirstSo : ℕ → List Log → Contents → Type 0
AreFirstSo n logs c = length c.logs ≡ 32 → AreReadSo (take n c.logs) logs

first_more : (n : ℕ) (old new : List Log) (c : Contents) → n < 32 → AreFirstSo n old c → AddsLog n old new c → AreFirstSo (n + 1) new c
first_more n old new c lt first more = λ long.
    let so : AreReadSo (take n c.logs) old = first long in
    record { whole = so.whole ++ more.log ∷ []; are = one_more n so.whole more.log c (omega (arith, lt, long)) so.are more.is_log; so = more.so so.whole so.so }

none_so : AreOfTrans [] []
none_so = record { records_are = refl; tails_are = refl }

none_read : (logs : List Log) (c : Contents) → logs ≡ [] → AreFirstSo 0 logs c
none_read logs c is = λ long. subst (λ (l : List Log). AreReadSo [] l) (sym is) (record { whole = []; are = tt; so = none_so })

-- ---- of a disk

no_fault : (i : ℕ) (f : LogsFault) → IsErrOf {T = ℕ} {E = LogsFault} (Ok i) f → ⊥
no_fault i f h = cc

-- nothing is read yet
pub fresh_start : (a : Option Contents) (k : ℕ) (logs : List Log) → logs ≡ [] → ReadsBy a a k k (λ (n : ℕ) c. AreFirstSo n logs c) (λ m at c. ⊥) (Ok 0)
fresh_start a k logs is = record {
  ok = told_all a (AreFirstSo 0 logs) (λ c. none_read logs c is);
  damaged = λ m at h. absurd (no_fault 0 (Damaged m at) h);
  failed = λ h. absurd (no_fault 0 Failed h);
  same = same_at a;
  later = omega arith;
}

pub fresh_on : {Y : Type 0} (a b e : Option Contents) (i k m n : ℕ) (old new : List Log) (y : Y) → n < 32 → ReadsBy a b i k (λ (n : ℕ) c. AreFirstSo n old c) (λ m at c. ⊥) (Ok n)
    → ReadsBy b e k m (λ (x : Y) c. AddsLog n old new c) HasDamage (Ok y) → ReadsBy a e i m (λ (n : ℕ) c. AreFirstSo n new c) (λ m at c. ⊥) (Ok (n + 1))
fresh_on {Y} a b e i k m n old new y lt p q =
    let on : ReadsBy a e i m (λ (x : Y) c. AreFirstSo (n + 1) new c) HasDamage (Ok y) =
    reads_on a b e i k m (λ (n : ℕ) c. AreFirstSo n old c) (λ m at c. ⊥) n (λ (x : Y) c. AddsLog n old new c) (λ (x : Y) c. AreFirstSo (n + 1) new c) HasDamage HasDamage (Ok y) p q
    (λ x c first more. first_more n old new c lt first more) (λ j at c first bad. bad) in
    reads_to a e i m (λ (x : Y) c. AreFirstSo (n + 1) new c) HasDamage y (λ (n : ℕ) c. AreFirstSo n new c) (λ m at c. ⊥) (Ok (n + 1)) on (λ c is. is) (λ j at h. absurd (no_fault (n + 1) (Damaged j at) h)) (λ h. no_fault (n + 1) Failed h)

all_read : (n : ℕ) (logs : List Log) (c : Contents) → n ≡ 32 → length c.logs ≡ 32 → AreFirstSo n logs c → AreReadSo c.logs logs
all_read n logs c is long first = subst (λ (bss : List (List ℕ)). AreReadSo bss logs) (take_all n c.logs (omega (arith, is, long))) (first long)

all_told : (a : Option Contents) (n : ℕ) (logs : List Log) → n ≡ 32 → ((c : Contents) → a ≡ Some c → length c.logs ≡ 32) → WhenTold a (AreFirstSo n logs) → WhenTold a (λ c. AreReadSo c.logs logs)
all_told None n logs is law p = tt
all_told (Some c) n logs is law p = all_read n logs c is (law c refl) p

pub fresh_all : (a b : Option Contents) (i k n : ℕ) (logs : Vec Log Global) → n ≡ 32 → ((c : Contents) → a ≡ Some c → length c.logs ≡ 32) → ReadsBy a b i k (λ (n : ℕ) c. AreFirstSo n logs.items c) (λ m at c. ⊥) (Ok n)
    → ReadsBy a b i k (λ (x : Vec Log Global) c. AreReadSo c.logs x.items) HasDamage (Ok logs)
fresh_all a b i k n logs is law p = record {
  ok = all_told a n logs.items is law p.ok;
  damaged = λ m at h. absurd (no_error m at h);
  failed = λ h. absurd (no_failure h);
  same = p.same;
  later = p.later;
}
  where
    no_error : (m at : ℕ) → IsErrOf {T = Vec Log Global} {E = LogsFault} (Ok logs) (Damaged m at) → ⊥
    no_error m at h = cc

    no_failure : IsErrOf {T = Vec Log Global} {E = LogsFault} (Ok logs) Failed → ⊥
    no_failure h = cc
