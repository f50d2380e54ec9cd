-- No log of a sound disk has a field that isn't allowed, or a number that falls.
use Rattle.std.proofs.Common.{◌≡◌, inl, inr, ℕ, ◌+◌, ◌-◌, ◌<◌, ◌≤◌, zero, suc, List, [], ◌∷◌, ◌++◌, length, take, drop, Result, Ok, Err, refl, sym, ap, subst, ◌∙◌, append_assoc, arith}
use Rattle.std.specs.Prelude.{slice_index_or}
use Rattle.std.specs.List.{AllByRecursion}
use Rattle.std.proofs.lemmas.List.{append_cancel_left}
use Rattle.ds_base.specs.declared.names.Volume.{Volume}
use Rattle.ds_base.specs.declared.names.Volume.TheVariants as volume
use Rattle.ds_disk.specs.Contents.{Contents, log_of}
use Rattle.ds_model.specs.declared.log.LogRecord.{LogRecord}
use Rattle.ds_model.specs.RecordBytes.{IsAllowed, record_bytes, log_bytes}
use Rattle.ds_model.specs.Logs.{IsLog, IsTorn}
use Rattle.log_record.specs.declared.log.Log.{Log}
use Rattle.log_record.specs.declared.fault.RecordFault.{RecordFault}
use Rattle.log_record.specs.declared.fault.RecordFault.TheVariants.{NotWhole}
use Rattle.log_record.specs.Reading.{record_in}
use Rattle.log_record.specs.Logs.{Parts, parts_in}
use Rattle.log_merge.specs.Merging.{RisesFrom}
use Rattle.opening_rows.specs.Reading.{BreaksAt, FallsAt, HasDamage, last_number}
use Rattle.restarted_disks.specs.Restarted.{LogBreaksAt}
use Rattle.sound_disk.specs.Whole_logs.{AreWholeLogs}
use Rattle.sound_disk.specs.Sound.{IsSoundDisk}

-- what reading by definition keeps to
pub record Readings : Type 0 where
  pub again : (r : LogRecord) (rest : List ℕ) → IsAllowed r → record_in (record_bytes r ++ rest) ≡ Ok (r, length (record_bytes r))
  pub cut : (r : LogRecord) (n : ℕ) → IsAllowed r → n < length (record_bytes r) → record_in (take n (record_bytes r)) ≡ Err NotWhole
  pub sound : (bytes : List ℕ) (records : List LogRecord) → IsLog bytes records → parts_in bytes ≡ Ok (record { records = records; size = length (log_bytes records); tail = length bytes - length (log_bytes records) })

-- ---- one record

nothing_read : record_in [] ≡ Err NotWhole
unfolding record_in
nothing_read = refl

torn_read : Readings → (tail : List ℕ) → IsTorn tail → record_in tail ≡ Err NotWhole
torn_read k tail (inl none) = ap record_in none ∙ nothing_read
torn_read k tail (inr t) = ap record_in t.4 ∙ k.cut t.0 t.2 t.1 t.3

none_torn : Readings → (a : LogRecord) (x tail : List ℕ) → IsAllowed a → record_bytes a ++ x ≡ tail → IsTorn tail → ⊥
none_torn k a x tail is e torn =
    let read = k.again a x is in
    let none : record_in (record_bytes a ++ x) ≡ Err NotWhole = ap record_in e ∙ torn_read k tail torn in
    cc

abbrev read_as : LogRecord → ℕ → Result (LogRecord × ℕ) RecordFault
read_as r n = Ok (r, n)

same_record : (a b : LogRecord) (m n : ℕ) → read_as a m ≡ read_as b n → a ≡ b
same_record a b m n e =
    let pair : (a, m) ≡ (b, n) = cc in
    ap (λ (z : LogRecord × ℕ). z.0) pair

-- bytes begin with one record alone
one_record : Readings → (a b : LogRecord) (x y : List ℕ) → IsAllowed a → IsAllowed b → record_bytes a ++ x ≡ record_bytes b ++ y → a ≡ b
one_record k a b x y p q e = same_record a b (length (record_bytes a)) (length (record_bytes b)) (sym (k.again a x p) ∙ ap record_in e ∙ k.again b y q)

one_rest : (a b : LogRecord) (x y : List ℕ) → a ≡ b → record_bytes a ++ x ≡ record_bytes b ++ y → x ≡ y
one_rest a b x y same e = append_cancel_left (record_bytes a) x y (subst (λ (r : LogRecord). record_bytes a ++ x ≡ record_bytes r ++ y) (sym same) e)

-- ---- records whose numbers don't fall

none_falls : Readings → (low : ℕ) (qs rs : List LogRecord) (it : LogRecord) (rest tail : List ℕ) → log_bytes qs ++ (record_bytes it ++ rest) ≡ log_bytes rs ++ tail → AllByRecursion IsAllowed qs → IsAllowed it → AllByRecursion IsAllowed rs → IsTorn tail
    → RisesFrom low rs → it.lrsn < last_number low qs → ⊥
none_falls k low [] [] it rest tail e ps p ws torn rises lt = none_torn k it rest tail p e torn
none_falls k low [] (r ∷ rs) it rest tail e ps p ws torn rises lt =
    let same : it ≡ r = one_record k it r rest (log_bytes rs ++ tail) p ws.0 (e ∙ append_assoc (record_bytes r) (log_bytes rs) tail) in
    let number : it.lrsn ≡ r.lrsn = ap (λ (x : LogRecord). x.lrsn) same in
    let up : low ≤ r.lrsn = rises.0 in
    absurd (omega arith)
none_falls k low (q ∷ qs) [] it rest tail e ps p ws torn rises lt = none_torn k q (log_bytes qs ++ (record_bytes it ++ rest)) tail ps.0 (sym (append_assoc (record_bytes q) (log_bytes qs) (record_bytes it ++ rest)) ∙ e) torn
none_falls k low (q ∷ qs) (r ∷ rs) it rest tail e ps p ws torn rises lt =
    let split : record_bytes q ++ (log_bytes qs ++ (record_bytes it ++ rest)) ≡ record_bytes r ++ (log_bytes rs ++ tail) = sym (append_assoc (record_bytes q) (log_bytes qs) (record_bytes it ++ rest)) ∙ e ∙ append_assoc (record_bytes r) (log_bytes rs) tail in
    let same = one_record k q r (log_bytes qs ++ (record_bytes it ++ rest)) (log_bytes rs ++ tail) ps.0 ws.0 split in
    let on = one_rest q r (log_bytes qs ++ (record_bytes it ++ rest)) (log_bytes rs ++ tail) same split in
    none_falls k r.lrsn qs rs it rest tail on ps.1 p ws.1 torn rises.1 (subst (λ (x : LogRecord). it.lrsn < last_number x.lrsn qs) same lt)

-- ---- the logs of a sound disk

record IsWhole (bytes : List ℕ) : Type 0 where
  records : List LogRecord
  log : IsLog bytes records
  rising : RisesFrom 0 records

whole_at : (member : ℕ) (all : List (List ℕ)) (logs : List Log) → AreWholeLogs member all logs → (k : ℕ) → IsWhole (slice_index_or all k [])
whole_at member [] [] h k = record { records = []; log = record { tail = []; whole = refl; allowed = tt; torn = inl refl }; rising = tt }
whole_at member [] (log ∷ logs) h k = absurd h
whole_at member (bytes ∷ rest) [] h k = absurd h
whole_at member (bytes ∷ rest) (log ∷ logs) h zero = record { records = log.records; log = h.0.records_are; rising = h.0.rising }
whole_at member (bytes ∷ rest) (log ∷ logs) h (suc k) = whole_at (member + 1) rest logs h.1 k

none_damaged : Readings → (bytes : List ℕ) (at : ℕ) → IsWhole bytes → parts_in bytes ≡ Err at → ⊥
none_damaged k bytes at w e = let read = k.sound bytes w.records w.log in cc

none_broken : Readings → (bytes : List ℕ) (at : ℕ) → IsWhole bytes → FallsAt bytes at → ⊥
none_broken k bytes at w f = none_falls k 0 f.records w.records f.it f.rest w.log.tail (sym f.split ∙ w.log.whole) f.allowed.0 f.allowed.1 w.log.allowed w.log.torn w.rising f.falls

pub unbroken : Readings → (c : Contents) → IsSoundDisk c → (v : Volume) (at : ℕ) → LogBreaksAt v at c → ⊥
unbroken k c sound (volume.Log member) at breaks =
    let w = whole_at 1 c.logs sound.logs sound.sound.whole_logs (member - 1) in
    elim breaks [
      | inl bad ↦ none_damaged k (log_of c.logs member) at w bad
      | inr falls ↦ none_broken k (log_of c.logs member) at w falls
    ]
unbroken k c sound (volume.Page id) at breaks = breaks
