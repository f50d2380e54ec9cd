-- Whole records that are passed one after the other, and where they break off.
use Rattle.std.proofs.Common.{◌≡◌, ℕ, ◌+◌, ◌-◌, ◌<◌, ◌≤◌, inl, inr, List, [], ◌∷◌, ◌++◌, length, take, drop, Result, Ok, Err, refl, sym, ap, ◌∙◌, arith}
use Rattle.std.specs.List.{AllByRecursion}
use Rattle.std.proofs.lemmas.List.{take-append-drop, length-take-le, length-drop, append-nil}
use Rattle.std.proofs.lemmas.List.Concat.{flat_map-append}
use Rattle.std.proofs.Math.Seq.{take-add}
use Rattle.ds_model.specs.declared.log.LogRecord.{LogRecord}
use Rattle.ds_model.specs.RecordBytes.{IsAllowed, record_bytes, log_bytes}
use Rattle.ds_model.specs.Logs.{IsTorn}
use Rattle.log_record.specs.declared.log.Log.{Log}
use Rattle.log_record.specs.declared.fault.RecordFault.{RecordFault}
use Rattle.log_record.specs.declared.fault.RecordFault.TheVariants.{NotWhole, Bad, NoMemory}
use Rattle.log_record.specs.Reading.{record_in, Found, Answers}
use Rattle.log_merge.specs.Merging.{RisesFrom}
use Rattle.sound_disk.specs.Laws.{last_number}
use Rattle.sound_disk.specs.Whole_logs.{IsWholeLog}
use Rattle.whole_logs.specs.Breaks.{BreaksOff, NoneFollows}
use Rattle.whole_logs.specs.Reaching.{IsRead}

-- a spelling is read, whatever follows it
abbrev pub Again : Type 0
Again = (r : LogRecord) (rest : List ℕ) → IsAllowed r → record_in (record_bytes r ++ rest) ≡ Ok (r, length (record_bytes r))

-- a front of a spelling is not whole
abbrev pub Cut : Type 0
Cut = (r : LogRecord) (n : ℕ) → IsAllowed r → n < length (record_bytes r) → record_in (take n (record_bytes r)) ≡ Err NotWhole

-- ---- what is read of the bytes behind the records

nothing_read : record_in [] ≡ Err NotWhole
unfolding record_in
nothing_read = refl

torn_read : Cut → (rest : List ℕ) → IsTorn rest → record_in rest ≡ Err NotWhole
torn_read cut rest (inl none) = ap record_in none ∙ nothing_read
torn_read cut rest (inr t) = ap record_in t.4 ∙ cut t.0 t.2 t.1 t.3

record_read : Again → (rest more : List ℕ) (r : LogRecord) → IsAllowed r → rest ≡ record_bytes r ++ more → record_in rest ≡ Ok (r, length (record_bytes r))
record_read again rest more r h e = ap record_in e ∙ again r more h

abbrev read_as : LogRecord → ℕ → Result (LogRecord × ℕ) RecordFault
read_as r n = Ok (r, n)

same_record : (a b : LogRecord) (m n : ℕ) → read_as a m ≡ read_as b n → a ≡ b
same_record a b m n e =
    let pair : (a, m) ≡ (b, n) = cc in
    ap (λ (z : LogRecord × ℕ). z.0) pair

pub none_lower : Again → Cut → (low : ℕ) (rest : List ℕ) (r : LogRecord) (n : ℕ) → record_in rest ≡ Ok (r, n) → r.lrsn < low → NoneFollows low rest
none_lower again cut low rest r n e lt = record {
  not_torn = λ t. let cut_read = torn_read cut rest t in cc;
  no_record = λ q more h is le.
      let read = record_read again rest more q h is in
      let same : q ≡ r = same_record q r (length (record_bytes q)) n (sym read ∙ e) in
      let number : q.lrsn ≡ r.lrsn = ap (λ (x : LogRecord). x.lrsn) same in
      omega arith;
}

pub none_allowed : Again → Cut → (low : ℕ) (rest : List ℕ) (at : ℕ) → record_in rest ≡ Err (Bad at) → NoneFollows low rest
none_allowed again cut low rest at e = record {
  not_torn = λ t. let cut_read = torn_read cut rest t in cc;
  no_record = λ q more h is le. let read = record_read again rest more q h is in cc;
}

-- ---- one record more

last_more : (low : ℕ) (rs : List LogRecord) (r : LogRecord) → last_number low (rs ++ r ∷ []) ≡ r.lrsn
last_more low [] r = refl
last_more low (s ∷ ss) r = last_more s.lrsn ss r

rises_more : (low : ℕ) (rs : List LogRecord) (r : LogRecord) → RisesFrom low rs → last_number low rs ≤ r.lrsn → RisesFrom low (rs ++ r ∷ [])
rises_more low [] r h le = (le, tt)
rises_more low (s ∷ ss) r h le = (h.0, rises_more s.lrsn ss r h.1 le)

last_below : (low : ℕ) (rs : List LogRecord) (r : LogRecord) → RisesFrom low (rs ++ r ∷ []) → last_number low rs ≤ r.lrsn
last_below low [] r h = h.0
last_below low (s ∷ ss) r h = last_below s.lrsn ss r h.1

allowed_more : (rs : List LogRecord) (r : LogRecord) → AllByRecursion IsAllowed rs → IsAllowed r → AllByRecursion IsAllowed (rs ++ r ∷ [])
allowed_more [] r h is = (is, tt)
allowed_more (s ∷ ss) r h is = (h.0, allowed_more ss r h.1 is)

bytes_more : (rs : List LogRecord) (r : LogRecord) → log_bytes (rs ++ r ∷ []) ≡ log_bytes rs ++ record_bytes r
bytes_more rs r = flat_map-append record_bytes rs (r ∷ []) ∙ ap (λ (t : List ℕ). log_bytes rs ++ t) (append-nil (record_bytes r))

-- these records were passed, and this is the number of the last one
pub record Walked (bytes : List ℕ) (at low : ℕ) (rs : List LogRecord) : Type 0 where
  pub within : at ≤ length bytes
  pub spelled : take at bytes ≡ log_bytes rs
  pub allowed : AllByRecursion IsAllowed rs
  pub rising : RisesFrom 0 rs
  pub low_is : low ≡ last_number 0 rs

pub walked_on : (bytes : List ℕ) (at low : ℕ) (rs : List LogRecord) (r : LogRecord) (n : ℕ) → Walked bytes at low rs → Found (drop at bytes) r n → low ≤ r.lrsn → Walked bytes (at + n) r.lrsn (rs ++ r ∷ [])
walked_on bytes at low rs r n w f le = record {
  within = omega (arith, f.within, length-drop at bytes, w.within);
  spelled = take-add at n bytes ∙ ap (λ (t : List ℕ). t ++ take n (drop at bytes)) w.spelled ∙ ap (λ (t : List ℕ). log_bytes rs ++ t) f.spelled ∙ sym (bytes_more rs r);
  allowed = allowed_more rs r w.allowed f.allowed;
  rising = rises_more 0 rs r w.rising (omega (arith, le, w.low_is));
  low_is = sym (last_more 0 rs r);
}

size_is : (bytes : List ℕ) (at low : ℕ) (rs : List LogRecord) → Walked bytes at low rs → at ≡ length (log_bytes rs)
size_is bytes at low rs w = sym (length-take-le at bytes w.within) ∙ ap length w.spelled

bytes_are : (bytes : List ℕ) (at low : ℕ) (rs : List LogRecord) → Walked bytes at low rs → bytes ≡ log_bytes rs ++ drop at bytes
bytes_are bytes at low rs w = sym (take-append-drop at bytes) ∙ ap (λ (t : List ℕ). t ++ drop at bytes) w.spelled

-- ---- where the walk ends

pub walk_breaks : (bytes : List ℕ) (at low : ℕ) (rs : List LogRecord) → Walked bytes at low rs → NoneFollows low (drop at bytes) → BreaksOff bytes at
walk_breaks bytes at low rs w none = record {
  records = rs;
  rest = drop at bytes;
  split = bytes_are bytes at low rs w;
  allowed = w.allowed;
  rising = w.rising;
  not_torn = none.not_torn;
  no_record = λ r more h e rises. none.no_record r more h e (omega (arith, w.low_is, last_below 0 rs r rises));
  place = size_is bytes at low rs w;
}

pub walk_ends : (member : ℕ) (bytes : List ℕ) (at low : ℕ) (rs : List LogRecord) → Walked bytes at low rs → record_in (drop at bytes) ≡ Err NotWhole
    → IsRead member bytes (record { member = member; records = rs; length = at; tail = length bytes - at })
walk_ends member bytes at low rs w e = record {
  member_is = refl;
  split = bytes_are bytes at low rs w;
  allowed = w.allowed;
  rising = w.rising;
  length_is = size_is bytes at low rs w;
  tail_is = omega (arith, w.within);
  not_whole = e;
}

-- ---- the tail

pub torn_ends : (member : ℕ) (bytes : List ℕ) (log : Log) → IsRead member bytes log → IsTorn (drop log.length bytes) → IsWholeLog member bytes log
torn_ends member bytes log h t = record {
  member_is = h.member_is;
  records_are = record { tail = drop log.length bytes; whole = h.split; allowed = h.allowed; torn = t };
  length_is = h.length_is;
  tail_is = h.tail_is;
  rising = h.rising;
}

pub tail_breaks : Again → (member : ℕ) (bytes : List ℕ) (log : Log) → IsRead member bytes log → (IsTorn (drop log.length bytes) → ⊥) → BreaksOff bytes log.length
tail_breaks again member bytes log h none = record {
  records = log.records;
  rest = drop log.length bytes;
  split = h.split;
  allowed = h.allowed;
  rising = h.rising;
  not_torn = none;
  no_record = λ r more is e rises. let read = record_read again (drop log.length bytes) more r is e in let not_whole = h.not_whole in cc;
  place = h.length_is;
}

-- ---- a fault that was answered

pub bad_read : (result read : Result (LogRecord × ℕ) RecordFault) (at : ℕ) → Answers result read → result ≡ Err (Bad at) → read ≡ Err (Bad at)
bad_read (Ok found) read at a e = absurd cc
bad_read (Err (Bad k)) read at a e = let same : read ≡ Err (Bad k) = a (λ s. cc) in cc
bad_read (Err NotWhole) read at a e = absurd cc
bad_read (Err NoMemory) read at a e = absurd cc
