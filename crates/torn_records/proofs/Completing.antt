-- What reading a template that begins with the bytes tells.
use Rattle.std.proofs.Common.{◌≡◌, ◌≢◌, ℕ, ◌<◌, ◌≤◌, Bool, true, false, inr, List, [], ◌++◌, length, take, drop, Result, Ok, Err, refl, sym, ap, subst, ◌∙◌, arith}
use Rattle.std.proofs.lemmas.List.{append-nil, length-append, length-drop, length-take-le, take_all, take_at}
use Rattle.ds_base.specs.declared.fault.NoMemory.{NoMemory}
use Rattle.ds_model.specs.declared.log.LogRecord.{LogRecord}
use Rattle.ds_model.specs.RecordBytes.{IsAllowed, record_bytes}
use Rattle.ds_model.specs.Logs.{IsTorn}
use Rattle.log_record.specs.declared.fault.RecordFault.{RecordFault}
use Rattle.log_record.specs.declared.fault.RecordFault.TheVariants as fault
use Rattle.log_record.specs.Reading.{record_in, Found, Answers}
use Rattle.torn_records.specs.Fronts.{IsFrontOf, Tells}
use Rattle.torn_records.specs.Mixes.{Completes}
use Rattle.torn_records.proofs.Mixing.{mix_is}

-- a spelling is read, whatever follows it
abbrev pub Again : Type 0
Again = (r : LogRecord) (rest : List ℕ) → IsAllowed r → record_in (record_bytes r ++ rest) ≡ Ok (r, length (record_bytes r))

abbrev pub whole : List ℕ → List ℕ → List ℕ
whole bytes text = bytes ++ drop (length bytes) text

abbrev told : Bool → Result Bool NoMemory
told b = Ok b

told_is : (a b : Bool) → told a ≡ told b → a ≡ b
told_is a b e = cc

count_is : (bytes : List ℕ) (r : LogRecord) (f : IsFrontOf bytes r) → length bytes ≡ f.count
count_is bytes r f = ap length f.is ∙ length-take-le f.count (record_bytes r) (let lt = f.short in omega arith)

-- the template fills the front of such a record up to a record, which is read
reads : (bytes text : List ℕ) (r : LogRecord) → Again → IsFrontOf bytes r → Completes r text → (q : LogRecord) × (record_in (whole bytes text) ≡ Ok (q, length text))
reads bytes text r again f c =
    let filled = c.fills f.count in
    let q : LogRecord = filled.0 in
    let le : f.count ≤ length (record_bytes r) = (let lt = f.short in omega arith) in
    let count = count_is bytes r f in
    let mixed : record_bytes q ≡ take f.count (record_bytes r) ++ drop f.count text = filled.2 ∙ mix_is f.count (record_bytes r) text (sym c.long) le in
    let spelled : record_bytes q ≡ whole bytes text =
    mixed ∙ ap (λ (l : List ℕ). l ++ drop f.count text) (sym f.is) ∙ ap (λ (n : ℕ). bytes ++ drop n text) (sym count) in
    let lt = f.short in
    let long = c.long in
    let size : length (record_bytes q) ≡ length text = ap length spelled ∙ omega (arith, length-append bytes (drop (length bytes) text), length-drop (length bytes) text, count, lt, long) in
    let read = again q [] filled.1 in
    (q, ap record_in (sym (append-nil (record_bytes q) ∙ spelled)) ∙ read ∙ ap (λ (n : ℕ). let it : Result (LogRecord × ℕ) RecordFault = Ok (q, n) in it) size)

-- what was read as long as the template has the bytes as a front
torn_read : (bytes text : List ℕ) (r : LogRecord) (size : ℕ) → length bytes < length text → Found (whole bytes text) r size → size ≡ length text → IsTorn bytes
torn_read bytes text r size lt f is =
    let all = whole bytes text in
    let long : length all ≡ length text = omega (arith, length-append bytes (drop (length bytes) text), length-drop (length bytes) text, lt) in
    let spelled : all ≡ record_bytes r = sym (take_all size all (omega (arith, long, is))) ∙ f.spelled in
    let short : length bytes < length (record_bytes r) = omega (arith, ap length spelled, long, lt) in
    let front : bytes ≡ take (length bytes) (record_bytes r) = sym (take_at bytes (drop (length bytes) text) (length bytes) refl) ∙ ap (take (length bytes)) spelled in
    inr (r, f.allowed, length bytes, short, front)

-- ---- the three answers

pub short_told : (bytes text : List ℕ) → length text ≤ length bytes → Tells bytes (λ r. Completes r text) (Ok false)
short_told bytes text le = record {
  torn = λ e. absurd cc;
  none = λ e r h c f. let count = count_is bytes r f in let lt = f.short in let long = c.long in omega arith;
}

second : (a b : LogRecord) (m n : ℕ) → (let x : Result (LogRecord × ℕ) RecordFault = Ok (a, m) in let y : Result (LogRecord × ℕ) RecordFault = Ok (b, n) in x ≡ y) → m ≡ n
second a b m n e = let pair : (a, m) ≡ (b, n) = cc in ap (λ (z : LogRecord × ℕ). z.1) pair

pub read_told : (bytes text : List ℕ) (r : LogRecord) (size : ℕ) (b : Bool) → Again → length bytes < length text → record_in (whole bytes text) ≡ Ok (r, size) → Found (whole bytes text) r size
    → (b ≡ true → size ≡ length text) → (b ≡ false → size ≢ length text) → Tells bytes (λ r. Completes r text) (Ok b)
read_told bytes text r size b again lt e f same other = record {
  torn = λ is. torn_read bytes text r size lt f (same (told_is b true is));
  none = λ is q h c front.
      let x = reads bytes text q again front c in
      other (told_is b false is) (second r x.0 size (length text) (sym e ∙ x.1));
}

pub fault_told : (bytes text : List ℕ) (result : Result (LogRecord × ℕ) RecordFault) (e : RecordFault) → Again → Answers result (record_in (whole bytes text)) → result ≡ Err e → e ≢ fault.NoMemory → Tells bytes (λ r. Completes r text) (Ok false)
fault_told bytes text result e again answers is-err other =
    let read : e ≢ fault.NoMemory → record_in (whole bytes text) ≡ Err e = subst (λ (x : Result (LogRecord × ℕ) RecordFault). Answers x (record_in (whole bytes text))) is-err answers in
    record {
      torn = λ is. absurd cc;
      none = λ is q h c front. let x = reads bytes text q again front c in let failed = read other in let found = x.1 in cc;
    }
