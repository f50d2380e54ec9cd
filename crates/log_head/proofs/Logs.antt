-- What stands in hand, and what is left of the log.
use Rattle.std.proofs.Common.{◌≡◌, ℕ, ◌+◌, ◌-◌, ◌<◌, ◌≤◌, List, [], ◌∷◌, ◌++◌, length, take, drop, Result, Ok, Err, refl, sym, ap, subst, ◌∙◌, arith}
use Rattle.std.specs.Prelude.{◌≢◌}
use Rattle.std.proofs.lemmas.List.{length-drop, length-append, length-take, take-take, drop-take, drop-drop}
use Rattle.std.proofs.Math.Seq.{take-add}
use Rattle.log_record.specs.Given.{LogRecord}
use Rattle.log_record.specs.declared.fault.RecordFault.{RecordFault}
use Rattle.log_record.specs.declared.fault.RecordFault.TheVariants.{NotWhole, Bad, NoMemory}
use Rattle.log_record.specs.Reading.{record_in}
use Rattle.log_head.specs.Whole.{whole_records}
use Rattle.log_head.specs.Heads.{HeadState, hand_end, behind, filled, IsOf, AreNext, left_bytes, left_of}
use Rattle.log_head.proofs.Fronts.{record_size, record_front}
use Rattle.log_head.proofs.Whole.{whole_first}

-- what is in hand is the front of what is left
in_front : (log : List ℕ) (h : HeadState) → IsOf log h → h.hand ≡ take (length h.hand) (left_bytes log h)
in_front log h is = is.told ∙ sym (take-take (length h.hand) (h.end - h.at) (drop h.at log) (omega (arith, is.fits)))

-- so what is decided in hand is decided
decided : (log : List ℕ) (h : HeadState) (x : Result (LogRecord × ℕ) RecordFault) → IsOf log h → record_in h.hand ≡ x → x ≢ Err NotWhole → record_in (left_bytes log h) ≡ x
decided log h x is e ne =
    let front : record_in (take (length h.hand) (left_bytes log h)) ≡ x = ap record_in (sym (in_front log h is)) ∙ e in
    record_front (length h.hand) (left_bytes log h) (λ none. ne (sym front ∙ none)) ∙ front

left_behind : (log : List ℕ) (h : HeadState) (n : ℕ) → h.at + n ≤ h.end → drop n (left_bytes log h) ≡ left_bytes log (behind h n)
left_behind log h n le =
    let m : ℕ = h.end - (h.at + n) in
    let split : h.end - h.at ≡ n + m = omega arith in
    ap (λ (k : ℕ). drop n (take k (drop h.at log))) split ∙ drop-take n m (drop h.at log) ∙ ap (take m) (drop-drop n h.at log)

taken_of_it : (log : List ℕ) (h : HeadState) (n : ℕ) → IsOf log h → n ≤ length h.hand → IsOf log (behind h n)
taken_of_it log h n is le =
    let k : ℕ = length h.hand - n in
    let len : length (drop n h.hand) ≡ k = length-drop n h.hand in
    let split : length h.hand ≡ n + k = omega arith in
    record {
      within = is.within;
      fits = omega (arith, is.fits, len);
      told = ap (drop n) is.told ∙ ap (λ (j : ℕ). drop n (take j (drop h.at log))) split ∙ drop-take n k (drop h.at log) ∙ ap (take k) (drop-drop n h.at log)
          ∙ ap (λ (j : ℕ). take j (drop (h.at + n) log)) (sym len);
    }

pub taken_is : (log : List ℕ) (h : HeadState) (r : LogRecord) (n : ℕ) → IsOf log h → record_in h.hand ≡ Ok (r, n) → IsOf log (behind h n) × (left_of log h ≡ r ∷ left_of log (behind h n))
taken_is log h r n is e =
    let s = record_size h.hand r n e in
    let read : record_in (left_bytes log h) ≡ Ok (r, n) = decided log h (Ok (r, n)) is e (λ no. cc) in (
      taken_of_it log h n is s.1,
      whole_first (left_bytes log h) r n read ∙ ap (λ (t : List ℕ). r ∷ whole_records t) (left_behind log h n (omega (arith, is.fits, s.1))),
    )

pub record_left : (log : List ℕ) (h : HeadState) (r : LogRecord) (n : ℕ) → IsOf log h → record_in h.hand ≡ Ok (r, n) → (record_in (left_bytes log h) ≡ Ok (r, n)) × (left_bytes log (behind h n) ≡ drop n (left_bytes log h))
record_left log h r n is e =
    let s = record_size h.hand r n e in
    (decided log h (Ok (r, n)) is e (λ no. cc), sym (left_behind log h n (omega (arith, is.fits, s.1))))

pub filled_is : (log : List ℕ) (h : HeadState) (bytes : List ℕ) → IsOf log h → hand_end h + length bytes ≤ h.end → AreNext log h bytes → IsOf log (filled h bytes)
filled_is log h bytes is le next =
    let k : ℕ = length h.hand in
    let m : ℕ = length bytes in
    let len : length (h.hand ++ bytes) ≡ k + m = length-append h.hand bytes in
    record {
      within = is.within;
      fits = omega (arith, len, le);
      told = ap (λ (t : List ℕ). t ++ bytes) is.told ∙ ap (λ (t : List ℕ). take k (drop h.at log) ++ t) (next ∙ ap (take m) (sym (drop-drop k h.at log)))
          ∙ sym (take-add k m (drop h.at log)) ∙ ap (λ (j : ℕ). take j (drop h.at log)) (sym len);
    }

pub ended_is : (log : List ℕ) (h : HeadState) → IsOf log h → hand_end h ≡ h.end → left_bytes log h ≡ h.hand
ended_is log h is e =
    let all : h.end - h.at ≡ length h.hand = omega arith in
    ap (λ (n : ℕ). take n (drop h.at log)) all ∙ sym is.told

pub bad_is : (log : List ℕ) (h : HeadState) (field : ℕ) → IsOf log h → record_in h.hand ≡ Err (Bad field) → record_in (left_bytes log h) ≡ Err (Bad field)
bad_is log h field is e = decided log h (Err (Bad field)) is e (λ no. cc)
