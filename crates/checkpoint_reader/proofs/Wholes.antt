-- Whole records up to a place of a log.
use Rattle.std.proofs.Common.{◌≡◌, ℕ, zero, suc, ◌+◌, ◌-◌, ◌<◌, ◌≤◌, List, [], ◌∷◌, ◌++◌, length, take, drop, Result, Ok, Err, refl, sym, ap, subst, ◌∙◌, arith, inl, inr}
use Rattle.std.specs.List.{AllByRecursion}
use Rattle.std.proofs.lemmas.Bool.{cases_lt}
use Rattle.std.proofs.lemmas.Grind.{flat_map-append}
use Rattle.std.proofs.lemmas.List.{append-nil, length-append, length-take-le, take-append-le, take-take, take_all, drop_at}
use Rattle.std.proofs.Math.Seq.{take-add}
use Rattle.ds_model.specs.declared.log.LogRecord.{LogRecord}
use Rattle.ds_model.specs.RecordBytes.{IsAllowed, record_bytes, log_bytes}
use Rattle.log_record.specs.declared.fault.RecordFault.{RecordFault}
use Rattle.log_record.specs.declared.fault.RecordFault.TheVariants.{NotWhole, Bad, NoMemory}
use Rattle.log_record.specs.Reading.{record_in}
use Rattle.log_record.specs.Logs.{Parts, behind, parts_in}
use Rattle.log_head.specs.Heads.{IsShort}
use Rattle.log_head.specs.Laws.{RecordHasSize, FrontDecides, NothingIsShort, PartsGoOn, PartsEnd, PartsAreBad}
use Rattle.log_checkpoint.specs.Passed as search
use Rattle.log_reader.specs.Keeping.{AreWhole}

-- a spelling is read, whatever follows it
abbrev pub ReadAgain : Type 0
ReadAgain = (r : LogRecord) (rest : List ℕ) → IsAllowed r → record_in (record_bytes r ++ rest) ≡ Ok (r, length (record_bytes r))

abbrev Read : Type 0
Read = Result (LogRecord × ℕ) RecordFault

abbrev ok_read : LogRecord → ℕ → Read
ok_read r n = Ok (r, n)

abbrev size_of : Read → ℕ
size_of (Ok found) = found.1
size_of (Err fault) = 0

not_both : (s : LogRecord) (m : ℕ) → ok_read s m ≡ Err NotWhole → ⊥
not_both s m e = cc

-- ---- whole records

none_whole : AreWhole []
none_whole = record { records = []; spelled = refl; allowed = tt }

each_append : (P : LogRecord → Type 0) (xs ys : List LogRecord) → AllByRecursion P xs → AllByRecursion P ys → AllByRecursion P (xs ++ ys)
each_append P [] ys h k = k
each_append P (x ∷ xs) ys h k = (h.0, each_append P xs ys h.1 k)

both_whole : (a b : List ℕ) → AreWhole a → AreWhole b → AreWhole (a ++ b)
both_whole a b x y = record {
  records = x.records ++ y.records;
  spelled = ap (λ (t : List ℕ). t ++ b) x.spelled ∙ ap (λ (t : List ℕ). log_bytes x.records ++ t) y.spelled ∙ sym (flat_map-append record_bytes x.records y.records);
  allowed = each_append IsAllowed x.records y.records x.allowed y.allowed;
}

one_whole : (r : LogRecord) → IsAllowed r → AreWhole (record_bytes r)
one_whole r is = record { records = r ∷ []; spelled = sym (append-nil (record_bytes r)); allowed = (is, tt) }

take_none : (n : ℕ) → take {A = ℕ} n [] ≡ []
take_none zero = refl
take_none (suc n) = refl

drop_first : (xs ys : List ℕ) → drop (length xs) (xs ++ ys) ≡ ys
drop_first xs ys = drop_at xs ys (length xs) refl

take_behind : (n : ℕ) (xs ys : List ℕ) → length xs ≤ n → take n (xs ++ ys) ≡ xs ++ take (n - length xs) ys
take_behind n xs ys le =
    let split : n ≡ length xs + (n - length xs) = omega (arith, le) in
    ap (λ (m : ℕ). take m (xs ++ ys)) split ∙ take-add (length xs) (n - length xs) (xs ++ ys)
    ∙ ap (λ (t : List ℕ). t ++ take (n - length xs) (drop (length xs) (xs ++ ys))) (take-append-le (length xs) xs ys (omega arith) ∙ take_all (length xs) xs (omega arith))
    ∙ ap (λ (t : List ℕ). xs ++ take (n - length xs) t) (drop_first xs ys)

-- ---- parts

whole_behind : (r : LogRecord) (n : ℕ) (q : Result Parts ℕ) → search.AreWhole q → search.AreWhole (behind r n q)
whole_behind r n (Ok p) w = w
whole_behind r n (Err at) w = w

whole_of_behind : (r : LogRecord) (n : ℕ) (q : Result Parts ℕ) → search.AreWhole (behind r n q) → search.AreWhole q
whole_of_behind r n (Ok p) w = w
whole_of_behind r n (Err at) w = w

parts_behind : ReadAgain → PartsGoOn → (r : LogRecord) (rest : List ℕ) → IsAllowed r → parts_in (record_bytes r ++ rest) ≡ behind r (length (record_bytes r)) (parts_in rest)
parts_behind again goes r rest is =
    let b : List ℕ = record_bytes r in
    goes (b ++ rest) r (length b) (again r rest is) ∙ ap (λ (t : List ℕ). behind r (length b) (parts_in t)) (drop_first b rest)

parts_whole : ReadAgain → PartsGoOn → PartsEnd → NothingIsShort → (rs : List LogRecord) → AllByRecursion IsAllowed rs → search.AreWhole (parts_in (log_bytes rs))
parts_whole again goes ends none [] h = subst search.AreWhole (sym (ends [] (subst IsShort (sym none) tt))) refl
parts_whole again goes ends none (r ∷ rs) h =
    subst search.AreWhole (sym (parts_behind again goes r (log_bytes rs) h.0)) (whole_behind r (length (record_bytes r)) (parts_in (log_bytes rs)) (parts_whole again goes ends none rs h.1))

-- a front of a record that isn't all of it is no whole record, unless it is empty
cut_none : PartsEnd → (bytes : List ℕ) (at : ℕ) → at ≤ length bytes → IsShort (record_in (take at bytes)) → search.AreWhole (parts_in (take at bytes)) → AreWhole (take at bytes)
cut_none ends bytes at le short w =
    let long : length (take at bytes) ≡ at = length-take-le at bytes le in
    let none : length (take at bytes) ≡ 0 = subst search.AreWhole (ends (take at bytes) short) w in
    let zero_at : at ≡ 0 = sym long ∙ none in
    subst (λ (n : ℕ). AreWhole (take n bytes)) (sym zero_at) none_whole

cut_by : RecordHasSize → FrontDecides → PartsEnd → PartsAreBad → (bytes : List ℕ) (r : LogRecord) (n at : ℕ) (f : Read) → record_in bytes ≡ Ok (r, n) → at < n → at ≤ length bytes → record_in (take at bytes) ≡ f
    → search.AreWhole (parts_in (take at bytes)) → AreWhole (take at bytes)
cut_by size front ends bad bytes r n at (Ok (s, m)) whole lt le e w =
    let same : record_in bytes ≡ record_in (take at bytes) = front bytes at (λ h. not_both s m (sym e ∙ h)) in
    let sizes : m ≡ n = ap size_of (sym e ∙ sym same ∙ whole) in
    let long : length (take at bytes) ≡ at = length-take-le at bytes le in
    let fits = size (take at bytes) s m e in
    absurd (omega (arith, sizes, long, fits.1, lt))
cut_by size front ends bad bytes r n at (Err NotWhole) whole lt le e w = cut_none ends bytes at le (subst IsShort (sym e) tt) w
cut_by size front ends bad bytes r n at (Err NoMemory) whole lt le e w = cut_none ends bytes at le (subst IsShort (sym e) tt) w
cut_by size front ends bad bytes r n at (Err (Bad field)) whole lt le e w = absurd (subst search.AreWhole (bad (take at bytes) field e) w)

module _ (size : RecordHasSize) (again : ReadAgain) (front : FrontDecides) (goes : PartsGoOn) (ends : PartsEnd) (bad : PartsAreBad) where
  -- of whole records a front of whole records is one of them
  front_whole : (rs : List LogRecord) (at : ℕ) → AllByRecursion IsAllowed rs → at ≤ length (log_bytes rs) → search.AreWhole (parts_in (take at (log_bytes rs))) → AreWhole (take at (log_bytes rs))
  front_whole [] at h le w = subst AreWhole (sym (take_none at)) none_whole
  front_whole (r ∷ rs) at h le w =
      let b : List ℕ = record_bytes r in
      let rest : List ℕ = log_bytes rs in
      let long = length-append b rest in
      elim (cases_lt at (length b)) [
        | inl lt ↦ cut_by size front ends bad (b ++ rest) r (length b) at (record_in (take at (b ++ rest))) (again r rest h.0) lt le refl w
        | inr past ↦
            let more : take at (b ++ rest) ≡ b ++ take (at - length b) rest = take_behind at b rest past in
            let left : search.AreWhole (parts_in (take (at - length b) rest)) = whole_of_behind r (length b) (parts_in (take (at - length b) rest))
            (subst search.AreWhole (ap parts_in more ∙ parts_behind again goes r (take (at - length b) rest) h.0) w) in
            subst AreWhole (sym more) (both_whole b (take (at - length b) rest) (one_whole r h.0) (front_whole rs (at - length b) h.1 (omega (arith, le, long, past)) left))
      ]

  pub front_of : (log : List ℕ) (known at : ℕ) → known ≤ length log → at ≤ known → AreWhole (take known log) → search.AreWhole (parts_in (take at log)) → AreWhole (take at log)
  front_of log known at within le is w =
      let same : take at log ≡ take at (log_bytes is.records) = sym (take-take at known log le) ∙ ap (take at) is.spelled in
      let long : length (log_bytes is.records) ≡ known = ap (λ (t : List ℕ). length t) (sym is.spelled) ∙ length-take-le known log within in
      subst AreWhole (sym same) (front_whole is.records at is.allowed (omega (arith, long, le)) (subst (λ (t : List ℕ). search.AreWhole (parts_in t)) same w))

pub known_whole : ReadAgain → PartsGoOn → PartsEnd → NothingIsShort → (bytes : List ℕ) → AreWhole bytes → search.AreWhole (parts_in bytes)
known_whole again goes ends none bytes is = subst (λ (t : List ℕ). search.AreWhole (parts_in t)) (sym is.spelled) (parts_whole again goes ends none is.records is.allowed)

-- no bytes are no records
pub none_passed : PartsEnd → NothingIsShort → search.ArePassed (parts_in [])
none_passed ends none = subst search.ArePassed (sym (ends [] (subst IsShort (sym none) tt))) (refl, tt)
