-- The last of whole records, by the length at its end.
use Rattle.std.proofs.Common.{◌≡◌, ℕ, zero, suc, ◌+◌, ◌-◌, ◌≤◌, List, [], length, take, drop, Result, Ok, Err, refl, sym, ap, subst, ◌∙◌, arith, inl, inr}
use Rattle.std.proofs.lemmas.Bool.{cases_lt}
use Rattle.std.proofs.lemmas.List.{length-drop, drop-drop, drop-take}
use Rattle.byteorder.specs.Endian.{big_number}
use Rattle.ds_model.specs.declared.log.LogRecord.{LogRecord}
use Rattle.ds_model.specs.RecordBytes.{record_limit}
use Rattle.log_record.specs.declared.fault.RecordFault.{RecordFault}
use Rattle.log_record.specs.declared.fault.RecordFault.TheVariants.{NotWhole, Bad, NoMemory}
use Rattle.log_record.specs.Reading.{record_in}
use Rattle.log_record.specs.Logs.{Parts, behind, parts_in}
use Rattle.log_head.specs.Heads.{IsShort}
use Rattle.log_head.specs.Laws.{RecordHasSize, RecordIsFramed, RecordIsOwn, NothingIsShort, PartsGoOn, PartsEnd, PartsAreBad}
use Rattle.log_checkpoint.specs.Backwards.{last_size}
use Rattle.log_checkpoint.specs.Passed.{AreWhole}

-- whole records end with this one, of so many bytes, and begin with whole records
pub record EndsWith (bytes : List ℕ) : Type 0 where
  pub it : LogRecord
  pub size : ℕ
  pub many : 4 ≤ size
  pub few : size ≤ record_limit
  pub within : size ≤ length bytes
  pub told : last_size bytes ≡ size
  pub read : record_in (drop (length bytes - size) bytes) ≡ Ok (it, size)
  pub front : AreWhole (parts_in (take (length bytes - size) bytes))

abbrev Found : Type 0
Found = Result (LogRecord × ℕ) RecordFault

whole_behind : (r : LogRecord) (n : ℕ) (q : Result Parts ℕ) → AreWhole (behind r n q) → AreWhole q
whole_behind r n (Ok p) w = w
whole_behind r n (Err at) w = w

behind_whole : (r : LogRecord) (n : ℕ) (q : Result Parts ℕ) → AreWhole q → AreWhole (behind r n q)
behind_whole r n (Ok p) w = w
behind_whole r n (Err at) w = w

-- the length that stands before this place
abbrev last_by_size : List ℕ → ℕ → ℕ
last_by_size bytes k = big_number 4 (drop (k - 4) bytes)

module _ (size : RecordHasSize) (framed : RecordIsFramed) (own : RecordIsOwn) (empty : NothingIsShort) (goes : PartsGoOn) (ends : PartsEnd) (bad : PartsAreBad) where
  pub none_whole : AreWhole (parts_in [])
  none_whole = subst AreWhole (sym (ends [] (subst IsShort (sym empty) tt))) refl

  -- the only record
  ends_here : (bytes : List ℕ) (r : LogRecord) (n : ℕ) → record_in bytes ≡ Ok (r, n) → length (drop n bytes) ≡ 0 → EndsWith bytes
  ends_here bytes r n e none =
      let s = size bytes r n e in
      let f = framed bytes r n e in
      let all : length bytes ≡ n = omega (arith, none, s.1, length-drop n bytes) in
      let start : length bytes - n ≡ 0 = omega arith in
      record {
        it = r;
        size = n;
        many = f.0;
        few = f.1;
        within = s.1;
        told = subst (λ (k : ℕ). last_by_size bytes k ≡ n) (sym all) f.2;
        read = subst (λ (k : ℕ). record_in (drop k bytes) ≡ Ok (r, n)) (sym start) e;
        front = subst (λ (k : ℕ). AreWhole (parts_in (take k bytes))) (sym start) none_whole;
      }

  -- behind a first record
  ends_behind : (bytes : List ℕ) (r : LogRecord) (n : ℕ) → record_in bytes ≡ Ok (r, n) → EndsWith (drop n bytes) → EndsWith bytes
  ends_behind bytes r n e it =
      let s = size bytes r n e in
      let rest : List ℕ = drop n bytes in
      let left : length rest ≡ length bytes - n = length-drop n bytes in
      let m : ℕ = length rest - it.size in
      let at : length bytes - it.size ≡ n + m = omega (arith, left, s.1, it.within) in
      let last : length bytes - 4 ≡ n + (length rest - 4) = omega (arith, left, s.1, it.within, it.many) in
      let same : drop (length bytes - it.size) bytes ≡ drop m rest = ap (λ (k : ℕ). drop k bytes) at ∙ sym (drop-drop m n bytes) in
      let back : drop (length bytes - 4) bytes ≡ drop (length rest - 4) rest = ap (λ (k : ℕ). drop k bytes) last ∙ sym (drop-drop (length rest - 4) n bytes) in
      let first : record_in (take (n + m) bytes) ≡ Ok (r, n) = own bytes (n + m) r n e (omega arith) in
      let whole : AreWhole (parts_in (take (n + m) bytes)) =
      subst AreWhole (sym (goes (take (n + m) bytes) r n first ∙ ap (λ (t : List ℕ). behind r n (parts_in t)) (drop-take n m bytes))) (behind_whole r n (parts_in (take m rest)) it.front) in
      record {
        it = it.it;
        size = it.size;
        many = it.many;
        few = it.few;
        within = omega (arith, left, it.within);
        told = ap (big_number 4) back ∙ it.told;
        read = ap record_in same ∙ it.read;
        front = subst (λ (k : ℕ). AreWhole (parts_in (take k bytes))) (sym at) whole;
      }

  not_bad : (bytes : List ℕ) (field : ℕ) → record_in bytes ≡ Err (Bad field) → AreWhole (parts_in bytes) → ⊥
  not_bad bytes field e w = subst AreWhole (bad bytes field e) w

  none_left : (bytes : List ℕ) → IsShort (record_in bytes) → AreWhole (parts_in bytes) → length bytes ≡ 0
  none_left bytes short w = subst AreWhole (ends bytes short) w

  ends_when : (f : Found) (bytes : List ℕ) → record_in bytes ≡ f → 1 ≤ length bytes → AreWhole (parts_in bytes) → ((r : LogRecord) (n : ℕ) → f ≡ Ok (r, n) → 1 ≤ length (drop n bytes) → AreWhole (parts_in (drop n bytes)) → EndsWith (drop n bytes)) → EndsWith bytes
  ends_when (Ok (r, n)) bytes e some w again =
      let behind_it : AreWhole (parts_in (drop n bytes)) = whole_behind r n (parts_in (drop n bytes)) (subst AreWhole (goes bytes r n e) w) in
      elim (cases_lt 0 (length (drop n bytes))) as (λ _. EndsWith bytes) [
        | inl more ↦ ends_behind bytes r n e (again r n refl (omega arith) behind_it)
        | inr none ↦ ends_here bytes r n e (omega arith)
      ]
  ends_when (Err NotWhole) bytes e some w again = absurd (let none = none_left bytes (subst IsShort (sym e) tt) w in omega (arith, none, some))
  ends_when (Err (Bad field)) bytes e some w again = absurd (not_bad bytes field e w)
  ends_when (Err NoMemory) bytes e some w again = absurd (let none = none_left bytes (subst IsShort (sym e) tt) w in omega (arith, none, some))

  ends_up_to : (count : ℕ) (bytes : List ℕ) → length bytes ≤ count → 1 ≤ length bytes → AreWhole (parts_in bytes) → EndsWith bytes
  ends_up_to zero bytes le some w = absurd (omega (arith, le, some))
  ends_up_to (suc count) bytes le some w =
      ends_when (record_in bytes) bytes refl some w
      (λ r n e more behind_it. let s = size bytes r n e in ends_up_to count (drop n bytes) (omega (arith, s.0, s.1, le, length-drop n bytes)) more behind_it)

  -- whole records end with one
  pub ends_with : (bytes : List ℕ) → 1 ≤ length bytes → AreWhole (parts_in bytes) → EndsWith bytes
  ends_with bytes some w = ends_up_to (length bytes) bytes (omega arith) some w
