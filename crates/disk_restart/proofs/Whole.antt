-- Logs of whole records, and what is appended to them.
use Rattle.std.proofs.Common.{◌≡◌, ℕ, zero, suc, ◌+◌, ◌-◌, ◌≤◌, false, List, [], ◌∷◌, ◌++◌, length, take, Ok, refl, sym, ap, subst, ◌∙◌, append_assoc, arith, inl, inr}
use Rattle.std.specs.List.{AllByRecursion}
use Rattle.std.proofs.lemmas.Bool.{cases_lt}
use Rattle.std.proofs.lemmas.Grind.{flat_map-append}
use Rattle.std.proofs.lemmas.List.{append-nil, take_all, take-append-le, length-take, length-append}
use Rattle.ds_model.specs.declared.log.LogRecord.{LogRecord}
use Rattle.ds_model.specs.Logs.{IsLog, IsTorn}
use Rattle.ds_model.specs.RecordBytes.{IsAllowed, record_bytes, log_bytes}
use Rattle.log_record.specs.declared.log.Log.{Log}
use Rattle.log_record.specs.Logs.{parts_in}
use Rattle.log_reader.specs.Keeping.{HasLastOf}
use Rattle.disk_restart.specs.Keeping.{is_lasting, kept_if, lasting_from, lasting_among, lasting_in, lasting}
use Rattle.disk_restart.proofs.Kept.{lasting_read}
use Rattle.disk_restart.proofs.Each.{each_append}

-- what is read of the bytes of a sound log
abbrev pub ReadsSound : Type 0
ReadsSound = (bytes : List ℕ) (records : List LogRecord) → IsLog bytes records → parts_in bytes ≡ Ok (record { records = records; size = length (log_bytes records); tail = length bytes - length (log_bytes records) })

lasting_is : ReadsSound → (bytes : List ℕ) (records : List LogRecord) → IsLog bytes records → lasting bytes ≡ Ok (lasting_among records)
lasting_is sound bytes records is = ap lasting_in (sound bytes records is)

-- the bytes are whole records, and so many
pub record IsWhole (size : ℕ) (bytes : List ℕ) : Type 0 where
  pub size_is : size ≡ length bytes
  pub records : List LogRecord
  pub spelled : bytes ≡ log_bytes records
  pub allowed : AllByRecursion IsAllowed records

pub none_whole : IsWhole 0 []
none_whole = record { size_is = refl; records = []; spelled = refl; allowed = tt }

pub whole_as : (n m : ℕ) (a b : List ℕ) → n ≡ m → a ≡ b → IsWhole m b → IsWhole n a
whole_as n m a b size same is = subst (λ (k : ℕ). IsWhole k a) (sym size) (subst (IsWhole m) (sym same) is)

whole_lasting : ReadsSound → (bytes : List ℕ) (records : List LogRecord) → bytes ≡ log_bytes records → AllByRecursion IsAllowed records → lasting bytes ≡ Ok (lasting_among records)
whole_lasting sound bytes records spelled allowed = lasting_is sound bytes records (record { tail = []; whole = spelled ∙ sym (append-nil (log_bytes records)); allowed = allowed; torn = inl refl })

-- ---- a log that is cut

-- with all its records
abbrev whole_log : Log → List LogRecord → Log
whole_log log front = record { member = log.member; records = front ++ log.records; length = log.length; tail = log.tail }

pub cut_whole : (bytes : List ℕ) (log : Log) → HasLastOf bytes log → IsWhole log.length (take log.length bytes)
cut_whole bytes log h = record { size_is = omega (arith, length-take log.length bytes, h.is.whole); records = h.front ++ log.records; spelled = h.is.spelled; allowed = h.is.allowed }

pub cut_kept : ReadsSound → (bytes : List ℕ) (log : Log) → HasLastOf bytes log → lasting (take log.length bytes) ≡ lasting bytes
cut_kept sound bytes log h = whole_lasting sound (take log.length bytes) (h.front ++ log.records) h.is.spelled h.is.allowed ∙ sym (lasting_read bytes (whole_log log h.front) h.is)

pub uncut_whole : (bytes : List ℕ) (log : Log) → HasLastOf bytes log → log.tail ≡ 0 → IsWhole log.length bytes
uncut_whole bytes log h none = subst (IsWhole log.length) (take_all log.length bytes (omega (arith, h.is.whole, none))) (cut_whole bytes log h)

-- ---- records that are appended, or a front of their bytes

abbrev AreAllowed : List LogRecord → Type 0
AreAllowed records = AllByRecursion IsAllowed records

-- none of the records is lasting, of which the first begins at this byte
abbrev pub AreAdded : ℕ → List LogRecord → Type 0
AreAdded at [] = Unit {0}
AreAdded at (r ∷ rs) = (is_lasting at r.body ≡ false) × AreAdded (at + length (record_bytes r)) rs

none_lasting : (at : ℕ) (added : List LogRecord) → AreAdded at added → lasting_from at added ≡ []
none_lasting at [] h = refl
none_lasting at (r ∷ rs) h = rw (h.0) (none_lasting (at + length (record_bytes r)) rs h.1)

lasting_append : (at : ℕ) (records added : List LogRecord) → AreAdded (at + length (log_bytes records)) added → lasting_from at (records ++ added) ≡ lasting_from at records
lasting_append at [] added h =
    let e : at + 0 ≡ at = omega arith in
    none_lasting at added (subst (λ (k : ℕ). AreAdded k added) e h)
lasting_append at (r ∷ rs) added h =
    let e : at + length (record_bytes r ++ log_bytes rs) ≡ at + length (record_bytes r) + length (log_bytes rs) = omega (arith, length-append (record_bytes r) (log_bytes rs)) in
    ap (λ (t : List LogRecord). kept_if (is_lasting at r.body) r t) (lasting_append (at + length (record_bytes r)) rs added (subst (λ (k : ℕ). AreAdded k added) e h))

-- some whole records, and then a torn tail
record Front (at : ℕ) (bytes : List ℕ) : Type 0 where
  records : List LogRecord
  tail : List ℕ
  split : bytes ≡ log_bytes records ++ tail
  allowed : AreAllowed records
  ours : AreAdded at records
  torn : IsTorn tail

take_behind : (n : ℕ) (xs ys : List ℕ) → length xs ≤ n → take n (xs ++ ys) ≡ xs ++ take (n - length xs) ys
take_behind n [] ys h = let e : n ≡ n - 0 = omega arith in ap (λ (k : ℕ). take k ys) e
take_behind zero (x ∷ xs) ys h = absurd (omega arith)
take_behind (suc n) (x ∷ xs) ys h =
    let e : n - length xs ≡ suc n - suc (length xs) = omega arith in
    ap (λ (t : List ℕ). x ∷ t) (take_behind n xs ys (omega arith) ∙ ap (λ (k : ℕ). xs ++ take k ys) e)

front : (at : ℕ) (added : List LogRecord) (n : ℕ) → AreAllowed added → AreAdded at added → Front at (take n (log_bytes added))
front at [] n allowed ours = record { records = []; tail = take n []; split = refl; allowed = tt; ours = tt; torn = inl (take_all n [] (omega arith)) }
front at (r ∷ rs) n allowed ours = elim (cases_lt n (length (record_bytes r))) [
  | inl few ↦ record {
    records = [];
    tail = take n (record_bytes r);
    split = take-append-le n (record_bytes r) (log_bytes rs) (omega arith);
    allowed = tt;
    ours = tt;
    torn = inr (r, allowed.0, n, few, refl);
  }
  | inr more ↦ let f = front (at + length (record_bytes r)) rs (n - length (record_bytes r)) allowed.1 ours.1 in record {
    records = r ∷ f.records;
    tail = f.tail;
    split = take_behind n (record_bytes r) (log_bytes rs) more ∙ ap (λ (t : List ℕ). record_bytes r ++ t) f.split ∙ sym (append_assoc (record_bytes r) (log_bytes f.records) f.tail);
    allowed = (allowed.0, f.allowed);
    ours = (ours.0, f.ours);
    torn = f.torn;
  }
]

pub front_kept : ReadsSound → (size : ℕ) (bytes : List ℕ) (added : List LogRecord) (n : ℕ) → IsWhole size bytes → AllByRecursion IsAllowed added → AreAdded (length bytes) added → lasting (bytes ++ take n (log_bytes added)) ≡ lasting bytes
front_kept sound size bytes added n w allowed ours =
    let f = front (length bytes) added n allowed ours in
    let is : IsLog (bytes ++ take n (log_bytes added)) (w.records ++ f.records) = record {
      tail = f.tail;
      whole = ap (λ (t : List ℕ). bytes ++ t) f.split ∙ ap (λ (t : List ℕ). t ++ (log_bytes f.records ++ f.tail)) w.spelled ∙ sym (append_assoc (log_bytes w.records) (log_bytes f.records) f.tail)
          ∙ ap (λ (t : List ℕ). t ++ f.tail) (sym (flat_map-append record_bytes w.records f.records));
      allowed = each_append IsAllowed w.records f.records w.allowed f.allowed;
      torn = f.torn;
    } in
    let from : length bytes ≡ 0 + length (log_bytes w.records) = omega (arith, ap length w.spelled) in
    lasting_is sound (bytes ++ take n (log_bytes added)) (w.records ++ f.records) is
    ∙ ap (λ (rs : List LogRecord). Ok rs) (lasting_append 0 w.records f.records (subst (λ (k : ℕ). AreAdded k f.records) from f.ours))
    ∙ sym (whole_lasting sound bytes w.records w.spelled w.allowed)

pub append_kept : ReadsSound → (size : ℕ) (bytes : List ℕ) (added : List LogRecord) → IsWhole size bytes → AllByRecursion IsAllowed added → AreAdded (length bytes) added → lasting (bytes ++ log_bytes added) ≡ lasting bytes
append_kept sound size bytes added w allowed ours =
    subst (λ (t : List ℕ). lasting (bytes ++ t) ≡ lasting bytes) (take_all (length (log_bytes added)) (log_bytes added) (omega arith)) (front_kept sound size bytes added (length (log_bytes added)) w allowed ours)

pub append_whole : (size : ℕ) (bytes : List ℕ) (added : List LogRecord) → IsWhole size bytes → AllByRecursion IsAllowed added → IsWhole (size + length (log_bytes added)) (bytes ++ log_bytes added)
append_whole size bytes added w allowed = record {
  size_is = omega (arith, w.size_is, length-append bytes (log_bytes added));
  records = w.records ++ added;
  spelled = ap (λ (t : List ℕ). t ++ log_bytes added) w.spelled ∙ sym (flat_map-append record_bytes w.records added);
  allowed = each_append IsAllowed w.records added w.allowed allowed;
}
