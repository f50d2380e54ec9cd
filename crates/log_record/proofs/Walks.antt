-- Reading a log's bytes by definition, where they are whole records and what follows them.
use Rattle.std.proofs.Common.{◌≡◌, ℕ, ◌+◌, ◌-◌, ◌≤◌, suc, List, [], ◌∷◌, ◌++◌, length, take, drop, Result, Ok, Err, refl, sym, ap, ◌∙◌, append_assoc, arith}
use Rattle.std.specs.List.{AllByRecursion}
use Rattle.std.proofs.lemmas.List.{append-nil, length-append, take-append-drop, length-take-le, drop_at, length-drop, flat_map_more}
use Rattle.std.proofs.Math.Seq.{take-add}
use Rattle.ds_model.specs.declared.log.LogRecord.{LogRecord}
use Rattle.ds_model.specs.RecordBytes.{IsAllowed, record_bytes, log_bytes}
use Rattle.log_record.specs.Reading.{record_in, Found}
use Rattle.log_record.specs.declared.fault.RecordFault.{RecordFault}
use Rattle.log_record.specs.declared.fault.RecordFault.TheVariants.{NotWhole, Bad}
use Rattle.log_record.specs.Logs.{Parts, behind, parts_from, parts_up_to, parts_in}

-- a spelling is read, whatever follows it
abbrev pub Again : Type 0
Again = (r : LogRecord) (rest : List ℕ) → IsAllowed r → record_in (record_bytes r ++ rest) ≡ Ok (r, length (record_bytes r))

-- no record is spelled by nothing
some_bytes : (bytes : List ℕ) (r : LogRecord) (n : ℕ) → record_in (bytes ++ []) ≡ Ok (r, n) → 1 ≤ length bytes
unfolding record_in
some_bytes [] r n e = absurd cc
some_bytes (b ∷ bs) r n e = omega arith

pub fewer : Again → (rs : List LogRecord) → AllByRecursion IsAllowed rs → length rs ≤ length (log_bytes rs)
fewer again [] h = omega arith
fewer again (r ∷ rs) h =
    let ih = fewer again rs h.1 in
    let one = some_bytes (record_bytes r) r (length (record_bytes r)) (again r [] h.0) in
    omega (arith, ih, one, length-append (record_bytes r) (log_bytes rs))

-- the count that reads these records and then goes on with k
abbrev up : List LogRecord → ℕ → ℕ
up [] k = k
up (r ∷ rs) k = suc (up rs k)

up_is : (rs : List LogRecord) (k : ℕ) → up rs k ≡ length rs + k
up_is [] k = omega arith
up_is (r ∷ rs) k = omega (arith, up_is rs k)

-- the parts behind these records
abbrev behind_all : List LogRecord → Result Parts ℕ → Result Parts ℕ
behind_all [] p = p
behind_all (r ∷ rs) p = behind r (length (record_bytes r)) (behind_all rs p)

behind_ok : (rs : List LogRecord) (p : Parts) → behind_all rs (Ok p) ≡ Ok (record { records = rs ++ p.records; size = length (log_bytes rs) + p.size; tail = p.tail })
behind_ok [] p = grind arith
behind_ok (r ∷ rs) p =
    ap (behind r (length (record_bytes r))) (behind_ok rs p)
    ∙ ap (λ (n : ℕ). let it : Parts = record { records = r ∷ (rs ++ p.records); size = n; tail = p.tail } in Ok it) (omega (arith, length-append (record_bytes r) (log_bytes rs)))

behind_err : (rs : List LogRecord) (at : ℕ) → behind_all rs (Err at) ≡ Err (length (log_bytes rs) + at)
behind_err [] at = grind arith
behind_err (r ∷ rs) at =
    ap (behind r (length (record_bytes r))) (behind_err rs at)
    ∙ ap (λ (n : ℕ). Err n) (omega (arith, length-append (record_bytes r) (log_bytes rs)))

parts_behind : Again → (rs : List LogRecord) (k : ℕ) (rest : List ℕ) → AllByRecursion IsAllowed rs → parts_up_to (up rs k) (log_bytes rs ++ rest) ≡ behind_all rs (parts_up_to k rest)
unfolding parts_up_to
parts_behind again [] k rest h = refl
parts_behind again (r ∷ rs) k rest h =
    let text : List ℕ = record_bytes r in
    let more : List ℕ = log_bytes rs ++ rest in
    let grouped : log_bytes (r ∷ rs) ++ rest ≡ text ++ more = append_assoc text (log_bytes rs) rest in
    let read : record_in (text ++ more) ≡ Ok (r, length text) = again r more h.0 in
    let left : drop (length text) (text ++ more) ≡ more = drop_at text more (length text) refl in
    ap (λ (bytes : List ℕ). parts_from (λ q. parts_up_to (up rs k) q) bytes (record_in bytes)) grouped
    ∙ ap (λ (found : Result (LogRecord × ℕ) RecordFault). parts_from (λ q. parts_up_to (up rs k) q) (text ++ more) found) read
    ∙ ap (λ (q : List ℕ). behind r (length text) (parts_up_to (up rs k) q)) left
    ∙ ap (behind r (length text)) (parts_behind again rs k rest h.1)

-- ---- how the walk ends

ends_whole : (k : ℕ) (rest : List ℕ) → record_in rest ≡ Err NotWhole → parts_up_to (suc k) rest ≡ Ok (record { records = []; size = 0; tail = length rest })
unfolding parts_up_to
ends_whole k rest e = ap (λ (found : Result (LogRecord × ℕ) RecordFault). parts_from (λ q. parts_up_to k q) rest found) e

ends_damaged : (k : ℕ) (rest : List ℕ) (at : ℕ) → record_in rest ≡ Err (Bad at) → parts_up_to (suc k) rest ≡ Err at
unfolding parts_up_to
ends_damaged k rest at e = ap (λ (found : Result (LogRecord × ℕ) RecordFault). parts_from (λ q. parts_up_to k q) rest found) e

parts_then : Again → (rs : List LogRecord) (rest : List ℕ) → AllByRecursion IsAllowed rs → (k : ℕ) × (parts_in (log_bytes rs ++ rest) ≡ behind_all rs (parts_up_to (suc k) rest))
unfolding parts_in
parts_then again rs rest h =
    let bytes : List ℕ = log_bytes rs ++ rest in
    let k : ℕ = length bytes - length rs in
    let enough : suc (length bytes) ≡ up rs (suc k) = omega (arith, fewer again rs h, up_is rs (suc k), length-append (log_bytes rs) rest) in
    (k, ap (λ (n : ℕ). parts_up_to n bytes) enough ∙ parts_behind again rs (suc k) rest h)

pub parts_whole : Again → (rs : List LogRecord) (rest : List ℕ) → AllByRecursion IsAllowed rs → record_in rest ≡ Err NotWhole
    → parts_in (log_bytes rs ++ rest) ≡ Ok (record { records = rs; size = length (log_bytes rs); tail = length rest })
parts_whole again rs rest h e =
    let t = parts_then again rs rest h in
    let none : Parts = record { records = []; size = 0; tail = length rest } in
    t.1 ∙ ap (behind_all rs) (ends_whole t.0 rest e) ∙ behind_ok rs none
    ∙ ap (λ (all : List LogRecord). let it : Parts = record { records = all; size = length (log_bytes rs) + 0; tail = length rest } in Ok it) (append-nil rs)
    ∙ ap (λ (n : ℕ). let it : Parts = record { records = rs; size = n; tail = length rest } in Ok it) (omega arith)

pub parts_damaged : Again → (rs : List LogRecord) (rest : List ℕ) (at : ℕ) → AllByRecursion IsAllowed rs → record_in rest ≡ Err (Bad at)
    → parts_in (log_bytes rs ++ rest) ≡ Err (length (log_bytes rs) + at)
parts_damaged again rs rest at h e =
    let t = parts_then again rs rest h in
    t.1 ∙ ap (behind_all rs) (ends_damaged t.0 rest at e) ∙ behind_err rs at

-- ---- at an offset, where the records end

module _ (again : Again) (bytes : List ℕ) (at : ℕ) (rs : List LogRecord) (within : at ≤ length bytes) (spelled : take at bytes ≡ log_bytes rs) (allowed : AllByRecursion IsAllowed rs) where
  size_is : length (log_bytes rs) ≡ at
  size_is = sym (ap length spelled) ∙ length-take-le at bytes within

  bytes_are : bytes ≡ log_bytes rs ++ drop at bytes
  bytes_are = sym (take-append-drop at bytes) ∙ ap (λ (t : List ℕ). t ++ drop at bytes) spelled

  pub whole_at : record_in (drop at bytes) ≡ Err NotWhole → parts_in bytes ≡ Ok (record { records = rs; size = at; tail = length bytes - at })
  whole_at e =
      ap parts_in bytes_are ∙ parts_whole again rs (drop at bytes) allowed e
      ∙ ap (λ (n : ℕ). let it : Parts = record { records = rs; size = n; tail = length (drop at bytes) } in Ok it) size_is
      ∙ ap (λ (n : ℕ). let it : Parts = record { records = rs; size = at; tail = n } in Ok it) (length-drop at bytes)

  pub damaged_at : (n : ℕ) → at ≤ n → record_in (drop at bytes) ≡ Err (Bad (n - at)) → parts_in bytes ≡ Err n
  damaged_at n le e =
      ap parts_in bytes_are ∙ parts_damaged again rs (drop at bytes) (n - at) allowed e
      ∙ ap (λ (m : ℕ). Err m) (omega (arith, size_is, le))

-- ---- one record further

allowed-push : (rs : List LogRecord) (r : LogRecord) → AllByRecursion IsAllowed rs → IsAllowed r → AllByRecursion IsAllowed (rs ++ r ∷ [])
allowed-push [] r h k = (k, tt)
allowed-push (q ∷ rs) r h k = (h.0, allowed-push rs r h.1 k)

pub further : (bytes : List ℕ) (at : ℕ) (rs : List LogRecord) (r : LogRecord) (n : ℕ) → at ≤ length bytes → take at bytes ≡ log_bytes rs → AllByRecursion IsAllowed rs → Found (drop at bytes) r n
    → (at + n ≤ length bytes) × (take (at + n) bytes ≡ log_bytes (rs ++ r ∷ [])) × AllByRecursion IsAllowed (rs ++ r ∷ [])
further bytes at rs r n within spelled allowed f =
    let left = length-drop at bytes in (
      omega (arith, f.within, left, within),
      take-add at n bytes ∙ ap (λ (t : List ℕ). t ++ take n (drop at bytes)) spelled ∙ ap (λ (t : List ℕ). log_bytes rs ++ t) f.spelled ∙ flat_map_more record_bytes [] rs r,
      allowed-push rs r allowed f.allowed,
    )
