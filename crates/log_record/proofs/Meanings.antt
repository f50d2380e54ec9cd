-- The parts of a log's bytes, both ways.
use Rattle.std.proofs.Common.{◌≡◌, ℕ, ◌+◌, ◌-◌, ◌<◌, inl, inr, zero, suc, List, [], ◌∷◌, ◌++◌, length, take, drop, Result, Ok, Err, refl, sym, ap, subst, ◌∙◌, append_assoc, arith}
use Rattle.std.specs.Prelude.{slice_index}
use Rattle.std.proofs.lemmas.List.{length-append, take-append-drop, length-take-le, get_or-drop}
use Rattle.ds_model.specs.declared.log.LogRecord.{LogRecord}
use Rattle.ds_model.specs.Logs.{IsLog, IsTorn}
use Rattle.ds_model.specs.RecordBytes.{IsAllowed, record_bytes, log_bytes}
use Rattle.log_record.specs.Reading.{record_in, Found}
use Rattle.log_record.specs.declared.fault.RecordFault.{RecordFault}
use Rattle.log_record.specs.declared.fault.RecordFault.TheVariants.{NotWhole, Bad, NoMemory}
use Rattle.log_record.specs.Logs.{Parts, behind, parts_from, parts_up_to, parts_in, ArePartsOf, IsDamagedAt}
use Rattle.log_record.proofs.Walks.{Again, parts_whole, parts_damaged}

-- ---- from the records to what is read

nothing_read : record_in [] ≡ Err NotWhole
unfolding record_in
nothing_read = refl

pub parts_are : Again → (bytes : List ℕ) (p : Parts) → ArePartsOf bytes p → parts_in bytes ≡ Ok p
parts_are again bytes p h =
    ap parts_in h.split ∙ parts_whole again p.records h.rest h.allowed h.not_whole
    ∙ ap (λ (n : ℕ). let it : Parts = record { records = p.records; size = n; tail = length h.rest } in Ok it) (sym h.size_is)
    ∙ ap (λ (n : ℕ). let it : Parts = record { records = p.records; size = p.size; tail = n } in Ok it) (sym h.tail_is)

pub damaged_is : Again → (bytes : List ℕ) (at : ℕ) → IsDamagedAt bytes at → parts_in bytes ≡ Err at
damaged_is again bytes at h =
    ap parts_in h.split ∙ parts_damaged again h.records h.rest h.field h.allowed h.bad ∙ ap (λ (n : ℕ). Err n) (sym h.place)

-- a front of a spelling is not whole
abbrev Cut : Type 0
Cut = (r : LogRecord) (n : ℕ) → IsAllowed r → n < length (record_bytes r) → record_in (take n (record_bytes r)) ≡ Err NotWhole

torn_read : Cut → (tail : List ℕ) → IsTorn tail → record_in tail ≡ Err NotWhole
torn_read cut tail (inl none) = ap record_in none ∙ nothing_read
torn_read cut tail (inr t) = ap record_in t.4 ∙ cut t.0 t.2 t.1 t.3

pub sound_log : Again → Cut → (bytes : List ℕ) (records : List LogRecord) → IsLog bytes records
    → parts_in bytes ≡ Ok (record { records = records; size = length (log_bytes records); tail = length bytes - length (log_bytes records) })
sound_log again cut bytes records h =
    parts_are again bytes (record { records = records; size = length (log_bytes records); tail = length bytes - length (log_bytes records) })
    (record { rest = h.tail; split = h.whole; allowed = h.allowed; not_whole = torn_read cut h.tail h.torn; size_is = refl; tail_is = omega (arith, ap length h.whole, length-append (log_bytes records) h.tail) })

-- ---- from what is read to the records

abbrev AreBytes : List ℕ → Type 0
AreBytes bytes = (i : ℕ) → slice_index bytes i < 256

abbrev IsFound : Type 0
IsFound = (bytes : List ℕ) (r : LogRecord) (n : ℕ) → AreBytes bytes → record_in bytes ≡ Ok (r, n) → Found bytes r n

behind_damaged : (r : LogRecord) (n : ℕ) (p : Result Parts ℕ) (at : ℕ) → behind r n p ≡ Err at → (k : ℕ) × (p ≡ Err k) × (at ≡ n + k)
behind_damaged r n (Ok p) at e = absurd cc
behind_damaged r n (Err k) at e = (k, refl, cc)

-- damage behind a record
damage_behind : (bytes : List ℕ) (r : LogRecord) (n k : ℕ) → Found bytes r n → IsDamagedAt (drop n bytes) k → IsDamagedAt bytes (n + k)
damage_behind bytes r n k f d = record {
  records = r ∷ d.records;
  rest = d.rest;
  split = sym (take-append-drop n bytes) ∙ ap (λ (t : List ℕ). t ++ drop n bytes) f.spelled ∙ ap (λ (t : List ℕ). record_bytes r ++ t) d.split ∙ sym (append_assoc (record_bytes r) (log_bytes d.records) d.rest);
  allowed = (f.allowed, d.allowed);
  field = d.field;
  bad = d.bad;
  place = omega (arith, d.place, length-append (record_bytes r) (log_bytes d.records), ap length f.spelled, length-take-le n bytes f.within);
}

-- damage that is read on from here, where it is known what reading on finds
damage_at : IsFound → (read_on : List ℕ → Result Parts ℕ) → ((rest : List ℕ) (k : ℕ) → AreBytes rest → read_on rest ≡ Err k → IsDamagedAt rest k)
    → (bytes : List ℕ) (at : ℕ) (it : Result (LogRecord × ℕ) RecordFault) → AreBytes bytes → record_in bytes ≡ it → parts_from read_on bytes it ≡ Err at → IsDamagedAt bytes at
damage_at found read_on on bytes at (Ok (r, n)) fits is e =
    let f = found bytes r n fits is in
    let b = behind_damaged r n (read_on (drop n bytes)) at e in
    let left : AreBytes (drop n bytes) = λ i. subst (λ (b : ℕ). b < 256) (sym (get_or-drop n bytes i 0)) (fits (n + i)) in
    subst (IsDamagedAt bytes) (sym b.2) (damage_behind bytes r n b.0 f (on (drop n bytes) b.0 left b.1))
damage_at found read_on on bytes at (Err (Bad k)) fits is e = record { records = []; rest = bytes; split = refl; allowed = tt; field = k; bad = is; place = grind (arith, e) }
damage_at found read_on on bytes at (Err NotWhole) fits is e = absurd cc
damage_at found read_on on bytes at (Err NoMemory) fits is e = absurd cc

damage_from : IsFound → (count : ℕ) (bytes : List ℕ) (at : ℕ) → AreBytes bytes → parts_up_to count bytes ≡ Err at → IsDamagedAt bytes at
unfolding parts_up_to
damage_from found zero bytes at fits e = absurd cc
damage_from found (suc count) bytes at fits e =
    let again : (rest : List ℕ) (k : ℕ) → AreBytes rest → parts_up_to count rest ≡ Err k → IsDamagedAt rest k = λ rest k. damage_from found count rest k in
    damage_at found (λ rest. parts_up_to count rest) again bytes at (record_in bytes) fits refl e

pub damage_is : IsFound → (bytes : List ℕ) (at : ℕ) → AreBytes bytes → parts_in bytes ≡ Err at → IsDamagedAt bytes at
unfolding parts_in
damage_is found bytes at fits e = damage_from found (suc (length bytes)) bytes at fits e
