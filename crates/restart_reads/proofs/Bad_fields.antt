-- Where a field isn't allowed in the bytes that are kept, it isn't in the log.
use Rattle.std.proofs.Common.{◌≡◌, ℕ, ◌≤◌, List, [], ◌∷◌, ◌++◌, length, take, drop, Result, Ok, Err, refl, sym, ap, subst, ◌∙◌, append_assoc, arith}
use Rattle.std.specs.List.{AllByRecursion}
use Rattle.std.proofs.lemmas.List.{length-drop, take-append-drop, take_all}
use Rattle.ds_model.specs.declared.log.LogRecord.{LogRecord}
use Rattle.ds_model.specs.RecordBytes.{IsAllowed, record_bytes, log_bytes}
use Rattle.log_record.specs.Reading.{record_in}
use Rattle.log_record.specs.Logs.{Parts, parts_in, behind}
use Rattle.log_record.specs.declared.log.Log.{Log}
use Rattle.log_head.specs.Laws.{PartsGoOn}
use Rattle.log_reader.specs.Keeping.{IsOf}
use Rattle.log_reader.specs.Readers.{ReaderState, parts_behind, parts_read}
use Rattle.sound_disk.specs.Laws.{AreRead}
use Rattle.sound_disk.specs.Whole_logs.{IsWholeLog}

abbrev pub ReadAgain : Type 0
ReadAgain = (r : LogRecord) (rest : List ℕ) → IsAllowed r → record_in (record_bytes r ++ rest) ≡ Ok (r, length (record_bytes r))

abbrev IsBad : Result Parts ℕ → Type 0
IsBad (Ok p) = ⊥
IsBad (Err at) = Unit {0}

bad_behind : (r : LogRecord) (n : ℕ) (q : Result Parts ℕ) → IsBad q → IsBad (behind r n q)
bad_behind r n (Ok p) h = h
bad_behind r n (Err at) h = tt

drop_first : (xs ys : List ℕ) → drop (length xs) (xs ++ ys) ≡ ys
drop_first [] ys = refl
drop_first (x ∷ xs) ys = drop_first xs ys

-- behind whole records too
still_bad : ReadAgain → PartsGoOn → (front : List LogRecord) (rest : List ℕ) → AllByRecursion IsAllowed front → IsBad (parts_in rest) → IsBad (parts_in (log_bytes front ++ rest))
still_bad again goes [] rest a h = h
still_bad again goes (r ∷ rs) rest a h =
    let b = record_bytes r in
    let joined : log_bytes (r ∷ rs) ++ rest ≡ b ++ (log_bytes rs ++ rest) = append_assoc b (log_bytes rs) rest in
    let all : parts_in (log_bytes (r ∷ rs) ++ rest) ≡ behind r (length b) (parts_in (log_bytes rs ++ rest)) =
    ap parts_in joined ∙ goes (b ++ (log_bytes rs ++ rest)) r (length b) (again r (log_bytes rs ++ rest) a.0) ∙ ap (λ (t : List ℕ). behind r (length b) (parts_in t)) (drop_first b (log_bytes rs ++ rest)) in
    subst IsBad (sym all) (bad_behind r (length b) (parts_in (log_bytes rs ++ rest)) (still_bad again goes rs rest a.1 h))

bad_of : (start : ℕ) (q : Result Parts ℕ) (at : ℕ) → parts_behind start q ≡ Err at → IsBad q
bad_of start (Ok p) at e = cc
bad_of start (Err field) at e = tt

-- all bytes behind those that were left out are kept
all_kept : (bytes : List ℕ) (r : ReaderState) → IsOf bytes r.held → length bytes ≤ r.held.end → bytes ≡ take r.held.start bytes ++ r.held.bytes
all_kept bytes r h all =
    let size = length-drop r.held.start bytes in
    let ends = h.ends in
    let within = h.within in
    let last : take (length r.held.bytes) (drop r.held.start bytes) ≡ drop r.held.start bytes = take_all (length r.held.bytes) (drop r.held.start bytes) (omega (arith, size, ends, all)) in
    sym (take-append-drop r.held.start bytes) ∙ ap (λ (t : List ℕ). take r.held.start bytes ++ t) (sym (h.told ∙ last))

-- so the whole log of a sound disk isn't damaged
pub not_bad : ReadAgain → PartsGoOn → AreRead → (member : ℕ) (bytes : List ℕ) (log : Log) (r : ReaderState) (at : ℕ) → IsWholeLog member bytes log → IsOf bytes r.held → length bytes ≤ r.held.end → parts_read r ≡ Err at → ⊥
not_bad again goes read member bytes log r at whole h all e =
    let split : bytes ≡ log_bytes h.before.records ++ r.held.bytes = all_kept bytes r h all ∙ ap (λ (t : List ℕ). t ++ r.held.bytes) h.before.spelled in
    let bad : IsBad (parts_in bytes) = subst (λ (t : List ℕ). IsBad (parts_in t)) (sym split) (still_bad again goes h.before.records r.held.bytes h.before.allowed (bad_of r.held.start (parts_in r.held.bytes) at e)) in
    subst IsBad (read member bytes log whole) bad
