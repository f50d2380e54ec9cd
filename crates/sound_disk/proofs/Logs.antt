-- Logs of whole records, what is read of them, and what an append leaves.
use Rattle.std.proofs.Common.{◌≡◌, ℕ, ◌+◌, ◌-◌, ◌<◌, ◌≤◌, List, [], ◌∷◌, ◌++◌, length, take, Result, Ok, Err, refl, sym, ap, ◌∙◌, arith, inl, inr, length-append, length-take}
use Rattle.std.specs.List.{AllByRecursion}
use Rattle.std.proofs.lemmas.Grind.{flat_map-append}
use Rattle.std.proofs.lemmas.List.{append-nil}
use Rattle.ds_model.specs.declared.log.LogRecord.{LogRecord}
use Rattle.ds_model.specs.Logs.{IsLog}
use Rattle.ds_model.specs.RecordBytes.{IsAllowed, record_bytes, log_bytes}
use Rattle.log_record.specs.declared.log.Log.{Log}
use Rattle.log_record.specs.Logs.{Parts, parts_in, parts_of}
use Rattle.restart_plan.specs.Given.{RisesFrom}
use Rattle.sound_disk.specs.Whole_logs.{IsWholeLog, AreWholeLogs}
use Rattle.sound_disk.specs.Laws.{last_number, with_record, with_tail}

-- what is read of the bytes of a log
abbrev pub ReadsSound : Type 0
ReadsSound = (bytes : List ℕ) (records : List LogRecord) → IsLog bytes records → parts_in bytes ≡ Ok (record { records = records; size = length (log_bytes records); tail = length bytes - length (log_bytes records) })

abbrev parts : List LogRecord → ℕ → ℕ → Result Parts ℕ
parts records size tail = Ok (record { records = records; size = size; tail = tail })

pub are_read : ReadsSound → (member : ℕ) (bytes : List ℕ) (log : Log) → IsWholeLog member bytes log → parts_in bytes ≡ Ok (parts_of log)
are_read sound member bytes log h =
    let size : length (log_bytes log.records) ≡ log.length = sym h.length_is in
    let tail : length bytes - length (log_bytes log.records) ≡ log.tail = omega (arith, h.length_is, h.tail_is) in
    sound bytes log.records h.records_are
    ∙ ap (λ (n : ℕ). parts log.records n (length bytes - length (log_bytes log.records))) size
    ∙ ap (λ (n : ℕ). parts log.records log.length n) tail

-- ---- one list of logs

abbrev records_in : Result Parts ℕ → List LogRecord
records_in (Ok p) = p.records
records_in (Err at) = []

abbrev log_from : ℕ → List LogRecord → ℕ → ℕ → Log
log_from member records size tail = record { member = member; records = records; length = size; tail = tail }

same_log : (a b : Log) → a.member ≡ b.member → a.records ≡ b.records → a.length ≡ b.length → a.tail ≡ b.tail → a ≡ b
same_log a b m r l t =
    ap (λ (n : ℕ). log_from n a.records a.length a.tail) m
    ∙ ap (λ (rs : List LogRecord). log_from b.member rs a.length a.tail) r
    ∙ ap (λ (n : ℕ). log_from b.member b.records n a.tail) l
    ∙ ap (λ (n : ℕ). log_from b.member b.records b.length n) t

one_log : ReadsSound → (member : ℕ) (bytes : List ℕ) (a b : Log) → IsWholeLog member bytes a → IsWholeLog member bytes b → a ≡ b
one_log sound member bytes a b h k =
    let e : a.records ≡ b.records = ap records_in (sym (sound bytes a.records h.records_are) ∙ sound bytes b.records k.records_are) in
    let s : length (log_bytes a.records) ≡ length (log_bytes b.records) = ap (λ (rs : List LogRecord). length (log_bytes rs)) e in
    same_log a b (h.member_is ∙ sym k.member_is) e (h.length_is ∙ s ∙ sym k.length_is) (omega (arith, h.length_is, k.length_is, h.tail_is, k.tail_is, s))

pub are_told : ReadsSound → (member : ℕ) (bytes : List (List ℕ)) (a b : List Log) → AreWholeLogs member bytes a → AreWholeLogs member bytes b → a ≡ b
are_told sound member [] [] [] h k = refl
are_told sound member [] (x ∷ a) b h k = absurd h
are_told sound member [] [] (y ∷ b) h k = absurd k
are_told sound member (bs ∷ rest) [] b h k = absurd h
are_told sound member (bs ∷ rest) (x ∷ a) [] h k = absurd k
are_told sound member (bs ∷ rest) (x ∷ a) (y ∷ b) h k =
    ap (λ (l : Log). l ∷ a) (one_log sound member bs x y h.0 k.0) ∙ ap (λ (ls : List Log). y ∷ ls) (are_told sound (member + 1) rest a b h.1 k.1)

-- ---- appends

no_items : (xs : List ℕ) → length xs ≡ 0 → xs ≡ []
no_items [] h = refl
no_items (x ∷ xs) h = absurd (omega arith)

pub each_append : {A : Type 0} (P : A → Type 0) (xs ys : List A) → AllByRecursion P xs → AllByRecursion P ys → AllByRecursion P (xs ++ ys)
each_append P [] ys h k = k
each_append P (x ∷ xs) ys h k = (h.0, each_append P xs ys h.1 k)

rises_more : (low : ℕ) (rs : List LogRecord) (r : LogRecord) → RisesFrom low rs → last_number low rs ≤ r.lrsn → RisesFrom low (rs ++ r ∷ [])
rises_more low [] r h l = (l, tt)
rises_more low (x ∷ xs) r h l = (h.0, rises_more x.lrsn xs r h.1 l)

-- without a tail the bytes are the records' alone
spelled : (member : ℕ) (bytes : List ℕ) (log : Log) → IsWholeLog member bytes log → log.tail ≡ 0 → bytes ≡ log_bytes log.records
spelled member bytes log h none =
    let is = h.records_are in
    let size : length bytes ≡ length (log_bytes log.records) + length is.tail = ap length is.whole ∙ length-append (log_bytes log.records) is.tail in
    let empty : is.tail ≡ [] = no_items is.tail (omega (arith, size, none, h.tail_is, h.length_is)) in
    is.whole ∙ ap (λ (t : List ℕ). log_bytes log.records ++ t) empty ∙ append-nil (log_bytes log.records)

pub append_keeps : (member : ℕ) (bytes : List ℕ) (log : Log) (r : LogRecord) → IsWholeLog member bytes log → log.tail ≡ 0 → IsAllowed r → last_number 0 log.records ≤ r.lrsn
    → IsWholeLog member (bytes ++ record_bytes r) (with_record log r)
append_keeps member bytes log r h none allowed low =
    let e : bytes ≡ log_bytes log.records = spelled member bytes log h none in
    let one : record_bytes r ≡ log_bytes (r ∷ []) = sym (append-nil (record_bytes r)) in
    let more : bytes ++ record_bytes r ≡ log_bytes (log.records ++ r ∷ []) =
    ap (λ (t : List ℕ). t ++ record_bytes r) e ∙ ap (λ (t : List ℕ). log_bytes log.records ++ t) one ∙ sym (flat_map-append record_bytes log.records (r ∷ [])) in
    let size : length (bytes ++ record_bytes r) ≡ length bytes + length (record_bytes r) = length-append bytes (record_bytes r) in
    let sizes : length (bytes ++ record_bytes r) ≡ length (log_bytes (log.records ++ r ∷ [])) = ap length more in
    record {
      member_is = h.member_is;
      records_are = record {
        tail = [];
        whole = more ∙ sym (append-nil (log_bytes (log.records ++ r ∷ [])));
        allowed = each_append IsAllowed log.records (r ∷ []) h.records_are.allowed (allowed, tt);
        torn = inl refl;
      };
      length_is = omega (arith, size, sizes, none, h.tail_is);
      tail_is = omega (arith, size, h.tail_is);
      rising = rises_more 0 log.records r h.rising low;
    }

pub torn_keeps : (member : ℕ) (bytes : List ℕ) (log : Log) (r : LogRecord) (n : ℕ) → IsWholeLog member bytes log → log.tail ≡ 0 → IsAllowed r → n < length (record_bytes r)
    → IsWholeLog member (bytes ++ take n (record_bytes r)) (with_tail log n)
torn_keeps member bytes log r n h none allowed few =
    let e : bytes ≡ log_bytes log.records = spelled member bytes log h none in
    let size : length (bytes ++ take n (record_bytes r)) ≡ length bytes + length (take n (record_bytes r)) = length-append bytes (take n (record_bytes r)) in
    record {
      member_is = h.member_is;
      records_are = record {
        tail = take n (record_bytes r);
        whole = ap (λ (t : List ℕ). t ++ take n (record_bytes r)) e;
        allowed = h.records_are.allowed;
        torn = inr (r, allowed, n, few, refl);
      };
      length_is = h.length_is;
      tail_is = omega (arith, size, length-take {A = ℕ}, none, h.tail_is);
      rising = h.rising;
    }

-- the whole records of bytes that are these records
pub whole_records : ReadsSound → (member : ℕ) (records : List LogRecord) (log : Log) → AllByRecursion IsAllowed records → IsWholeLog member (log_bytes records) log → log.records ≡ records
whole_records sound member records log allowed h =
    ap records_in (sym (sound (log_bytes records) log.records h.records_are)
    ∙ sound (log_bytes records) records (record { tail = []; whole = sym (append-nil (log_bytes records)); allowed = allowed; torn = inl refl }))
