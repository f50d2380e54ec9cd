-- The logs of a disk, one after the other, and what is made of them.
use Rattle.std.proofs.Common.{◌≡◌, ℕ, zero, suc, ◌+◌, ◌-◌, ◌<◌, ◌≤◌, List, [], ◌∷◌, length, map, drop, Option, Result, Ok, Err, refl, sym, ap, subst, ◌∙◌, arith}
use Rattle.std.specs.Prelude.{slice_index, slice_index_or}
use Rattle.std.proofs.lemmas.List.{drop_all}
use Rattle.ds_disk.specs.Contents.{Contents, log_of, WhenTold, Becomes, Same}
use Rattle.ds_model.specs.declared.log.LogRecord.{LogRecord}
use Rattle.log_record.specs.declared.log.Log.{Log}
use Rattle.log_record.specs.Logs.{parts_of}
use Rattle.log_head.specs.Laws.{PartsAreWhole}
use Rattle.sound_disk.specs.Whole_logs.{IsWholeLog, AreWholeLogs}
use Rattle.sound_disk.specs.Laws.{AreRead}
use Rattle.disk_walk.specs.Reading.{Reads}
use Rattle.disk_walk.specs.One.{records_to, OfRecords}
use Rattle.disk_walk.specs.Whole.{OfWholeLogs}
use Rattle.disk_walk.proofs.One.{reads_on, reads_to, reads_none}

pub counted : {A B : Type 0} (f : A → B) (xs : List A) → length (map f xs) ≡ length xs
counted f [] = refl
counted f (x ∷ xs) = ap suc (counted f xs)

-- ---- the log behind so many others

pub record IsLogAt (member : ℕ) (bytes : List (List ℕ)) (logs : List Log) (k : ℕ) : Type 0 where
  pub log : Log
  pub split : drop k logs ≡ log ∷ drop (k + 1) logs
  pub member_is : log.member ≡ member + k
  pub within : slice_index (map (λ (l : Log). l.length) logs) k ≤ length (slice_index_or bytes k [])
  pub records_are : records_to (slice_index (map (λ (l : Log). l.length) logs) k) (slice_index_or bytes k []) ≡ log.records

records_are : PartsAreWhole → AreRead → (member : ℕ) (bytes : List ℕ) (log : Log) → IsWholeLog member bytes log → (log.length ≤ length bytes) × (records_to log.length bytes ≡ log.records)
records_are parts read member bytes log h = parts bytes (parts_of log) (read member bytes log h)

log_at : PartsAreWhole → AreRead → (member : ℕ) (bytes : List (List ℕ)) (logs : List Log) (k : ℕ) → AreWholeLogs member bytes logs → k < length logs → IsLogAt member bytes logs k
log_at parts read member bytes [] k h lt = absurd (omega (arith, lt))
log_at parts read member [] (log ∷ logs) k h lt = absurd h
log_at parts read member (b ∷ bytes) (log ∷ logs) zero h lt =
    let are = records_are parts read member b log h.0 in
    record { log = log; split = refl; member_is = h.0.member_is ∙ omega arith; within = are.0; records_are = are.1 }
log_at parts read member (b ∷ bytes) (log ∷ logs) (suc k) h lt =
    let more = log_at parts read (member + 1) bytes logs k h.1 (omega (arith, lt)) in
    let next : suc (k + 1) ≡ suc k + 1 = omega arith in
    record { log = more.log; split = more.split ∙ ap (λ (n : ℕ). more.log ∷ drop n (log ∷ logs)) next; member_is = more.member_is ∙ omega arith; within = more.within; records_are = more.records_are }

-- ---- so far

-- what the logs behind the first ones, so many, make of a state is what all make of the first one
abbrev pub LogsOn : {S X : Type 0} → (S → List Log → X) → List ℕ → S → ℕ → S → ℕ → Contents → Type 0
LogsOn F ends start k s n c = OfWholeLogs ends (λ logs. F s (drop k logs) ≡ F start logs) c

pub logs_start : {S X : Type 0} (F : S → List Log → X) (a : Option Contents) (n : ℕ) (ends : List ℕ) (start : S) → Reads a a n n (LogsOn F ends start 0 start) (Ok 0)
logs_start F a n ends start = reads_none a n (LogsOn F ends start 0 start) 0 (λ c logs whole is. refl)

pub log_here : PartsAreWhole → AreRead → (ends : List ℕ) (logs : List Log) (c : Contents) (k member end : ℕ) (P : List LogRecord → Type 0) → AreWholeLogs 1 c.logs logs → ends ≡ map (λ (l : Log). l.length) logs → length ends ≡ 32 → k < 32 → member ≡ k + 1 → end ≡ slice_index ends k
    → OfRecords member end P c → (log : Log) × (drop k logs ≡ log ∷ drop (k + 1) logs) × (log.member ≡ member) × P log.records
log_here parts read ends logs c k member end P whole is long lt its end_is holds =
    let count : length logs ≡ 32 = sym (counted (λ (l : Log). l.length) logs) ∙ ap length (sym is) ∙ long in
    let at = log_at parts read 1 c.logs logs k whole (omega (arith, lt, count)) in
    let place : member - 1 ≡ k = omega (arith, its) in
    let bytes : log_of c.logs member ≡ slice_index_or c.logs k [] = ap (λ (n : ℕ). slice_index_or c.logs n []) place in
    let stop : end ≡ slice_index (map (λ (l : Log). l.length) logs) k = end_is ∙ ap (λ (l : List ℕ). slice_index l k) is in
    let within : end ≤ length (log_of c.logs member) =
    subst (λ (b : List ℕ). end ≤ length b) (sym bytes) (subst (λ (n : ℕ). n ≤ length (slice_index_or c.logs k [])) (sym stop) at.within) in
    let records : records_to end (log_of c.logs member) ≡ at.log.records = ap (λ (b : List ℕ). records_to end b) bytes ∙ ap (λ (n : ℕ). records_to n (slice_index_or c.logs k [])) stop ∙ at.records_are in
    (at.log, at.split, at.member_is ∙ (let same : 1 + k ≡ member = omega (arith, its) in same), subst P records (holds within))

-- one log more, of whose records it holds
pub logs_more : {S X T : Type 0} (F : S → List Log → X) → PartsAreWhole → AreRead → (a b e : Option Contents) (n m j : ℕ) (ends : List ℕ) (k member end : ℕ) (start s t : S) (P : T → List LogRecord → Type 0) (x : T) → length ends ≡ 32 → k < 32 → member ≡ k + 1
    → end ≡ slice_index ends k → ((log : Log) (rest : List Log) → log.member ≡ member → P x log.records → F s (log ∷ rest) ≡ F t rest)
    → Reads a b n m (LogsOn F ends start k s) (Ok 0) → Reads b e m j (λ (y : T) c. OfRecords member end (P y) c) (Ok x) → Reads a e n j (LogsOn F ends start (k + 1) t) (Ok 0)
logs_more {T = T} F parts read a b e n m j ends k member end start s t P x long lt its end_is step p q =
    reads_on a b e n m j (LogsOn F ends start k s) 0 (λ (y : T) c. OfRecords member end (P y) c) x (LogsOn F ends start (k + 1) t) 0 p q
    (λ c on holds logs whole is.
    let here = log_here parts read ends logs c k member end (P x) whole is long lt its end_is holds in
    sym (step here.0 (drop (k + 1) logs) here.2 here.3) ∙ sym (ap (F s) here.1) ∙ on logs whole is)

-- a log that decides
pub logs_stop : {S X T : Type 0} (F : S → List Log → X) → PartsAreWhole → AreRead → (a b e : Option Contents) (n m j : ℕ) (ends : List ℕ) (k member end : ℕ) (start s : S) (P : T → List LogRecord → Type 0) (x : T) (y : X) → length ends ≡ 32 → k < 32 → member ≡ k + 1
    → end ≡ slice_index ends k → ((log : Log) (rest : List Log) → log.member ≡ member → P x log.records → F s (log ∷ rest) ≡ y)
    → Reads a b n m (LogsOn F ends start k s) (Ok 0) → Reads b e m j (λ (z : T) c. OfRecords member end (P z) c) (Ok x) → Reads a e n j (λ (z : X) c. OfWholeLogs ends (λ logs. z ≡ F start logs) c) (Ok y)
logs_stop {X = X} {T = T} F parts read a b e n m j ends k member end start s P x y long lt its end_is step p q =
    reads_on a b e n m j (LogsOn F ends start k s) 0 (λ (z : T) c. OfRecords member end (P z) c) x (λ (z : X) c. OfWholeLogs ends (λ logs. z ≡ F start logs) c) y p q
    (λ c on holds logs whole is.
    let here = log_here parts read ends logs c k member end (P x) whole is long lt its end_is holds in
    sym (step here.0 (drop (k + 1) logs) here.2 here.3) ∙ sym (ap (F s) here.1) ∙ on logs whole is)

-- behind the last one
pub logs_end : {S X : Type 0} (F : S → List Log → X) (a b : Option Contents) (n m : ℕ) (ends : List ℕ) (k : ℕ) (start s : S) (y : X) → length ends ≡ 32 → 32 ≤ k → F s [] ≡ y → Reads a b n m (LogsOn F ends start k s) (Ok 0)
    → Reads a b n m (λ (z : X) c. OfWholeLogs ends (λ logs. z ≡ F start logs) c) (Ok y)
logs_end {X = X} F a b n m ends k start s y long le last p =
    reads_to a b n m (LogsOn F ends start k s) 0 (λ (z : X) c. OfWholeLogs ends (λ logs. z ≡ F start logs) c) y p
    (λ c on logs whole is.
    let count : length logs ≡ 32 = sym (counted (λ (l : Log). l.length) logs) ∙ ap length (sym is) ∙ long in
    let none : drop k logs ≡ [] = drop_all k logs (omega (arith, le, count)) in
    sym last ∙ sym (ap (F s) none) ∙ on logs whole is)
