-- Logs that are read one after the other.
use Rattle.std.proofs.Common.{◌≡◌, ◌↔◌, Bool, true, false, Result, Ok, Err, ℕ, zero, suc, ◌+◌, ◌-◌, ◌<◌, ◌≤◌, List, [], ◌∷◌, ◌++◌, length, take, drop, get_or, Option, Some, None, refl, sym, ap, subst, ◌∙◌, length-append, arith}
use Rattle.std.proofs.lemmas.List.{take_more, take_all, drop_more, take-append-drop, length-take-le, take_rest}
use Rattle.std.specs.Prelude.{IfOk, IsTrue}
use Rattle.std.specs.Option.{SomeIff}
use Rattle.ds_base.specs.Ids.{IsMember}
use Rattle.ds_base.specs.declared.fault.NoMemory.{NoMemory}
use Rattle.ds_disk.specs.declared.disk.DiskError.{DiskError}
use Rattle.ds_model.specs.Logs.{IsTorn}
use Rattle.ds_disk.specs.Contents.{Contents, log_of, WhenTold, Becomes, Same}
use Rattle.log_record.specs.declared.log.Log.{Log}
use Rattle.sound_disk.specs.Whole_logs.{IsWholeLog, AreWholeLogs}
use Rattle.whole_logs.specs.Breaks.{BreaksOff}
use Rattle.disk_logs.specs.Broken.{IsFirstBroken}
use Rattle.disk_logs.specs.declared.log.Looked.{Looked}
use Rattle.disk_logs.specs.declared.log.Looked.TheVariants as looked
use Rattle.disk_logs.specs.declared.logs.Found.TheVariants as found
use Rattle.disk_logs.specs.Looking.{Reads, IsLooked, IsOfSome, IsLookedOfSome, AreOfSome, AreFound}

-- ---- a disk that stays as it was

pub same_on : (a b c : Option Contents) → Becomes a b Same → Becomes b c Same → Becomes a c Same
same_on None b c h k = tt
same_on (Some x) None c h k = absurd h
same_on (Some x) (Some y) None h k = absurd k
same_on (Some x) (Some y) (Some z) h k = k ∙ h

pub on_start : (start now : Option Contents) (P : Contents → Type 0) → Becomes start now Same → WhenTold now P → WhenTold start P
on_start None now P s h = tt
on_start (Some c) None P s h = absurd s
on_start (Some c) (Some d) P s h = subst P s h

-- ---- one log more

log_at : (logs : List (List ℕ)) (i : ℕ) → log_of logs (i + 1) ≡ get_or logs i []
log_at logs i = let less : i + 1 - 1 ≡ i = omega arith in ap (λ (k : ℕ). get_or logs k []) less

whole_more : (m : ℕ) (front : List (List ℕ)) (whole : List Log) (bytes : List ℕ) (log : Log) → AreWholeLogs m front whole → IsWholeLog (m + length front) bytes log → AreWholeLogs m (front ++ bytes ∷ []) (whole ++ log ∷ [])
whole_more m [] [] bytes log h k = (subst (λ (n : ℕ). IsWholeLog n bytes log) (let e : m + zero ≡ m = omega arith in e) k, tt)
whole_more m [] (l ∷ whole) bytes log h k = absurd h
whole_more m (b ∷ front) [] bytes log h k = absurd h
whole_more m (b ∷ front) (l ∷ whole) bytes log h k =
    let e : m + suc (length front) ≡ m + 1 + length front = omega arith in
    (h.0, whole_more (m + 1) front whole bytes log h.1 (subst (λ (n : ℕ). IsWholeLog n bytes log) e k))

pub more_in : (logs : List (List ℕ)) (i : ℕ) (whole : List Log) (log : Log) → length logs ≡ 32 → i < 32 → AreWholeLogs 1 (take i logs) whole → IsWholeLog (i + 1) (log_of logs (i + 1)) log
    → AreWholeLogs 1 (take (i + 1) logs) (whole ++ log ∷ [])
more_in logs i whole log long lt h k =
    let count : length (take i logs) ≡ i = length-take-le i logs (omega (arith, long, lt)) in
    let here : IsWholeLog (1 + length (take i logs)) (get_or logs i []) log =
    subst (λ (b : List ℕ). IsWholeLog (1 + length (take i logs)) b log) (log_at logs i) (subst (λ (n : ℕ). IsWholeLog n (log_of logs (i + 1)) log) (let e : i + 1 ≡ 1 + length (take i logs) = omega (arith, count) in e) k) in
    subst (λ (l : List (List ℕ)). AreWholeLogs 1 l (whole ++ log ∷ [])) (sym (take_more logs i [] (omega (arith, long, lt)))) (whole_more 1 (take i logs) whole (get_or logs i []) log h here)

pub broken_in : (logs : List (List ℕ)) (i at : ℕ) (whole : List Log) → length logs ≡ 32 → i < 32 → AreWholeLogs 1 (take i logs) whole → BreaksOff (log_of logs (i + 1)) at → IsFirstBroken logs (i + 1) at
broken_in logs i at whole long lt h off = record {
  front = take i logs;
  bytes = log_of logs (i + 1);
  back = drop (i + 1) logs;
  split = sym (take-append-drop i logs) ∙ ap (λ (l : List (List ℕ)). take i logs ++ l) (drop_more logs i [] (omega (arith, long, lt))) ∙ ap (λ (b : List ℕ). take i logs ++ (b ∷ drop (i + 1) logs)) (sym (log_at logs i));
  whole = whole;
  are = h;
  member_is = (let count = length-take-le i logs (omega (arith, long, lt)) in omega (arith, count));
  off = off;
}

-- ---- of a disk that tells what it holds

abbrev pub Has32 : Option Contents → Type 0
Has32 start = (c : Contents) → start ≡ Some c → length c.logs ≡ 32

pub none_read : (start : Option Contents) → WhenTold start (λ (c : Contents). AreWholeLogs 1 (take 0 c.logs) [])
none_read None = tt
none_read (Some c) = tt

pub more_told : (start : Option Contents) (i : ℕ) (whole : List Log) (log : Log) → Has32 start → i < 32 → WhenTold start (λ (c : Contents). AreWholeLogs 1 (take i c.logs) whole)
    → WhenTold start (λ (c : Contents). IsWholeLog (i + 1) (log_of c.logs (i + 1)) log) → WhenTold start (λ (c : Contents). AreWholeLogs 1 (take (i + 1) c.logs) (whole ++ log ∷ []))
more_told None i whole log has lt h k = tt
more_told (Some c) i whole log has lt h k = more_in c.logs i whole log (has c refl) lt h k

pub broken_told : (start : Option Contents) (i at : ℕ) (whole : List Log) → Has32 start → i < 32 → WhenTold start (λ (c : Contents). AreWholeLogs 1 (take i c.logs) whole)
    → WhenTold start (λ (c : Contents). BreaksOff (log_of c.logs (i + 1)) at) → WhenTold start (λ (c : Contents). IsFirstBroken c.logs (i + 1) at)
broken_told None i at whole has lt h k = tt
broken_told (Some c) i at whole has lt h k = broken_in c.logs i at whole (has c refl) lt h k

pub all_told : (start : Option Contents) (i : ℕ) (whole : List Log) → Has32 start → 32 ≤ i → WhenTold start (λ (c : Contents). AreWholeLogs 1 (take i c.logs) whole)
    → WhenTold start (λ (c : Contents). AreWholeLogs 1 c.logs whole)
all_told None i whole has le h = tt
all_told (Some c) i whole has le h = subst (λ (l : List (List ℕ)). AreWholeLogs 1 l whole) (take_all i c.logs (let long = has c refl in omega (arith, long, le))) h

-- ---- a member's log

pub member_is : (o : Option ℕ) (n member : ℕ) → SomeIff o (IsMember n) n → o ≡ Some member → member ≡ n
member_is None n member h e = absurd cc
member_is (Some m) n member h e = let same : m ≡ member = cc in sym same ∙ h.1

pub not_torn : (bytes : List ℕ) (at : ℕ) (result : Result Bool NoMemory) (torn : Bool) → IfOk result (λ t. IsTrue t ↔ IsTorn (take (length bytes - at) (drop at bytes))) → result ≡ Ok torn → torn ≡ false → IsTorn (drop at bytes) → ⊥
not_torn bytes at (Ok t) torn h was is tail =
    let yes : t ≡ true = h.1 (subst IsTorn (sym (take_rest bytes at)) tail) in
    let same : t ≡ torn = cc in
    cc
not_torn bytes at (Err e) torn h was is tail = absurd cc

-- ---- where the disk is read on

pub found_broken : (start now end : Option Contents) (f0 f1 f2 i member at : ℕ) (whole : List Log) (result : Result Looked DiskError) → Has32 start → i < 32 → member ≡ i + 1
    → WhenTold start (λ (c : Contents). AreWholeLogs 1 (take i c.logs) whole) → Becomes start now Same → f0 ≤ f1
    → Reads now end f1 f2 (λ x (c : Contents). IsLooked member (log_of c.logs member) x) result → result ≡ Ok (looked.Broken at)
    → Reads start end f0 f2 (λ x (c : Contents). AreFound c.logs x) (Ok (found.Broken member at))
found_broken start now end f0 f1 f2 i member at whole result has lt is held same le read was =
    let here : WhenTold now (λ (c : Contents). BreaksOff (log_of c.logs member) at) = subst (λ (r : Result Looked DiskError). IfOk r (λ x. WhenTold now (λ (c : Contents). IsLooked member (log_of c.logs member) x))) was read.ok in
    let told : WhenTold start (λ (c : Contents). BreaksOff (log_of c.logs (i + 1)) at) = subst (λ (m : ℕ). WhenTold start (λ (c : Contents). BreaksOff (log_of c.logs m) at)) is (on_start start now (λ (c : Contents). BreaksOff (log_of c.logs member) at) same here) in
    let first : WhenTold start (λ (c : Contents). IsFirstBroken c.logs (i + 1) at) = broken_told start i at whole has lt held told in
    let later = read.later in
    record {
      ok = subst (λ (m : ℕ). WhenTold start (λ (c : Contents). IsFirstBroken c.logs m at)) (sym is) first;
      failed = λ e. absurd cc;
      same = same_on start now end same read.same;
      later = omega arith;
    }

pub found_more : (start now end : Option Contents) (f0 f1 f2 i member : ℕ) (whole more : List Log) (log : Log) (result : Result Looked DiskError) → Has32 start → i < 32 → member ≡ i + 1
    → WhenTold start (λ (c : Contents). AreWholeLogs 1 (take i c.logs) whole) → Becomes start now Same → f0 ≤ f1
    → Reads now end f1 f2 (λ x (c : Contents). IsLooked member (log_of c.logs member) x) result → result ≡ Ok (looked.Whole log) → more ≡ whole ++ log ∷ []
    → WhenTold start (λ (c : Contents). AreWholeLogs 1 (take (i + 1) c.logs) more) × Becomes start end Same × (f0 ≤ f2)
found_more start now end f0 f1 f2 i member whole more log result has lt is held same le read was put =
    let here : WhenTold now (λ (c : Contents). IsWholeLog member (log_of c.logs member) log) = subst (λ (r : Result Looked DiskError). IfOk r (λ x. WhenTold now (λ (c : Contents). IsLooked member (log_of c.logs member) x))) was read.ok in
    let told : WhenTold start (λ (c : Contents). IsWholeLog (i + 1) (log_of c.logs (i + 1)) log) = subst (λ (m : ℕ). WhenTold start (λ (c : Contents). IsWholeLog m (log_of c.logs m) log)) is (on_start start now (λ (c : Contents). IsWholeLog member (log_of c.logs member) log) same here) in
    let on : WhenTold start (λ (c : Contents). AreWholeLogs 1 (take (i + 1) c.logs) (whole ++ log ∷ [])) = more_told start i whole log has lt held told in
    let later = read.later in
    (subst (λ (l : List Log). WhenTold start (λ (c : Contents). AreWholeLogs 1 (take (i + 1) c.logs) l)) (sym put) on, same_on start now end same read.same, omega arith)

-- ---- of some bytes, whether the disk tells them or not

as_many : (m : ℕ) (bytes : List (List ℕ)) (logs : List Log) → AreWholeLogs m bytes logs → length bytes ≡ length logs
as_many m [] [] h = refl
as_many m [] (l ∷ logs) h = absurd h
as_many m (b ∷ bytes) [] h = absurd h
as_many m (b ∷ bytes) (l ∷ logs) h = ap suc (as_many (m + 1) bytes logs h.1)

pub looked_some : (member : ℕ) (bytes : List ℕ) (l : Looked) → IsLooked member bytes l → IsLookedOfSome member l
looked_some member bytes (looked.Whole log) h = record { bytes = bytes; is = h }
looked_some member bytes (looked.Broken at) h = tt

pub none_some : (logs : List Log) → logs ≡ [] → AreOfSome logs
none_some logs e = subst AreOfSome (sym e) (record { bytes = []; are = tt })

one_more : (logs : List Log) (i : ℕ) (log : Log) → AreOfSome logs → length logs ≡ i → IsOfSome (i + 1) log → AreOfSome (logs ++ log ∷ [])
one_more logs i log h count k =
    let long = as_many 1 h.bytes logs h.are in
    let at : i + 1 ≡ 1 + length h.bytes = omega (arith, long, count) in
    record { bytes = h.bytes ++ k.bytes ∷ []; are = whole_more 1 h.bytes logs k.bytes log h.are (subst (λ (n : ℕ). IsWholeLog n k.bytes log) at k.is) }

pub more_some : (i member : ℕ) (whole more : List Log) (log : Log) (result : Result Looked DiskError) → AreOfSome whole → length whole ≡ i → member ≡ i + 1 → IfOk result (λ l. IsLookedOfSome member l)
    → result ≡ Ok (looked.Whole log) → more ≡ whole ++ log ∷ [] → AreOfSome more
more_some i member whole more log result h count is k was put =
    let one : IsOfSome member log = subst (λ (r : Result Looked DiskError). IfOk r (λ l. IsLookedOfSome member l)) was k in
    subst AreOfSome (sym put) (one_more whole i log h count (subst (λ (m : ℕ). IsOfSome m log) is one))

pub count_more : (i : ℕ) (whole more : List Log) (log : Log) → length whole ≡ i → more ≡ whole ++ log ∷ [] → length more ≡ i + 1
count_more i whole more log count put = ap length put ∙ length-append whole (log ∷ []) ∙ ap (λ (n : ℕ). n + 1) count
