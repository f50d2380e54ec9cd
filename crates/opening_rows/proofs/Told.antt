-- Logs that are read one after the other.
use Rattle.std.proofs.Common.{◌≡◌, ℕ, ◌+◌, ◌-◌, ◌<◌, ◌≤◌, List, [], ◌∷◌, ◌++◌, length, take, get_or, Option, Some, None, Result, Ok, Err, refl, sym, ap, subst, ◌∙◌, arith}
use Rattle.std.specs.Prelude.{IfOk, IsErrOf, IsErrAnd, ⊤}
use Rattle.ds_base.specs.Causes.{Rose}
use Rattle.std.proofs.lemmas.List.{take_all, take_more}
use Rattle.ds_disk.specs.Contents.{Contents, log_of, WhenTold, Becomes, Same}
use Rattle.log_record.specs.declared.log.Log.{Log}
use Rattle.log_record.specs.Logs.{IsLogOf}
use Rattle.log_volume.specs.declared.fault.LogFault.{LogFault}
use Rattle.log_volume.specs.declared.fault.LogFault.TheVariants as one
use Rattle.disk_heads.specs.Reading.{Reads}
use Rattle.opening_rows.specs.declared.fault.LogsFault.{LogsFault}
use Rattle.opening_rows.specs.declared.fault.LogsFault.TheVariants.{Failed, Damaged, NoMemory}
use Rattle.opening_rows.specs.Reading.{AreLogsOf, HasDamage, fault_in, ReadsBy}

-- ---- calls that change nothing

-- what holds of the contents after such a call held before it
pub held_before : (a b : Option Contents) (P : Contents → Type 0) → Becomes a b Same → WhenTold b P → WhenTold a P
held_before None b P same p = tt
held_before (Some c) None P same p = absurd same
held_before (Some c) (Some d) P same p = subst P same p

pub same_on : (a b e : Option Contents) → Becomes a b Same → Becomes b e Same → Becomes a e Same
same_on None b e p q = tt
same_on (Some x) None e p q = absurd p
same_on (Some x) (Some y) None p q = absurd q
same_on (Some x) (Some y) (Some z) p q = subst (λ (c : Contents). z ≡ c) p q

pub same_at : (a : Option Contents) → Becomes a a Same
same_at None = tt
same_at (Some c) = refl

-- a call that told of its contents
pub told_of : (a b : Option Contents) (P : Contents → Type 0) → Becomes a b (λ c d. (d ≡ c) × P c) → WhenTold a P
told_of None b P p = tt
told_of (Some c) None P p = absurd p
told_of (Some c) (Some d) P p = p.1

pub told_same : (a b : Option Contents) (P : Contents → Type 0) → Becomes a b (λ c d. (d ≡ c) × P c) → Becomes a b Same
told_same None b P p = tt
told_same (Some c) None P p = absurd p
told_same (Some c) (Some d) P p = p.0

-- a fault names one member and one byte
same_member : (member at m a : ℕ) → Damaged member at ≡ Damaged m a → member ≡ m
same_member member at m a e = cc

same_byte : (member at m a : ℕ) → Damaged member at ≡ Damaged m a → at ≡ a
same_byte member at m a e = cc

pub damaged_as : (before : Option Contents) (member at m a : ℕ) → Damaged member at ≡ Damaged m a → WhenTold before (HasDamage member at) → WhenTold before (HasDamage m a)
damaged_as before member at m a e is =
    subst (λ k. WhenTold before (HasDamage m k)) (same_byte member at m a e) (subst (λ k. WhenTold before (HasDamage k at)) (same_member member at m a e) is)

-- ---- one log more

-- the logs of the first members are these
abbrev pub AreFirst : ℕ → List Log → Contents → Type 0
AreFirst n logs c = AreLogsOf (take n c.logs) logs

pushed : (bss : List (List ℕ)) (logs : List Log) (bs : List ℕ) (log : Log) → AreLogsOf bss logs → IsLogOf bs log → AreLogsOf (bss ++ bs ∷ []) (logs ++ log ∷ [])
pushed [] [] bs log are is = (is, tt)
pushed [] (l ∷ logs) bs log are is = absurd are
pushed (b ∷ bss) [] bs log are is = absurd are
pushed (b ∷ bss) (l ∷ logs) bs log are is = (are.0, pushed bss logs bs log are.1 is)

at_place : (n : ℕ) → n + 1 - 1 ≡ n
at_place n = omega arith

pub one_more : (n : ℕ) (logs : List Log) (log : Log) (c : Contents) → n < length c.logs → AreFirst n logs c → IsLogOf (log_of c.logs (n + 1)) log → AreFirst (n + 1) (logs ++ log ∷ []) c
one_more n logs log c lt are is =
    let its : IsLogOf (get_or c.logs n []) log = subst (λ i. IsLogOf (get_or c.logs i []) log) (at_place n) is in
    subst (λ (bss : List (List ℕ)). AreLogsOf bss (logs ++ log ∷ [])) (sym (take_more c.logs n [] lt)) (pushed (take n c.logs) logs (get_or c.logs n []) log are its)

pub none_first : (a : Option Contents) → WhenTold a (AreFirst 0 [])
none_first None = tt
none_first (Some c) = tt

pub more_first : (a : Option Contents) (n member : ℕ) (logs : List Log) (log : Log) → n < 32 → member ≡ n + 1 → ((c : Contents) → a ≡ Some c → length c.logs ≡ 32)
    → WhenTold a (AreFirst n logs) → WhenTold a (λ c. IsLogOf (log_of c.logs member) log) → WhenTold a (AreFirst (n + 1) (logs ++ log ∷ []))
more_first None n member logs log lt its law are is = tt
more_first (Some c) n member logs log lt its law are is =
    let long : length c.logs ≡ 32 = law c refl in
    one_more n logs log c (omega (arith, lt, long)) are (subst (λ m. IsLogOf (log_of c.logs m) log) its is)

pub all_first : (a : Option Contents) (n : ℕ) (logs : List Log) → n ≡ 32 → ((c : Contents) → a ≡ Some c → length c.logs ≡ 32) → WhenTold a (AreFirst n logs) → WhenTold a (λ c. AreLogsOf c.logs logs)
all_first None n logs is law are = tt
all_first (Some c) n logs is law are =
    let long : length c.logs ≡ 32 = law c refl in
    subst (λ (bss : List (List ℕ)). AreLogsOf bss logs) (take_all n c.logs (omega (arith, is, long))) are

-- ---- readings by blocks, one after the other

told_both : (a : Option Contents) (P Q R : Contents → Type 0) → ((c : Contents) → P c → Q c → R c) → WhenTold a P → WhenTold a Q → WhenTold a R
told_both None P Q R both p q = tt
told_both (Some c) P Q R both p q = both c p q

pub told_all : (a : Option Contents) (P : Contents → Type 0) → ((c : Contents) → P c) → WhenTold a P
told_all None P all = tt
told_all (Some c) P all = all c

pub told_one : (a : Option Contents) (P R : Contents → Type 0) → ((c : Contents) → P c → R c) → WhenTold a P → WhenTold a R
told_one None P R one p = tt
told_one (Some c) P R one p = one c p

if_ok : {Y : Type 0} (r : Result Y LogsFault) (P Q : Y → Type 0) → ((y : Y) → P y → Q y) → IfOk r P → IfOk r Q
if_ok (Ok y) P Q f p = f y p
if_ok (Err e) P Q f p = tt

rose_later : (n k m : ℕ) → n ≤ k → Rose k m → Rose n m
rose_later n k m le rose = omega arith

-- what is read behind a reading
pub reads_on : {X Y : Type 0} (a b e : Option Contents) (n k m : ℕ) (IsP : X → Contents → Type 0) (BadP : ℕ → ℕ → Contents → Type 0) (x : X)
    (IsQ IsR : Y → Contents → Type 0) (BadQ BadR : ℕ → ℕ → Contents → Type 0) (r : Result Y LogsFault)
    → ReadsBy a b n k IsP BadP (Ok x) → ReadsBy b e k m IsQ BadQ r
    → ((y : Y) (c : Contents) → IsP x c → IsQ y c → IsR y c) → ((member at : ℕ) (c : Contents) → IsP x c → BadQ member at c → BadR member at c) → ReadsBy a e n m IsR BadR r
reads_on a b e n k m IsP BadP x IsQ IsR BadQ BadR r p q ok bad = record {
  ok = if_ok r (λ y. WhenTold b (IsQ y)) (λ y. WhenTold a (IsR y)) (λ y w. told_both a (IsP x) (IsQ y) (IsR y) (ok y) p.ok (held_before a b (IsQ y) p.same w)) q.ok;
  damaged = λ member at is. told_both a (IsP x) (BadQ member at) (BadR member at) (bad member at) p.ok (held_before a b (BadQ member at) p.same (q.damaged member at is));
  failed = λ is. rose_later n k m p.later (q.failed is);
  same = same_on a b e p.same q.same;
  later = omega (arith, p.later, q.later);
}

-- what is made of a reading without the disk
pub reads_to : {X Y : Type 0} (a b : Option Contents) (n k : ℕ) (IsP : X → Contents → Type 0) (BadP : ℕ → ℕ → Contents → Type 0) (x : X)
    (IsR : Y → Contents → Type 0) (BadR : ℕ → ℕ → Contents → Type 0) (r : Result Y LogsFault)
    → ReadsBy a b n k IsP BadP (Ok x) → IfOk r (λ y. (c : Contents) → IsP x c → IsR y c)
    → ((member at : ℕ) → IsErrOf r (Damaged member at) → (c : Contents) → IsP x c → BadR member at c) → (IsErrOf r Failed → ⊥) → ReadsBy a b n k IsR BadR r
reads_to a b n k IsP BadP x IsR BadR r p ok bad never = record {
  ok = if_ok r (λ y. (c : Contents) → IsP x c → IsR y c) (λ y. WhenTold a (IsR y)) (λ y f. told_one a (IsP x) (IsR y) f p.ok) ok;
  damaged = λ member at is. told_one a (IsP x) (BadR member at) (bad member at is) p.ok;
  failed = λ is. absurd (never is);
  same = p.same;
  later = p.later;
}

abbrev pub err_of : {X : Type 0} → LogsFault → Result X LogsFault
err_of f = Err f

pub same_fault : {Y : Type 0} (x y : LogsFault) → IsErrOf {T = Y} (Err x) y → x ≡ y
same_fault x y i = cc

err_as : {X Y : Type 0} (f e : LogsFault) → IsErrOf {T = Y} (Err f) e → IsErrOf {T = X} (Err f) e
err_as {X = X} {Y = Y} f e is = ap (λ (g : LogsFault). err_of {X = X} g) (same_fault {Y = Y} f e is)

-- what comes of a reading that has failed
pub reads_failed : {X Y : Type 0} (a b : Option Contents) (n k : ℕ) (IsP : X → Contents → Type 0) (BadP : ℕ → ℕ → Contents → Type 0) (IsR : Y → Contents → Type 0) (BadR : ℕ → ℕ → Contents → Type 0) (f : LogsFault)
    → ReadsBy a b n k IsP BadP (Err f) → ((member at : ℕ) (c : Contents) → BadP member at c → BadR member at c) → ReadsBy a b n k IsR BadR (Err f)
reads_failed a b n k IsP BadP IsR BadR f p bad = record {
  ok = tt;
  damaged = λ member at is. told_one a (BadP member at) (BadR member at) (bad member at) (p.damaged member at (err_as f (Damaged member at) is));
  failed = λ is. p.failed (err_as f Failed is);
  same = p.same;
  later = p.later;
}

-- the fault of one log as one of the logs
reads_in_by : {X : Type 0} (a b : Option Contents) (n k member : ℕ) (Is : X → Contents → Type 0) (IsBad : ℕ → Contents → Type 0) (BadR : ℕ → ℕ → Contents → Type 0) (f : LogFault)
    → Reads a b n k Is IsBad (Err f) → ((at : ℕ) (c : Contents) → IsBad at c → BadR member at c) → ReadsBy a b n k Is BadR (Err (fault_in member f))
reads_in_by {X = X} a b n k member Is IsBad BadR one.Failed p bad = record { ok = tt; damaged = λ m at is. absurd (no m at is); failed = λ is. p.failed refl; same = p.same; later = p.later }
  where
    no : (m at : ℕ) → IsErrOf {T = X} (Err Failed) (Damaged m at) → ⊥
    no m at is = cc
reads_in_by {X = X} a b n k member Is IsBad BadR (one.Damaged at) p bad = record {
  ok = tt;
  damaged = λ m j is. subst (λ (i : ℕ). WhenTold a (BadR i j)) (first m j is) (told_one a (IsBad j) (BadR member j) (bad j) (subst (λ (i : ℕ). WhenTold a (IsBad i)) (second m j is) (p.damaged at refl)));
  failed = λ is. absurd (no is);
  same = p.same;
  later = p.later;
}
  where
    first : (m j : ℕ) → IsErrOf {T = X} (Err (Damaged member at)) (Damaged m j) → member ≡ m
    first m j is = cc

    second : (m j : ℕ) → IsErrOf {T = X} (Err (Damaged member at)) (Damaged m j) → at ≡ j
    second m j is = cc

    no : IsErrOf {T = X} (Err (Damaged member at)) Failed → ⊥
    no is = cc
reads_in_by {X = X} a b n k member Is IsBad BadR one.NoMemory p bad = record { ok = tt; damaged = λ m at is. absurd (no m at is); failed = λ is. absurd (never is); same = p.same; later = p.later }
  where
    no : (m at : ℕ) → IsErrOf {T = X} (Err NoMemory) (Damaged m at) → ⊥
    no m at is = cc

    never : IsErrOf {T = X} (Err NoMemory) Failed → ⊥
    never is = cc

pub reads_in : {X : Type 0} (a b : Option Contents) (n k member : ℕ) (Is : X → Contents → Type 0) (IsBad : ℕ → Contents → Type 0) (BadR : ℕ → ℕ → Contents → Type 0) (f : LogFault) (g : LogsFault) → g ≡ fault_in member f
    → Reads a b n k Is IsBad (Err f) → ((at : ℕ) (c : Contents) → IsBad at c → BadR member at c) → ReadsBy a b n k Is BadR (Err g)
reads_in {X = X} a b n k member Is IsBad BadR f g e p bad = subst (λ (h : LogsFault). ReadsBy {T = X} a b n k Is BadR (Err h)) (sym e) (reads_in_by a b n k member Is IsBad BadR f p bad)

-- what a question mark hands on
pub reads_err : {X Y : Type 0} (a b : Option Contents) (n k : ℕ) (IsP : X → Contents → Type 0) (BadP : ℕ → ℕ → Contents → Type 0) (IsR : Y → Contents → Type 0) (BadR : ℕ → ℕ → Contents → Type 0) (f : LogsFault) (r : Result Y LogsFault)
    → IsErrAnd r (λ (z : LogsFault). z ≡ f) → ReadsBy a b n k IsP BadP (Err f) → ((member at : ℕ) (c : Contents) → BadP member at c → BadR member at c) → ReadsBy a b n k IsR BadR r
reads_err a b n k IsP BadP IsR BadR f (Ok y) is p bad = absurd is
reads_err {X = X} {Y = Y} a b n k IsP BadP IsR BadR f (Err z) is p bad =
    subst (λ (g : LogsFault). ReadsBy {T = Y} a b n k IsR BadR (Err g)) (sym is) (reads_failed a b n k IsP BadP IsR BadR f p bad)

-- also behind a reading that was done
pub err_on : {X Y Z : Type 0} (a b e : Option Contents) (n k m : ℕ) (IsP : X → Contents → Type 0) (BadP : ℕ → ℕ → Contents → Type 0) (x : X) (IsQ : Y → Contents → Type 0) (IsR : Z → Contents → Type 0) (BadQ BadR : ℕ → ℕ → Contents → Type 0)
    (f : LogsFault) (r : Result Z LogsFault) → IsErrAnd r (λ (z : LogsFault). z ≡ f) → ReadsBy a b n k IsP BadP (Ok x) → ReadsBy b e k m IsQ BadQ (Err f)
    → ((member at : ℕ) (c : Contents) → IsP x c → BadQ member at c → BadR member at c) → ReadsBy a e n m IsR BadR r
err_on {Y = Y} a b e n k m IsP BadP x IsQ IsR BadQ BadR f r is p q bad =
    reads_err a e n m (λ (y : Y) c. ⊤) BadR IsR BadR f r is (reads_on a b e n k m IsP BadP x IsQ (λ (y : Y) c. ⊤) BadQ BadR (Err f) p q (λ y c i j. tt) bad) (λ member at c i. i)

err_is : {Y : Type 0} (f : LogsFault) (r : Result Y LogsFault) (e : LogsFault) → IsErrAnd r (λ (z : LogsFault). z ≡ f) → IsErrOf r e → f ≡ e
err_is f (Ok y) e is h = absurd is
err_is {Y = Y} f (Err z) e is h = sym is ∙ same_fault {Y = Y} z e h

-- what is handed on behind a reading, of a call without the disk
pub err_to : {X Y : Type 0} (a b : Option Contents) (n k : ℕ) (IsP : X → Contents → Type 0) (BadP : ℕ → ℕ → Contents → Type 0) (x : X) (IsR : Y → Contents → Type 0) (BadR : ℕ → ℕ → Contents → Type 0) (f : LogsFault) (r : Result Y LogsFault)
    → IsErrAnd r (λ (z : LogsFault). z ≡ f) → ReadsBy a b n k IsP BadP (Ok x) → ((member at : ℕ) → f ≡ Damaged member at → (c : Contents) → IsP x c → BadR member at c) → (f ≡ Failed → ⊥) → ReadsBy a b n k IsR BadR r
err_to a b n k IsP BadP x IsR BadR f (Ok y) is p bad never = absurd is
err_to a b n k IsP BadP x IsR BadR f (Err z) is p bad never =
    reads_to a b n k IsP BadP x IsR BadR (Err z) p tt (λ member at h. bad member at (err_is f (Err z) (Damaged member at) is h)) (λ h. never (err_is f (Err z) Failed is h))
