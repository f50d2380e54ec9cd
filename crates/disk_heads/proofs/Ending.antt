-- The end of the whole records of a log that was read on.
use Rattle.std.proofs.Common.{◌≡◌, ℕ, ◌+◌, ◌-◌, ◌<◌, ◌≤◌, Bool, true, false, cond, List, [], length, take, Option, Some, None, Result, Ok, Err, refl, sym, ap, subst, ◌∙◌, arith}
use Rattle.std.specs.Prelude.{IfOk, IsErrOf, IsErrAnd, nat_lt, min}
use Rattle.std.proofs.lemmas.Bool.{ltb-true}
use Rattle.std.proofs.lemmas.List.{take_all, length-take-le}
use Rattle.ds_base.specs.Causes.{Rose}
use Rattle.ds_disk.specs.Contents.{Contents, log_of, WhenTold}
use Rattle.ds_model.specs.declared.log.LogRecord.{LogRecord}
use Rattle.log_record.specs.declared.fault.RecordFault.{RecordFault}
use Rattle.log_record.specs.declared.fault.RecordFault.TheVariants.{NotWhole, Bad, NoMemory}
use Rattle.log_record.specs.Reading.{record_in}
use Rattle.log_head.specs.declared.standing.Standing.TheVariants as standing
use Rattle.log_record.specs.Logs.{Parts, parts_in}
use Rattle.log_volume.specs.declared.fault.LogFault.{LogFault}
use Rattle.log_volume.specs.declared.fault.LogFault.TheVariants.{Failed, Damaged}
use Rattle.log_head.specs.Heads.{HeadState, hand_end, standing_by, standing_of, IsOf, left_bytes}
use Rattle.log_end.specs.Ends.{EndState, ends_from, end_of, IsRead}
use Rattle.disk_heads.specs.Reading.{Reads, Never, EndsIn, KeepsEnd, wanted_of}
use Rattle.disk_heads.proofs.Told.{same_on, held_before, told_both, told_one}

ends_in : (n : ℕ) (q : Result Parts ℕ) → ends_from 0 q ≡ Ok n → EndsIn n q
ends_in n (Ok p) e = let same : 0 + p.size ≡ n = cc in omega (arith, same)
ends_in n (Err f) e = absurd cc

abbrev err_at : ℕ → Result Parts ℕ
err_at k = Err k

ends_bad : (at : ℕ) (q : Result Parts ℕ) → ends_from 0 q ≡ Err at → q ≡ Err at
ends_bad at (Ok p) e = absurd cc
ends_bad at (Err f) e = let same : 0 + f ≡ at = cc in ap err_at (let one : f ≡ at = omega (arith, same) in one)

abbrev start_of : ℕ → HeadState
start_of len = record { at = 0; hand = []; end = len }

start_is : (log : List ℕ) (len : ℕ) → len ≡ length log → IsOf log (start_of len)
start_is log len is = record { within = omega (arith, is); fits = omega arith; told = refl }

start_end : (log : List ℕ) (len : ℕ) → len ≡ length log → end_of log (start_of len) ≡ ends_from 0 (parts_in log)
start_end log len is =
    let all : left_bytes log (start_of len) ≡ log = take_all (len - 0) log (omega (arith, is)) in
    ap (λ (t : List ℕ). ends_from 0 (parts_in t)) all

-- what is read is the log, and ends where it ends
kept_is : (log : List ℕ) (len : ℕ) (g : HeadState) → len ≡ length log → KeepsEnd log (start_of len) g → IsOf log g × (end_of log g ≡ ends_from 0 (parts_in log))
kept_is log len g is kept = let k = kept (start_is log len is) in (k.0, k.1 ∙ start_end log len is)

abbrev Is : ℕ → ℕ → Contents → Type 0
Is member end c = EndsIn end (parts_in (log_of c.logs member))

abbrev IsBad : ℕ → ℕ → Contents → Type 0
IsBad member at c = parts_in (log_of c.logs member) ≡ Err at

abbrev ok_end : ℕ → Result ℕ LogFault
ok_end n = Ok n

no_fault : (n : ℕ) (f : LogFault) → IsErrOf (ok_end n) f → ⊥
no_fault n f e = cc

pub end_told : {U : Type 0} (a b e : Option Contents) (n k m member len : ℕ) (g : HeadState) (s : EndState) (u : U) (r : Result ℕ LogFault)
    → Reads a b n k (λ (x : ℕ) (c : Contents). x ≡ length (log_of c.logs member)) Never (Ok len) → Reads b e k m (λ (y : U) (c : Contents). KeepsEnd (log_of c.logs member) s.head g) Never (Ok u)
    → s ≡ record { block = 65536; head = record { at = 0; hand = []; end = len } }
    → ((log : List ℕ) → IsOf log g → IfOk r (λ end. end_of log g ≡ Ok end)) → ((log : List ℕ) (at : ℕ) → IsOf log g → IsErrOf r (Damaged at) → end_of log g ≡ Err at) → (IsErrOf r Failed → ⊥)
    → Reads a e n m (Is member) (IsBad member) r
end_told {U = U} a b e n k m member len g s u (Ok end) p q start ends bad never =
    let head : s.head ≡ start_of len = ap (λ (t : EndState). t.head) start in
    let kept : WhenTold b (λ c. KeepsEnd (log_of c.logs member) (start_of len) g) = subst (λ (h : HeadState). WhenTold b (λ c. KeepsEnd (log_of c.logs member) h g)) head q.ok in
    record {
      ok = told_both a (λ c. len ≡ length (log_of c.logs member)) (λ c. KeepsEnd (log_of c.logs member) (start_of len) g) (Is member end)
          (λ c is k. let t = kept_is (log_of c.logs member) len g is k in ends_in end (parts_in (log_of c.logs member)) (sym t.1 ∙ ends (log_of c.logs member) t.0)) p.ok (held_before a b (λ c. KeepsEnd (log_of c.logs member) (start_of len) g) p.same kept);
      damaged = λ at h. absurd (no_fault end (Damaged at) h);
      failed = λ h. absurd (no_fault end Failed h);
      same = same_on a b e p.same q.same;
      later = omega (arith, p.later, q.later);
    }
end_told {U = U} a b e n k m member len g s u (Err f) p q start ends bad never =
    let head : s.head ≡ start_of len = ap (λ (t : EndState). t.head) start in
    let kept : WhenTold b (λ c. KeepsEnd (log_of c.logs member) (start_of len) g) = subst (λ (h : HeadState). WhenTold b (λ c. KeepsEnd (log_of c.logs member) h g)) head q.ok in
    record {
      ok = tt;
      damaged = λ at h. told_both a (λ c. len ≡ length (log_of c.logs member)) (λ c. KeepsEnd (log_of c.logs member) (start_of len) g) (IsBad member at)
          (λ c is k. let t = kept_is (log_of c.logs member) len g is k in ends_bad at (parts_in (log_of c.logs member)) (sym t.1 ∙ bad (log_of c.logs member) at t.0 h)) p.ok (held_before a b (λ c. KeepsEnd (log_of c.logs member) (start_of len) g) p.same kept);
      failed = λ h. absurd (never h);
      same = same_on a b e p.same q.same;
      later = omega (arith, p.later, q.later);
    }

-- ---- bytes that are wanted

abbrev count_of : Option (ℕ × ℕ) → ℕ
count_of None = 0
count_of (Some wanted) = wanted.1

-- there are some, and the log has them
abbrev AreThere : ℕ → HeadState → ℕ → Type 0
AreThere block h count = (1 ≤ count) × (hand_end h + count ≤ h.end) × (count ≤ block)

there_when : (b : Bool) (block : ℕ) (h : HeadState) (at count : ℕ) → 1 ≤ block → nat_lt (hand_end h) h.end ≡ b → wanted_of (cond b (standing.Wants (hand_end h) (min (h.end - hand_end h) block)) (standing.Ends h.at)) ≡ Some (at, count) → AreThere block h count
there_when true block h at count one t e =
    let is : min (h.end - hand_end h) block ≡ count = ap count_of e in
    let lt : hand_end h < h.end = ltb-true _ _ t in
    (omega (arith, is, lt, one), omega (arith, is, lt), omega (arith, is))
there_when false block h at count one t e = absurd cc

there_by : (f : Result (LogRecord × ℕ) RecordFault) (block : ℕ) (h : HeadState) (at count : ℕ) → 1 ≤ block → wanted_of (standing_by block h f) ≡ Some (at, count) → AreThere block h count
there_by (Ok found) block h at count one e = absurd cc
there_by (Err (Bad field)) block h at count one e = absurd cc
there_by (Err NotWhole) block h at count one e = there_when (nat_lt (hand_end h) h.end) block h at count one refl e
there_by (Err NoMemory) block h at count one e = there_when (nat_lt (hand_end h) h.end) block h at count one refl e

pub brings_nearer : (s g : EndState) (bytes : List ℕ) (at count : ℕ) → 1 ≤ s.block → s.block ≡ length bytes → wanted_of (standing_of s.block s.head) ≡ Some (at, count) → IsRead s g (length (take count bytes))
    → g.head.end - hand_end g.head < s.head.end - hand_end s.head
brings_nearer s g bytes at count one long e read =
    let there = there_by (record_in s.head.hand) s.block s.head at count one e in
    let size : length (take count bytes) ≡ count = length-take-le count bytes (omega (arith, there.2, long)) in
    omega (arith, there.0, there.1, read.further, read.end, size)

-- ---- calls that fail

abbrev err_of : {X : Type 0} → LogFault → Result X LogFault
err_of f = Err f

same_fault : {Y : Type 0} (x y : LogFault) → IsErrOf {T = Y} (Err x) y → x ≡ y
same_fault x y i = cc

err_as : {X Y : Type 0} (f e : LogFault) → IsErrOf {T = Y} (Err f) e → IsErrOf {T = X} (Err f) e
err_as {X = X} {Y = Y} f e is = ap (λ (g : LogFault). err_of {X = X} g) (same_fault {Y = Y} f e is)

failed_as : {X Y : Type 0} (a b : Option Contents) (n k : ℕ) (IsP : X → Contents → Type 0) (IsR : Y → Contents → Type 0) (BadR : ℕ → Contents → Type 0) (f : LogFault) → Reads a b n k IsP Never (Err f) → Reads a b n k IsR BadR (Err f)
failed_as a b n k IsP IsR BadR f p = record {
  ok = tt;
  damaged = λ at e. told_one a (Never at) (BadR at) (λ c none. absurd none) (p.damaged at (err_as f (Damaged at) e));
  failed = λ e. p.failed (err_as f Failed e);
  same = p.same;
  later = p.later;
}

pub read_failed : {X Y : Type 0} (a b : Option Contents) (n k : ℕ) (IsP : X → Contents → Type 0) (IsR : Y → Contents → Type 0) (BadR : ℕ → Contents → Type 0) (f : LogFault) (r : Result Y LogFault)
    → IsErrAnd r (λ (z : LogFault). z ≡ f) → Reads a b n k IsP Never (Err f) → Reads a b n k IsR BadR r
read_failed a b n k IsP IsR BadR f (Ok y) is p = absurd is
read_failed {X = X} {Y = Y} a b n k IsP IsR BadR f (Err z) is p = subst (λ (g : LogFault). Reads {T = Y} a b n k IsR BadR (Err g)) (sym is) (failed_as a b n k IsP IsR BadR f p)

rose_later : (n k m : ℕ) → n ≤ k → Rose k m → Rose n m
rose_later n k m le rose = omega arith

-- behind a call that was done
pub then_failed : {X Y Z : Type 0} (a b e : Option Contents) (n k m : ℕ) (IsP : X → Contents → Type 0) (BadP : ℕ → Contents → Type 0) (x : X) (IsQ : Y → Contents → Type 0) (IsR : Z → Contents → Type 0) (BadR : ℕ → Contents → Type 0) (f : LogFault) (r : Result Z LogFault)
    → IsErrAnd r (λ (z : LogFault). z ≡ f) → Reads a b n k IsP BadP (Ok x) → Reads b e k m IsQ Never (Err f) → Reads a e n m IsR BadR r
then_failed a b e n k m IsP BadP x IsQ IsR BadR f r is p q =
    read_failed a e n m IsQ IsR BadR f r is (record {
      ok = tt;
      damaged = λ at h. held_before a b (Never at) p.same (q.damaged at h);
      failed = λ h. rose_later n k m p.later (q.failed h);
      same = same_on a b e p.same q.same;
      later = omega (arith, p.later, q.later);
    })
