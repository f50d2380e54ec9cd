-- Records of a log that are taken one after the other.
use Rattle.std.proofs.Common.{◌≡◌, ℕ, zero, suc, ◌+◌, ◌-◌, Bool, true, false, cond, ◌||◌, ◌&&◌, List, [], ◌∷◌, ◌++◌, length, take, drop, Some, None, Result, Ok, Err, refl, sym, ap, subst, ◌∙◌, append_assoc, arith}
use Rattle.std.specs.Prelude.{◌==◌, nat_lt, nat_le}
use Rattle.std.proofs.lemmas.List.{append-nil, length-append, take_all, take_at, drop_at}
use Rattle.std.proofs.lemmas.List.Elements.{filter-append}
use Rattle.std.proofs.lemmas.List.Folds.{list_any-append}
use Rattle.ds_model.specs.declared.log.LogRecord.{LogRecord}
use Rattle.ds_model.specs.RecordBytes.{record_bytes, log_bytes}
use Rattle.ds_model.specs.Logs.{has_commit, is_commit}
use Rattle.log_record.specs.declared.log.Log.{Log}
use Rattle.log_record.specs.Reading.{record_in}
use Rattle.log_record.specs.Logs.{Parts, parts_in, IsLogOf}
use Rattle.log_head.specs.Heads.{HeadState, IsShort, IsOf, left_bytes}
use Rattle.log_head.specs.Laws.{PartsGoOn, PartsEnd, PartsAreBad}
use Rattle.disk_heads.specs.Records.{IsNext, IsBadAt}
use Rattle.opening_rows.specs.Survey.{put_before}
use Rattle.opening_rows.specs.declared.taken.Taken.{Taken}
use Rattle.opening_rows.specs.declared.reading.LogRead.{LogRead}
use Rattle.opening_rows.specs.Kept.{kept_by, HasTaken, Adds}
use Rattle.opening_rows.specs.LogReads.{IsReadTo, GoesTo, IsRead, IsReadOf}
use Rattle.opening_rows.proofs.Surveys.{allowed_more, bytes_more, ok_parts, err_at, parts_more, none_before, none_over}

-- ---- the first records, and those behind them

none_below : (n : ℕ) → nat_lt n 0 ≡ false
none_below n = grind arith

some_below : (n : ℕ) → nat_lt 0 (suc n) ≡ true
some_below n = grind arith

both_below : (n m : ℕ) → nat_lt (suc n) (suc m) ≡ nat_lt n m
both_below n m = grind arith

zero_first : (n : ℕ) → nat_le 0 n ≡ true
zero_first n = grind arith

none_first : (n : ℕ) → nat_le (suc n) 0 ≡ false
none_first n = grind arith

both_first : (n m : ℕ) → nat_le (suc n) (suc m) ≡ nat_le n m
both_first n m = grind arith

take_none : (n : ℕ) → take {A = LogRecord} n [] ≡ []
take_none zero = refl
take_none (suc n) = refl

drop_none : (n : ℕ) → drop {A = LogRecord} n [] ≡ []
drop_none zero = refl
drop_none (suc n) = refl

take_push : (had : ℕ) (rs : List LogRecord) (r : LogRecord) → take had (rs ++ r ∷ []) ≡ take had rs ++ cond (nat_lt (length rs) had) (r ∷ []) []
take_push zero rs r = ap (λ (b : Bool). cond b (r ∷ []) []) (sym (none_below (length rs)))
take_push (suc n) [] r = ap (λ (l : List LogRecord). r ∷ l) (take_none n) ∙ ap (λ (b : Bool). cond b (r ∷ []) []) (sym (some_below n))
take_push (suc n) (s ∷ rs) r = ap (λ (l : List LogRecord). s ∷ l) (take_push n rs r) ∙ ap (λ (b : Bool). s ∷ (take n rs ++ cond b (r ∷ []) [])) (sym (both_below (length rs) n))

drop_push : (had : ℕ) (rs : List LogRecord) (r : LogRecord) → drop had (rs ++ r ∷ []) ≡ drop had rs ++ cond (nat_le had (length rs)) (r ∷ []) []
drop_push zero rs r = ap (λ (b : Bool). rs ++ cond b (r ∷ []) []) (sym (zero_first (length rs)))
drop_push (suc n) [] r = drop_none n ∙ ap (λ (b : Bool). cond b (r ∷ []) []) (sym (none_first n))
drop_push (suc n) (s ∷ rs) r = drop_push n rs r ∙ ap (λ (b : Bool). drop n rs ++ cond b (r ∷ []) []) (sym (both_first n (length rs)))

-- ---- one record more

length_when : (keeps : ℕ → Bool) (b : Bool) (r : LogRecord) → length (kept_by keeps (cond b (r ∷ []) [])) ≡ cond b (length (kept_by keeps (r ∷ []))) 0
length_when keeps true r = refl
length_when keeps false r = refl

commit_when : (b : Bool) (r : LogRecord) (tran : ℕ) → has_commit (cond b (r ∷ []) []) tran ≡ (b && has_commit (r ∷ []) tran)
commit_when true r tran = refl
commit_when false r tran = refl

before_more : (keeps : ℕ → Bool) (had : ℕ) (rs : List LogRecord) (r : LogRecord)
    → length (kept_by keeps (take had (rs ++ r ∷ []))) ≡ length (kept_by keeps (take had rs)) + cond (nat_lt (length rs) had) (length (kept_by keeps (r ∷ []))) 0
before_more keeps had rs r =
    let more : List LogRecord = cond (nat_lt (length rs) had) (r ∷ []) [] in
    ap (λ (l : List LogRecord). length (kept_by keeps l)) (take_push had rs r)
    ∙ ap length (filter-append (λ (x : LogRecord). keeps x.tran) (take had rs) more)
    ∙ length-append (kept_by keeps (take had rs)) (kept_by keeps more)
    ∙ ap (λ (n : ℕ). length (kept_by keeps (take had rs)) + n) (length_when keeps (nat_lt (length rs) had) r)

commits_more : (had : ℕ) (rs : List LogRecord) (r : LogRecord) (tran : ℕ) → has_commit (drop had (rs ++ r ∷ [])) tran ≡ (has_commit (drop had rs) tran || (nat_le had (length rs) && has_commit (r ∷ []) tran))
commits_more had rs r tran =
    ap (λ (l : List LogRecord). has_commit l tran) (drop_push had rs r)
    ∙ list_any-append (λ (x : LogRecord). is_commit x.body && (x.tran == tran)) (drop had rs) (cond (nat_le had (length rs)) (r ∷ []) [])
    ∙ ap (λ (b : Bool). has_commit (drop had rs) tran || b) (commit_when (nat_le had (length rs)) r tran)

taken_more : (keeps : ℕ → Bool) (had : ℕ) (rs : List LogRecord) (r : LogRecord) (old new : Taken) → HasTaken keeps had rs old → Adds keeps had old new r → HasTaken keeps had (rs ++ r ∷ []) new
taken_more keeps had rs r old new h a =
    let some : ℕ = length (kept_by keeps (r ∷ [])) in record {
      count_is = omega (arith, a.count_is, h.count_is, length-append rs (r ∷ []));
      records_are = a.records_are ∙ ap (λ (l : List LogRecord). l ++ kept_by keeps (r ∷ [])) h.records_are ∙ sym (filter-append (λ (x : LogRecord). keeps x.tran) rs (r ∷ []));
      before_is = a.before_is ∙ ap (λ (n : ℕ). n + cond (nat_lt old.count had) some 0) h.before_is ∙ ap (λ (n : ℕ). length (kept_by keeps (take had rs)) + cond (nat_lt n had) some 0) h.count_is ∙ sym (before_more keeps had rs r);
      commits_are = λ tran. a.commits_are tran ∙ ap (λ (b : Bool). b || (nat_le had old.count && has_commit (r ∷ []) tran)) (h.commits_are tran)
          ∙ ap (λ (n : ℕ). has_commit (drop had rs) tran || (nat_le had n && has_commit (r ∷ []) tran)) h.count_is ∙ sym (commits_more had rs r tran);
    }

rest_behind : (log : List ℕ) (h g : HeadState) (r : LogRecord) → left_bytes log h ≡ record_bytes r ++ left_bytes log g → drop (length (record_bytes r)) (left_bytes log h) ≡ left_bytes log g
rest_behind log h g r spelled = ap (drop (length (record_bytes r))) spelled ∙ drop_at (record_bytes r) (left_bytes log g) (length (record_bytes r)) refl

one_more : PartsGoOn → (log : List ℕ) (keeps : ℕ → Bool) (had : ℕ) (h g : HeadState) (r : LogRecord) (old new : Taken) → IsReadTo log keeps had h old → IsNext log h g (Some r) → Adds keeps had old new r → IsReadTo log keeps had g new
one_more goes log keeps had h g r old new p n adds =
    let f = n.next_of in
    let rs : List LogRecord = p.records in
    let size : ℕ = length (record_bytes r) in
    let long = length-append (log_bytes rs) (record_bytes r) in
    let whole : length (log_bytes (rs ++ r ∷ [])) ≡ length (log_bytes rs ++ record_bytes r) = ap length (bytes_more rs r) in
    record {
      records = rs ++ r ∷ [];
      of = n.of;
      spelled = p.spelled ∙ ap (λ (t : List ℕ). log_bytes rs ++ t) f.spelled ∙ sym (append_assoc (log_bytes rs) (record_bytes r) (left_bytes log g)) ∙ ap (λ (t : List ℕ). t ++ left_bytes log g) (sym (bytes_more rs r));
      allowed = allowed_more rs r p.allowed f.allowed;
      at_is = omega (arith, f.at_is, p.at_is, long, whole);
      parts = p.parts ∙ ap (put_before rs h.at) (goes (left_bytes log h) r size f.is_read) ∙ parts_more rs h.at r size (parts_in (drop size (left_bytes log h)))
          ∙ ap (λ (t : List ℕ). put_before (rs ++ r ∷ []) (h.at + size) (parts_in t)) (rest_behind log h g r f.spelled)
          ∙ ap (λ (k : ℕ). put_before (rs ++ r ∷ []) k (parts_in (left_bytes log g))) (sym f.at_is);
      taken = taken_more keeps had rs r old new p.taken adds;
    }

-- a record was taken
pub goes_on : PartsGoOn → (log : List ℕ) (keeps : ℕ → Bool) (had : ℕ) (h g : HeadState) (r : LogRecord) (old new : Taken) → (IsOf log h → IsNext log h g (Some r)) → Adds keeps had old new r → IsReadTo log keeps had h old → GoesTo log keeps had g new true
goes_on goes log keeps had h g r old new n adds p = record { read = one_more goes log keeps had h g r old new p (n p.of) adds; over = tt }

-- or none was there
none_more : (log : List ℕ) (keeps : ℕ → Bool) (had : ℕ) (h g : HeadState) (t : Taken) → IsReadTo log keeps had h t → IsNext log h g None → g.at ≡ h.at → IsReadTo log keeps had g t
none_more log keeps had h g t p n at =
    let same : left_bytes log g ≡ left_bytes log h = n.next_of.1 in
    record {
      records = p.records;
      of = n.of;
      spelled = p.spelled ∙ ap (λ (t : List ℕ). log_bytes p.records ++ t) (sym same);
      allowed = p.allowed;
      at_is = at ∙ p.at_is;
      parts = p.parts ∙ ap (λ (l : List ℕ). put_before p.records h.at (parts_in l)) (sym same) ∙ ap (λ (k : ℕ). put_before p.records k (parts_in (left_bytes log g))) (sym at);
      taken = p.taken;
    }

pub goes_none : (log : List ℕ) (keeps : ℕ → Bool) (had : ℕ) (h g : HeadState) (t : Taken) → (IsOf log h → IsNext log h g None) → g.at ≡ h.at → IsReadTo log keeps had h t → GoesTo log keeps had g t false
goes_none log keeps had h g t n at p = record { read = none_more log keeps had h g t p (n p.of) at; over = none_over log h g (n p.of) }

-- a field isn't allowed
pub damaged : PartsAreBad → (log : List ℕ) (keeps : ℕ → Bool) (had : ℕ) (h : HeadState) (t : Taken) (at : ℕ) → IsReadTo log keeps had h t → IsBadAt log h at → parts_in log ≡ Err at
damaged bad log keeps had h t at p b = p.parts ∙ ap (put_before p.records h.at) (bad (left_bytes log h) b.field b.bad) ∙ ap err_at (sym b.at_is)

-- ---- the whole log

pub nothing_read : (log : List ℕ) (n : ℕ) (keeps : ℕ → Bool) (had : ℕ) (t : Taken) → n ≡ length log → HasTaken keeps had [] t → IsReadTo log keeps had (record { at = 0; hand = []; end = n }) t
nothing_read log n keeps had t is taken =
    let h : HeadState = record { at = 0; hand = []; end = n } in
    let all : left_bytes log h ≡ log = take_all (n - 0) log (omega (arith, is)) in
    record {
      records = [];
      of = record { within = omega (arith, is); fits = omega arith; told = refl };
      spelled = sym all;
      allowed = tt;
      at_is = refl;
      parts = none_before (parts_in log) ∙ ap (λ (l : List ℕ). put_before [] 0 (parts_in l)) (sym all);
      taken = taken;
    }

records_in : Result Parts ℕ → List LogRecord
records_in (Ok p) = p.records
records_in (Err k) = []

size_in : Result Parts ℕ → ℕ
size_in (Ok p) = p.size
size_in (Err k) = 0

all_read : PartsEnd → (log : List ℕ) (keeps : ℕ → Bool) (had : ℕ) (h : HeadState) (n : ℕ) (read : LogRead) (l : Log) → IsReadTo log keeps had h read.taken → IsShort (record_in (left_bytes log h)) → n ≡ length log → read.tail ≡ n - h.at
    → IsLogOf log l → IsRead keeps had l read
unfolding records_in size_in
all_read ends log keeps had h n read l p short long tail is =
    let rs : List LogRecord = p.records in
    let left : ℕ = length (left_bytes log h) in
    let whole : ok_parts (record { records = l.records; size = l.length; tail = l.tail }) ≡ ok_parts (record { records = rs ++ []; size = h.at + 0; tail = left }) =
    sym is.is_read ∙ p.parts ∙ ap (put_before rs h.at) (ends (left_bytes log h) short) in
    let records : l.records ≡ rs = ap records_in whole ∙ append-nil rs in
    let size : l.length ≡ h.at + 0 = ap size_in whole in
    record {
      taken = subst (λ (xs : List LogRecord). HasTaken keeps had xs read.taken) (sym records) p.taken;
      tail_is = omega (arith, tail, long, size, is.whole);
    }

-- the log of these bytes
log_read : PartsEnd → (log : List ℕ) (keeps : ℕ → Bool) (had : ℕ) (h : HeadState) (t : Taken) → IsReadTo log keeps had h t → IsShort (record_in (left_bytes log h)) → ((l : Log) × IsLogOf log l)
log_read ends log keeps had h t p short =
    let rs : List LogRecord = p.records in
    let tail : ℕ = length (left_bytes log h) in
    let it : Log = record { member = 0; records = rs; length = h.at; tail = tail } in
    let none : h.at + 0 ≡ h.at = omega arith in (
      it,
      record {
        is_read = p.parts ∙ ap (put_before rs h.at) (ends (left_bytes log h) short)
            ∙ ap (λ (l : List LogRecord). ok_parts (record { records = l; size = h.at + 0; tail = tail })) (append-nil rs)
            ∙ ap (λ (k : ℕ). ok_parts (record { records = rs; size = k; tail = tail })) none;
        spelled = ap (take h.at) p.spelled ∙ take_at (log_bytes rs) (left_bytes log h) h.at (sym p.at_is);
        allowed = p.allowed;
        whole = ap length p.spelled ∙ length-append (log_bytes rs) (left_bytes log h) ∙ ap (λ (k : ℕ). k + tail) (sym p.at_is);
      },
    )

pub log_found : PartsEnd → (log : List ℕ) (keeps : ℕ → Bool) (had : ℕ) (h : HeadState) (n : ℕ) (read : LogRead) → IsReadTo log keeps had h read.taken → IsShort (record_in (left_bytes log h)) → n ≡ length log → read.tail ≡ n - h.at
    → IsReadOf keeps had log read
log_found ends log keeps had h n read p short long tail =
    let found = log_read ends log keeps had h read.taken p short in
    record { log = found.0; is_log = found.1; read = all_read ends log keeps had h n read found.0 p short long tail found.1 }

-- a log has the same records and the same tail, however it is found
tail_in : Result Parts ℕ → ℕ
tail_in (Ok p) = p.tail
tail_in (Err k) = 0

pub read_as : (keeps : ℕ → Bool) (had : ℕ) (log : List ℕ) (read : LogRead) (l : Log) → IsReadOf keeps had log read → IsLogOf log l → IsRead keeps had l read
unfolding records_in tail_in
read_as keeps had log read l of is =
    let same : ok_parts (record { records = of.log.records; size = of.log.length; tail = of.log.tail }) ≡ ok_parts (record { records = l.records; size = l.length; tail = l.tail }) = sym of.is_log.is_read ∙ is.is_read in
    record {
      taken = subst (λ (xs : List LogRecord). HasTaken keeps had xs read.taken) (ap records_in same) of.read.taken;
      tail_is = of.read.tail_is ∙ ap tail_in same;
    }
