-- Records of a log that are passed one after the other.
use Rattle.std.proofs.Common.{◌≡◌, ℕ, ◌+◌, ◌-◌, ◌<◌, ◌≤◌, Bool, true, false, List, [], ◌∷◌, ◌++◌, length, take, drop, Some, None, Result, Ok, Err, refl, sym, ap, subst, ◌∙◌, append_assoc, arith}
use Rattle.std.specs.List.{AllByRecursion}
use Rattle.std.proofs.lemmas.List.{append-nil, length-append, take_all, take_at, drop_at}
use Rattle.std.proofs.lemmas.List.Concat.{flat_map-append}
use Rattle.ds_model.specs.declared.log.LogRecord.{LogRecord}
use Rattle.ds_model.specs.RecordBytes.{record_bytes, log_bytes, IsAllowed}
use Rattle.log_record.specs.declared.log.Log.{Log}
use Rattle.log_record.specs.Reading.{record_in}
use Rattle.log_record.specs.Logs.{Parts, parts_in, parts_of, IsLogOf}
use Rattle.log_record.specs.Logs as parts
use Rattle.log_merge.specs.Merging.{RisesFrom}
use Rattle.log_head.specs.Heads.{HeadState, IsShort, IsOf, left_bytes}
use Rattle.log_head.specs.Laws.{PartsGoOn, PartsEnd, PartsAreBad}
use Rattle.disk_heads.specs.Records.{IsNext, IsBadAt}
use Rattle.opening_rows.specs.Reading.{last_number, number_at, FallsAt}
use Rattle.opening_rows.specs.Pending.{is_pending}
use Rattle.opening_rows.specs.Survey.{put_before, IsCounted, IsPassed, Passes, IsSurveyed}
use Rattle.opening_rows.proofs.Committing.{pending_more}

-- ---- one record more

last_more : (low : ℕ) (rs : List LogRecord) (r : LogRecord) → last_number low (rs ++ r ∷ []) ≡ r.lrsn
last_more low [] r = refl
last_more low (s ∷ ss) r = last_more s.lrsn ss r

rises_more : (low : ℕ) (rs : List LogRecord) (r : LogRecord) → RisesFrom low rs → last_number low rs ≤ r.lrsn → RisesFrom low (rs ++ r ∷ [])
rises_more low [] r h le = (le, tt)
rises_more low (s ∷ ss) r h le = (h.0, rises_more s.lrsn ss r h.1 le)

pub allowed_more : (rs : List LogRecord) (r : LogRecord) → AllByRecursion IsAllowed rs → IsAllowed r → AllByRecursion IsAllowed (rs ++ r ∷ [])
allowed_more [] r h is = (is, tt)
allowed_more (s ∷ ss) r h is = (h.0, allowed_more ss r h.1 is)

pub bytes_more : (rs : List LogRecord) (r : LogRecord) → log_bytes (rs ++ r ∷ []) ≡ log_bytes rs ++ record_bytes r
bytes_more rs r = flat_map-append record_bytes rs (r ∷ []) ∙ ap (λ (t : List ℕ). log_bytes rs ++ t) (append-nil (record_bytes r))

abbrev pub ok_parts : Parts → Result Parts ℕ
ok_parts p = Ok p

abbrev pub err_at : ℕ → Result Parts ℕ
err_at k = Err k

pub parts_more : (rs : List LogRecord) (at : ℕ) (r : LogRecord) (n : ℕ) (q : Result Parts ℕ) → put_before rs at (parts.behind r n q) ≡ put_before (rs ++ r ∷ []) (at + n) q
parts_more rs at r n (Ok p) =
    let records : rs ++ (r ∷ p.records) ≡ (rs ++ r ∷ []) ++ p.records = sym (append_assoc rs (r ∷ []) p.records) in
    let size : at + (n + p.size) ≡ at + n + p.size = omega arith in
    ap (λ (l : List LogRecord). ok_parts (record { records = l; size = at + (n + p.size); tail = p.tail })) records
    ∙ ap (λ (k : ℕ). ok_parts (record { records = (rs ++ r ∷ []) ++ p.records; size = k; tail = p.tail })) size
parts_more rs at r n (Err k) = let e : at + (n + k) ≡ at + n + k = omega arith in ap err_at e

-- the record that was taken is counted
pub one_more : PartsGoOn → (log : List ℕ) (h g : HeadState) (r : LogRecord) (low low_now count count_now : ℕ) (before now later : ℕ → Bool) → IsPassed log h low count before now → IsNext log h g (Some r) → g.end ≡ h.end
    → IsCounted low low_now count count_now r → ((tran : ℕ) → later tran ≡ is_pending tran (now tran) (r ∷ [])) → IsPassed log g low_now count_now before later
one_more goes log h g r low low_now count count_now before now later p n end counted noted =
    let f = n.next_of in
    let rs : List LogRecord = p.records in
    let size : ℕ = length (record_bytes r) in
    let long = length-append (log_bytes rs) (record_bytes r) in
    let whole : length (log_bytes (rs ++ r ∷ [])) ≡ length (log_bytes rs ++ record_bytes r) = ap length (bytes_more rs r) in
    let rest : drop size (left_bytes log h) ≡ left_bytes log g = ap (drop size) f.spelled ∙ drop_at (record_bytes r) (left_bytes log g) size refl in
    record {
      records = rs ++ r ∷ [];
      of = n.of;
      whole = end ∙ p.whole;
      spelled = p.spelled ∙ ap (λ (t : List ℕ). log_bytes rs ++ t) f.spelled ∙ sym (append_assoc (log_bytes rs) (record_bytes r) (left_bytes log g)) ∙ ap (λ (t : List ℕ). t ++ left_bytes log g) (sym (bytes_more rs r));
      allowed = allowed_more rs r p.allowed f.allowed;
      at_is = omega (arith, f.at_is, p.at_is, long, whole);
      parts = p.parts ∙ ap (put_before rs h.at) (goes (left_bytes log h) r size f.is_read) ∙ parts_more rs h.at r size (parts_in (drop size (left_bytes log h)))
          ∙ ap (λ (t : List ℕ). put_before (rs ++ r ∷ []) (h.at + size) (parts_in t)) rest
          ∙ ap (λ (k : ℕ). put_before (rs ++ r ∷ []) k (parts_in (left_bytes log g))) (sym f.at_is);
      rises = rises_more 0 rs r p.rises (subst (λ (k : ℕ). k ≤ r.lrsn) p.low_is counted.rises);
      low_is = counted.low_is ∙ sym (last_more 0 rs r);
      count_is = omega (arith, counted.count_is, p.count_is, length-append rs (r ∷ []));
      pending_are = λ tran. noted tran ∙ ap (λ (b : Bool). is_pending tran b (r ∷ [])) (p.pending_are tran) ∙ sym (pending_more tran (before tran) rs (r ∷ []));
    }

-- its number is lower
pub falls : (log : List ℕ) (h g : HeadState) (r : LogRecord) (low count at : ℕ) (before now : ℕ → Bool) → IsPassed log h low count before now → IsNext log h g (Some r) → r.lrsn < low → at ≡ h.at + number_at → FallsAt log at
falls log h g r low count at before now p n lt is =
    let f = n.next_of in
    record {
      records = p.records;
      it = r;
      rest = left_bytes log g;
      split = p.spelled ∙ ap (λ (t : List ℕ). log_bytes p.records ++ t) f.spelled;
      allowed = (p.allowed, f.allowed);
      falls = subst (λ (k : ℕ). r.lrsn < k) p.low_is lt;
      place = is ∙ ap (λ (k : ℕ). k + number_at) p.at_is;
    }

-- a field isn't allowed
pub damaged : PartsAreBad → (log : List ℕ) (h : HeadState) (low count at : ℕ) (before now : ℕ → Bool) → IsPassed log h low count before now → IsBadAt log h at → parts_in log ≡ Err at
damaged bad log h low count at before now p b = p.parts ∙ ap (put_before p.records h.at) (bad (left_bytes log h) b.field b.bad) ∙ ap err_at (sym b.at_is)

-- ---- none is left

pub none_more : (log : List ℕ) (h g : HeadState) (low count : ℕ) (before now : ℕ → Bool) → IsPassed log h low count before now → IsNext log h g None → g.end ≡ h.end → g.at ≡ h.at → IsPassed log g low count before now
none_more log h g low count before now p n end at =
    let same : left_bytes log g ≡ left_bytes log h = n.next_of.1 in
    record {
      records = p.records;
      of = n.of;
      whole = end ∙ p.whole;
      spelled = p.spelled ∙ ap (λ (t : List ℕ). log_bytes p.records ++ t) (sym same);
      allowed = p.allowed;
      at_is = at ∙ p.at_is;
      parts = p.parts ∙ ap (λ (t : List ℕ). put_before p.records h.at (parts_in t)) (sym same) ∙ ap (λ (k : ℕ). put_before p.records k (parts_in (left_bytes log g))) (sym at);
      rises = p.rises;
      low_is = p.low_is;
      count_is = p.count_is;
      pending_are = p.pending_are;
    }

pub none_over : (log : List ℕ) (h g : HeadState) → IsNext log h g None → IsShort (record_in (left_bytes log g))
none_over log h g n = subst (λ (t : List ℕ). IsShort (record_in t)) (sym n.next_of.1) n.next_of.0

-- ---- the whole log

pub none_before : (q : Result Parts ℕ) → q ≡ put_before [] 0 q
none_before (Ok p) = let e : p.size ≡ 0 + p.size = omega arith in ap (λ (k : ℕ). ok_parts (record { records = p.records; size = k; tail = p.tail })) e
none_before (Err k) = let e : k ≡ 0 + k = omega arith in ap err_at e

pub nothing_passed : (log : List ℕ) (n : ℕ) (before : ℕ → Bool) → n ≡ length log → IsPassed log (record { at = 0; hand = []; end = n }) 0 0 before before
nothing_passed log n before is =
    let h : HeadState = record { at = 0; hand = []; end = n } in
    let all : left_bytes log h ≡ log = take_all (n - 0) log (omega (arith, is)) in
    record {
      records = [];
      of = record { within = omega (arith, is); fits = omega arith; told = refl };
      whole = is;
      spelled = sym all;
      allowed = tt;
      at_is = refl;
      parts = none_before (parts_in log) ∙ ap (λ (t : List ℕ). put_before [] 0 (parts_in t)) (sym all);
      rises = tt;
      low_is = refl;
      count_is = refl;
      pending_are = λ tran. refl;
    }

pub surveyed : PartsEnd → (log : List ℕ) (h : HeadState) (low count : ℕ) (before now : ℕ → Bool) → IsPassed log h low count before now → IsShort (record_in (left_bytes log h)) → IsSurveyed log h.at count before now
surveyed ends log h low count before now p short =
    let rs : List LogRecord = p.records in
    let tail : ℕ = length (left_bytes log h) in
    let it : Log = record { member = 0; records = rs; length = h.at; tail = tail } in
    let none : h.at + 0 ≡ h.at = omega arith in
    record {
      log = it;
      is_log = record {
        is_read = p.parts ∙ ap (put_before rs h.at) (ends (left_bytes log h) short)
            ∙ ap (λ (l : List LogRecord). ok_parts (record { records = l; size = h.at + 0; tail = tail })) (append-nil rs)
            ∙ ap (λ (k : ℕ). ok_parts (record { records = rs; size = k; tail = tail })) none;
        spelled = ap (take h.at) p.spelled ∙ take_at (log_bytes rs) (left_bytes log h) h.at (sym p.at_is);
        allowed = p.allowed;
        whole = ap length p.spelled ∙ length-append (log_bytes rs) (left_bytes log h) ∙ ap (λ (k : ℕ). k + tail) (sym p.at_is);
      };
      rises = p.rises;
      end_is = refl;
      count_is = p.count_is;
      pending_are = p.pending_are;
    }

-- ---- a step of the survey

-- a record was passed
pub passes_on : PartsGoOn → (log : List ℕ) (h g : HeadState) (r : LogRecord) (low low_now count count_now : ℕ) (before now later : ℕ → Bool) → (IsOf log h → IsNext log h g (Some r)) → g.end ≡ h.end
    → IsCounted low low_now count count_now r → ((tran : ℕ) → later tran ≡ is_pending tran (now tran) (r ∷ [])) → IsPassed log h low count before now → Passes log g low_now count_now before later true
passes_on goes log h g r low low_now count count_now before now later n end counted noted p =
    record { passed = one_more goes log h g r low low_now count count_now before now later p (n p.of) end counted noted; over = tt }

-- or none was there
pub passes_none : (log : List ℕ) (h g : HeadState) (low count : ℕ) (before now : ℕ → Bool) → (IsOf log h → IsNext log h g None) → g.end ≡ h.end → g.at ≡ h.at → IsPassed log h low count before now → Passes log g low count before now false
passes_none log h g low count before now n end at p = record { passed = none_more log h g low count before now p (n p.of) end at; over = none_over log h g (n p.of) }
