-- Logs of whole records, one of which gets a record more or is cut.
use Rattle.std.proofs.Common.{◌≡◌, ℕ, ◌+◌, ◌-◌, ◌<◌, ◌≤◌, max, List, [], ◌∷◌, ◌++◌, length, take, get_or, set, inl, refl, sym, ap, subst, ◌∙◌, arith}
use Rattle.std.proofs.lemmas.List.{append-nil, take_at}
use Rattle.ds_disk.specs.Contents.{Contents, log_of, with_log}
use Rattle.ds_model.specs.declared.log.LogRecord.{LogRecord}
use Rattle.ds_model.specs.declared.log.Body.{Body}
use Rattle.ds_model.specs.declared.log.Body.TheVariants as body
use Rattle.ds_model.specs.RecordBytes.{record_bytes, log_bytes}
use Rattle.log_record.specs.declared.log.Log.{Log}
use Rattle.log_trans.specs.Numbers.{greatest}
use Rattle.log_merge.specs.Merging.{all_records}
use Rattle.sound_disk.specs.Whole_logs.{IsWholeLog, AreWholeLogs}
use Rattle.sound_disk.specs.Laws.{AppendKeeps, TornKeeps, last_number, with_record, with_tail}
use Rattle.sound_appends.specs.Appends.{IsNext, Appends}
use Rattle.sound_appends.proofs.Numbers.{until, all_split, greatest_more}

-- ---- one of the logs

whole_at : (m : ℕ) (bytes : List (List ℕ)) (front : List Log) (log : Log) (back : List Log) → AreWholeLogs m bytes (front ++ log ∷ back) → IsWholeLog (m + length front) (get_or bytes (length front) []) log
whole_at m [] [] log back h = absurd h
whole_at m [] (x ∷ xs) log back h = absurd h
whole_at m (b ∷ bs) [] log back h = let e : m ≡ m + 0 = omega arith in subst (λ (k : ℕ). IsWholeLog k b log) e h.0
whole_at m (b ∷ bs) (x ∷ xs) log back h =
    let e : (m + 1) + length xs ≡ m + length (x ∷ xs) = omega arith in
    subst (λ (k : ℕ). IsWholeLog k (get_or bs (length xs) []) log) e (whole_at (m + 1) bs xs log back h.1)

whole_put : (m : ℕ) (bytes : List (List ℕ)) (front : List Log) (log : Log) (back : List Log) (b : List ℕ) (new : Log) → AreWholeLogs m bytes (front ++ log ∷ back) → IsWholeLog (m + length front) b new
    → AreWholeLogs m (set bytes (length front) b) (front ++ new ∷ back)
whole_put m [] [] log back b new h w = absurd h
whole_put m [] (x ∷ xs) log back b new h w = absurd h
whole_put m (c ∷ bs) [] log back b new h w = let e : m + 0 ≡ m = omega arith in (subst (λ (k : ℕ). IsWholeLog k b new) e w, h.1)
whole_put m (c ∷ bs) (x ∷ xs) log back b new h w =
    let e : m + length (x ∷ xs) ≡ (m + 1) + length xs = omega arith in
    (h.0, whole_put (m + 1) bs xs log back b new h.1 (subst (λ (k : ℕ). IsWholeLog k b new) e w))

-- the log of the member gets other bytes, of which these are the records and the tail
whole_with : (c : Contents) (front : List Log) (log : Log) (back : List Log) (new : Log) (change : List ℕ → List ℕ) → AreWholeLogs 1 c.logs (front ++ log ∷ back)
    → ((member : ℕ) (bytes : List ℕ) → IsWholeLog member bytes log → IsWholeLog member (change bytes) new)
    → AreWholeLogs 1 (with_log c log.member (change (log_of c.logs log.member))).logs (front ++ new ∷ back)
whole_with c front log back new change h keeps =
    let w = whole_at 1 c.logs front log back h in
    let place : length front ≡ log.member - 1 = omega (arith, w.member_is) in
    subst (λ (k : ℕ). AreWholeLogs 1 (set c.logs k (change (get_or c.logs k []))) (front ++ new ∷ back)) place
    (whole_put 1 c.logs front log back (change (get_or c.logs (length front) [])) new h (keeps (1 + length front) (get_or c.logs (length front) []) w))

-- ---- the number of the record

last_below : (low : ℕ) (rs : List LogRecord) → last_number low rs ≤ max low (greatest rs)
last_below low [] = omega arith
last_below low (r ∷ rs) = let ih = last_below r.lrsn rs in omega (arith, ih)

last_of_all : (front : List Log) (log : Log) (back : List Log) → last_number 0 log.records ≤ greatest (all_records (front ++ log ∷ back))
last_of_all front log back =
    let low = last_below 0 log.records in
    let all : greatest (all_records (front ++ log ∷ back)) ≡ greatest (until front log ++ all_records back) = ap greatest (all_split front log back) in
    let more = greatest_more (until front log) (all_records back) in
    let own = greatest_more (all_records front) log.records in
    omega (arith, low, all, more, own)

low_by : (logs : List Log) (log : Log) (r : LogRecord) (b : Body) → last_number 0 log.records ≤ greatest (all_records logs) → IsNext logs log r b → last_number 0 log.records ≤ r.lrsn
low_by logs log r (body.RowChange change) low h = absurd h
low_by logs log r (body.Compensation change undone) low h = omega (arith, low, h.next)
low_by logs log r (body.System patches) low h = absurd h
low_by logs log r body.Commit low h = absurd h
low_by logs log r body.Ended low h = h.number.low
low_by logs log r (body.Checkpoint offset) low h = h.0.low
low_by logs log r body.RestartEnd low h = h.low

low_is : (logs after : List Log) (r : LogRecord) (h : Appends logs r after) → last_number 0 h.log.records ≤ r.lrsn
low_is logs after r h =
    low_by logs h.log r r.body (subst (λ (ls : List Log). last_number 0 h.log.records ≤ greatest (all_records ls)) (sym h.logs_are) (last_of_all h.front h.log h.back)) h.next

-- ---- appends

pub keeps_whole : AppendKeeps → (c : Contents) (logs after : List Log) (r : LogRecord) (h : Appends logs r after) → AreWholeLogs 1 c.logs logs → h.log.tail ≡ 0
    → AreWholeLogs 1 (with_log c h.log.member (log_of c.logs h.log.member ++ record_bytes r)).logs after
keeps_whole law c logs after r h w none =
    subst (AreWholeLogs 1 (with_log c h.log.member (log_of c.logs h.log.member ++ record_bytes r)).logs) (sym h.after_are)
    (whole_with c h.front h.log h.back (with_record h.log r) (λ (bytes : List ℕ). bytes ++ record_bytes r) (subst (AreWholeLogs 1 c.logs) h.logs_are w)
    (λ member bytes is. law member bytes h.log r is none h.allowed (low_is logs after r h)))

pub torn_keeps_whole : TornKeeps → (c : Contents) (logs after : List Log) (r : LogRecord) (n : ℕ) (h : Appends logs r after) → AreWholeLogs 1 c.logs logs → h.log.tail ≡ 0 → n < length (record_bytes r)
    → AreWholeLogs 1 (with_log c h.log.member (log_of c.logs h.log.member ++ take n (record_bytes r))).logs (h.front ++ with_tail h.log n ∷ h.back)
torn_keeps_whole law c logs after r n h w none few =
    whole_with c h.front h.log h.back (with_tail h.log n) (λ (bytes : List ℕ). bytes ++ take n (record_bytes r)) (subst (AreWholeLogs 1 c.logs) h.logs_are w)
    (λ member bytes is. law member bytes h.log r n is none h.allowed few)

-- ---- cuts

cut_whole : (member : ℕ) (bytes : List ℕ) (log : Log) → IsWholeLog member bytes log → IsWholeLog member (take log.length bytes) (with_tail log 0)
cut_whole member bytes log h =
    let is = h.records_are in
    let cut : take log.length bytes ≡ log_bytes log.records = ap (take log.length) is.whole ∙ take_at (log_bytes log.records) is.tail log.length (sym h.length_is) in
    let size : length (take log.length bytes) ≡ length (log_bytes log.records) = ap (λ (l : List ℕ). length l) cut in
    record {
      member_is = h.member_is;
      records_are = record { tail = []; whole = cut ∙ sym (append-nil (log_bytes log.records)); allowed = is.allowed; torn = inl refl };
      length_is = h.length_is;
      tail_is = omega (arith, size, h.length_is);
      rising = h.rising;
    }

pub cut_keeps_whole : (c : Contents) (front : List Log) (log : Log) (back : List Log) → AreWholeLogs 1 c.logs (front ++ log ∷ back)
    → AreWholeLogs 1 (with_log c log.member (take log.length (log_of c.logs log.member))).logs (front ++ with_tail log 0 ∷ back)
cut_keeps_whole c front log back h = whole_with c front log back (with_tail log 0) (λ (bytes : List ℕ). take log.length bytes) h (λ member bytes is. cut_whole member bytes log is)
