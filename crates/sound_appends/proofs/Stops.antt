-- An append that was cut short leaves sound logs.
use Rattle.std.proofs.Common.{◌≡◌, ℕ, zero, suc, ◌+◌, ◌-◌, ◌<◌, List, [], ◌∷◌, ◌++◌, length, take, map, get_or, set, inl, inr, refl, sym, ap, subst, ◌∙◌, arith, append_assoc}
use Rattle.std.proofs.lemmas.Bool.{cases_lt}
use Rattle.std.proofs.lemmas.List.{append-nil, take-append-le, set-set, set-get_or, get_or-set_same}
use Rattle.ds_disk.specs.Contents.{Contents, log_of, with_log}
use Rattle.ds_model.specs.declared.log.LogRecord.{LogRecord}
use Rattle.ds_model.specs.RecordBytes.{record_bytes, log_bytes}
use Rattle.log_record.specs.declared.log.Log.{Log}
use Rattle.sound_disk.specs.Whole_logs.{AreWholeLogs}
use Rattle.sound_disk.specs.Laws.{records_of, with_record, with_tail}
use Rattle.sound_appends.specs.Appends.{Appends, AppendsAll}
use Rattle.sound_appends.specs.Laws.{KeepsWhole, TornKeepsWhole, KeepsTransactions, KeepsTurns, KeepsNumbers, AreSoundLogs, SameRecordsKeep, HaveNoTails, AppendStops}

-- ---- bytes

nothing_more : (n : ℕ) → 0 + n ≡ n
nothing_more n = omega arith

one_more : (a n : ℕ) → suc a + n ≡ suc (a + n)
one_more a n = omega arith

none_taken : (n : ℕ) → take {A = ℕ} n [] ≡ []
none_taken zero = refl
none_taken (suc n) = refl

take_front : (n : ℕ) (xs ys : List ℕ) → take (length xs + n) (xs ++ ys) ≡ xs ++ take n ys
take_front n [] ys = ap (λ (k : ℕ). take k ys) (nothing_more n)
take_front n (x ∷ xs) ys =
    ap (λ (k : ℕ). take k (x ∷ (xs ++ ys))) (one_more (length xs) n) ∙ ap (λ (l : List ℕ). x ∷ l) (take_front n xs ys)

-- ---- tails

no_tail_at : (front : List Log) (log : Log) (back : List Log) → HaveNoTails (front ++ log ∷ back) → log.tail ≡ 0
no_tail_at [] log back h = h.0
no_tail_at (x ∷ xs) log back h = no_tail_at xs log back h.1

no_tails_with : (front : List Log) (log : Log) (back : List Log) (r : LogRecord) → HaveNoTails (front ++ log ∷ back) → HaveNoTails (front ++ with_record log r ∷ back)
no_tails_with [] log back r h = h
no_tails_with (x ∷ xs) log back r h = (h.0, no_tails_with xs log back r h.1)

no_tails_after : (logs after : List Log) (r : LogRecord) → Appends logs r after → HaveNoTails logs → HaveNoTails after
no_tails_after logs after r h t = subst HaveNoTails (sym h.after_are) (no_tails_with h.front h.log h.back r (subst HaveNoTails h.logs_are t))

no_tail_of : (logs after : List Log) (r : LogRecord) (h : Appends logs r after) → HaveNoTails logs → h.log.tail ≡ 0
no_tail_of logs after r h t = no_tail_at h.front h.log h.back (subst HaveNoTails h.logs_are t)

-- ---- the log of a member of whole logs

placed_in : (m : ℕ) (bytes : List (List ℕ)) (front : List Log) (log : Log) (back : List Log) → AreWholeLogs m bytes (front ++ log ∷ back) → (log.member ≡ m + length front) × (length front < length bytes)
placed_in m [] [] log back h = absurd h
placed_in m [] (x ∷ xs) log back h = absurd h
placed_in m (b ∷ bs) [] log back h = let is = h.0.member_is in (omega (arith, is), omega arith)
placed_in m (b ∷ bs) (x ∷ xs) log back h = let p = placed_in (m + 1) bs xs log back h.1 in let first = p.0 in let second = p.1 in (omega (arith, first), omega (arith, second))

-- what was put in the place of a log is put in its place again
put_twice : (bytes : List (List ℕ)) (i : ℕ) (xs ys : List ℕ) → i < length bytes → set (set bytes i (get_or bytes i [] ++ xs)) i (get_or (set bytes i (get_or bytes i [] ++ xs)) i [] ++ ys) ≡ set bytes i (get_or bytes i [] ++ (xs ++ ys))
put_twice bytes i xs ys within =
    ap (λ (l : List ℕ). set (set bytes i (get_or bytes i [] ++ xs)) i (l ++ ys)) (get_or-set_same bytes i (get_or bytes i [] ++ xs) [] within)
    ∙ set-set bytes i (get_or bytes i [] ++ xs) ((get_or bytes i [] ++ xs) ++ ys)
    ∙ ap (λ (l : List ℕ). set bytes i l) (append_assoc (get_or bytes i []) xs ys)

-- ---- the laws

record Laws : Type 0 where
  whole : KeepsWhole
  torn : TornKeepsWhole
  transactions : KeepsTransactions
  turns : KeepsTurns
  numbers : KeepsNumbers
  same : SameRecordsKeep

sound_after : Laws → (logs after : List Log) (r : LogRecord) → Appends logs r after → AreSoundLogs logs → AreSoundLogs after
sound_after l logs after r h s = record {
  transactions = l.transactions logs after r h s.transactions;
  turns = l.turns logs after r h s.turns;
  numbers = l.numbers logs after r h s.transactions s.numbers;
}

same_records : (front : List Log) (log : Log) (back : List Log) (n : ℕ) → records_of (front ++ log ∷ back) ≡ records_of (front ++ with_tail log n ∷ back)
same_records [] log back n = refl
same_records (x ∷ xs) log back n = ap (λ (l : List (List LogRecord)). x.records ∷ l) (same_records xs log back n)

Left : Contents → ℕ → List ℕ → Type 0
Left c member bytes = (left : List Log) × AreWholeLogs 1 (with_log c member (log_of c.logs member ++ bytes)).logs left × AreSoundLogs left

-- nothing was appended
none_left : (c : Contents) (logs : List Log) (member : ℕ) → AreWholeLogs 1 c.logs logs → AreSoundLogs logs → Left c member []
unfolding Left
none_left c logs member w s =
    let same : set c.logs (member - 1) (get_or c.logs (member - 1) [] ++ []) ≡ c.logs = ap (set c.logs (member - 1)) (append-nil (get_or c.logs (member - 1) [])) ∙ set-get_or c.logs (member - 1) [] in
    (logs, subst (λ (bs : List (List ℕ)). AreWholeLogs 1 bs logs) (sym same) w, s)

-- the first record wasn't appended whole
torn_left : Laws → (c : Contents) (logs mid : List Log) (r : LogRecord) (n : ℕ) (h : Appends logs r mid) → AreWholeLogs 1 c.logs logs → HaveNoTails logs → AreSoundLogs logs → n < length (record_bytes r) → Left c h.log.member (take n (record_bytes r))
unfolding Left
torn_left l c logs mid r n h w t s few =
    let sound : AreSoundLogs (h.front ++ h.log ∷ h.back) = subst AreSoundLogs h.logs_are s in (
      h.front ++ with_tail h.log n ∷ h.back,
      l.torn c logs mid r n h w (no_tail_of logs mid r h t) few,
      l.same (h.front ++ h.log ∷ h.back) (h.front ++ with_tail h.log n ∷ h.back) (same_records h.front h.log h.back n) sound,
    )

-- behind the first record
both_left : (c : Contents) (member : ℕ) (xs ys : List ℕ) → member - 1 < length c.logs → Left (with_log c member (log_of c.logs member ++ xs)) member ys → Left c member (xs ++ ys)
unfolding Left
both_left c member xs ys within rest = (rest.0, subst (λ (bs : List (List ℕ)). AreWholeLogs 1 bs rest.0) (put_twice c.logs (member - 1) xs ys within) rest.1, rest.2)

stops : Laws → (records : List LogRecord) (c : Contents) (logs after : List Log) (member n : ℕ) → AppendsAll logs (map (λ (r : LogRecord). (member, r)) records) after → AreWholeLogs 1 c.logs logs → HaveNoTails logs → AreSoundLogs logs
    → Left c member (take n (log_bytes records))
stops l [] c logs after member n h w t s = subst (Left c member) (sym (none_taken n)) (none_left c logs member w s)
stops l (r ∷ rs) c logs after member n h w t s = elim (cases_lt n (length (record_bytes r))) [
  | inl few ↦ (
      let cut : take n (record_bytes r ++ log_bytes rs) ≡ take n (record_bytes r) = take-append-le n (record_bytes r) (log_bytes rs) (omega (arith, few)) in
      subst (Left c member) (sym cut) (subst (λ (m : ℕ). Left c m (take n (record_bytes r))) h.2 (torn_left l c logs h.0 r n h.1 w t s few)))
  | inr many ↦ (
      let k = n - length (record_bytes r) in
      let count : length (record_bytes r) + k ≡ n = omega (arith, many) in
      let cut : take n (record_bytes r ++ log_bytes rs) ≡ record_bytes r ++ take k (log_bytes rs) = ap (λ (x : ℕ). take x (record_bytes r ++ log_bytes rs)) (sym count) ∙ take_front k (record_bytes r) (log_bytes rs) in
      let d = with_log c member (log_of c.logs member ++ record_bytes r) in
      let whole : AreWholeLogs 1 d.logs h.0 = subst (λ (m : ℕ). AreWholeLogs 1 (with_log c m (log_of c.logs m ++ record_bytes r)).logs h.0) h.2 (l.whole c logs h.0 r h.1 w (no_tail_of logs h.0 r h.1 t)) in
      let rest : Left d member (take k (log_bytes rs)) = stops l rs d h.0 after member k h.3 whole (no_tails_after logs h.0 r h.1 t) (sound_after l logs h.0 r h.1 s) in
      let placed = placed_in 1 c.logs h.1.front h.1.log h.1.back (subst (AreWholeLogs 1 c.logs) h.1.logs_are w) in
      let first = placed.0 in let second = placed.1 in let own = h.2 in
      let within : member - 1 < length c.logs = omega (arith, first, second, own) in
      subst (Left c member) (sym cut) (both_left c member (record_bytes r) (take k (log_bytes rs)) within rest))
]

pub append_stops : KeepsWhole → TornKeepsWhole → KeepsTransactions → KeepsTurns → KeepsNumbers → SameRecordsKeep → AppendStops
unfolding Left
append_stops whole torn transactions turns numbers same c logs after member records n h w t s =
    stops (record { whole = whole; torn = torn; transactions = transactions; turns = turns; numbers = numbers; same = same }) records c logs after member n h w t s
