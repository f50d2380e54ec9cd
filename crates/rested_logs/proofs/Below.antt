-- Behind a group restart that is done: no record names its transaction by a number above the counter, and the restart knows where the logs end.
use Rattle.std.proofs.Common.{◌≡◌, ℕ, zero, suc, ◌+◌, ◌-◌, ◌≤◌, refl, sym, ◌∙◌, ap, subst, arith, Bool, true, false, inl, inr, List, [], ◌∷◌, ◌++◌, length, take, get_or, Option, Some, Ok}
use Rattle.std.specs.Prelude.{◌⊎◌, ◌==◌, ◌||◌, map, max}
use Rattle.std.specs.List.{AllByRecursion, flat_map}
use Rattle.std.proofs.lemmas.Bool.{eqb-true, or_cases}
use Rattle.std.proofs.lemmas.List.{append-nil, length-append, nil_from_length}
use Rattle.std.proofs.lemmas.List.Concat.{flat_map-append}
use Rattle.ds_disk.specs.Contents.{Becomes, Contents, log_of}
use Rattle.ds_disk.specs.Pages.{PagesAreBytes}
use Rattle.ds_model.specs.Logs.{IsLog}
use Rattle.ds_model.specs.RecordBytes.{IsAllowed, log_bytes, record_bytes}
use Rattle.ds_model.specs.declared.log.LogRecord.{LogRecord}
use Rattle.log_record.specs.Logs.{Parts, parts_in}
use Rattle.log_record.specs.declared.log.Log.{Log}
use Rattle.log_reader.specs.Keeping.{AreWhole}
use Rattle.log_trans.specs.Numbers.{greatest}
use Rattle.log_appends.specs.Appends.{AreLastFrom, LastSpell}
use Rattle.log_appends.specs.Rests.{LastAreAllowed}
use Rattle.group_restart.specs.declared.calls.State.TheVariants as state
use Rattle.group_restart.specs.Course.{IsBegun}
use Rattle.group_restart.specs.Disk.{Drive}
use Rattle.group_restart.specs.Machine.{Restart}
use Rattle.disk_restart.specs.Ends.{EndsAt, EndsBehind}
use Rattle.disk_restart.specs.Runs.{IsRun}
use Rattle.sound_disk.specs.Sound.{IsSoundDisk}
use Rattle.sound_disk.specs.Transactions.{EachFollows, is_named, speak_of}
use Rattle.sound_disk.specs.Whole_logs.{AreWholeLogs, IsWholeLog}
use Rattle.restart_soundness.specs.Runs.{IsAtRest, SoundDisksBegin}
use Rattle.restart_soundness.specs.Soundness.{IsDone, LeavesSound, RestartBegins, RunLeavesSound}
use Rattle.claimed_logs.specs.Logs.{LogBelow}
use Rattle.rested_logs.specs.Counts.{RestsBelow, RunsEnd}
use Rattle.rested_logs.proofs.Closed.{back_all, same_records, whole_log}

pub record Facts : Type 0 where
  pub sound : (bytes : List ℕ) (records : List LogRecord) → IsLog bytes records → parts_in bytes ≡ Ok (record { records = records; size = length (log_bytes records); tail = length bytes - length (log_bytes records) })
  pub spell : LastSpell
  pub allowed : LastAreAllowed

never : false ≡ true → ⊥
never e = cc

-- the records of all logs, where these end, and that none has a tail
abbrev all_records : List Log → List LogRecord
all_records logs = flat_map (λ (l : Log). l.records) logs

abbrev ends_of : List Log → List ℕ
ends_of logs = map (λ (l : Log). l.length) logs

abbrev HaveNoTails : List Log → Type 0
HaveNoTails logs = AllByRecursion (λ (l : Log). l.tail ≡ 0) logs

abbrev IsBelow : ℕ → LogRecord → Type 0
IsBelow n r = r.tran ≤ n

-- ---- the greatest number
greatest_parts : (n : ℕ) (xs ys : List LogRecord) → greatest (xs ++ ys) ≤ n → (greatest xs ≤ n) × (greatest ys ≤ n)
greatest_parts n [] ys h = (omega arith, h)
greatest_parts n (x ∷ xs) ys h =
    let rest : greatest (xs ++ ys) ≤ n = omega (arith, h) in
    let first : x.lrsn ≤ n = omega (arith, h) in
    let ih = greatest_parts n xs ys rest in
    let front = ih.0 in
    (omega (arith, first, front), ih.1)

numbers_below : (n : ℕ) (rs : List LogRecord) → greatest rs ≤ n → AllByRecursion (λ (r : LogRecord). r.lrsn ≤ n) rs
numbers_below n [] h = tt
numbers_below n (r ∷ rs) h = (omega (arith, h), numbers_below n rs (omega (arith, h)))

-- ---- what names a transaction
any_of : (a b c : Bool) → (a || b || c) ≡ true → (a ≡ true) ⊎ ((b ≡ true) ⊎ (c ≡ true))
any_of true b c h = inl refl
any_of false true c h = inr (inl refl)
any_of false false c h = inr (inr h)

spoken_below : (n tran : ℕ) (rs : List LogRecord) → AllByRecursion (IsBelow n) rs → speak_of tran rs ≡ true → tran ≤ n
spoken_below n tran [] below e = absurd (never e)
spoken_below n tran (r ∷ rs) below e = by (spoken_below n tran rs below.1) (or_cases (r.tran == tran) (speak_of tran rs) e)
  where
    by : (speak_of tran rs ≡ true → tran ≤ n) → ((r.tran == tran) ≡ true) ⊎ (speak_of tran rs ≡ true) → tran ≤ n
    by rest (inl own) = let same : r.tran ≡ tran = eqb-true r.tran tran own in let first = below.0 in omega (arith, same, first)
    by rest (inr other) = rest other

all_join : (P : LogRecord → Type 0) (xs ys : List LogRecord) → AllByRecursion P xs → AllByRecursion P ys → AllByRecursion P (xs ++ ys)
all_join P [] ys h k = k
all_join P (x ∷ xs) ys h k = (h.0, all_join P xs ys h.1 k)

named_below : (n : ℕ) (earlier : List LogRecord) (r : LogRecord) → AllByRecursion (IsBelow n) earlier → r.lrsn ≤ n → is_named earlier r ≡ true → r.tran ≤ n
named_below n earlier r before low named = by (any_of (r.tran == 0) (speak_of r.tran earlier) (r.lrsn == r.tran) named)
  where
    by : ((r.tran == 0) ≡ true) ⊎ ((speak_of r.tran earlier ≡ true) ⊎ ((r.lrsn == r.tran) ≡ true)) → r.tran ≤ n
    by (inl none) = let is : r.tran ≡ 0 = eqb-true r.tran 0 none in omega (arith, is)
    by (inr (inl spoken)) = spoken_below n r.tran earlier before spoken
    by (inr (inr own)) = let same : r.lrsn ≡ r.tran = eqb-true r.lrsn r.tran own in omega (arith, same, low)

follow_below : (n : ℕ) (earlier rs : List LogRecord) → AllByRecursion (IsBelow n) earlier → AllByRecursion (λ (r : LogRecord). r.lrsn ≤ n) rs → EachFollows earlier rs → AllByRecursion (IsBelow n) rs
follow_below n earlier [] before low f = tt
follow_below n earlier (r ∷ rs) before low f =
    let here : IsBelow n r = named_below n earlier r before low.0 f.0.named in
    (here, follow_below n (earlier ++ r ∷ []) rs (all_join (IsBelow n) earlier (r ∷ []) before (here, tt)) low.1 f.1)

-- ---- where a log ends
no_tail : (k : ℕ) (bytes : List ℕ) (log : Log) → IsWholeLog k bytes log → log.tail ≡ 0 → bytes ≡ log_bytes log.records
no_tail k bytes log w none =
    let long = length-append (log_bytes log.records) w.records_are.tail in
    let all : length bytes ≡ length (log_bytes log.records ++ w.records_are.tail) = ap (λ (b : List ℕ). length b) w.records_are.whole in
    let size = w.length_is in
    let ends = w.tail_is in
    let rest : length w.records_are.tail ≡ 0 = omega (arith, long, all, size, ends, none) in
    w.records_are.whole ∙ ap (λ (b : List ℕ). log_bytes log.records ++ b) (nil_from_length w.records_are.tail rest) ∙ append-nil (log_bytes log.records)

nothing_whole : AreWhole []
nothing_whole = record { records = []; spelled = refl; allowed = tt }

whole_here : (k : ℕ) (bytes : List ℕ) (log : Log) → IsWholeLog k bytes log → log.tail ≡ 0 → AreWhole bytes
whole_here k bytes log w none = record { records = log.records; spelled = no_tail k bytes log w none; allowed = w.records_are.allowed }

ends_at : (k : ℕ) (bs : List (List ℕ)) (logs : List Log) → AreWholeLogs k bs logs → HaveNoTails logs → (i : ℕ) → EndsAt (get_or (ends_of logs) i 0) (get_or bs i [])
ends_at k [] [] w none zero = record { long = refl; whole = nothing_whole }
ends_at k [] [] w none (suc i) = record { long = refl; whole = nothing_whole }
ends_at k [] (l ∷ ls) w none i = absurd w
ends_at k (b ∷ bs) [] w none i = absurd w
ends_at k (b ∷ bs) (l ∷ ls) w none zero = record { long = (let tail = w.0.tail_is in let nothing = none.0 in omega (arith, tail, nothing)); whole = whole_here k b l w.0 none.0 }
ends_at k (b ∷ bs) (l ∷ ls) w none (suc i) = ends_at (k + 1) bs ls w.1 none.1 i

-- ---- one log, wherever reading may begin
module _ (facts : Facts) where
  log_below : (n : ℕ) (log : List ℕ) (rs : List LogRecord) → AreWhole log → IsLog log rs → AllByRecursion (IsBelow n) rs → LogBelow n log
  log_below n log rs whole is below start back from = back_all (IsBelow n) from.whole.records back (subst (λ (z : List LogRecord). AllByRecursion (IsBelow n) z) are below)
    where
      front : List LogRecord
      front = from.whole.records

      spelled : log ≡ log_bytes (front ++ back)
      spelled = facts.spell log start back whole from ∙ ap (λ (b : List ℕ). b ++ log_bytes back) from.whole.spelled ∙ sym (flat_map-append record_bytes front back)

      again : IsLog log (front ++ back)
      again = record { tail = []; whole = spelled ∙ sym (append-nil (log_bytes (front ++ back))); allowed = all_join IsAllowed front back from.whole.allowed (facts.allowed log start back whole from); torn = inl refl }

      are : rs ≡ front ++ back
      are = same_records (parts_in log)
          (record { records = rs; size = length (log_bytes rs); tail = length log - length (log_bytes rs) })
          (record { records = front ++ back; size = length (log_bytes (front ++ back)); tail = length log - length (log_bytes (front ++ back)) })
          (facts.sound log rs is)
          (facts.sound log (front ++ back) again)

  nothing_below : (n : ℕ) → LogBelow n []
  nothing_below n = log_below n [] [] nothing_whole (whole_log [] tt) tt

  all_below : (n k : ℕ) (bs : List (List ℕ)) (logs : List Log) → AreWholeLogs k bs logs → HaveNoTails logs → greatest (all_records logs) ≤ n → AllByRecursion (λ (l : Log). EachFollows [] l.records) logs → (i : ℕ) → LogBelow n (get_or bs i [])
  all_below n k [] [] w none high follow zero = nothing_below n
  all_below n k [] [] w none high follow (suc i) = nothing_below n
  all_below n k [] (l ∷ ls) w none high follow i = absurd w
  all_below n k (b ∷ bs) [] w none high follow i = absurd w
  all_below n k (b ∷ bs) (l ∷ ls) w none high follow zero =
      log_below n b l.records (whole_here k b l w.0 none.0) w.0.records_are (follow_below n [] l.records tt (numbers_below n l.records (greatest_parts n l.records (all_records ls) high).0) follow.0)
  all_below n k (b ∷ bs) (l ∷ ls) w none high follow (suc i) = all_below n (k + 1) bs ls w.1 none.1 (greatest_parts n l.records (all_records ls) high).1 follow.1 i

  -- ---- the disk
  pub rests_below : RestsBelow
  rests_below c d counter rest at =
      let same : at ≡ at + 1 - 1 = omega arith in
      let number = rest.number in
      subst (λ (i : ℕ). LogBelow counter (get_or d.logs i [])) same (all_below counter 1 d.logs rest.logs rest.sound.whole_logs rest.no_tails (omega (arith, number)) rest.sound.transactions.follow at)

-- ---- a run from the begin of the restart to its end
pub record Runs : Type 0 where
  pub begin : SoundDisksBegin
  pub begins : RestartBegins
  pub run : RunLeavesSound

ends_behind : (first : List Log) (restart : Restart) (counter : ℕ) (d : Contents) → IsDone first restart counter d → EndsBehind restart d
ends_behind first restart counter d done member =
    let stands = done.ended.rests.stands in
    subst (λ (z : List ℕ). EndsAt (get_or z (member - 1) 0) (log_of d.logs member)) (sym stands.ends) (ends_at 1 d.logs done.logs stands.sound.now.sound.whole_logs stands.sound.tails (member - 1))

pub runs_end : Runs → RunsEnd
runs_end laws w v begun restart counter c d before behind many bytes sound begins (inr stops) = absurd stops.1
runs_end laws w v begun restart counter c d before behind many bytes sound begins (inl ends) =
    let left = laws.begin c bytes sound in
    let told : LeavesSound left.logs (Ok (state.Done counter)) restart d =
    subst (λ (z : Option Contents). Becomes (Some c) z (λ _ e. LeavesSound left.logs (Ok (state.Done counter)) restart e)) behind
    (laws.run left.logs ends.gone.count w ends.mid v begun ends.between restart (Ok (state.Done counter)) c before (laws.begins c left.logs begun left.now many begins) ends.gone.go ends.last) in
    ends_behind left.logs restart counter d told.tells
