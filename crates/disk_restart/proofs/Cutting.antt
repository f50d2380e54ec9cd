-- Logs whose tails are cut in turn.
use Rattle.std.proofs.Common.{◌≡◌, ◌⊎◌, ℕ, suc, ◌+◌, ◌-◌, ◌<◌, ◌≤◌, true, false, List, [], ◌∷◌, ◌++◌, length, get_or, take, cond, refl, sym, ap, subst, ◌∙◌, arith, inl, inr}
use Rattle.std.specs.Prelude.{map, filter, nat_lt, slice_set as set}
use Rattle.std.proofs.lemmas.Bool.{cases_lt, cases_eq, ltb-false}
use Rattle.std.proofs.lemmas.List.{length-set, length-map, get_or-set_same, get_or-set_other, get_or_past, set_past}
use Rattle.ds_disk.specs.Contents.{log_of}
use Rattle.log_record.specs.declared.log.Log.{Log}
use Rattle.log_reader.specs.Keeping.{HasLastOf}
use Rattle.restart_plan.specs.declared.tails.Tail.{Tail}
use Rattle.restart_plan.specs.Tails.{tail_of, tails_of}
use Rattle.restart_plan.specs.Ends.{ends_of}
use Rattle.disk_restart.specs.Keeping.{lasting}
use Rattle.disk_restart.proofs.Whole.{ReadsSound, IsWhole, whole_as, none_whole, cut_whole, cut_kept, uncut_whole}

-- the logs of a disk, by their places
abbrev pub Logs : Type 0
Logs = List (List ℕ)

abbrev pub log_at : Logs → ℕ → List ℕ
log_at logs i = get_or logs i []

abbrev pub Keeps : Logs → Logs → Type 0
Keeps before after = (i : ℕ) → lasting (log_at after i) ≡ lasting (log_at before i)

-- each is whole records, which end there
abbrev pub AreWhole : List ℕ → Logs → Type 0
AreWhole ends logs = (i : ℕ) → IsWhole (get_or ends i 0) (log_at logs i)

-- ---- one log is written

-- a log after one was written: that one, or as before
at_set : (logs : Logs) (i j : ℕ) (bytes : List ℕ) → ((i ≡ j) × (log_at (set logs i bytes) j ≡ bytes)) ⊎ (log_at (set logs i bytes) j ≡ log_at logs j)
at_set logs i j bytes = elim (cases_eq i j) [
  | inl same ↦ elim (cases_lt i (length logs)) [
    | inl inside ↦ inl (same, ap (log_at (set logs i bytes)) (sym same) ∙ get_or-set_same logs i bytes [] inside)
    | inr past ↦ inr (ap (λ (ls : Logs). log_at ls j) (set_past logs i bytes past))
  ]
  | inr apart ↦ inr (get_or-set_other logs i j bytes [] (λ e. apart (sym e)))
]

pub set_kept : (before logs : Logs) (i : ℕ) (bytes : List ℕ) → Keeps before logs → lasting bytes ≡ lasting (log_at logs i) → Keeps before (set logs i bytes)
set_kept before logs i bytes keeps same j = elim (at_set logs i j bytes) [
  | inl here ↦ ap lasting here.1 ∙ same ∙ ap (λ (k : ℕ). lasting (log_at logs k)) here.0 ∙ keeps j
  | inr there ↦ ap lasting there ∙ keeps j
]

set_here : (ends : List ℕ) (logs : Logs) (i size : ℕ) (bytes : List ℕ) → length ends ≡ length logs → IsWhole (get_or ends i 0) (log_at logs i) → IsWhole size bytes → IsWhole (get_or (set ends i size) i 0) (log_at (set logs i bytes) i)
set_here ends logs i size bytes count whole is = elim (cases_lt i (length logs)) [
  | inl inside ↦ let within : i < length ends = omega arith in
      whole_as (get_or (set ends i size) i 0) size (log_at (set logs i bytes) i) bytes (get_or-set_same ends i size 0 within) (get_or-set_same logs i bytes [] inside) is
  | inr past ↦ let beyond : length ends ≤ i = omega arith in
      whole_as (get_or (set ends i size) i 0) (get_or ends i 0) (log_at (set logs i bytes) i) (log_at logs i) (ap (λ (es : List ℕ). get_or es i 0) (set_past ends i size beyond)) (ap (λ (ls : Logs). log_at ls i) (set_past logs i bytes past)) whole
]

-- the new log ends elsewhere
pub set_whole : (ends : List ℕ) (logs : Logs) (i size : ℕ) (bytes : List ℕ) → length ends ≡ length logs → AreWhole ends logs → IsWhole size bytes → AreWhole (set ends i size) (set logs i bytes)
set_whole ends logs i size bytes count whole is j = elim (cases_eq i j) [
  | inl same ↦ subst (λ (k : ℕ). IsWhole (get_or (set ends i size) k 0) (log_at (set logs i bytes) k)) same (set_here ends logs i size bytes count (whole i) is)
  | inr apart ↦ whole_as (get_or (set ends i size) j 0) (get_or ends j 0) (log_at (set logs i bytes) j) (log_at logs j) (get_or-set_other ends i j size 0 (λ e. apart (sym e))) (get_or-set_other logs i j bytes [] (λ e. apart (sym e))) (whole j)
]

-- ---- tails that are due to be cut

abbrev pub cut : Logs → Tail → Logs
cut logs t = set logs (t.member - 1) (take t.length (log_of logs t.member))

-- each cut keeps the lasting records, and after the last one all logs are whole, and end there
abbrev pub CutsDue : List ℕ → List Tail → Logs → Type 0
CutsDue ends [] logs = AreWhole ends logs
CutsDue ends (t ∷ ts) logs = (lasting (take t.length (log_of logs t.member)) ≡ lasting (log_of logs t.member)) × CutsDue ends ts (cut logs t)

-- these are the logs from this place on
abbrev pub AreFrom : ℕ → List Log → Logs → Type 0
AreFrom i [] bytes = Unit {0}
AreFrom i (log ∷ logs) bytes = (log.member ≡ i + 1) × HasLastOf (log_at bytes i) log × AreFrom (i + 1) logs bytes

-- they end there
abbrev EndFrom : ℕ → List Log → List ℕ → Type 0
EndFrom i [] ends = Unit {0}
EndFrom i (log ∷ logs) ends = (get_or ends i 0 ≡ log.length) × EndFrom (i + 1) logs ends

-- the logs before this place are whole
abbrev AreWholeBelow : List ℕ → ℕ → Logs → Type 0
AreWholeBelow ends i bytes = (j : ℕ) → j < i → IsWhole (get_or ends j 0) (log_at bytes j)

-- what is written before them leaves them
from_set : (i k : ℕ) (new : List ℕ) (logs : List Log) (bytes : Logs) → k < i → AreFrom i logs bytes → AreFrom i logs (set bytes k new)
from_set i k new [] bytes lt are = tt
from_set i k new (log ∷ logs) bytes lt are =
    let other : log_at bytes i ≡ log_at (set bytes k new) i = sym (get_or-set_other bytes k i new [] (λ e. omega arith)) in
    (are.0, subst (λ (b : List ℕ). HasLastOf b log) other are.1, from_set (i + 1) k new logs bytes (omega arith) are.2)

-- one more is whole
more_whole : (ends : List ℕ) (i : ℕ) (bytes : Logs) → AreWholeBelow ends i bytes → IsWhole (get_or ends i 0) (log_at bytes i) → AreWholeBelow ends (i + 1) bytes
more_whole ends i bytes below here j lt = elim (cases_lt j i) [
  | inl less ↦ below j less
  | inr least ↦ let e : i ≡ j = omega arith in subst (λ (k : ℕ). IsWhole (get_or ends k 0) (log_at bytes k)) e here
]

below_set : (ends : List ℕ) (i : ℕ) (new : List ℕ) (bytes : Logs) → AreWholeBelow ends i bytes → AreWholeBelow ends i (set bytes i new)
below_set ends i new bytes below j lt = subst (IsWhole (get_or ends j 0)) (sym (get_or-set_other bytes i j new [] (λ e. omega arith))) (below j lt)

-- behind the last one there is none
past_none : (ends : List ℕ) (j : ℕ) (bytes : Logs) → length ends ≡ length bytes → length bytes ≤ j → IsWhole (get_or ends j 0) (log_at bytes j)
past_none ends j bytes count past = let beyond : length ends ≤ j = omega arith in whole_as (get_or ends j 0) 0 (log_at bytes j) [] (get_or_past ends j 0 beyond) (get_or_past bytes j [] past) none_whole

here_set : (ends : List ℕ) (i : ℕ) (new : List ℕ) (bytes : Logs) → length ends ≡ length bytes → IsWhole (get_or ends i 0) new → IsWhole (get_or ends i 0) (log_at (set bytes i new) i)
here_set ends i new bytes count is = elim (cases_lt i (length bytes)) [
  | inl inside ↦ subst (IsWhole (get_or ends i 0)) (sym (get_or-set_same bytes i new [] inside)) is
  | inr past ↦ subst (λ (ls : Logs). IsWhole (get_or ends i 0) (log_at ls i)) (sym (set_past bytes i new past)) (past_none ends i bytes count past)
]

past_whole : (ends : List ℕ) (i : ℕ) (bytes : Logs) → length ends ≡ length bytes → AreWholeBelow ends i bytes → length bytes ≤ i → AreWhole ends bytes
past_whole ends i bytes count below long j = elim (cases_lt j i) [
  | inl less ↦ below j less
  | inr least ↦ past_none ends j bytes count (omega arith)
]

place : (i member : ℕ) → member ≡ i + 1 → i ≡ member - 1
place i member is = omega arith

no_tail : (n : ℕ) → nat_lt 0 n ≡ false → n ≡ 0
no_tail n e = omega (arith, ltb-false 0 n e)

due_from : ReadsSound → (ends : List ℕ) (i : ℕ) (logs : List Log) (bytes : Logs) → AreFrom i logs bytes → EndFrom i logs ends → AreWholeBelow ends i bytes → length ends ≡ length bytes → length bytes ≤ i + length logs → CutsDue ends (tails_of logs) bytes
due_from sound ends i [] bytes are ended below count long = past_whole ends i bytes count below (omega arith)
due_from sound ends i (log ∷ logs) bytes are ended below count long =
    let its : i ≡ log.member - 1 = place i log.member are.0 in
    let new : List ℕ = take log.length (log_at bytes i) in
    let its_new : IsWhole (get_or ends i 0) new = subst (λ (n : ℕ). IsWhole n new) (sym ended.0) (cut_whole (log_at bytes i) log are.1) in
    let cut_due : CutsDue ends (tails_of logs) (set bytes i new) =
    due_from sound ends (i + 1) logs (set bytes i new) (from_set (i + 1) i new logs bytes (omega arith) are.2) ended.1
    (more_whole ends i (set bytes i new) (below_set ends i new bytes below) (here_set ends i new bytes count its_new))
    (omega (arith, length-set bytes i new, count)) (omega (arith, length-set bytes i new, long)) in
    let there : (k : ℕ) → i ≡ k → (lasting (take log.length (log_at bytes k)) ≡ lasting (log_at bytes k)) × CutsDue ends (tails_of logs) (set bytes k (take log.length (log_at bytes k)))
    = λ k e. subst (λ (q : ℕ). (lasting (take log.length (log_at bytes q)) ≡ lasting (log_at bytes q)) × CutsDue ends (tails_of logs) (set bytes q (take log.length (log_at bytes q)))) e (cut_kept sound (log_at bytes i) log are.1, cut_due) in
    let left : List Log = filter (λ (l : Log). nat_lt 0 l.tail) logs in
    elim (nat_lt 0 log.tail) as (λ b. nat_lt 0 log.tail ≡ b → CutsDue ends (map tail_of (cond b (log ∷ left) left)) bytes) [
      | true ↦ λ e. there (log.member - 1) its
      | false ↦ λ e. due_from sound ends (i + 1) logs bytes are.2 ended.1
          (more_whole ends i bytes below (subst (λ (n : ℕ). IsWhole n (log_at bytes i)) (sym ended.0) (uncut_whole (log_at bytes i) log are.1 (no_tail log.tail e)))) count (omega arith)
    ] refl

-- ---- where they end

behind_first : (x : ℕ) (xs : List ℕ) (i j : ℕ) → j ≡ suc i → get_or (x ∷ xs) j 0 ≡ get_or xs i 0
behind_first x xs i j is = ap (λ (k : ℕ). get_or (x ∷ xs) k 0) is

end_behind : (x : ℕ) (i : ℕ) (logs : List Log) (ends : List ℕ) → EndFrom i logs ends → EndFrom (i + 1) logs (x ∷ ends)
end_behind x i [] ends h = tt
end_behind x i (log ∷ logs) ends h = (behind_first x ends i (i + 1) (omega arith) ∙ h.0, end_behind x (i + 1) logs ends h.1)

end_all : (logs : List Log) → EndFrom 0 logs (ends_of logs)
end_all [] = tt
end_all (log ∷ logs) = (refl, end_behind log.length 0 logs (ends_of logs) (end_all logs))

pub count_all : (logs : List Log) → length (ends_of logs) ≡ length logs
count_all logs = length-map logs (λ (l : Log). l.length)

-- the tails of all logs
pub due_all : ReadsSound → (logs : List Log) (bytes : Logs) → AreFrom 0 logs bytes → length bytes ≡ length logs → CutsDue (ends_of logs) (tails_of logs) bytes
due_all sound logs bytes are long = due_from sound (ends_of logs) 0 logs bytes are (end_all logs) (λ j lt. absurd (omega arith)) (count_all logs ∙ sym long) (omega arith)

-- one more log
pub from_more : (i : ℕ) (logs : List Log) (log : Log) (bytes : Logs) → AreFrom i logs bytes → log.member ≡ i + length logs + 1 → HasLastOf (log_at bytes (i + length logs)) log → AreFrom i (logs ++ log ∷ []) bytes
from_more i [] log bytes are member is =
    let e : i + 0 ≡ i = omega arith in
    (omega arith, subst (λ (k : ℕ). HasLastOf (log_at bytes k) log) e is, tt)
from_more i (l ∷ logs) log bytes are member is =
    let e : i + suc (length logs) ≡ i + 1 + length logs = omega arith in
    (are.0, are.1, from_more (i + 1) logs log bytes are.2 (omega arith) (subst (λ (k : ℕ). HasLastOf (log_at bytes k) log) e is))
