-- Where the logs end by the plan of what was read of them, and which of them a restart ends.
use Rattle.std.proofs.Common.{◌≡◌, ℕ, suc, ◌+◌, ◌-◌, ◌≤◌, Bool, true, false, cond, List, [], ◌∷◌, ◌++◌, length, map, get_or, Option, Some, None, inl, inr, refl, sym, ap, subst, ◌∙◌, append_assoc, arith}
use Rattle.std.specs.Prelude.{◌==◌, nat_lt, not, ◌||◌, filter, slice_get}
use Rattle.std.specs.List.{list_any, AllByRecursion}
use Rattle.std.proofs.lemmas.Bool.{cases_Bool, cond_both, or_cases, or_left, or_parts, both_ways, eqb-true}
use Rattle.std.proofs.lemmas.List.{append-nil}
use Rattle.std.proofs.lemmas.List.Folds.{list_any-append}
use Rattle.ds_model.specs.declared.log.LogRecord.{LogRecord}
use Rattle.log_record.specs.declared.log.Log.{Log}
use Rattle.log_trans.specs.declared.opened.OpenTran.{OpenTran}
use Rattle.log_trans.specs.Courses.{open_trans}
use Rattle.restart_plan.specs.declared.opened.Opened.{Opened}
use Rattle.restart_plan.specs.declared.tails.Tail.{Tail}
use Rattle.restart_plan.specs.Ends.{ends_of}
use Rattle.restart_plan.specs.Opened.{nothing_open, closing, closed, with_undo, with_changes, with_tran, with_trans, is_end, with_ending, needs_end, with_last, with_log, with_logs}
use Rattle.restart_plan.specs.Plans.{plan_of}
use Rattle.restart_plan.specs.Tails.{tail_of, tails_of}
use Rattle.sound_disk.specs.Whole_logs.{AreWholeLogs}
use Rattle.sound_plans.specs.Queues.{has_log, records_for, length_for}
use Rattle.sound_plans.proofs.Members.{IsHome, each_home}
use Rattle.sound_reads.specs.Reads.{IsReadOf, AreReadOf}
use Rattle.read_plans.specs.Fits.{TailsAreRead, EndsAreRead, EndsAreKnown, EndsAt, EndingsReadFit}
use Rattle.read_plans.proofs.Members.{same_last, tells_itself}

-- ---- tails

tail_with : ℕ → ℕ → Tail
tail_with member size = record { member = member; length = size }

same_tail : (log read : Log) → IsReadOf log read → tail_of read ≡ tail_of log
unfolding tail_with
same_tail log read h = ap (λ (n : ℕ). tail_with n read.length) h.member_is ∙ ap (tail_with log.member) h.length_is

tails_if : (b : Bool) (read log : Log) (rs ls : List Log) → tail_of read ≡ tail_of log → map tail_of rs ≡ map tail_of ls → map tail_of (cond b (read ∷ rs) rs) ≡ map tail_of (cond b (log ∷ ls) ls)
tails_if true read log rs ls e more = ap (λ (t : Tail). t ∷ map tail_of rs) e ∙ ap (λ (ts : List Tail). tail_of log ∷ ts) more
tails_if false read log rs ls e more = more

same_tails : (logs reads : List Log) → AreReadOf logs reads → tails_of reads ≡ tails_of logs
same_tails [] [] h = refl
same_tails [] (r ∷ rs) h = absurd h
same_tails (l ∷ ls) [] h = absurd h
same_tails (l ∷ ls) (r ∷ rs) h =
    ap (λ (n : ℕ). map tail_of (cond (nat_lt 0 n) (r ∷ filter (λ (x : Log). nat_lt 0 x.tail) rs) (filter (λ (x : Log). nat_lt 0 x.tail) rs))) h.0.tail_is
    ∙ tails_if (nat_lt 0 l.tail) r l (filter (λ (x : Log). nat_lt 0 x.tail) rs) (filter (λ (x : Log). nat_lt 0 x.tail) ls) (same_tail l r h.0) (same_tails ls rs h.1)

pub tails_are_read : TailsAreRead
unfolding plan_of
tails_are_read logs reads are = same_tails logs reads are

-- ---- lengths

same_ends : (logs reads : List Log) → AreReadOf logs reads → ends_of reads ≡ ends_of logs
same_ends [] [] h = refl
same_ends [] (r ∷ rs) h = absurd h
same_ends (l ∷ ls) [] h = absurd h
same_ends (l ∷ ls) (r ∷ rs) h = ap (λ (n : ℕ). n ∷ ends_of rs) h.0.length_is ∙ ap (λ (ns : List ℕ). l.length ∷ ns) (same_ends ls rs h.1)

pub ends_are_read : EndsAreRead
unfolding plan_of
ends_are_read logs reads are = same_ends logs reads are

-- no member of these logs is before the first
has_low : (k m : ℕ) (bytes : List (List ℕ)) (logs : List Log) → AreWholeLogs k bytes logs → has_log logs m ≡ true → k ≤ m
has_low k m [] [] w h = absurd cc
has_low k m [] (l ∷ ls) w h = absurd w
has_low k m (b ∷ bs) [] w h = absurd w
has_low k m (b ∷ bs) (l ∷ ls) w h = elim (or_cases (l.member == m) (has_log ls m) h) as (λ _. k ≤ m) [
  | inl e ↦ let own = w.0.member_is in let is = eqb-true l.member m e in omega (arith, own, is)
  | inr e ↦ let low = has_low (k + 1) m bs ls w.1 e in omega (arith, low)
]

behind_first : (a b : Bool) → a ≡ false → (a || b) ≡ true → b ≡ true
behind_first true b e h = absurd cc
behind_first false b e h = h

known_from : (k m : ℕ) (bytes : List (List ℕ)) (logs : List Log) → AreWholeLogs k bytes logs → has_log logs m ≡ true → get_or (ends_of logs) (m - k) 0 ≡ length_for logs m
known_from k m [] [] w h = absurd cc
known_from k m [] (l ∷ ls) w h = absurd w
known_from k m (b ∷ bs) [] w h = absurd w
known_from k m (b ∷ bs) (l ∷ ls) w h = elim (cases_Bool (l.member == m)) as (λ _. get_or (ends_of (l ∷ ls)) (m - k) 0 ≡ length_for (l ∷ ls) m) [
  | inl e ↦
      let own = w.0.member_is in
      let is = eqb-true l.member m e in
      let first : m - k ≡ 0 = omega (arith, own, is) in
      ap (λ (i : ℕ). get_or (ends_of (l ∷ ls)) i 0) first ∙ sym (ap (λ (x : Bool). cond x l.length (length_for ls m)) e)
  | inr e ↦
      let there : has_log ls m ≡ true = behind_first (l.member == m) (has_log ls m) e h in
      let low = has_low (k + 1) m bs ls w.1 there in
      let place : m - k ≡ suc (m - (k + 1)) = omega (arith, low) in
      ap (λ (i : ℕ). get_or (ends_of (l ∷ ls)) i 0) place ∙ known_from (k + 1) m bs ls w.1 there ∙ sym (ap (λ (x : Bool). cond x l.length (length_for ls m)) e)
]

pub ends_are_known : EndsAreKnown
unfolding plan_of
ends_are_known c logs reads m h are there = ap (λ (ns : List ℕ). get_or ns (m - 1) 0) (same_ends logs reads are) ∙ known_from 1 m c.logs logs h.whole_logs there

-- ---- the members whose logs get an end

wanted : ℕ → List OpenTran → Option LogRecord → List ℕ
wanted m ts None = []
wanted m ts (Some last) = cond (needs_end last ts) (m ∷ []) []

abbrev wanted_of : Log → List ℕ
wanted_of log = wanted log.member (open_trans log.records) (slice_get log.records (length log.records - 1))

all_wanted : List Log → List ℕ
all_wanted [] = []
all_wanted (log ∷ logs) = wanted_of log ++ all_wanted logs

tran_ending : (m lrsn : ℕ) (o : Opened) (t : OpenTran) → (with_tran m lrsn o t).endings ≡ o.endings
tran_ending m lrsn o t =
    let close = closed o (closing m t.id lrsn) in
    let keep = with_undo o (with_changes m t.id true o.undo t.undo) in
    cond_both (t.id == 0) o (cond (length t.undo == 0) close keep) (λ (p : Opened). p.endings ≡ o.endings) (λ z. refl)
    (λ z. cond_both (length t.undo == 0) close keep (λ (p : Opened). p.endings ≡ o.endings) (λ e. refl) (λ e. refl))

trans_ending : (m lrsn : ℕ) (o : Opened) (ts : List OpenTran) → (with_trans m lrsn o ts).endings ≡ o.endings
trans_ending m lrsn o [] = refl
trans_ending m lrsn o (t ∷ ts) = trans_ending m lrsn (with_tran m lrsn o t) ts ∙ tran_ending m lrsn o t

ending_if : (b : Bool) (o : Opened) (m : ℕ) → (cond b (with_ending o m) o).endings ≡ o.endings ++ cond b (m ∷ []) []
ending_if true o m = refl
ending_if false o m = sym (append-nil o.endings)

last_ending : (o : Opened) (m : ℕ) (ts : List OpenTran) (found : Option LogRecord) → (with_last o m ts found).endings ≡ o.endings ++ wanted m ts found
unfolding wanted
last_ending o m ts None = sym (append-nil o.endings)
last_ending o m ts (Some last) = trans_ending m last.lrsn (cond (needs_end last ts) (with_ending o m) o) ts ∙ ending_if (needs_end last ts) o m

logs_ending : (o : Opened) (logs : List Log) → (with_logs o logs).endings ≡ o.endings ++ all_wanted logs
unfolding all_wanted
logs_ending o [] = sym (append-nil o.endings)
logs_ending o (log ∷ logs) =
    logs_ending (with_log o log) logs
    ∙ ap (λ (ms : List ℕ). ms ++ all_wanted logs) (last_ending o log.member (open_trans log.records) (slice_get log.records (length log.records - 1)))
    ∙ append_assoc o.endings (wanted_of log) (all_wanted logs)

-- they are members of logs

each_join : (P : ℕ → Type 0) (xs ys : List ℕ) → AllByRecursion P xs → AllByRecursion P ys → AllByRecursion P (xs ++ ys)
each_join P [] ys h k = k
each_join P (x ∷ xs) ys h k = (h.0, each_join P xs ys h.1 k)

wanted_each : (P : ℕ → Type 0) (m : ℕ) (ts : List OpenTran) (found : Option LogRecord) → P m → AllByRecursion P (wanted m ts found)
unfolding wanted
wanted_each P m ts None h = tt
wanted_each P m ts (Some last) h = cond_both (needs_end last ts) (m ∷ []) [] (AllByRecursion P) (λ e. (h, tt)) (λ e. tt)

wanted_have : (all logs reads : List Log) → AllByRecursion (λ (l : Log). IsHome all l) logs → AreReadOf logs reads → AllByRecursion (λ (m : ℕ). has_log all m ≡ true) (all_wanted reads)
unfolding all_wanted
wanted_have all [] [] home h = tt
wanted_have all [] (r ∷ rs) home h = absurd h
wanted_have all (l ∷ ls) [] home h = absurd h
wanted_have all (l ∷ ls) (r ∷ rs) home h =
    each_join (λ (m : ℕ). has_log all m ≡ true) (wanted_of r) (all_wanted rs)
    (wanted_each (λ (m : ℕ). has_log all m ≡ true) r.member (open_trans r.records) (slice_get r.records (length r.records - 1)) (ap (has_log all) h.0.member_is ∙ home.0.has))
    (wanted_have all ls rs home.1 h.1)

-- and each other log ends already

not_needed : (a b : Bool) → (not a || b) ≡ false → a ≡ true
not_needed true b h = refl
not_needed false b h = absurd cc

listed_not : (n m : ℕ) → (n == m) ≡ true → ((n == m) || false) ≡ false → ⊥
listed_not n m e h = both_ways ((n == m) || false) h (or_left (n == m) false e)

wanted_else : (n m : ℕ) (ts : List OpenTran) (found : Option LogRecord) → (n == m) ≡ true → list_any (λ (k : ℕ). k == m) (wanted n ts found) ≡ false → EndsAt found
unfolding wanted
wanted_else n m ts None e h = tt
wanted_else n m ts (Some last) e h = elim (cases_Bool (needs_end last ts)) as (λ _. is_end last ≡ true) [
  | inl needs ↦ absurd (listed_not n m e (sym (ap (λ (b : Bool). list_any (λ (k : ℕ). k == m) (cond b (n ∷ []) [])) needs) ∙ h))
  | inr ends ↦ not_needed (is_end last) (not (length ts == 0)) ends
]

abbrev last_of : List LogRecord → Option LogRecord
last_of records = slice_get records (length records - 1)

others_end : (reads : List Log) (m : ℕ) → list_any (λ (k : ℕ). k == m) (all_wanted reads) ≡ false → EndsAt (last_of (records_for reads m))
unfolding all_wanted
others_end [] m h = tt
others_end (r ∷ rs) m h =
    let p = or_parts (list_any (λ (k : ℕ). k == m) (wanted_of r)) (list_any (λ (k : ℕ). k == m) (all_wanted rs)) (sym (list_any-append (λ (k : ℕ). k == m) (wanted_of r) (all_wanted rs)) ∙ h) in
    cond_both (r.member == m) r.records (records_for rs m) (λ (xs : List LogRecord). EndsAt (last_of xs))
    (λ e. wanted_else r.member m (open_trans r.records) (slice_get r.records (length r.records - 1)) e p.0) (λ e. others_end rs m p.1)

pub endings_read_fit : EndingsReadFit
unfolding plan_of
endings_read_fit c logs reads h are =
    let all : (with_logs nothing_open reads).endings ≡ all_wanted reads = logs_ending nothing_open reads in
    record {
      has = subst (AllByRecursion (λ (m : ℕ). has_log logs m ≡ true)) (sym all) (wanted_have logs logs reads (each_home c.logs logs h.whole_logs) are);
      others = λ m none. subst EndsAt (same_last {X = Option LogRecord} (λ (rs : List LogRecord). slice_get rs (length rs - 1)) tells_itself logs reads m are) (others_end reads m (ap (λ (ms : List ℕ). list_any (λ (k : ℕ). k == m) ms) (sym all) ∙ none));
    }
