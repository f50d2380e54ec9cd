-- What is known of one row, and what it tells.
use Rattle.std.proofs.Common.{◌≡◌, ℕ, zero, suc, ◌+◌, ◌-◌, ◌<◌, ◌≤◌, Bool, true, false, cond, List, [], ◌∷◌, ◌++◌, length, Option, Some, None, is_some, refl, sym, ap, subst, ◌∙◌, arith}
use Rattle.std.specs.Prelude.{◌==◌, nat_lt, not, ◌&&◌, ◌||◌, filter}
use Rattle.std.specs.List.{list_any, list_all}
use Rattle.std.specs.FinMap.{get}
use Rattle.std.proofs.lemmas.Bool.Decides.{nat_tests}
use Rattle.ds_model.specs.declared.log.LogRecord.{LogRecord}
use Rattle.ds_model.specs.Logs.{has_commit}
use Rattle.sound_disk.specs.Settled.{is_row_change, is_settled, is_open}
use Rattle.row_turns.specs.declared.row.RowTurn.{RowTurn}
use Rattle.row_turns.specs.Orders.{has_undone, is_taken_back}
use Rattle.row_turns.specs.States.{Waiting, is_waiting, left_by, may_change, changed_by}
use Rattle.row_turns.specs.Scans.{is_of, changes_at, row_left_with, row_left, is_untaken, is_others, IsRow, IsRowOr, some_if, is_waiting_of, is_fair}
use Rattle.row_turns.proofs.Tallies.{and_left, and_right, and_both, or_false, or_left, or_right, not_true, by_bool, clash, not_if, any_push, all_push, count_most, count_zero, count_none, all_fail, all_less, all_two, none_all, every}
use Rattle.row_turns.proofs.Behind.{same, itself, commit_kept, undone_kept, IsPlain, settled_kept, open_kept, count_next, row_of, row_at, of_at, left_push, left_agree, left_kept, left_none}

-- ---- tests of a change

-- what a change of the row by the transaction is, where it is settled
others_cases : (ch tr st : Bool) → (not ch || tr || st) ≡ true → ch ≡ true → tr ≡ false → st ≡ true
others_cases true false st h c t = h
others_cases true true st h c t = absurd (clash true refl t)
others_cases false tr st h c t = absurd (clash false c refl)

pub others_of : (ch tr st : Bool) → (ch ≡ true → tr ≡ false → st ≡ true) → (not ch || tr || st) ≡ true
others_of true true st h = refl
others_of true false st h = h refl refl
others_of false tr st h = refl

-- it is settled, and not committed
pub taken_if : (co tk : Bool) → (co || tk) ≡ true → co ≡ false → tk ≡ true
taken_if true tk h c = absurd (clash true refl c)
taken_if false tk h c = h

untaken_parts : (ch tr tk : Bool) → (ch && (tr && not tk)) ≡ true → (ch ≡ true) × (tr ≡ true) × (tk ≡ false)
untaken_parts true true false h = (refl, refl, refl)
untaken_parts true true true h = absurd (clash false h refl)
untaken_parts true false tk h = absurd (clash false h refl)
untaken_parts false tr tk h = absurd (clash false h refl)

pub untaken_of : (ch tr tk : Bool) → ch ≡ true → tr ≡ true → tk ≡ false → (ch && (tr && not tk)) ≡ true
untaken_of true true false a b c = refl
untaken_of true true true a b c = absurd (clash true refl c)
untaken_of true false tk a b c = absurd (clash false b refl)
untaken_of false tr tk a b c = absurd (clash false a refl)

not_untaken : (ch tr tk : Bool) → not (ch && (tr && not tk)) ≡ true → ch ≡ true → tr ≡ true → tk ≡ true
not_untaken true true true h a b = refl
not_untaken true true false h a b = absurd (clash false h refl)
not_untaken true false tk h a b = absurd (clash false b refl)
not_untaken false tr tk h a b = absurd (clash false a refl)

pub waiting_of : (fo tr row co tk : Bool) → fo ≡ true → tr ≡ true → row ≡ true → co ≡ false → tk ≡ false → (fo && (tr && (row && not (co || tk)))) ≡ true
waiting_of true true true false false a b c d e = refl
waiting_of true true true false true a b c d e = absurd (clash true refl e)
waiting_of true true true true tk a b c d e = absurd (clash true refl d)
waiting_of true true false co tk a b c d e = absurd (clash false c refl)
waiting_of true false row co tk a b c d e = absurd (clash false b refl)
waiting_of false tr row co tk a b c d e = absurd (clash false a refl)

not_waiting_of : (fo tr row co tk : Bool) → not (fo && (tr && (row && not (co || tk)))) ≡ true → fo ≡ true → tr ≡ true → row ≡ true → (co || tk) ≡ true
not_waiting_of true true true true tk h a b c = refl
not_waiting_of true true true false true h a b c = refl
not_waiting_of true true true false false h a b c = absurd (clash false h refl)
not_waiting_of true true false co tk h a b c = absurd (clash false c refl)
not_waiting_of true false row co tk h a b c = absurd (clash false b refl)
not_waiting_of false tr row co tk h a b c = absurd (clash false a refl)

waiting_uncommitted : (fo tr row co tk : Bool) → co ≡ true → (fo && (tr && (row && not (co || tk)))) ≡ false
waiting_uncommitted true true true true tk h = refl
waiting_uncommitted true true true false tk h = absurd (clash false h refl)
waiting_uncommitted true true false co tk h = refl
waiting_uncommitted true false row co tk h = refl
waiting_uncommitted false tr row co tk h = refl

other_tran : (fo tr o : Bool) → tr ≡ false → (fo && (tr && o)) ≡ false
other_tran true true o h = absurd (clash true refl h)
other_tran true false o h = refl
other_tran false tr o h = refl

second_of : (a b : Bool) → (a || b) ≡ true → a ≡ false → b ≡ true
second_of true b h e = absurd (clash true refl e)
second_of false b h e = h

neither_first : (a b : Bool) → (a || b) ≡ false → a ≡ false
neither_first true b h = absurd (clash true refl h)
neither_first false b h = refl

neither_second : (a b : Bool) → (a || b) ≡ false → b ≡ false
neither_second true b h = absurd (clash true refl h)
neither_second false b h = h

not_false : (a : Bool) → not a ≡ false → a ≡ true
not_false true h = refl
not_false false h = absurd (clash true refl h)

or_left3 : (a b c : Bool) → a ≡ true → (a || b || c) ≡ true
or_left3 true b c h = refl
or_left3 false b c h = absurd (clash false h refl)

or_rest3 : (a b c d : Bool) → a ≡ false → (b || c) ≡ d → (a || b || c) ≡ d
or_rest3 true b c d h e = absurd (clash true refl h)
or_rest3 false b c d h e = e

-- ---- transactions that wait

-- how many row changes of these tables of a transaction are open
abbrev pub waiting_count : (ℕ → Bool) → ℕ → List LogRecord → ℕ
waiting_count has tran rs = length (filter (is_waiting_of has tran rs) rs)

abbrev pub Waits : (ℕ → Bool) → List LogRecord → Waiting → Type 0
Waits has rs waiting = (tran : ℕ) → get waiting tran ≡ some_if (waiting_count has tran rs)

abbrev pub Apart : List LogRecord → Type 0
Apart rs = (tran : ℕ) → has_undone rs tran ≡ true → has_commit rs tran ≡ false

pub none_zero : (n : ℕ) → is_some (some_if n) ≡ false → n ≡ 0
none_zero zero h = refl
none_zero (suc n) h = absurd cc

pub some_more : (n : ℕ) → is_some (some_if n) ≡ true → 1 ≤ n
some_more zero h = absurd cc
some_more (suc n) h = omega arith

tran_commit : (rs : List LogRecord) (m n : ℕ) (b : Bool) → (m == n) ≡ true → has_commit rs n ≡ b → has_commit rs m ≡ b
tran_commit rs m n b e h = ap (λ (t : ℕ). has_commit rs t) (same m n e) ∙ h

-- one that waits has no Commit
pub waits_open : (has : ℕ → Bool) (rs : List LogRecord) (tran : ℕ) → 1 ≤ waiting_count has tran rs → has_commit rs tran ≡ false
waits_open has rs tran some = not_if (has_commit rs tran) (λ committed.
    let zero_more : waiting_count has tran rs ≡ 0 =
    count_zero (λ (s : LogRecord). true) (is_waiting_of has tran rs) rs (every rs)
    (λ s _. by_bool (s.tran == tran) (is_waiting_of has tran rs s ≡ false)
    (λ e. waiting_uncommitted (is_of has s.body) (s.tran == tran) (is_row_change s.body) (has_commit rs s.tran) (is_taken_back rs s.lrsn) (tran_commit rs s.tran tran true e committed))
    (λ e. other_tran (is_of has s.body) (s.tran == tran) (is_open rs s) e)) in
    omega (arith, zero_more, some))

-- ---- what a row tells

abbrev pub At : ℕ → ℕ → LogRecord → Bool
At table key s = changes_at table key s.body

-- a change of the transaction that isn't taken back waits
untaken_waits : (has : ℕ → Bool) (table key tran : ℕ) (rs : List LogRecord) → has table ≡ true → has_commit rs tran ≡ false → length (filter (is_untaken table key tran rs) rs) ≤ waiting_count has tran rs
untaken_waits has table key tran rs own open_still =
    count_most (λ (s : LogRecord). true) (is_untaken table key tran rs) (is_waiting_of has tran rs) rs (every rs) (λ s _ h.
    let p = untaken_parts (At table key s) (s.tran == tran) (is_taken_back rs s.lrsn) h in
    waiting_of (is_of has s.body) (s.tran == tran) (is_row_change s.body) (has_commit rs s.tran) (is_taken_back rs s.lrsn)
    (of_at has table key s.body own p.0) p.1 (row_at table key s.body p.0) (tran_commit rs s.tran tran false p.1 open_still) p.2)

-- all of its changes of the row are settled
abbrev pub Free : ℕ → ℕ → List LogRecord → Type 0
Free table key rs = list_all (λ (s : LogRecord). not (At table key s) || false || is_settled rs s) rs ≡ true

free_by : (table key : ℕ) (rs : List LogRecord) (h : RowTurn) (g : LogRecord → Bool) → IsRow table key rs h → list_all g rs ≡ true
    → ((s : LogRecord) → g s ≡ true → At table key s ≡ true → (s.tran == h.tran) ≡ true → is_settled rs s ≡ true) → Free table key rs
free_by table key rs h g row all its =
    all_less (λ (s : LogRecord). is_others table key h.tran rs s && g s) (λ (s : LogRecord). not (At table key s) || false || is_settled rs s) rs
    (all_two (is_others table key h.tran rs) g rs row.others all) (λ s both.
    others_of (At table key s) false (is_settled rs s) (λ at _. by_bool (s.tran == h.tran) (is_settled rs s ≡ true)
    (λ e. its s (and_right (is_others table key h.tran rs s) (g s) both) at e)
    (λ e. others_cases (At table key s) (s.tran == h.tran) (is_settled rs s) (and_left (is_others table key h.tran rs s) (g s) both) at e)))

zero_is : (n : ℕ) → (n == 0) ≡ true → n ≡ 0
zero_is n h = same n 0 h

settled_by_taken : (co tk : Bool) → tk ≡ true → (co || tk) ≡ true
settled_by_taken co tk h = or_right co tk h

-- where all of them are taken back
taken_free : (table key : ℕ) (rs : List LogRecord) (h : RowTurn) → Apart rs → IsRow table key rs h → h.untaken ≡ 0 → Free table key rs
taken_free table key rs h apart row none =
    let uncommitted : has_commit rs h.tran ≡ false = apart h.tran (row.undone none) in
    let count : length (filter (is_untaken table key h.tran rs) rs) ≡ 0 = sym (row.untaken_is uncommitted) ∙ none in
    free_by table key rs h (λ (s : LogRecord). not (is_untaken table key h.tran rs s)) row (all_fail (is_untaken table key h.tran rs) rs count)
    (λ s fails at e. settled_by_taken (has_commit rs s.tran) (is_taken_back rs s.lrsn) (not_untaken (At table key s) (s.tran == h.tran) (is_taken_back rs s.lrsn) fails at e))

-- where the transaction doesn't wait
idle_free : (has : ℕ → Bool) (table key : ℕ) (rs : List LogRecord) (h : RowTurn) → has table ≡ true → IsRow table key rs h → waiting_count has h.tran rs ≡ 0 → Free table key rs
idle_free has table key rs h own row none =
    free_by table key rs h (λ (s : LogRecord). not (is_waiting_of has h.tran rs s)) row (all_fail (is_waiting_of has h.tran rs) rs none)
    (λ s fails at e. not_waiting_of (is_of has s.body) (s.tran == h.tran) (is_row_change s.body) (has_commit rs s.tran) (is_taken_back rs s.lrsn) fails (of_at has table key s.body own at) e (row_at table key s.body at))

-- where it doesn't wait, though a change isn't taken back, it has committed
idle_committed : (has : ℕ → Bool) (table key : ℕ) (rs : List LogRecord) (h : RowTurn) → has table ≡ true → IsRow table key rs h → waiting_count has h.tran rs ≡ 0 → 1 ≤ h.untaken → has_commit rs h.tran ≡ true
idle_committed has table key rs h own row none some = by_bool (has_commit rs h.tran) (has_commit rs h.tran ≡ true) (λ e. e) (λ e.
    let le = untaken_waits has table key h.tran rs own e in
    let is = row.untaken_is e in
    absurd (omega (arith, le, is, none, some)))

above : (n : ℕ) → (n == 0) ≡ false → 1 ≤ n
above n h = grind (arith, nat_tests)

above_lt : (n : ℕ) → nat_lt 0 n ≡ true → 1 ≤ n
above_lt n h = grind (arith, nat_tests)

not_above : (n : ℕ) → nat_lt 0 n ≡ false → n ≡ 0
not_above n h = grind (arith, nat_tests)

is_idle : (has : ℕ → Bool) (rs : List LogRecord) (waiting : Waiting) (tran : ℕ) → Waits has rs waiting → is_waiting waiting tran ≡ false → waiting_count has tran rs ≡ 0
is_idle has rs waiting tran w h = none_zero (waiting_count has tran rs) (sym (ap is_some (w tran)) ∙ h)

is_busy : (has : ℕ → Bool) (rs : List LogRecord) (waiting : Waiting) (tran : ℕ) → Waits has rs waiting → is_waiting waiting tran ≡ true → 1 ≤ waiting_count has tran rs
is_busy has rs waiting tran w h = some_more (waiting_count has tran rs) (sym (ap is_some (w tran)) ∙ h)

-- the transaction may change the row
pub free_if : (has : ℕ → Bool) (table key : ℕ) (rs : List LogRecord) (waiting : Waiting) (h : RowTurn) → has table ≡ true → Waits has rs waiting → Apart rs → IsRow table key rs h
    → ((h.untaken == 0) || not (is_waiting waiting h.tran)) ≡ true → Free table key rs
free_if has table key rs waiting h own w apart row may =
    by_bool (h.untaken == 0) (Free table key rs)
    (λ e. taken_free table key rs h apart row (zero_is h.untaken e))
    (λ e. idle_free has table key rs h own row (is_idle has rs waiting h.tran w (not_true (is_waiting waiting h.tran) (second_of (h.untaken == 0) (not (is_waiting waiting h.tran)) may e))))

left_when : (has : ℕ → Bool) (table key : ℕ) (rs : List LogRecord) (waiting : Waiting) (h : RowTurn) → has table ≡ true → Waits has rs waiting → Apart rs → IsRow table key rs h → (b w : Bool) → nat_lt 0 h.untaken ≡ b → is_waiting waiting h.tran ≡ w
    → row_left table key (has_commit rs) rs ≡ cond (b && not w) h.is_there h.was_there
left_when has table key rs waiting h own w apart row true true e f = row.was (waits_open has rs h.tran (is_busy has rs waiting h.tran w f))
left_when has table key rs waiting h own w apart row true false e f = row.there (has_commit rs) (idle_committed has table key rs h own row (is_idle has rs waiting h.tran w f) (above_lt h.untaken e))
left_when has table key rs waiting h own w apart row false x e f = row.was (apart h.tran (row.undone (not_above h.untaken e)))

-- what the committed changes leave
pub left_is : (has : ℕ → Bool) (table key : ℕ) (rs : List LogRecord) (waiting : Waiting) (h : RowTurn) → has table ≡ true → Waits has rs waiting → Apart rs → IsRow table key rs h → row_left table key (has_commit rs) rs ≡ left_by waiting h
left_is has table key rs waiting h own w apart row =
    left_when has table key rs waiting h own w apart row (nat_lt 0 h.untaken) (is_waiting waiting h.tran) refl refl

-- ---- whether it is in turn

others_same : (table key m n : ℕ) (rs : List LogRecord) → m ≡ n → list_all (is_others table key m rs) rs ≡ true → list_all (is_others table key n rs) rs ≡ true
others_same table key m n rs e h = subst (λ (t : ℕ). list_all (is_others table key t rs) rs ≡ true) e h

free_others : (table key tran : ℕ) (rs : List LogRecord) → Free table key rs → list_all (is_others table key tran rs) rs ≡ true
free_others table key tran rs free =
    all_less (λ (s : LogRecord). not (At table key s) || false || is_settled rs s) (is_others table key tran rs) rs free
    (λ s f. others_of (At table key s) (s.tran == tran) (is_settled rs s) (λ at _. others_cases (At table key s) false (is_settled rs s) f at refl))

open_out : (has : ℕ → Bool) (table key : ℕ) (rs : List LogRecord) (h : RowTurn) (tran : ℕ) → IsRow table key rs h → (h.tran == tran) ≡ false → 1 ≤ h.untaken → has_commit rs h.tran ≡ false → list_all (is_others table key tran rs) rs ≡ false
open_out has table key rs h tran row other some uncommitted = not_if (list_all (is_others table key tran rs) rs) (λ all.
    let none : length (filter (is_untaken table key h.tran rs) rs) ≡ 0 =
    count_zero (is_others table key tran rs) (is_untaken table key h.tran rs) rs all (λ s o. not_if (is_untaken table key h.tran rs s) (λ u.
    let p = untaken_parts (At table key s) (s.tran == h.tran) (is_taken_back rs s.lrsn) u in
    let differs : (s.tran == tran) ≡ false = ap (λ (n : ℕ). n == tran) (same s.tran h.tran p.1) ∙ other in
    let settled : is_settled rs s ≡ true = others_cases (At table key s) (s.tran == tran) (is_settled rs s) o p.0 differs in
    clash (is_taken_back rs s.lrsn) (taken_if (has_commit rs s.tran) (is_taken_back rs s.lrsn) settled (tran_commit rs s.tran h.tran false p.1 uncommitted)) p.2)) in
    let is = row.untaken_is uncommitted in
    omega (arith, none, is, some))

pub may_is : (has : ℕ → Bool) (table key : ℕ) (rs : List LogRecord) (waiting : Waiting) (o : Option RowTurn) (tran : ℕ) → has table ≡ true → Waits has rs waiting → Apart rs → IsRowOr table key rs o
    → may_change waiting o tran ≡ list_all (is_others table key tran rs) rs
may_is has table key rs waiting None tran own w apart none = sym (none_all (At table key) (is_others table key tran rs) rs none (λ s h. others_of (At table key s) (s.tran == tran) (is_settled rs s) (λ at _. absurd (clash (At table key s) at h))))
may_is has table key rs waiting (Some h) tran own w apart row =
    by_bool (h.tran == tran) (may_change waiting (Some h) tran ≡ list_all (is_others table key tran rs) rs)
    (λ e. or_left3 (h.tran == tran) (h.untaken == 0) (not (is_waiting waiting h.tran)) e ∙ sym (others_same table key h.tran tran rs (same h.tran tran e) row.others))
    (λ e. by_bool ((h.untaken == 0) || not (is_waiting waiting h.tran)) (may_change waiting (Some h) tran ≡ list_all (is_others table key tran rs) rs)
    (λ f. or_rest3 (h.tran == tran) (h.untaken == 0) (not (is_waiting waiting h.tran)) true e f ∙ sym (free_others table key tran rs (free_if has table key rs waiting h own w apart row f)))
    (λ f.
    let busy : 1 ≤ waiting_count has h.tran rs = is_busy has rs waiting h.tran w (not_false (is_waiting waiting h.tran) (neither_second (h.untaken == 0) (not (is_waiting waiting h.tran)) f)) in
    or_rest3 (h.tran == tran) (h.untaken == 0) (not (is_waiting waiting h.tran)) false e f
    ∙ sym (open_out has table key rs h tran row e (above h.untaken (neither_first (h.untaken == 0) (not (is_waiting waiting h.tran)) f)) (waits_open has rs h.tran busy))))
