-- What is handed over, and what is freed.
use Rattle.std.proofs.Common.{◌≡◌, ℕ, zero, suc, ◌+◌, ◌-◌, ◌≤◌, refl, sym, ◌∙◌, ap, subst, arith, Bool, true, false, cond, List, [], ◌∷◌, ◌++◌, take, drop, length, inl, inr, Ok, Err}
use Rattle.std.specs.Prelude.{◌≢◌, ◌⊎◌, ◌==◌, not, ◌&&◌, ◌||◌, nat_lt, min, map, filter, if◌then◌else◌, slice_index_or}
use Rattle.std.specs.List.{AllByRecursion}
use Rattle.std.proofs.lemmas.Bool.{and_parts, cases_Bool, or_cases, eq-eqb, eqb-true, ltb-false}
use Rattle.std.proofs.lemmas.List.{take-append-drop}
use Rattle.ds_model.specs.Rows.{Spot}
use Rattle.ds_model.specs.declared.lock.Name.{Name}
use Rattle.ds_model.specs.declared.lock.Name.TheVariants as name
use Rattle.ds_model.specs.declared.log.Body.{Body}
use Rattle.ds_model.specs.declared.log.Body.TheVariants as body
use Rattle.ds_model.specs.declared.log.LogRecord.{LogRecord}
use Rattle.log_trans.specs.declared.opened.OpenTran.{OpenTran}
use Rattle.log_rows.specs.Rows.{BothTell, IsOpenIn, has_row, is_change_of, touches}
use Rattle.facility.specs.declared.command.Command.TheVariants as command
use Rattle.restart_records.specs.declared.names.NameMark.{NameMark}
use Rattle.restart_records.specs.declared.trans.RestartStage.{RestartStage}
use Rattle.restart_records.specs.declared.trans.RestartStage.TheVariants as stage
use Rattle.restart_records.specs.declared.trans.RestartTran.{RestartTran}
use Rattle.restart_records.specs.Names.{NameState, mark_of, no_mark}
use Rattle.restart_records.specs.Trans.{is_open, is_open_stage, kept_in, open_of, opened_among}
use Rattle.restart_marks.specs.declared.intent.RestartIntent.TheVariants as intent
use Rattle.restart_marks.specs.declared.intent.RestartSent.{RestartSent}
use Rattle.restart_marks.specs.declared.intent.RestartSent.TheVariants as sent
use Rattle.restart_marks.specs.declared.intent.RestartTest.TheVariants as test
use Rattle.restart_marks.specs.Needs.{need_of}
use Rattle.restart_marks.specs.OwnNeeds.{recovered_test}
use Rattle.restart_marks.specs.State.{RestartState}
use Rattle.restart_marks.specs.Tested.{Tested, after, passed, when}
use Rattle.restart_law.specs.Opens.{AreNeeded, FewNeeds, IsMarked, IsSpared, OpensStand, OpensTell, OpensTouch, PurgesSpare, PurgesSpareLeft, is_named, is_over, needs_by, needs_in, needs_left, needs_of, needs_still, one_if}
use Rattle.restart_law.proofs.Events.{after_first, holds, when_first, when_rest}
use Rattle.restart_law.proofs.Trans.{AreFrom}

-- ---- the rows of a transaction stay the same where changes of it are taken back
or_swap : (a b c : Bool) → (a || (b || c)) ≡ true → ((a || c) || b) ≡ true
or_swap true b c h = refl
or_swap false true true h = refl
or_swap false true false h = refl
or_swap false false c h = or_last c h
  where
    or_last : (x : Bool) → x ≡ true → (x || false) ≡ true
    or_last true e = refl
    or_last false e = e

pub touches_tran : BothTell → OpensTouch
touches_tran law x s h =
    let n : ℕ = kept_in x in
    let split : (has_row x.tran.undone s || has_row (drop n x.tran.undo) s) ≡ has_row (x.tran.undone ++ drop n x.tran.undo) s = sym (law.rows x.tran.undone (drop n x.tran.undo) s) in
    let whole : has_row x.tran.undo s ≡ (has_row (take n x.tran.undo) s || has_row (drop n x.tran.undo) s) = ap (λ (z : List LogRecord). has_row z s) (sym (take-append-drop n x.tran.undo)) ∙ law.rows (take n x.tran.undo) (drop n x.tran.undo) s in
    ap (λ (z : Bool). z || has_row x.tran.undone s) whole
    ∙ or_swap (has_row (take n x.tran.undo) s) (has_row x.tran.undone s) (has_row (drop n x.tran.undo) s) (ap (λ (z : Bool). has_row (take n x.tran.undo) s || z) split ∙ h)

open_in : BothTell → (records : List LogRecord) (x : RestartTran) → IsOpenIn records x.tran → IsOpenIn records (open_of x)
open_in law records x o = record { numbered = o.numbered; unclosed = o.unclosed; changed = λ s h. o.changed s (touches_tran law x s h) }

among : BothTell → (records : List LogRecord) (xs : List RestartTran) → AreFrom records xs → AllByRecursion (IsOpenIn records) (opened_among xs)
among law records [] f = tt
among law records (x ∷ xs) f = by (among law records xs f.1) (is_open x)
  where
    by : AllByRecursion (IsOpenIn records) (opened_among xs) → (b : Bool) → AllByRecursion (IsOpenIn records) (map open_of (cond b (x ∷ filter is_open xs) (filter is_open xs)))
    by rest true = (open_in law records x f.0, rest)
    by rest false = rest

pub opens_tell : BothTell → OpensTell
opens_tell law s o = among law s.own.records s.trans.list o.from_log

-- ---- a row that was touched needs its name, and that of its table space
abbrev NamesSpot : Spot → Name → Type 0
NamesSpot s n = (n ≡ name.Space s.0) ⊎ (n ≡ name.Row s.0 s.1)

one : (b : Bool) → b ≡ true → 1 ≤ one_if b
one true e = omega arith
one false e = absurd cc

body_needs : (s : Spot) (n : Name) (b : Body) → NamesSpot s n → is_change_of s b ≡ true → 1 ≤ needs_in n b
body_needs s n (body.RowChange c) (inl is) e = subst (λ (z : Name). 1 ≤ one_if (is_named z c)) (sym is) (one (c.table == s.0) (and_parts (c.table == s.0) (c.key == s.1) e).0)
body_needs s n (body.RowChange c) (inr is) e = subst (λ (z : Name). 1 ≤ one_if (is_named z c)) (sym is) (one ((c.table == s.0) && (c.key == s.1)) e)
body_needs s n (body.Compensation c undone) is e = absurd cc
body_needs s n (body.System patches) is e = absurd cc
body_needs s n body.Commit is e = absurd cc
body_needs s n body.Ended is e = absurd cc
body_needs s n (body.Checkpoint offset) is e = absurd cc
body_needs s n body.RestartEnd is e = absurd cc

records_need : (s : Spot) (n : Name) (rs : List LogRecord) → NamesSpot s n → has_row rs s ≡ true → 1 ≤ needs_of n rs
records_need s n [] is e = absurd cc
records_need s n (r ∷ rs) is e = by (or_cases (is_change_of s r.body) (has_row rs s) e) (records_need s n rs is)
  where
    by : (is_change_of s r.body ≡ true) ⊎ (has_row rs s ≡ true) → (has_row rs s ≡ true → 1 ≤ needs_of n rs) → 1 ≤ needs_in n r.body + needs_of n rs
    by (inl h) rest = let p = body_needs s n r.body is h in omega arith
    by (inr h) rest = let p = rest h in omega arith

tran_needs : (s : Spot) (n : Name) (t : OpenTran) → NamesSpot s n → touches t s ≡ true → 1 ≤ needs_by n t
tran_needs s n t is e = by (or_cases (has_row t.undo s) (has_row t.undone s) e)
  where
    by : (has_row t.undo s ≡ true) ⊎ (has_row t.undone s ≡ true) → 1 ≤ needs_of n t.undo + needs_of n t.undone
    by (inl h) = let p = records_need s n t.undo is h in omega arith
    by (inr h) = let p = records_need s n t.undone is h in omega arith

-- ---- a name that isn't needed
open_left : (x : RestartStage) → is_open_stage x ≡ true → is_over x ≡ false
open_left stage.Open e = refl
open_left stage.Ended e = absurd cc
open_left stage.Over e = absurd cc

still_needs : (n : Name) (x : RestartTran) → is_open x ≡ true → needs_still n x ≡ needs_by n x.tran
still_needs n x opened = ap (λ (b : Bool). if b then 0 else needs_by n x.tran) (open_left x.stage opened)

spares : BothTell → (n : Name) (x : RestartTran) → is_open x ≡ true → needs_still n x ≤ 0 → IsSpared n (open_of x)
spares law n x opened none s h = (λ is. never (inl is), λ is. never (inr is))
  where
    never : NamesSpot s n → ⊥
    never is =
        let p = tran_needs s n x.tran is (touches_tran law x s h) in
        let q = still_needs n x opened in
        omega arith

all_spared : BothTell → (n : Name) (xs : List RestartTran) → needs_left n xs ≤ 0 → AllByRecursion (IsSpared n) (opened_among xs)
all_spared law n [] none = tt
all_spared law n (x ∷ xs) none = by (all_spared law n xs (omega arith)) (is_open x) refl
  where
    by : AllByRecursion (IsSpared n) (opened_among xs) → (b : Bool) → is_open x ≡ b → AllByRecursion (IsSpared n) (map open_of (cond b (x ∷ filter is_open xs) (filter is_open xs)))
    by rest true opened = (spares law n x opened (omega arith), rest)
    by rest false opened = rest

-- ---- a name whose record is freed is known as retained, and isn't needed
tests_first : (t rest : Tested) → holds (after t rest) ≡ true → holds t ≡ true
tests_first (Ok x) rest h = refl
tests_first (Err t) rest h = h

past : (xs : List NameMark) (i : ℕ) → length xs ≤ i → slice_index_or xs i no_mark ≡ no_mark
past [] i le = refl
past (x ∷ xs) zero le = absurd (omega arith)
past (x ∷ xs) (suc i) le = past xs i (omega arith)

unmarked : (m : NameMark) → m ≡ no_mark → m.retained ≡ true → ⊥
unmarked m e r = by_false (sym (ap (λ (z : NameMark). z.retained) e) ∙ r)
  where
    by_false : false ≡ true → ⊥
    by_false q = cc

is_marked : (names : NameState) (n : Name) → (mark_of names n).retained ≡ true → IsMarked names n
is_marked names (name.Space t) r = by (nat_lt t (length names.spaces)) refl
  where
    by : (b : Bool) → nat_lt t (length names.spaces) ≡ b → nat_lt t (length names.spaces) ≡ true
    by true e = e
    by false e = absurd (unmarked (mark_of names (name.Space t)) (past names.spaces t (ltb-false t (length names.spaces) e)) r)
is_marked names (name.Row t k) r = tt
is_marked names (name.Page p) r = absurd (unmarked no_mark refl r)
is_marked names (name.Set n) r = absurd (unmarked no_mark refl r)

pub purges_spare : BothTell → PurgesSpare
purges_spare law s n x o few e =
    let mark : NameMark = mark_of s.names n in
    let unneeded : Tested = when (mark.needed == 0) test.StillNeeded passed in
    let own : Tested = when mark.retained test.NotRetained unneeded in
    let rest : Tested = after (recovered_test s) (when (not s.hand.changed) test.StillChanged (when (length s.log.pending == 0) test.StillPending passed)) in
    let first : holds own ≡ true = tests_first own rest (after_first (after own rest) (Ok (sent.Command (command.Purge n))) x e) in
    let retained : mark.retained ≡ true = when_first mark.retained test.NotRetained unneeded first in
    let none : (mark.needed == 0) ≡ true = when_first (mark.needed == 0) test.StillNeeded passed (when_rest mark.retained test.NotRetained unneeded first) in
    let zero_needed : (mark_of s.names n).needed ≡ 0 = eqb-true (mark_of s.names n).needed 0 none in
    let most = o.needed few n (is_marked s.names n retained) in
    all_spared law n s.trans.list (omega arith)

-- ---- all that aren't over
going_needs : (n : Name) (x : RestartTran) → is_over x.stage ≡ false → needs_still n x ≡ needs_by n x.tran
going_needs n x going = ap (λ (b : Bool). if b then 0 else needs_by n x.tran) going

left_spared : (n : Name) (xs : List RestartTran) → needs_left n xs ≤ 0 → AllByRecursion (λ (y : RestartTran). is_over y.stage ≡ false → IsSpared n y.tran) xs
left_spared n [] none = tt
left_spared n (x ∷ xs) none = (λ going s h. (λ is. never going s h (inl is), λ is. never going s h (inr is)), left_spared n xs (omega arith))
  where
    never : is_over x.stage ≡ false → (s : Spot) → touches x.tran s ≡ true → NamesSpot s n → ⊥
    never going s h is =
        let p = tran_needs s n x.tran is h in
        let q = going_needs n x going in
        omega arith

pub purges_spare_left : PurgesSpareLeft
purges_spare_left s n x o few e =
    let mark : NameMark = mark_of s.names n in
    let unneeded : Tested = when (mark.needed == 0) test.StillNeeded passed in
    let own : Tested = when mark.retained test.NotRetained unneeded in
    let rest : Tested = after (recovered_test s) (when (not s.hand.changed) test.StillChanged (when (length s.log.pending == 0) test.StillPending passed)) in
    let first : holds own ≡ true = tests_first own rest (after_first (after own rest) (Ok (sent.Command (command.Purge n))) x e) in
    let retained : mark.retained ≡ true = when_first mark.retained test.NotRetained unneeded first in
    let none : (mark.needed == 0) ≡ true = when_first (mark.needed == 0) test.StillNeeded passed (when_rest mark.retained test.NotRetained unneeded first) in
    let zero_needed : (mark_of s.names n).needed ≡ 0 = eqb-true (mark_of s.names n).needed 0 none in
    let most = o.needed few n (is_marked s.names n retained) in
    left_spared n s.trans.list (omega arith)
