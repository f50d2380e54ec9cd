-- The scan, behind one record more.
use Rattle.std.proofs.Common.{◌≡◌, ℕ, zero, suc, ◌+◌, Bool, true, false, cond, List, [], ◌∷◌, ◌++◌, length, Option, Some, None, Result, Ok, Err, is_some, refl, sym, ap, subst, ◌∙◌, append_assoc, arith, length-append}
use Rattle.std.specs.Prelude.{◌==◌, not, ◌&&◌, ◌||◌, OnOk}
use Rattle.std.specs.List.{list_any, list_all}
use Rattle.std.specs.Ordering.{nat_cmp}
use Rattle.std.specs.FinMap.{get, empty, get-empty}
use Rattle.std.proofs.lemmas.List.{append-nil}
use Rattle.ds_model.specs.declared.log.LogRecord.{LogRecord}
use Rattle.ds_model.specs.declared.log.RowChange.{RowChange}
use Rattle.ds_model.specs.declared.log.Body.{Body}
use Rattle.ds_model.specs.declared.log.Body.TheVariants as body
use Rattle.ds_model.specs.Rows.{spot_cmp}
use Rattle.ds_model.specs.Logs.{is_commit}
use Rattle.redone_pages.specs.declared.range.TableRange.{TableRange}
use Rattle.redone_pages.specs.Ranges.{has_table}
use Rattle.sound_disk.specs.Settled.{is_row_change, takes_back, is_settled}
use Rattle.sound_disk.specs.Turns.{lets, is_in_turn}
use Rattle.row_turns.specs.declared.row.RowTurn.{RowTurn}
use Rattle.row_turns.specs.declared.held.Held.{Held}
use Rattle.row_turns.specs.declared.told.OutOfTurn.{OutOfTurn}
use Rattle.row_turns.specs.declared.scan.Turns.{Turns}
use Rattle.row_turns.specs.Orders.{is_compensation, is_taken_back, has_undone, is_early, TakesBackOne, BodyMayTurn, MayTurn, AreOrderly}
use Rattle.row_turns.specs.States.{nothing_held, may_change, row_changed, row_taken_back, turned, is_let}
use Rattle.row_turns.specs.Steps.{out_with, held_with, next_out, next_held}
use Rattle.row_turns.specs.Scans.{is_of, is_out, first_out_in, changes_at, is_others, is_fair, marks_commits, IsRowOr, IsHeld, AreScanned, IsTurning}
use Rattle.row_turns.proofs.Tallies.{or_false, by_bool, clash}
use Rattle.row_turns.proofs.Behind.{same, IsPlain, taken_kept, row_is_at}
use Rattle.row_turns.proofs.Holding.{Waits, Apart, At, may_is}
use Rattle.row_turns.proofs.HeldSteps.{apart_rows, held_off, held_change, held_commit, held_elsewhere, held_undone}

-- ---- whether a record is let

all_agree : (p q : LogRecord → Bool) → ((r : LogRecord) → p r ≡ q r) → (rs : List LogRecord) → list_all p rs ≡ list_all q rs
all_agree p q h [] = refl
all_agree p q h (r ∷ rs) = ap (λ (b : Bool). b && list_all p rs) (h r) ∙ ap (λ (b : Bool). q r && b) (all_agree p q h rs)

twice : (b : Bool) → b ≡ not (not b)
twice true = refl
twice false = refl

lets_row : (has : ℕ → Bool) (early : Bool) (rs : List LogRecord) (it : Held) (tran : ℕ) (c : RowChange) → IsHeld has early rs it → (b : Bool) → has c.table ≡ b
    → cond b (may_change it.waiting (get it.rows (c.table, c.key)) tran) true ≡ not (b && not (list_all (λ (s : LogRecord). lets rs tran c s) rs))
lets_row has early rs it tran c h true own =
    may_is has c.table c.key rs it.waiting (get it.rows (c.table, c.key)) tran own h.waiting_is h.apart (h.rows_are c.table c.key own)
    ∙ sym (all_agree (λ (s : LogRecord). lets rs tran c s) (is_others c.table c.key tran rs) (λ s. ap (λ (b : Bool). not b || (s.tran == tran) || is_settled rs s) (row_is_at c s.body)) rs)
    ∙ twice (list_all (λ (s : LogRecord). lets rs tran c s) rs)
lets_row has early rs it tran c h false own = refl

let_is : (has : ℕ → Bool) (early : Bool) (rs : List LogRecord) (it : Held) (tran : ℕ) (b : Body) → IsHeld has early rs it → is_let has it tran b ≡ not (is_of has b && not (is_in_turn rs tran b))
let_is has early rs it tran (body.RowChange c) h = lets_row has early rs it tran c h (has c.table) refl
let_is has early rs it tran (body.Compensation c undone) h = refl
let_is has early rs it tran (body.System patches) h = refl
let_is has early rs it tran body.Commit h = refl
let_is has early rs it tran body.Ended h = refl
let_is has early rs it tran (body.Checkpoint offset) h = refl
let_is has early rs it tran body.RestartEnd h = refl

-- ---- what is held behind a record that is let

fair_change : (row tk un : Bool) → tk ≡ false → (not row || not tk || un) ≡ true
fair_change true true un h = absurd (clash true refl h)
fair_change true false un h = refl
fair_change false tk un h = refl

fair_quiet : (row tk un : Bool) → row ≡ false → (not row || not tk || un) ≡ true
fair_quiet true tk un h = absurd (clash true refl h)
fair_quiet false tk un h = refl

plain : (b d : Body) → b ≡ d → is_commit d ≡ false → ((lrsn : ℕ) → takes_back lrsn d ≡ false) → is_compensation d ≡ false → IsPlain b
plain b d e commit takes comp = record { commit = ap is_commit e ∙ commit; takes = λ lrsn. ap (takes_back lrsn) e ∙ takes lrsn; comp = ap is_compensation e ∙ comp }

-- one of no row
held_quiet : (has : ℕ → Bool) (early : Bool) (rs : List LogRecord) (r : LogRecord) (it : Held) (d : Body) → r.body ≡ d → is_commit d ≡ false → ((lrsn : ℕ) → takes_back lrsn d ≡ false) → is_compensation d ≡ false → is_row_change d ≡ false → is_of has d ≡ false
    → ((table key : ℕ) → changes_at table key d ≡ false) → IsHeld has early rs it → IsHeld has early (rs ++ r ∷ []) it
held_quiet has early rs r it d e commit takes comp row of off h =
    held_off has early rs r it (plain r.body d e commit takes comp) (ap (is_of has) e ∙ of) (λ table key own. ap (changes_at table key) e ∙ off table key)
    (fair_quiet (is_row_change r.body) (is_taken_back (rs ++ r ∷ []) r.lrsn) (has_undone (rs ++ r ∷ []) r.tran) (ap is_row_change e ∙ row)) h

change_when : (has : ℕ → Bool) (early : Bool) (rs : List LogRecord) (r : LogRecord) (it : Held) (c : RowChange) → r.body ≡ body.RowChange c → is_taken_back rs r.lrsn ≡ false → (early ≡ true → is_early rs r ≡ true) → (b : Bool) → has c.table ≡ b
    → cond b (may_change it.waiting (get it.rows (c.table, c.key)) r.tran) true ≡ true → IsHeld has early rs it → IsHeld has early (rs ++ r ∷ []) (cond b (row_changed it r.tran c) it)
change_when has early rs r it c e fresh early_is true own may h = held_change has early rs r c it e own fresh early_is may h
change_when has early rs r it c e fresh early_is false own may h =
    held_off has early rs r it (plain r.body (body.RowChange c) e refl (λ lrsn. refl) refl) (ap (is_of has) e ∙ own)
    (λ table key its. ap (changes_at table key) e ∙ apart_rows has table c.table (table == c.table) (key == c.key) refl its own)
    (fair_change (is_row_change r.body) (is_taken_back (rs ++ r ∷ []) r.lrsn) (has_undone (rs ++ r ∷ []) r.tran) (taken_kept rs r r.lrsn (ap (takes_back r.lrsn) e) ∙ fresh)) h

undone_when : (has : ℕ → Bool) (early : Bool) (rs : List LogRecord) (r : LogRecord) (it : Held) (c : RowChange) (undone : ℕ) → r.body ≡ body.Compensation c undone → TakesBackOne rs r.tran c undone → (b : Bool) → has c.table ≡ b
    → IsHeld has early rs it → IsHeld has early (rs ++ r ∷ []) (cond b (row_taken_back it r.tran c) it)
undone_when has early rs r it c undone e one true own h = held_undone has early rs r c undone it e own one h
undone_when has early rs r it c undone e one false own h = held_elsewhere has early rs r c undone it e own one h

turn_by : (has : ℕ → Bool) (early : Bool) (rs : List LogRecord) (r : LogRecord) (it : Held) (b : Body) → r.body ≡ b → (early ≡ true → is_early rs r ≡ true) → BodyMayTurn rs r b → is_let has it r.tran b ≡ true → IsHeld has early rs it
    → IsHeld has early (rs ++ r ∷ []) (turned has early it r.tran b)
turn_by has early rs r it (body.RowChange c) e early_is may let_be h = change_when has early rs r it c e may early_is (has c.table) refl let_be h
turn_by has early rs r it (body.Compensation c undone) e early_is may let_be h = undone_when has early rs r it c undone e may (has c.table) refl h
turn_by has early rs r it (body.System patches) e early_is may let_be h = held_quiet has early rs r it (body.System patches) e refl (λ lrsn. refl) refl refl refl (λ table key. refl) h
turn_by has early rs r it body.Commit e early_is may let_be h = held_commit has early rs r it e may h
turn_by has early rs r it body.Ended e early_is may let_be h = held_quiet has early rs r it body.Ended e refl (λ lrsn. refl) refl refl refl (λ table key. refl) h
turn_by has early rs r it (body.Checkpoint offset) e early_is may let_be h = held_quiet has early rs r it (body.Checkpoint offset) e refl (λ lrsn. refl) refl refl refl (λ table key. refl) h
turn_by has early rs r it body.RestartEnd e early_is may let_be h = held_quiet has early rs r it body.RestartEnd e refl (λ lrsn. refl) refl refl refl (λ table key. refl) h

-- ---- records in order

pub orderly_push : (early : Bool) (e xs : List LogRecord) (r : LogRecord) → AreOrderly early e (xs ++ r ∷ []) → AreOrderly early e xs × MayTurn early (e ++ xs) r
orderly_push early e [] r h = (tt, subst (λ (l : List LogRecord). MayTurn early l r) (sym (append-nil e)) h.0)
orderly_push early e (x ∷ xs) r h =
    let rest = orderly_push early (e ++ x ∷ []) xs r h.1 in
    ((h.0, rest.0), subst (λ (l : List LogRecord). MayTurn early l r) (append_assoc e (x ∷ []) xs) rest.1)

first_when : (b : Bool) (x : Option OutOfTurn) (rest next : Option OutOfTurn) (l : Bool) (at n : ℕ) → (b ≡ false → next ≡ out_with rest l at n) → (o : OutOfTurn) → x ≡ Some o → cond b x next ≡ out_with (cond b x rest) l at n
first_when true x rest next l at n h o e = e ∙ sym (ap (λ (y : Option OutOfTurn). out_with y l at n) e)
first_when false x rest next l at n h o e = h refl

abbrev out_at : ℕ → ℕ → Option OutOfTurn
out_at at n = Some (record { index = at; number = n })

last_when : (b : Bool) (at n : ℕ) → cond b (out_at at n) None ≡ out_with None (not b) at n
last_when true at n = refl
last_when false at n = refl

none_more : (at : ℕ) → at ≡ at + 0
none_more at = omega arith

later : (at n : ℕ) → (at + 1) + n ≡ at + suc n
later at n = omega arith

out_push : (has : ℕ → Bool) (at : ℕ) (e xs : List LogRecord) (r : LogRecord) → first_out_in has at e (xs ++ r ∷ []) ≡ out_with (first_out_in has at e xs) (not (is_out has (e ++ xs) r)) (at + length xs) r.lrsn
out_push has at e [] r =
    last_when (is_out has e r) at r.lrsn
    ∙ ap (λ (l : List LogRecord). out_with None (not (is_out has l r)) at r.lrsn) (sym (append-nil e))
    ∙ ap (λ (n : ℕ). out_with None (not (is_out has (e ++ []) r)) n r.lrsn) (none_more at)
out_push has at e (x ∷ xs) r =
    first_when (is_out has e x) (out_at at x.lrsn) (first_out_in has (at + 1) (e ++ x ∷ []) xs) (first_out_in has (at + 1) (e ++ x ∷ []) (xs ++ r ∷ [])) (not (is_out has (e ++ x ∷ xs) r)) (at + suc (length xs)) r.lrsn
    (λ _.
    out_push has (at + 1) (e ++ x ∷ []) xs r
    ∙ ap (λ (l : List LogRecord). out_with (first_out_in has (at + 1) (e ++ x ∷ []) xs) (not (is_out has l r)) ((at + 1) + length xs) r.lrsn) (append_assoc e (x ∷ []) xs)
    ∙ ap (λ (n : ℕ). out_with (first_out_in has (at + 1) (e ++ x ∷ []) xs) (not (is_out has (e ++ x ∷ xs) r)) n r.lrsn) (later at (length xs)))
    (record { index = at; number = x.lrsn }) refl

-- ---- the scan

no_commit : (early : Bool) (t : ℕ) → marks_commits early [] t ≡ false
no_commit true t = refl
no_commit false t = refl

from_none : (n : ℕ) → n ≡ 0 + n
from_none n = omega arith

some_none : (at n : ℕ) → out_at at n ≡ None → ⊥
some_none at n h = clash true refl (ap (λ (o : Option OutOfTurn). is_some o) h)

some_is_none : (x : OutOfTurn) → Some x ≡ None → ⊥
some_is_none x h = clash true refl (ap (λ (o : Option OutOfTurn). is_some o) h)

none_held : (has : ℕ → Bool) (early : Bool) → IsHeld has early [] nothing_held
none_held has early = record {
  waiting_is = λ t. get-empty {X = ℕ} nat_cmp t;
  unsettled_is = refl;
  committed_is = λ t. ap is_some (get-empty {X = Bool} nat_cmp t) ∙ sym (no_commit early t);
  rows_are = λ table key own. subst (λ (o : Option RowTurn). IsRowOr table key [] o) (sym (get-empty {X = RowTurn} spot_cmp (table, key))) refl;
  others_none = λ table key other. get-empty {X = RowTurn} spot_cmp (table, key);
  keys_are = λ table key some. absurd (clash (is_some (get nothing_held.rows (table, key))) some (ap is_some (get-empty {X = RowTurn} spot_cmp (table, key))));
  apart = λ t u. refl;
  fair = refl;
}

pub none_turned : (it : Turns) → it.held ≡ nothing_held → it.taken ≡ 0 → it.out ≡ None → IsTurning [] it
none_turned it held taken out = record {
  taken_is = taken;
  scanned = λ orderly. record { out_is = out; held = λ e. subst (λ (m : Held). IsHeld (has_table it.range) it.is_early [] m) (sym held) (none_held (has_table it.range) it.is_early) };
}

-- what is told with one record more, by what was told before
pub record IsNext (has : ℕ → Bool) (early : Bool) (rs : List LogRecord) (out : Option OutOfTurn) (held : Held) : Type 0 where
  pub out_is : out ≡ first_out_in has 0 [] rs
  pub held_is : out ≡ None → IsHeld has early rs held

step_when : (has : ℕ → Bool) (early : Bool) (rs : List LogRecord) (r : LogRecord) (it next : Held) (at : ℕ) → (l : Bool) → is_let has it r.tran r.body ≡ l → at ≡ length rs → MayTurn early rs r → IsHeld has early rs it → None ≡ first_out_in has 0 [] rs
    → IsNext has early (rs ++ r ∷ []) (out_with None l at r.lrsn) (held_with None l (turned has early it r.tran r.body) it)
step_when has early rs r it next at true e is may h none =
    let out : is_let has it r.tran r.body ≡ not (is_out has rs r) = let_is has early rs it r.tran r.body h in record {
      out_is =
          ap (λ (o : Option OutOfTurn). out_with o true at r.lrsn) none
          ∙ ap (λ (n : ℕ). out_with (first_out_in has 0 [] rs) true n r.lrsn) (is ∙ from_none (length rs))
          ∙ ap (λ (b : Bool). out_with (first_out_in has 0 [] rs) b (0 + length rs) r.lrsn) (sym e ∙ out)
          ∙ sym (out_push has 0 [] rs r);
      held_is = λ _. turn_by has early rs r it r.body refl may.early_is may.body_is e h;
    }
step_when has early rs r it next at false e is may h none =
    let out : is_let has it r.tran r.body ≡ not (is_out has rs r) = let_is has early rs it r.tran r.body h in record {
      out_is =
          ap (λ (o : Option OutOfTurn). out_with o false at r.lrsn) none
          ∙ ap (λ (n : ℕ). out_with (first_out_in has 0 [] rs) false n r.lrsn) (is ∙ from_none (length rs))
          ∙ ap (λ (b : Bool). out_with (first_out_in has 0 [] rs) b (0 + length rs) r.lrsn) (sym e ∙ out)
          ∙ sym (out_push has 0 [] rs r);
      held_is = λ none_is. absurd (some_none at r.lrsn none_is);
    }

step_by : (has : ℕ → Bool) (early : Bool) (rs : List LogRecord) (r : LogRecord) (it : Held) (at : ℕ) → (o : Option OutOfTurn) → at ≡ length rs → MayTurn early rs r → o ≡ first_out_in has 0 [] rs → (o ≡ None → IsHeld has early rs it)
    → IsNext has early (rs ++ r ∷ []) (out_with o (is_let has it r.tran r.body) at r.lrsn) (held_with o (is_let has it r.tran r.body) (turned has early it r.tran r.body) it)
step_by has early rs r it at None is may out h = step_when has early rs r it it at (is_let has it r.tran r.body) refl is may (h refl) out
step_by has early rs r it at (Some x) is may out h = record {
  out_is = ap (λ (o : Option OutOfTurn). out_with o (not (is_out has rs r)) (0 + length rs) r.lrsn) out ∙ sym (out_push has 0 [] rs r);
  held_is = λ none_is. absurd (some_is_none x none_is);
}

pub turn_more : (rs : List LogRecord) (r : LogRecord) (old new : Turns) → new.range ≡ old.range → new.is_early ≡ old.is_early → new.taken ≡ old.taken + 1 → new.out ≡ next_out (has_table old.range) old r → new.held ≡ next_held (has_table old.range) old r
    → IsTurning rs old → IsTurning (rs ++ r ∷ []) new
turn_more rs r old new range early taken out held t = record {
  taken_is = let before = t.taken_is in omega (arith, taken, before, length-append rs (r ∷ []));
  scanned = λ orderly.
      let both : AreOrderly old.is_early [] rs × MayTurn old.is_early rs r = orderly_push old.is_early [] rs r (subst (λ (b : Bool). AreOrderly b [] (rs ++ r ∷ [])) early orderly) in
      let scanned : AreScanned rs old = t.scanned both.0 in
      let next : IsNext (has_table old.range) old.is_early (rs ++ r ∷ []) (next_out (has_table old.range) old r) (next_held (has_table old.range) old r) =
      step_by (has_table old.range) old.is_early rs r old.held old.taken old.out t.taken_is both.1 scanned.out_is scanned.held in record {
        out_is = out ∙ next.out_is ∙ ap (λ (q : TableRange). first_out_in (has_table q) 0 [] (rs ++ r ∷ [])) (sym range);
        held = λ none.
            subst (λ (q : TableRange). IsHeld (has_table q) new.is_early (rs ++ r ∷ []) new.held) (sym range)
            (subst (λ (b : Bool). IsHeld (has_table old.range) b (rs ++ r ∷ []) new.held) (sym early)
            (subst (λ (m : Held). IsHeld (has_table old.range) old.is_early (rs ++ r ∷ []) m) (sym held) (next.held_is (sym out ∙ none))));
      };
}
