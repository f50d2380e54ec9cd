-- The rows of a log whose restart has handed over.
use Rattle.std.proofs.Common.{◌≡◌, ℕ, ◌+◌, ◌≤◌, ◌<◌, refl, sym, ◌∙◌, ap, subst, arith, Bool, true, false, inl, inr, List, [], ◌∷◌, ◌++◌, length, Option, Some, None, length-append}
use Rattle.std.specs.Prelude.{◌≢◌, ◌⊎◌, if◌then◌else◌, nat_le, nat_lt, slice_index_or}
use Rattle.std.specs.List.{AllByRecursion}
use Rattle.std.proofs.lemmas.Bool.{le-leb, ltb-true}
use Rattle.ds_model.specs.RecordBytes.{log_bytes, record_bytes, spelling}
use Rattle.ds_model.specs.Rows.{Spot}
use Rattle.ds_model.specs.declared.log.LogRecord.{LogRecord}
use Rattle.lock_manager.specs.declared.claim.Claim.{Claim}
use Rattle.lock_manager.specs.Claims.{mode_in}
use Rattle.lock_world.specs.Numbers.{name_at}
use Rattle.lock_world.specs.Views.{claim_in, claims_by}
use Rattle.log_opens.specs.Opens.{has_opened}
use Rattle.log_rows.specs.Rows.{has_changed, is_closed}
use Rattle.member_marks.specs.State.{MarksState}
use Rattle.member_trans.specs.Trans.{TranState}
use Rattle.marks_law.specs.Free.{FreeHoldNothing}
use Rattle.closing_law.specs.Closing.{Closes, HasEnd, TranStands}
use Rattle.adopted_rows.specs.Rows.{RowsBut, RowsTakenOver}
use Rattle.log_appends.specs.Appends.{AllAreLast, AreLastFrom}
use Rattle.adopted_rows.specs.Given.{RowsLocked}
use Rattle.group_member.specs.Resting.{NoneInSlots}
use Rattle.left_open.specs.Given.{HasLocked}
use Rattle.left_open.specs.Logs.{LogLocked}
use Rattle.failed_logs.specs.Logs.{IdleTakesOver, TakenOverLocked}

pub taken_over : RowsTakenOver → AllAreLast → TakenOverLocked
taken_over law all log h k by ts whole adopts but = record {
  whole = whole;
  spelled = (at 0 whole.records (all log whole)).closes.spelled;
  allowed = tt;
  plain = tt;
  locked = at;
}
  where
    at : (start : ℕ) (back : List LogRecord) → AreLastFrom log start back → RowsLocked back [] k.marks
    at start back last = law back h k by ts adopts (but start back last)

-- ---- one that had no transaction
never : false ≡ true → ⊥
never e = cc

some_record : (r : LogRecord) → record_bytes r ≡ [] → ⊥
unfolding record_bytes spelling
some_record r e =
    let n = ap (λ (z : List ℕ). length z) e in
    let m = simp length-append at n in
    absurd (omega (arith, m))

front_none : (a b : List ℕ) → a ++ b ≡ [] → a ≡ []
front_none [] b e = refl
front_none (x ∷ a) b e = absurd cc

none_spelled : (records : List LogRecord) → log_bytes records ≡ [] → records ≡ []
none_spelled [] e = refl
none_spelled (r ∷ rs) e = absurd (some_record r (front_none (record_bytes r) (log_bytes rs) e))

-- what has closed no transaction on disk needs none closed
stands_any : (disk : List LogRecord) (stable : ℕ) (t : TranState) → TranStands [] [] stable t → TranStands disk [] stable t
stands_any disk stable t h = record {
  changed = h.changed;
  decided = λ d some. absurd (never (h.decided d some));
  undone = λ u some none. ends (h.undone u some none);
}
  where
    ends : HasEnd [] [] stable t → HasEnd disk [] stable t
    ends (inl e) = absurd (never e)
    ends (inr e) = absurd (never e.0)

all_any : (disk : List LogRecord) (stable : ℕ) (ts : List TranState) → AllByRecursion (TranStands [] [] stable) ts → AllByRecursion (TranStands disk [] stable) ts
all_any disk stable [] h = tt
all_any disk stable (t ∷ ts) h = (stands_any disk stable t h.0, all_any disk stable ts h.1)

closes_any : (disk : List LogRecord) (s : MarksState) → Closes [] [] s → Closes disk [] s
closes_any disk s c = record {
  spelled = c.spelled;
  all = record { slots = all_any disk s.log.stable s.trans.slots c.all.slots; rollbacks = all_any disk s.log.stable s.trans.rollbacks c.all.rollbacks; commits = c.all.commits };
}

-- slot 1 has no claims where it has no transaction
if_none : (b : Bool) (xs : List Claim) → (b ≡ true → xs ≡ []) → (if b then xs else []) ≡ []
if_none true xs h = h refl
if_none false xs h = refl

first_lends : (s : MarksState) → FreeHoldNothing s → NoneInSlots s → (c : ℕ) → claim_in s.locks 1 c ≡ None
first_lends s free none c = ap (λ (z : List Claim). mode_in z (name_at c)) (if_none (nat_lt 1 (s.locks.agents + 1)) (slice_index_or s.locks.holders 1 []) empty)
  where
    empty : nat_lt 1 (s.locks.agents + 1) ≡ true → slice_index_or s.locks.holders 1 [] ≡ []
    empty e =
        let there : 1 < s.locks.agents + 1 = ltb-true 1 (s.locks.agents + 1) e in
        let agent : nat_le 1 s.locks.agents ≡ true = le-leb 1 s.locks.agents (omega (arith, there)) in
        free.none 1 agent (none 1 agent)

pub idle_takes_over : RowsTakenOver → AllAreLast → IdleTakesOver
idle_takes_over law all log h k by ts whole l free none adopts leaves = taken_over law all log h k by ts whole adopts but
  where
    of_none : RowsLocked [] [] h.marks
    of_none = subst (λ (z : List LogRecord). RowsLocked z [] h.marks) (none_spelled l.whole.records (sym l.whole.spelled)) (l.locked 0 l.whole.records (all [] l.whole))

    but : (start : ℕ) (back : List LogRecord) → AreLastFrom log start back → RowsBut back h.marks (λ id spot. has_opened ts id spot ≡ true)
    but start back last = record {
      closes = closes_any back h.marks of_none.closes;
      book = of_none.book;
      slots = of_none.slots;
      lends = first_lends h.marks free none;
      rows = λ id spot some changed. rows id spot (leaves start back last id spot some changed);
    }
      where
        rows : (id : ℕ) (spot : Spot) → (is_closed back id ≡ true) ⊎ (has_opened ts id spot ≡ true) → ((is_closed back id ≡ true) ⊎ HasLocked h.marks id spot) ⊎ (has_opened ts id spot ≡ true)
        rows id spot (inl e) = inl (inl e)
        rows id spot (inr e) = inr e
