-- The transactions of slots that go forward, beside the log of a member that is up.
use Rattle.std.proofs.Common.{◌≡◌, ℕ, zero, suc, ◌+◌, ◌<◌, ◌≤◌, refl, sym, ◌∙◌, ap, subst, arith, Bool, true, false, inl, inr, List, [], ◌∷◌, ◌++◌, append_assoc, length}
use Rattle.std.specs.Prelude.{◌≢◌, ◌⊎◌, ◌==◌, ◌&&◌, ◌||◌, nat_le, nat_lt, replicate, slice_index_or}
use Rattle.std.specs.List.{AllByRecursion}
use Rattle.std.proofs.lemmas.Bool.{and_from, and_parts, eqb-true, leb-false, lt-ltb, or_cases}
use Rattle.std.proofs.lemmas.List.{append-nil}
use Rattle.ds_base.specs.declared.names.Sizes.{Sizes}
use Rattle.ds_model.specs.RecordBytes.{IsAllowed}
use Rattle.ds_model.specs.Rows.{Spot}
use Rattle.ds_model.specs.declared.log.LogRecord.{LogRecord}
use Rattle.log_appends.specs.Appends.{AreLastFrom}
use Rattle.log_numbers.specs.Numbers.{RecordsName, forward_among, forward_in, one_if}
use Rattle.log_reader.specs.Keeping.{AreWhole}
use Rattle.log_rows.specs.Rows.{has_changed, is_closed, is_end}
use Rattle.member_trans.specs.declared.fate.Stage.{Stage}
use Rattle.member_trans.specs.declared.fate.Stage.TheVariants as stage
use Rattle.member_trans.specs.Trans.{TranState, TransState, free_tran, is_forward, is_free}
use Rattle.member_marks.specs.State.{MarksState, slot_tran}
use Rattle.member_resources.specs.Held.{Held, IsNew}
use Rattle.failed_logs.specs.Given.{ArePlain, log_after, pend_after}
use Rattle.failed_logs.specs.Given.{NoneInSlots, SlotsStand}
use Rattle.claimed_logs.specs.Logs.{ForwardOpen, LogBelow}
use Rattle.claimed_logs.proofs.Alike.{Back, Facts, back_of, none_names}

never : false ≡ true → ⊥
never e = cc

-- ---- no slot has a transaction
past : (ts : List TranState) (slot : ℕ) → length ts ≤ slot → slice_index_or ts slot free_tran ≡ free_tran
past [] slot le = refl
past (t ∷ ts) zero le = absurd (omega (arith, le))
past (t ∷ ts) (suc slot) le = past ts slot (omega (arith, le))

-- slot 0 is the member's own, and there are so many agents
pub all_free : (s : MarksState) → SlotsStand s → NoneInSlots s → (slot : ℕ) → is_free (slot_tran s slot).stage ≡ true
all_free s slots none zero = slots.own
all_free s slots none (suc slot) = by (nat_le (suc slot) s.locks.agents) refl
  where
    by : (b : Bool) → nat_le (suc slot) s.locks.agents ≡ b → is_free (slot_tran s (suc slot)).stage ≡ true
    by true e = none (suc slot) (and_from (nat_lt 0 (suc slot)) (nat_le (suc slot) s.locks.agents) (lt-ltb 0 (suc slot) (omega arith)) e)
    by false e =
        let above = leb-false (suc slot) s.locks.agents e in
        let long = slots.count in
        ap (λ (t : TranState). is_free t.stage) (past s.trans.slots (suc slot) (omega (arith, above, long)))

free_rests : (x : Stage) → is_free x ≡ true → is_forward x ≡ false
free_rests stage.Free e = refl
free_rests stage.Forward e = absurd (never e)
free_rests stage.Drawn e = refl
free_rests stage.Decided e = refl
free_rests stage.Undoing e = refl
free_rests stage.Postponed e = refl

none_among : (ts : List TranState) (id : ℕ) → ((slot : ℕ) → is_free (slice_index_or ts slot free_tran).stage ≡ true) → forward_among ts id ≡ 0
none_among [] id free = refl
none_among (t ∷ ts) id free =
    let one : one_if (is_forward t.stage && (t.first == id)) ≡ 0 = ap (λ (b : Bool). one_if (b && (t.first == id))) (free_rests t.stage (free 0)) in
    let rest = none_among ts id (λ slot. free (suc slot)) in
    omega (arith, one, rest)

pub none_forward : (s : MarksState) → ((slot : ℕ) → is_free (slot_tran s slot).stage ≡ true) → (id : ℕ) → forward_in s.trans id ≡ 0
none_forward s free id = none_among s.trans.slots id free

pub forward_begins : (log : List ℕ) (counter : ℕ) (s : MarksState) → ((id : ℕ) → id ≢ 0 → forward_in s.trans id ≡ 0) → ForwardOpen log [] counter s
forward_begins log counter s none = record { below = tt; unclosed = λ start back last id some closed. none id some }

free_among : (n id : ℕ) → forward_among (replicate n free_tran) id ≡ 0
free_among zero id = refl
free_among (suc n) id = (let rest = free_among n id in omega (arith, rest))

pub new_forward : (member : ℕ) (sizes : Sizes) (h : Held) → IsNew member sizes h → (id : ℕ) → forward_in h.marks.trans id ≡ 0
new_forward member sizes h new id = ap (λ (z : TransState). forward_in z id) new.marks.trans ∙ free_among (sizes.agents + 1) id

-- ---- numbers of records
closed_below : (records : List LogRecord) (c id : ℕ) → AllByRecursion (λ (r : LogRecord). r.tran ≤ c) records → is_closed records id ≡ true → id ≤ c
closed_below [] c id low e = absurd (never e)
closed_below (r ∷ rs) c id low e = by (closed_below rs c id low.1) (or_cases ((r.tran == id) && is_end r.body) (is_closed rs id) e)
  where
    by : (is_closed rs id ≡ true → id ≤ c) → (((r.tran == id) && is_end r.body) ≡ true) ⊎ (is_closed rs id ≡ true) → id ≤ c
    by rest (inl m) = (let same = eqb-true r.tran id (and_parts (r.tran == id) (is_end r.body) m).0 in let first = low.0 in omega (arith, same, first))
    by rest (inr m) = rest m

pub all_both : (P : LogRecord → Type 0) (xs ys : List LogRecord) → AllByRecursion P xs → AllByRecursion P ys → AllByRecursion P (xs ++ ys)
all_both P [] ys a b = b
all_both P (x ∷ xs) ys a b = (a.0, all_both P xs ys a.1 b)

pub all_below : (c d : ℕ) (records : List LogRecord) → c ≤ d → AllByRecursion (λ (r : LogRecord). r.tran ≤ c) records → AllByRecursion (λ (r : LogRecord). r.tran ≤ d) records
all_below c d [] le low = tt
all_below c d (r ∷ rs) le low = (let first = low.0 in omega (arith, first, le), all_below c d rs le low.1)

-- ---- the counter rises, and none goes forward that didn't
pub forward_on : (log : List ℕ) (pend : List LogRecord) (c d : ℕ) (s t : MarksState) → c ≤ d → ((id : ℕ) → id ≢ 0 → forward_in t.trans id ≤ forward_in s.trans id) → ForwardOpen log pend c s → ForwardOpen log pend d t
forward_on log pend c d s t le less held = record {
  below = all_below c d pend le held.below;
  unclosed = λ start back last id some closed. (let none = held.unclosed start back last id some closed in let few = less id some in omega (arith, none, few));
}

module _ (log : List ℕ) (pend new : List LogRecord) (c d : ℕ) (s t : MarksState) (low : LogBelow c log) (held : ForwardOpen log pend c s) (names : RecordsName c d s t new) where
  -- what is closed isn't above the counter
  closed_low : (start : ℕ) (back : List LogRecord) → AreLastFrom log start back → (id : ℕ) → is_closed (back ++ pend) id ≡ true → id ≤ c
  closed_low start back last id e = closed_below (back ++ pend) c id (all_both (λ (r : LogRecord). r.tran ≤ c) back pend (low start back last) held.below) e

  -- no row is changed for a transaction that the log closes
  pub puts_unclosed : (start : ℕ) (back : List LogRecord) → AreLastFrom log start back → (id : ℕ) (spot : Spot) → id ≢ 0 → has_changed new id spot ≡ true → is_closed (back ++ pend) id ≡ false
  puts_unclosed start back last id spot some changed = by (is_closed (back ++ pend) id) refl
    where
      against : is_closed (back ++ pend) id ≡ true → (c < id) ⊎ (1 ≤ forward_in s.trans id) → ⊥
      against e (inl above) = absurd (let under = closed_low start back last id e in omega (arith, under, above))
      against e (inr one) = absurd (let none = held.unclosed start back last id some e in omega (arith, none, one))

      by : (b : Bool) → is_closed (back ++ pend) id ≡ b → is_closed (back ++ pend) id ≡ false
      by true e = absurd (against e (names.changed id spot some changed))
      by false e = e

  -- nor do its records name any by a number above the counter
  pub below_after : Facts → (b : Bool) → AreWhole log → AllByRecursion IsAllowed pend → ArePlain pend → c ≤ d → LogBelow d (log_after b log pend)
  below_after facts true whole allowed plain le start records last =
      let one : Back log pend start records = back_of facts log pend start records whole allowed (none_names pend plain) last in
      subst (λ (z : List LogRecord). AllByRecursion (λ (r : LogRecord). r.tran ≤ d) z) (sym one.are)
      (all_below c d (one.back ++ pend) le (all_both (λ (r : LogRecord). r.tran ≤ c) one.back pend (low start one.back one.last) held.below))
  below_after facts false whole allowed plain le start back last = all_below c d back le (low start back last)

  -- so it is behind an event: it appends the records that wait, or puts others behind them
  pub forward_after : Facts → (b : Bool) → AreWhole log → AllByRecursion IsAllowed pend → ArePlain pend → c ≤ d → ((id : ℕ) → id ≢ 0 → id ≤ c → forward_in t.trans id ≤ forward_in s.trans id) → ForwardOpen (log_after b log pend) (pend_after b pend new) d t
  forward_after facts true whole allowed plain le less = record {
    below = tt;
    unclosed = λ start records last id some closed.
        let one : Back log pend start records = back_of facts log pend start records whole allowed (none_names pend plain) last in
        let there : is_closed (one.back ++ pend) id ≡ true = subst (λ (z : List LogRecord). is_closed z id ≡ true) (append-nil records ∙ one.are) closed in
        let none = held.unclosed start one.back one.last id some there in
        let few = less id some (closed_low start one.back one.last id there) in
        omega (arith, none, few);
  }
  forward_after facts false whole allowed plain le less = record {
    below = all_both (λ (r : LogRecord). r.tran ≤ d) pend new (all_below c d pend le held.below) names.below;
    unclosed = λ start back last id some closed. by start back last id some
        (or_cases (is_closed (back ++ pend) id) (is_closed new id) (sym (facts.both.closed (back ++ pend) new id) ∙ subst (λ (z : List LogRecord). is_closed z id ≡ true) (sym (append_assoc back pend new)) closed));
  }
    where
      by : (start : ℕ) (back : List LogRecord) → AreLastFrom log start back → (id : ℕ) → id ≢ 0 → (is_closed (back ++ pend) id ≡ true) ⊎ (is_closed new id ≡ true) → forward_in t.trans id ≡ 0
      by start back last id some (inl e) = (let none = held.unclosed start back last id some e in let few = less id some (closed_low start back last id e) in omega (arith, none, few))
      by start back last id some (inr e) = names.closed id some e
