-- Records that are passed, and what is told where none is left in hand.
use Rattle.std.proofs.Common.{◌≡◌, ℕ, ◌+◌, ◌-◌, ◌<◌, ◌≤◌, Bool, true, false, cond, List, [], ◌++◌, length, drop, Option, Some, None, Result, Ok, Err, refl, sym, ap, subst, ◌∙◌, arith}
use Rattle.std.specs.Prelude.{nat_lt, min, is_some}
use Rattle.std.proofs.lemmas.Bool.{ltb-true, ltb-false}
use Rattle.std.proofs.lemmas.List.{length-append, length-drop}
use Rattle.ds_model.specs.declared.log.LogRecord.{LogRecord}
use Rattle.ds_model.specs.RecordBytes.{record_limit}
use Rattle.log_record.specs.declared.fault.RecordFault.{RecordFault}
use Rattle.log_record.specs.declared.fault.RecordFault.TheVariants.{NotWhole, Bad, NoMemory}
use Rattle.log_record.specs.Reading.{record_in}
use Rattle.log_record.specs.Logs.{Parts, parts_in}
use Rattle.log_record.specs.Logs as parts
use Rattle.log_head.specs.declared.standing.Standing.{Standing}
use Rattle.log_head.specs.declared.standing.Standing.TheVariants as standing
use Rattle.log_head.specs.Heads.{HeadState, hand_end, first_by, first_of, behind, after_by, after_take, standing_by, standing_of, filled, IsShort, IsOf, AreNext, left_bytes}
use Rattle.log_head.specs.Laws.{RecordHasSize, PartsGoOn, PartsEnd, PartsAreBad, TakenIsFirst, RecordIsLeft, FilledIsOf, EndIsInHand, BadIsLeft}
use Rattle.log_end.specs.Ends.{EndState, ends_from, end_of, Tells, AreWanted, ArePassed, IsRead}

abbrev Found : Type 0
Found = Result (LogRecord × ℕ) RecordFault

-- ---- one record is passed

abbrev ok_end : ℕ → Result ℕ ℕ
ok_end k = Ok k

abbrev err_end : ℕ → Result ℕ ℕ
err_end k = Err k

ends_behind : (at n : ℕ) (r : LogRecord) (q : Result Parts ℕ) → ends_from at (parts.behind r n q) ≡ ends_from (at + n) q
ends_behind at n r (Ok p) = ap ok_end (let e : at + (n + p.size) ≡ at + n + p.size = omega arith in e)
ends_behind at n r (Err f) = ap err_end (let e : at + (n + f) ≡ at + n + f = omega arith in e)

end_passed : RecordIsLeft → PartsGoOn → (log : List ℕ) (h : HeadState) (r : LogRecord) (n : ℕ) → IsOf log h → record_in h.hand ≡ Ok (r, n) → end_of log (behind h n) ≡ end_of log h
end_passed left goes log h r n is e =
    let l = left log h r n is e in
    let bytes : List ℕ = left_bytes log h in
    ap (λ (t : List ℕ). ends_from (h.at + n) (parts_in t)) l.1
    ∙ sym (ends_behind h.at n r (parts_in (drop n bytes)))
    ∙ ap (ends_from h.at) (sym (goes bytes r n l.0))

-- and bytes are in hand
pub record IsPassed (old new : HeadState) : Type 0 where
  pub passed : ArePassed old new
  pub less : length new.hand < length old.hand

passed_behind : RecordHasSize → PartsGoOn → TakenIsFirst → RecordIsLeft → (h : HeadState) (r : LogRecord) (n : ℕ) → record_in h.hand ≡ Ok (r, n) → IsPassed h (behind h n)
passed_behind size goes first left h r n e =
    let s = size h.hand r n e in
    let long : length (drop n h.hand) ≡ length h.hand - n = length-drop n h.hand in
    record {
      passed = record {
        end = refl;
        hand = omega (arith, s.1, long);
        few = omega (arith, long);
        kept = λ log is. let t = first log h r n is e in (t.0, end_passed left goes log h r n is e);
      };
      less = omega (arith, s.0, s.1, long);
    }

passed_when : RecordHasSize → PartsGoOn → TakenIsFirst → RecordIsLeft → (f : Found) (h : HeadState) (r : LogRecord) → record_in h.hand ≡ f → first_by f ≡ Some r → IsPassed h (after_by h f)
passed_when size goes first left (Ok (s, n)) h r e is = passed_behind size goes first left h s n e
passed_when size goes first left (Err fault) h r e is = absurd (none_some is)
  where
    none_some : None ≡ Some r → ⊥
    none_some is = cc

pub one_passed : RecordHasSize → PartsGoOn → TakenIsFirst → RecordIsLeft → (h g : HeadState) (r : LogRecord) → g ≡ after_take h → first_of h ≡ Some r → IsPassed h g
one_passed size goes first left h g r new is = subst (IsPassed h) (sym new) (passed_when size goes first left (record_in h.hand) h r refl is)

-- ---- none is there

pub none_passed : (h : HeadState) → ArePassed h h
none_passed h = record { end = refl; hand = refl; few = omega arith; kept = λ log is. (is, refl) }

none_when : (f : Found) (h : HeadState) → first_by f ≡ None → after_by h f ≡ h
none_when (Ok (r, n)) h is = absurd (some_none is)
  where
    some_none : Some r ≡ None → ⊥
    some_none is = cc
none_when (Err fault) h is = refl

pub none_taken : (h g : HeadState) → g ≡ after_take h → first_of h ≡ None → g ≡ h
none_taken h g new is = new ∙ none_when (record_in h.hand) h is

-- whether one was there
pub record Passes (h g : HeadState) (some : Bool) : Type 0 where
  pub passed : ArePassed h g
  pub less : some ≡ true → length g.hand < length h.hand
  pub none : some ≡ false → first_of g ≡ None

pub passed_by : RecordHasSize → PartsGoOn → TakenIsFirst → RecordIsLeft → (h g : HeadState) (o : Option LogRecord) → o ≡ first_of h → g ≡ after_take h → Passes h g (is_some o)
passed_by size goes first left h g (Some r) is new =
    let p = one_passed size goes first left h g r new (sym is) in
    record { passed = p.passed; less = λ _. p.less; none = λ e. absurd (no e) }
  where
    no : true ≡ false → ⊥
    no e = cc
passed_by size goes first left h g None is new =
    let same : g ≡ h = none_taken h g new (sym is) in
    record {
      passed = subst (ArePassed h) (sym same) (none_passed h);
      less = λ e. absurd (no e);
      none = λ _. subst (λ (k : HeadState). first_of k ≡ None) (sym same) (sym is);
    }
  where
    no : false ≡ true → ⊥
    no e = cc

-- ---- several

pub more_passed : (a b c : HeadState) → ArePassed a b → ArePassed b c → ArePassed a c
more_passed a b c p q = record {
  end = q.end ∙ p.end;
  hand = q.hand ∙ p.hand;
  few = omega (arith, p.few, q.few);
  kept = λ log is. let x = p.kept log is in let y = q.kept log x.0 in (y.0, y.1 ∙ x.1);
}

-- ---- what is told

module _ (ends : PartsEnd) (bad : PartsAreBad) (ended : EndIsInHand) (left : BadIsLeft) where
  ends_when : (b : Bool) (block : ℕ) (log : List ℕ) (h : HeadState) → IsOf log h → IsShort (record_in h.hand) → nat_lt (hand_end h) h.end ≡ b
      → Tells (cond b (standing.Wants (hand_end h) (min (h.end - hand_end h) block)) (standing.Ends h.at)) (end_of log h)
  ends_when true block log h is short t = tt
  ends_when false block log h is short t =
      let le : h.end ≤ hand_end h = ltb-false _ _ t in
      let all : left_bytes log h ≡ h.hand = ended log h is (omega (arith, le, is.fits)) in
      ap (λ (t : List ℕ). ends_from h.at (parts_in t)) all ∙ ap (ends_from h.at) (ends h.hand short) ∙ ap ok_end (let e : h.at + 0 ≡ h.at = omega arith in e)

  tells_when : (block : ℕ) (f : Found) (log : List ℕ) (h : HeadState) → IsOf log h → record_in h.hand ≡ f → first_by f ≡ None → Tells (standing_by block h f) (end_of log h)
  tells_when block (Ok (r, n)) log h is e none = absurd (some_none none)
    where
      some_none : Some r ≡ None → ⊥
      some_none is = cc
  tells_when block (Err (Bad field)) log h is e none = ap (ends_from h.at) (bad (left_bytes log h) field (left log h field is e))
  tells_when block (Err NotWhole) log h is e none = ends_when (nat_lt (hand_end h) h.end) block log h is (subst IsShort (sym e) tt) refl
  tells_when block (Err NoMemory) log h is e none = ends_when (nat_lt (hand_end h) h.end) block log h is (subst IsShort (sym e) tt) refl

  pub tells : (s : EndState) (log : List ℕ) → first_of s.head ≡ None → IsOf log s.head → Tells (standing_of s.block s.head) (end_of log s.head)
  tells s log none is = tells_when s.block (record_in s.head.hand) log s.head is refl none

-- where every whole record is passed none is there
short_ready : (b : Bool) (block : ℕ) (h : HeadState) → cond b (standing.Wants (hand_end h) (min (h.end - hand_end h) block)) (standing.Ends h.at) ≡ standing.Ready → ⊥
short_ready true block h e = cc
short_ready false block h e = cc

ready_when : (block : ℕ) (f : Found) (h : HeadState) → first_by f ≡ None → standing_by block h f ≡ standing.Ready → ⊥
ready_when block (Ok (r, n)) h none e = some_none none
  where
    some_none : Some r ≡ None → ⊥
    some_none is = cc
ready_when block (Err (Bad field)) h none e = cc
ready_when block (Err NotWhole) h none e = short_ready (nat_lt (hand_end h) h.end) block h e
ready_when block (Err NoMemory) h none e = short_ready (nat_lt (hand_end h) h.end) block h e

pub not_ready : (block : ℕ) (h : HeadState) → first_of h ≡ None → standing_of block h ≡ standing.Ready → ⊥
not_ready block h none e = ready_when block (record_in h.hand) h none e

-- ---- bytes that are wanted

-- no whole record is in hand, and there is room for them
pub record IsWanted (h : HeadState) (count : ℕ) : Type 0 where
  pub short : IsShort (record_in h.hand)
  pub room : hand_end h + count ≤ h.end

wanted_short : (b : Bool) (block count : ℕ) (h : HeadState) → IsShort (record_in h.hand) → nat_lt (hand_end h) h.end ≡ b
    → AreWanted (cond b (standing.Wants (hand_end h) (min (h.end - hand_end h) block)) (standing.Ends h.at)) count → IsWanted h count
wanted_short true block count h short t w = let lt : hand_end h < h.end = ltb-true _ _ t in record { short = short; room = omega (arith, lt, w) }
wanted_short false block count h short t w = absurd w

wanted_when : (block count : ℕ) (f : Found) (h : HeadState) → record_in h.hand ≡ f → AreWanted (standing_by block h f) count → IsWanted h count
wanted_when block count (Ok found) h e w = absurd w
wanted_when block count (Err (Bad field)) h e w = absurd w
wanted_when block count (Err NotWhole) h e w = wanted_short (nat_lt (hand_end h) h.end) block count h (subst IsShort (sym e) tt) refl w
wanted_when block count (Err NoMemory) h e w = wanted_short (nat_lt (hand_end h) h.end) block count h (subst IsShort (sym e) tt) refl w

pub wanted : (block count : ℕ) (h : HeadState) (s : EndState) → record { block = block; head = h } ≡ s → AreWanted (standing_of s.block s.head) count → IsWanted h count
wanted block count h s is w =
    wanted_when block count (record_in h.hand) h refl (subst (λ (t : EndState). AreWanted (standing_of t.block t.head) count) (sym is) w)

-- ---- bytes were put behind those in hand, and the records passed

pub read_on : (block : ℕ) (h g k : HeadState) (bytes : List ℕ) → g ≡ filled h bytes → length g.hand ≤ record_limit + length bytes → ArePassed g k → first_of k ≡ None
    → IsRead (record { block = block; head = h }) (record { block = block; head = k }) (length bytes)
read_on block h g k bytes new few passed none =
    let end : g.end ≡ h.end = ap (λ (t : HeadState). t.end) new in
    let hand : hand_end g ≡ hand_end (filled h bytes) = ap hand_end new in
    let long : length (h.hand ++ bytes) ≡ length h.hand + length bytes = length-append h.hand bytes in
    record {
      block = refl;
      end = passed.end ∙ end;
      further = omega (arith, passed.hand, hand, long);
      none = none;
      few = omega (arith, passed.few, few);
    }

pub read_kept : FilledIsOf → (log : List ℕ) (h g k : HeadState) (bytes : List ℕ) → g ≡ filled h bytes → ArePassed g k → hand_end h + length bytes ≤ h.end → IsOf log h → AreNext log h bytes → IsOf log k × (end_of log k ≡ end_of log h)
read_kept law log h g k bytes new passed room is next =
    let of : IsOf log g = subst (IsOf log) (sym new) (law log h bytes is room next) in
    let t = passed.kept log of in
    (t.0, t.1 ∙ ap (end_of log) new)
