-- What is taken of logs, and what it leaves.
use Rattle.std.proofs.Common.{◌≡◌, ℕ, zero, suc, ◌+◌, ◌-◌, ◌<◌, ◌≤◌, Bool, true, false, cond, ltb, List, [], ◌∷◌, ◌++◌, length, set, drop, Option, Some, None, Result, Ok, Err, refl, sym, ap, subst, ◌∙◌, arith}
use Rattle.std.specs.Prelude.{nat_lt, min}
use Rattle.std.specs.List.{AllByRecursion}
use Rattle.std.proofs.lemmas.Bool.{ltb-false}
use Rattle.std.proofs.lemmas.List.{length-drop}
use Rattle.ds_model.specs.declared.log.LogRecord.{LogRecord}
use Rattle.log_record.specs.declared.fault.RecordFault.{RecordFault}
use Rattle.log_record.specs.declared.fault.RecordFault.TheVariants.{NotWhole, Bad, NoMemory}
use Rattle.log_record.specs.Reading.{record_in}
use Rattle.log_merge.specs.Merging.{RisesFrom}
use Rattle.log_head.specs.declared.standing.Standing.{Standing}
use Rattle.log_head.specs.declared.standing.Standing.TheVariants as standing
use Rattle.log_head.specs.Whole.{whole_records}
use Rattle.log_head.specs.Heads.{HeadState, hand_end, standing_by, standing_of, first_by, first_of, number_by, number_of, behind, after_by, after_take, IsOf, left_of}
use Rattle.log_head.specs.Laws.{RecordHasSize, NoneIsWhole, TakenIsFirst, EndIsInHand}
use Rattle.log_heads.specs.declared.taken.Taken.{Taken}
use Rattle.log_heads.specs.declared.taken.Taken.TheVariants as taken
use Rattle.log_heads.specs.Heads.{HeadsState, head_at, or_else, stop_of, first_stop, least_of_two, least_from, taken_record, taken_by, taken_of, heads_by, after_taken}
use Rattle.log_heads.specs.Logs.{AreOf, left, list_at, together, NoneFalls, work_left, IsTaken, GoesOn}
use Rattle.ds_model.specs.Logs.{by_lrsn}
use Rattle.log_heads.proofs.Order.{merged_first}
use Rattle.log_heads.proofs.Least.{IsPlaced, placed, first_number, least_in, none_least, first_is}

abbrev Found : Type 0
Found = Result (LogRecord × ℕ) RecordFault

-- ---- a head that can't go on

-- why a log can't go on: no record, and not the end
abbrev pub IfStops : Option Taken → Type 0
IfStops None = Unit {0}
IfStops (Some (taken.Record m r)) = ⊥
IfStops (Some (taken.Wants m at n)) = Unit {0}
IfStops (Some (taken.Bad m at)) = Unit {0}
IfStops (Some taken.End) = ⊥

stops_cond : (b : Bool) (m end : ℕ) → IfStops (cond b (Some (taken.Bad m end)) None)
stops_cond true m end = tt
stops_cond false m end = tt

stops_of : (m end : ℕ) (st : Standing) → IfStops (stop_of m end st)
stops_of m end standing.Ready = tt
stops_of m end (standing.Wants at n) = tt
stops_of m end (standing.Bad at) = tt
stops_of m end (standing.Ends at) = stops_cond (nat_lt at end) m end

stops_else : (o p : Option Taken) → IfStops o → IfStops p → IfStops (or_else o p)
stops_else None p a b = b
stops_else (Some x) p a b = a

pub stops : (block m : ℕ) (heads : List HeadState) → IfStops (first_stop block m heads)
stops block m [] = tt
stops block m (h ∷ hs) = stops_else (stop_of m h.end (standing_of block h)) (first_stop block (m + 1) hs) (stops_of m h.end (standing_of block h)) (stops block (m + 1) hs)

-- ---- a head that can go on

none_else : (o p : Option Taken) → or_else o p ≡ None → (o ≡ None) × (p ≡ None)
none_else None p e = (refl, e)
none_else (Some x) p e = absurd cc

-- it has a whole record, or all that is left of it is in hand, and that is nothing
abbrev pub GoesFurther : HeadState → Found → Type 0
GoesFurther h (Ok found) = Unit {0}
GoesFurther h (Err fault) = (h.end ≤ hand_end h) × (h.end ≤ h.at)

ends_when : (b : Bool) (member : ℕ) (h : HeadState) → nat_lt h.at h.end ≡ b → cond b (Some (taken.Bad member h.end)) None ≡ None → h.end ≤ h.at
ends_when true member h t e = absurd cc
ends_when false member h t e = ltb-false _ _ t

short_when : (b : Bool) (block member : ℕ) (h : HeadState) → nat_lt (hand_end h) h.end ≡ b
    → stop_of member h.end (cond b (standing.Wants (hand_end h) (min (h.end - hand_end h) block)) (standing.Ends h.at)) ≡ None → (h.end ≤ hand_end h) × (h.end ≤ h.at)
short_when true block member h t e = absurd cc
short_when false block member h t e = (ltb-false _ _ t, ends_when (nat_lt h.at h.end) member h refl e)

further : (block member : ℕ) (h : HeadState) (f : Found) → stop_of member h.end (standing_by block h f) ≡ None → GoesFurther h f
further block member h (Ok found) e = tt
further block member h (Err (Bad field)) e = absurd cc
further block member h (Err NotWhole) e = short_when (nat_lt (hand_end h) h.end) block member h refl e
further block member h (Err NoMemory) e = short_when (nat_lt (hand_end h) h.end) block member h refl e

abbrev pub AllFurther : List HeadState → Type 0
AllFurther heads = AllByRecursion (λ (h : HeadState). GoesFurther h (record_in h.hand)) heads

pub all_further : (block member : ℕ) (heads : List HeadState) → first_stop block member heads ≡ None → AllFurther heads
all_further block member [] e = tt
all_further block member (h ∷ hs) e =
    let both = none_else (stop_of member h.end (standing_of block h)) (first_stop block (member + 1) hs) e in
    (further block member h (record_in h.hand) both.0, all_further block (member + 1) hs both.1)

-- ---- lists of which one is set

pub all_set : {X : Type 0} (P : X → Type 0) (xs : List X) (k : ℕ) (x : X) → AllByRecursion P xs → P x → AllByRecursion P (set xs k x)
all_set P [] k x all is = tt
all_set P (y ∷ ys) zero x all is = (is, all.1)
all_set P (y ∷ ys) (suc k) x all is = (all.0, all_set P ys k x all.1 is)

all_at : (P : List LogRecord → Type 0) (ls : List (List LogRecord)) (k : ℕ) → AllByRecursion P ls → P [] → P (list_at ls k)
all_at P [] k all none = none
all_at P (l ∷ ls) zero all none = all.0
all_at P (l ∷ ls) (suc k) all none = all_at P ls k all.1 none

rises_tail : (r : LogRecord) (rs : List LogRecord) → RisesFrom 0 (r ∷ rs) → RisesFrom 0 rs
rises_tail r [] h = tt
rises_tail r (s ∷ ss) h = (omega arith, h.1.1)

abbrev pub after_at : List HeadState → ℕ → List HeadState
after_at heads k = set heads k (after_take (head_at heads k))

-- what is left after the head at this place has given its record
pub record IsGiven (logs : List (List ℕ)) (heads : List HeadState) (k : ℕ) (r : LogRecord) : Type 0 where
  pub are : AreOf logs (after_at heads k)
  pub first : list_at (left logs heads) k ≡ r ∷ list_at (left logs (after_at heads k)) k
  pub others : left logs (after_at heads k) ≡ set (left logs heads) k (list_at (left logs (after_at heads k)) k)
  pub less : work_left (after_at heads k) < work_left heads

-- ---- its number is that of the first record left

module _ (none : NoneIsWhole) (size : RecordHasSize) (first : TakenIsFirst) (ended : EndIsInHand) where
  nothing_left : (log : List ℕ) (h : HeadState) (fault : RecordFault) → IsOf log h → record_in h.hand ≡ Err fault → h.end ≤ h.at → left_of log h ≡ []
  nothing_left log h fault is e le =
      let all : hand_end h ≡ h.end = omega (arith, is.fits, le) in
      ap whole_records (ended log h is all) ∙ none h.hand fault e

  number_when : (log : List ℕ) (h : HeadState) (f : Found) → IsOf log h → record_in h.hand ≡ f → GoesFurther h f → number_by f ≡ first_number (left_of log h)
  number_when log h (Ok (r, n)) is e go = let t = first log h r n is e in ap first_number (sym t.1)
  number_when log h (Err fault) is e go = ap first_number (sym (nothing_left log h fault is e go.1))

  numbers_same : (i : ℕ) (logs : List (List ℕ)) (heads : List HeadState) → AreOf logs heads → AllFurther heads → least_from i heads ≡ least_in i (left logs heads)
  numbers_same i [] [] is go = refl
  numbers_same i [] (h ∷ hs) is go = absurd is
  numbers_same i (log ∷ logs) [] is go = absurd is
  numbers_same i (log ∷ logs) (h ∷ hs) is go =
      ap (λ (o : Option ℕ). least_of_two i o (least_from (i + 1) hs)) (number_when log h (record_in h.hand) is.0 refl go.0)
      ∙ ap (least_of_two i (first_number (left_of log h))) (numbers_same (i + 1) logs hs is.1 go.1)

  -- ---- a record is taken

  give_when : (log : List ℕ) (h : HeadState) (r : LogRecord) (n : ℕ) → IsOf log h → record_in h.hand ≡ Ok (r, n) → IsOf log (after_take h) × (left_of log h ≡ r ∷ left_of log (after_take h))
  give_when log h r n is e =
      subst (λ (g : HeadState). IsOf log g × (left_of log h ≡ r ∷ left_of log g)) (sym (ap (after_by h) e)) (first log h r n is e)

  less_when : (log : List ℕ) (h : HeadState) (hs : List HeadState) (r : LogRecord) (n : ℕ) → IsOf log h → record_in h.hand ≡ Ok (r, n) → work_left (after_take h ∷ hs) < work_left (h ∷ hs)
  less_when log h hs r n is e =
      let s = size h.hand r n e in
      let less : work_left (behind h n ∷ hs) < work_left (h ∷ hs) = omega (arith, is.fits, s.0, s.1, length-drop n h.hand) in
      subst (λ (g : HeadState). work_left (g ∷ hs) < work_left (h ∷ hs)) (sym (ap (after_by h) e)) less

  pub given : (logs : List (List ℕ)) (heads : List HeadState) (k : ℕ) (r : LogRecord) (n : ℕ) → AreOf logs heads → k < length heads → record_in (head_at heads k).hand ≡ Ok (r, n) → IsGiven logs heads k r
  given [] [] k r n is lt e = absurd (omega (arith, lt))
  given [] (h ∷ hs) k r n is lt e = absurd is
  given (log ∷ logs) [] k r n is lt e = absurd is
  given (log ∷ logs) (h ∷ hs) zero r n is lt e = let t = give_when log h r n is.0 e in record { are = (t.0, is.1); first = t.1; others = refl; less = less_when log h hs r n is.0 e }
  given (log ∷ logs) (h ∷ hs) (suc k) r n is lt e =
      let g = given logs hs k r n is.1 (omega (arith, lt)) e in
      record { are = (is.0, g.are); first = g.first; others = ap (λ (ls : List (List LogRecord)). left_of log h ∷ ls) g.others; less = omega (arith, g.less) }

  pub taken_is : (logs : List (List ℕ)) (heads : List HeadState) (p : ℕ × ℕ) (m : ℕ) (r : LogRecord) (n : ℕ) → m - 1 ≡ p.0 → AreOf logs heads → AllFurther heads → least_from 0 heads ≡ Some p → p.0 < length heads
      → record_in (head_at heads p.0).hand ≡ Ok (r, n) → AreOf logs (after_at heads p.0) × (work_left (after_at heads p.0) < work_left heads) × IsTaken m r (left logs heads) (left logs (after_at heads p.0))
  taken_is logs heads p m r n at is go least within e =
      let g = given logs heads p.0 r n is within e in
      let before : List (List LogRecord) = left logs heads in
      let after : List (List LogRecord) = left logs (after_at heads p.0) in
      let tail : List LogRecord = list_at after p.0 in
      let same : least_in 0 before ≡ Some p = sym (numbers_same 0 logs heads is go) ∙ least in
      let lowest : NoneFalls before → by_lrsn (together before) ≡ r ∷ by_lrsn (together after) = λ none.
      (first_is 0 before p p.0 r tail none same (omega arith) g.first).first ∙ ap (λ (ls : List (List LogRecord)). r ∷ by_lrsn (together ls)) (sym g.others) in (
        g.are,
        g.less,
        record {
          first = subst (λ (k : ℕ). list_at before k ≡ r ∷ list_at after k) (sym at) g.first;
          others = subst (λ (k : ℕ). after ≡ set before k (list_at after k)) (sym at) g.others;
          lowest = lowest;
          merged = λ none. merged_first r (together before) (together after) (lowest none);
          rises = λ none. subst NoneFalls (sym g.others) (all_set (RisesFrom 0) before p.0 tail none (rises_tail r tail (subst (RisesFrom 0) g.first (all_at (RisesFrom 0) before p.0 none tt))));
        },
      )

  -- ---- how reading goes on

  goes_when : (logs : List (List ℕ)) (heads : List HeadState) (p : ℕ × ℕ) (f : Found) → AreOf logs heads → AllFurther heads → least_from 0 heads ≡ Some p → p.0 < length heads
      → record_in (head_at heads p.0).hand ≡ f → number_by f ≡ Some p.1 → GoesOn logs heads (taken_record (p.0 + 1) (first_by f)) (after_at heads p.0)
  goes_when logs heads p (Ok (r, n)) is go least within e number = taken_is logs heads p (p.0 + 1) r n (omega arith) is go least within e
  goes_when logs heads p (Err fault) is go least within e number = absurd cc

  pub goes_by : (logs : List (List ℕ)) (heads : List HeadState) (stop : Option Taken) (least : Option (ℕ × ℕ)) → AreOf logs heads → IfStops stop → (stop ≡ None → AllFurther heads) → least_from 0 heads ≡ least
      → GoesOn logs heads (taken_by stop heads least) (heads_by stop heads least)
  goes_by logs heads (Some (taken.Record m r)) least is stops go e = absurd stops
  goes_by logs heads (Some (taken.Wants m at n)) least is stops go e = refl
  goes_by logs heads (Some (taken.Bad m at)) least is stops go e = refl
  goes_by logs heads (Some taken.End) least is stops go e = absurd stops
  goes_by logs heads None None is stops go e = (refl, none_least 0 (left logs heads) (sym (numbers_same 0 logs heads is (go refl)) ∙ e))
  goes_by logs heads None (Some p) is stops go e =
      let it = placed 0 heads p e in
      let at : it.place ≡ p.0 = omega (arith, it.is) in
      let within : p.0 < length heads = omega (arith, at, it.within) in
      let number : number_of (head_at heads p.0) ≡ Some p.1 = subst (λ (k : ℕ). number_of (head_at heads k) ≡ Some p.1) at it.number in
      goes_when logs heads p (record_in (head_at heads p.0).hand) is (go refl) e within refl number

  pub goes_on : (logs : List (List ℕ)) (s : HeadsState) → AreOf logs s.heads → GoesOn logs s.heads (taken_of s) (after_taken s).heads
  goes_on logs s is = goes_by logs s.heads (first_stop s.block 1 s.heads) (least_from 0 s.heads) is (stops s.block 1 s.heads) (all_further s.block 1 s.heads) refl
