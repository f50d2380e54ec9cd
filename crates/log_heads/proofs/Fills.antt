-- Bytes that are wanted, and the end.
use Rattle.std.proofs.Common.{◌≡◌, ℕ, zero, suc, ◌+◌, ◌-◌, ◌<◌, ◌≤◌, Bool, true, false, cond, List, [], ◌∷◌, ◌++◌, length, get_or, set, take, drop, Option, Some, None, Result, Ok, Err, refl, sym, ap, subst, ◌∙◌, arith}
use Rattle.std.specs.Prelude.{nat_lt, nat_le, min, ◌↔◌}
use Rattle.std.specs.List.{AllByRecursion}
use Rattle.std.proofs.lemmas.Bool.{ltb-true, le-ltb}
use Rattle.std.proofs.lemmas.List.{length-append, length-drop, nil_from_length, take_at}
use Rattle.std.proofs.Math.ListN.{length-set}
use Rattle.ds_model.specs.declared.log.LogRecord.{LogRecord}
use Rattle.ds_model.specs.RecordBytes.{record_limit}
use Rattle.log_record.specs.declared.fault.RecordFault.{RecordFault}
use Rattle.log_record.specs.declared.fault.RecordFault.TheVariants.{NotWhole, Bad, NoMemory}
use Rattle.log_record.specs.Reading.{record_in}
use Rattle.log_head.specs.declared.standing.Standing.{Standing}
use Rattle.log_head.specs.declared.standing.Standing.TheVariants as standing
use Rattle.log_head.specs.Heads.{HeadState, hand_end, standing_by, standing_of, first_by, number_by, number_of, behind, after_by, after_take, filled, IsShort, IsOf, AreNext, left_of}
use Rattle.log_head.specs.Laws.{RecordHasSize, NothingIsShort, FilledIsOf}
use Rattle.log_heads.specs.declared.taken.Taken.{Taken}
use Rattle.log_heads.specs.declared.taken.Taken.TheVariants as taken
use Rattle.log_heads.specs.Heads.{HeadsState, head_at, heads_of, IsFew, or_else, stop_of, first_stop, least_of_two, least_from, taken_record, taken_by, taken_of, heads_by, after_taken, AreWanted, after_fill}
use Rattle.log_heads.specs.Logs.{AreOf, left, AreRead, AreNextOf, work_left, IsFilled}
use Rattle.log_heads.proofs.Least.{placed}
use Rattle.log_heads.proofs.Reading.{GoesFurther, AllFurther, all_further, all_set, IfStops, stops}

abbrev Found : Type 0
Found = Result (LogRecord × ℕ) RecordFault

-- ---- where bytes are wanted

-- the member's log, so many places behind the first, wants so many bytes
pub record IsOpen (m : ℕ) (heads : List HeadState) (block member count : ℕ) : Type 0 where
  pub place : ℕ
  pub is : member ≡ m + place
  pub within : place < length heads
  pub short : IsShort (record_in (head_at heads place).hand)
  pub room : hand_end (head_at heads place) < (head_at heads place).end
  pub count_is : count ≡ min ((head_at heads place).end - hand_end (head_at heads place)) block

abbrev WantsBy : Option Taken → ℕ → ℕ → Type 0
WantsBy None member count = ⊥
WantsBy (Some stop) member count = AreWanted stop member count

-- the same of one head
pub record OpensAt (m : ℕ) (h : HeadState) (f : Found) (block member count : ℕ) : Type 0 where
  pub is : member ≡ m
  pub short : IsShort f
  pub room : hand_end h < h.end
  pub count_is : count ≡ min (h.end - hand_end h) block

bad_when : (b : Bool) (m : ℕ) (h : HeadState) (member count : ℕ) → WantsBy (cond b (Some (taken.Bad m h.end)) None) member count → ⊥
bad_when true m h member count w = w
bad_when false m h member count w = w

open_when : (b : Bool) (block m : ℕ) (h : HeadState) (f : Found) (member count : ℕ) → IsShort f → nat_lt (hand_end h) h.end ≡ b
    → WantsBy (stop_of m h.end (cond b (standing.Wants (hand_end h) (min (h.end - hand_end h) block)) (standing.Ends h.at))) member count → OpensAt m h f block member count
open_when true block m h f member count is t w = record { is = sym w.0; short = is; room = ltb-true _ _ t; count_is = sym w.1 }
open_when false block m h f member count is t w = absurd (bad_when (nat_lt h.at h.end) m h member count w)

opens : (block m : ℕ) (h : HeadState) (f : Found) (member count : ℕ) → WantsBy (stop_of m h.end (standing_by block h f)) member count → OpensAt m h f block member count
opens block m h (Ok found) member count w = absurd w
opens block m h (Err (Bad field)) member count w = absurd w
opens block m h (Err NotWhole) member count w = open_when (nat_lt (hand_end h) h.end) block m h (Err NotWhole) member count tt refl w
opens block m h (Err NoMemory) member count w = open_when (nat_lt (hand_end h) h.end) block m h (Err NoMemory) member count tt refl w

open_here : (block m : ℕ) (h : HeadState) (hs : List HeadState) (member count : ℕ) → OpensAt m h (record_in h.hand) block member count → IsOpen m (h ∷ hs) block member count
open_here block m h hs member count it = record { place = 0; is = omega (arith, it.is); within = omega arith; short = it.short; room = it.room; count_is = it.count_is }

open_behind : (block m : ℕ) (h : HeadState) (hs : List HeadState) (member count : ℕ) → IsOpen (m + 1) hs block member count → IsOpen m (h ∷ hs) block member count
open_behind block m h hs member count it = record { place = suc it.place; is = omega (arith, it.is); within = omega (arith, it.within); short = it.short; room = it.room; count_is = it.count_is }

open_by : (o : Option Taken) (block m : ℕ) (h : HeadState) (hs : List HeadState) (member count : ℕ) → stop_of m h.end (standing_of block h) ≡ o → WantsBy (or_else o (first_stop block (m + 1) hs)) member count
    → (WantsBy (first_stop block (m + 1) hs) member count → IsOpen (m + 1) hs block member count) → IsOpen m (h ∷ hs) block member count
open_by None block m h hs member count e w again = open_behind block m h hs member count (again w)
open_by (Some stop) block m h hs member count e w again = open_here block m h hs member count (opens block m h (record_in h.hand) member count (subst (λ (o : Option Taken). WantsBy o member count) (sym e) w))

is_open : (block m : ℕ) (heads : List HeadState) (member count : ℕ) → WantsBy (first_stop block m heads) member count → IsOpen m heads block member count
is_open block m [] member count w = absurd w
is_open block m (h ∷ hs) member count w = open_by (stop_of m h.end (standing_of block h)) block m h hs member count refl w (is_open block (m + 1) hs member count)

wants_record : (m : ℕ) (o : Option LogRecord) (member count : ℕ) → AreWanted (taken_record m o) member count → ⊥
wants_record m None member count w = w
wants_record m (Some r) member count w = w

wants_stop : (stop : Option Taken) (heads : List HeadState) (least : Option (ℕ × ℕ)) (member count : ℕ) → AreWanted (taken_by stop heads least) member count → WantsBy stop member count
wants_stop (Some stop) heads least member count w = w
wants_stop None heads None member count w = w
wants_stop None heads (Some p) member count w = wants_record (p.0 + 1) (first_by (record_in (head_at heads p.0).hand)) member count w

-- the log of which bytes are wanted: its place, and what is so of it
pub record IsWanted (s : HeadsState) (member count : ℕ) : Type 0 where
  pub within : member - 1 < length s.heads
  pub short : IsShort (record_in (head_at s.heads (member - 1)).hand)
  pub room : hand_end (head_at s.heads (member - 1)) + count ≤ (head_at s.heads (member - 1)).end
  pub few : count ≤ s.block
  pub some : 1 ≤ s.block → 1 ≤ count

pub wanted : (s : HeadsState) (member count : ℕ) → AreWanted (taken_of s) member count → IsWanted s member count
wanted s member count w =
    let it = is_open s.block 1 s.heads member count (wants_stop (first_stop s.block 1 s.heads) s.heads (least_from 0 s.heads) member count w) in
    let at : it.place ≡ member - 1 = omega (arith, it.is) in
    let h : HeadState = head_at s.heads it.place in
    let fits : hand_end h + count ≤ h.end = omega (arith, it.room, it.count_is) in
    record {
      within = omega (arith, at, it.within);
      short = subst (λ (k : ℕ). IsShort (record_in (head_at s.heads k).hand)) at it.short;
      room = subst (λ (k : ℕ). hand_end (head_at s.heads k) + count ≤ (head_at s.heads k).end) at fits;
      few = omega (arith, it.count_is);
      some = λ one. omega (arith, it.room, it.count_is, one);
    }

-- the same of the heads themselves
pub record IsWantedAt (block : ℕ) (heads : List HeadState) (place count : ℕ) : Type 0 where
  pub within : place < length heads
  pub short : IsShort (record_in (head_at heads place).hand)
  pub room : hand_end (head_at heads place) + count ≤ (head_at heads place).end
  pub few : count ≤ block

pub wanted_at : (block : ℕ) (heads : List HeadState) (s : HeadsState) (member place count : ℕ) → record { block = block; heads = heads } ≡ s → place ≡ member - 1 → AreWanted (taken_of s) member count → IsWantedAt block heads place count
wanted_at block heads s member place count is at w =
    let t : HeadsState = record { block = block; heads = heads } in
    let it = wanted t member count (subst (λ (u : HeadsState). AreWanted (taken_of u) member count) (sym is) w) in
    let here : IsWantedAt block heads (member - 1) count = record { within = it.within; short = it.short; room = it.room; few = it.few } in
    subst (λ (k : ℕ). IsWantedAt block heads k count) (sym at) here

-- they are wanted again
again_by : (s : HeadsState) (stop : Option Taken) (least : Option (ℕ × ℕ)) (member at count : ℕ) → taken_by stop s.heads least ≡ taken.Wants member at count → heads_by stop s.heads least ≡ s.heads
again_by s (Some stop) least member at count e = refl
again_by s None None member at count e = absurd cc
again_by s None (Some p) member at count e = absurd (none_wanted (first_by (record_in (head_at s.heads p.0).hand)) e)
  where
    none_wanted : (o : Option LogRecord) → taken_record (p.0 + 1) o ≡ taken.Wants member at count → ⊥
    none_wanted None e = cc
    none_wanted (Some r) e = cc

pub wants_again : (s : HeadsState) (member at count : ℕ) → taken_of s ≡ taken.Wants member at count → taken_of (after_taken s) ≡ taken.Wants member at count
wants_again s member at count e =
    let same : heads_by (first_stop s.block 1 s.heads) s.heads (least_from 0 s.heads) ≡ s.heads = again_by s (first_stop s.block 1 s.heads) (least_from 0 s.heads) member at count e in
    ap (λ (hs : List HeadState). taken_of (record { block = s.block; heads = hs })) same ∙ e

-- ---- which bytes are wanted

-- the member's log, so many places behind the first, wants bytes from here on
record WantsFrom (m : ℕ) (heads : List HeadState) (member at : ℕ) : Type 0 where
  place : ℕ
  is : member ≡ m + place
  next : at ≡ hand_end (head_at heads place)

abbrev OneWants : ℕ → HeadState → ℕ → ℕ → Type 0
OneWants m h member at = (member ≡ m) × (at ≡ hand_end h)

bad_wants : (b : Bool) (m : ℕ) (h : HeadState) (member at count : ℕ) → cond b (Some (taken.Bad m h.end)) None ≡ Some (taken.Wants member at count) → ⊥
bad_wants true m h member at count e = cc
bad_wants false m h member at count e = cc

one_when : (b : Bool) (block m : ℕ) (h : HeadState) (member at count : ℕ)
    → stop_of m h.end (cond b (standing.Wants (hand_end h) (min (h.end - hand_end h) block)) (standing.Ends h.at)) ≡ Some (taken.Wants member at count) → OneWants m h member at
one_when true block m h member at count e = (cc, cc)
one_when false block m h member at count e = absurd (bad_wants (nat_lt h.at h.end) m h member at count e)

one_wants : (block m : ℕ) (h : HeadState) (f : Found) (member at count : ℕ) → stop_of m h.end (standing_by block h f) ≡ Some (taken.Wants member at count) → OneWants m h member at
one_wants block m h (Ok found) member at count e = absurd cc
one_wants block m h (Err (Bad field)) member at count e = absurd cc
one_wants block m h (Err NotWhole) member at count e = one_when (nat_lt (hand_end h) h.end) block m h member at count e
one_wants block m h (Err NoMemory) member at count e = one_when (nat_lt (hand_end h) h.end) block m h member at count e

wants_by : (o : Option Taken) (block m : ℕ) (h : HeadState) (hs : List HeadState) (member at count : ℕ) → stop_of m h.end (standing_of block h) ≡ o → or_else o (first_stop block (m + 1) hs) ≡ Some (taken.Wants member at count)
    → (first_stop block (m + 1) hs ≡ Some (taken.Wants member at count) → WantsFrom (m + 1) hs member at) → WantsFrom m (h ∷ hs) member at
wants_by None block m h hs member at count e w again =
    let it = again w in
    record { place = suc it.place; is = omega (arith, it.is); next = it.next }
wants_by (Some stop) block m h hs member at count e w again =
    let it = one_wants block m h (record_in h.hand) member at count (e ∙ w) in
    record { place = 0; is = omega (arith, it.0); next = it.1 }

wants_from : (block m : ℕ) (heads : List HeadState) (member at count : ℕ) → first_stop block m heads ≡ Some (taken.Wants member at count) → WantsFrom m heads member at
wants_from block m [] member at count e = absurd cc
wants_from block m (h ∷ hs) member at count e = wants_by (stop_of m h.end (standing_of block h)) block m h hs member at count refl e (wants_from block (m + 1) hs member at count)

record_wants : (m : ℕ) (o : Option LogRecord) (member at count : ℕ) → taken_record m o ≡ taken.Wants member at count → ⊥
record_wants m None member at count e = cc
record_wants m (Some r) member at count e = cc

stop_wants : (stop : Option Taken) (heads : List HeadState) (least : Option (ℕ × ℕ)) (member at count : ℕ) → taken_by stop heads least ≡ taken.Wants member at count → stop ≡ Some (taken.Wants member at count)
stop_wants (Some stop) heads least member at count e = cc
stop_wants None heads None member at count e = absurd cc
stop_wants None heads (Some p) member at count e = absurd (record_wants (p.0 + 1) (first_by (record_in (head_at heads p.0).hand)) member at count e)

pub wants_next : (s : HeadsState) (member at count : ℕ) → taken_of s ≡ taken.Wants member at count → (at ≡ hand_end (head_at s.heads (member - 1))) × (at + count ≤ (head_at s.heads (member - 1)).end) × (count ≤ s.block)
wants_next s member at count e =
    let w : AreWanted (taken_of s) member count = subst (λ (t : Taken). AreWanted t member count) (sym e) (refl, refl) in
    let it = wanted s member count w in
    let from = wants_from s.block 1 s.heads member at count (stop_wants (first_stop s.block 1 s.heads) s.heads (least_from 0 s.heads) member at count e) in
    let place : from.place ≡ member - 1 = omega (arith, from.is) in
    let next : at ≡ hand_end (head_at s.heads (member - 1)) = subst (λ (k : ℕ). at ≡ hand_end (head_at s.heads k)) place from.next in
    (next, omega (arith, it.room, next), it.few)

-- ---- what is in hand

pub few_after : (block : ℕ) (h : HeadState) (f : Found) → IsFew block h → IsFew block (after_by h f)
few_after block h (Ok (r, n)) few = omega (arith, few, length-drop n h.hand)
few_after block h (Err fault) few = few

few_at : (block : ℕ) (heads : List HeadState) (k : ℕ) → AllByRecursion (IsFew block) heads → IsFew block (head_at heads k)
few_at block [] k all = omega arith
few_at block (h ∷ hs) zero all = all.0
few_at block (h ∷ hs) (suc k) all = few_at block hs k all.1

pub few_by : (block : ℕ) (stop : Option Taken) (heads : List HeadState) (least : Option (ℕ × ℕ)) → AllByRecursion (IsFew block) heads → AllByRecursion (IsFew block) (heads_by stop heads least)
few_by block (Some stop) heads least all = all
few_by block None heads None all = all
few_by block None heads (Some p) all =
    all_set (IsFew block) heads p.0 (after_take (head_at heads p.0)) all (few_after block (head_at heads p.0) (record_in (head_at heads p.0).hand) (few_at block heads p.0 all))

pub few_taken : (s : HeadsState) → AllByRecursion (IsFew s.block) s.heads → AllByRecursion (IsFew s.block) (after_taken s).heads
few_taken s all = few_by s.block (first_stop s.block 1 s.heads) s.heads (least_from 0 s.heads) all

pub few_filled : (s : HeadsState) (member : ℕ) (bytes : List ℕ) → AllByRecursion (IsFew s.block) s.heads → length bytes ≤ s.block → length (filled (head_at s.heads (member - 1)) bytes).hand ≤ record_limit + length bytes
    → AllByRecursion (IsFew s.block) (after_fill s member bytes).heads
few_filled s member bytes all le few = all_set (IsFew s.block) s.heads (member - 1) (filled (head_at s.heads (member - 1)) bytes) all (omega (arith, le, few))

pub few_put : (block : ℕ) (heads : List HeadState) (place : ℕ) (bytes : List ℕ) → AllByRecursion (IsFew block) heads → length bytes ≤ block → length (filled (head_at heads place) bytes).hand ≤ record_limit + length bytes
    → AllByRecursion (IsFew block) (set heads place (filled (head_at heads place) bytes))
few_put block heads place bytes all le few = all_set (IsFew block) heads place (filled (head_at heads place) bytes) all (omega (arith, le, few))

-- a list of which as many are taken as there are
all_taken : (block len : ℕ) (new rest : List HeadState) → length new ≡ len → AllByRecursion (IsFew block) new → AllByRecursion (IsFew block) (take len (new ++ rest))
all_taken block len new rest long all = subst (AllByRecursion (IsFew block)) (sym (take_at new rest len long)) all

pub put_few : (block len : ℕ) (heads items new : List HeadState) (place : ℕ) (bytes : List ℕ) → heads ≡ items → new ≡ set heads place (filled (head_at heads place) bytes) → len ≡ length items → AllByRecursion (IsFew block) items
    → length bytes ≤ block → length (filled (head_at heads place) bytes).hand ≤ record_limit + length bytes → AllByRecursion (IsFew block) (take len (new ++ drop (length new) items))
put_few block len heads items new place bytes same is long all le few =
    let each : AllByRecursion (IsFew block) heads = subst (AllByRecursion (IsFew block)) (sym same) all in
    let put : AllByRecursion (IsFew block) new = subst (AllByRecursion (IsFew block)) (sym is) (few_put block heads place bytes each le few) in
    let kept : length (set heads place (filled (head_at heads place) bytes)) ≡ length heads = simp length-set in
    all_taken block len new (drop (length new) items) (ap length is ∙ kept ∙ ap length same ∙ sym long) put

length_by : (heads : List HeadState) (least : Option (ℕ × ℕ)) → length (heads_by None heads least) ≡ length heads
length_by heads None = refl
length_by heads (Some p) = simp length-set

pub least_few : (block len : ℕ) (heads items new : List HeadState) → heads ≡ items → new ≡ heads_by None heads (least_from 0 heads) → len ≡ length items → AllByRecursion (IsFew block) items
    → AllByRecursion (IsFew block) (take len (new ++ drop (length new) items))
least_few block len heads items new same is long all =
    let each : AllByRecursion (IsFew block) heads = subst (AllByRecursion (IsFew block)) (sym same) all in
    let left : AllByRecursion (IsFew block) new = subst (AllByRecursion (IsFew block)) (sym is) (few_by block None heads (least_from 0 heads) each) in
    all_taken block len new (drop (length new) items) (ap length is ∙ length_by heads (least_from 0 heads) ∙ ap length same ∙ sym long) left

pub few_new : (block : ℕ) (starts lengths : List ℕ) → AllByRecursion (IsFew block) (heads_of starts lengths)
few_new block [] lengths = tt
few_new block (s ∷ ss) [] = tt
few_new block (s ∷ ss) (l ∷ ls) = (omega arith, few_new block ss ls)

pub length_new : (starts lengths : List ℕ) → length starts ≡ length lengths → length (heads_of starts lengths) ≡ length starts
length_new [] lengths e = refl
length_new (s ∷ ss) [] e = absurd (omega (arith, e))
length_new (s ∷ ss) (l ∷ ls) e = omega (arith, length_new ss ls (omega (arith, e)))

pub few_of : (block : ℕ) (heads : List HeadState) (s : HeadsState) → record { block = block; heads = heads } ≡ s → AllByRecursion (IsFew block) heads → AllByRecursion (IsFew s.block) s.heads
few_of block heads s is all = subst (λ (t : HeadsState). AllByRecursion (IsFew t.block) t.heads) is all

-- ---- bytes of the logs

abbrev filled_at : List HeadState → ℕ → List ℕ → List HeadState
filled_at heads k bytes = set heads k (filled (head_at heads k) bytes)

abbrev log_at : List (List ℕ) → ℕ → List ℕ
log_at logs k = get_or logs k []

fill_is : FilledIsOf → (logs : List (List ℕ)) (heads : List HeadState) (k : ℕ) (bytes : List ℕ) → AreOf logs heads → k < length heads → 1 ≤ length bytes → hand_end (head_at heads k) + length bytes ≤ (head_at heads k).end
    → AreNext (log_at logs k) (head_at heads k) bytes → IsFilled logs heads (filled_at heads k bytes)
fill_is law [] [] k bytes is lt some room next = absurd (omega (arith, lt))
fill_is law [] (h ∷ hs) k bytes is lt some room next = absurd is
fill_is law (log ∷ logs) [] k bytes is lt some room next = absurd is
fill_is law (log ∷ logs) (h ∷ hs) zero bytes is lt some room next = record {
  are = (law log h bytes is.0 room next, is.1);
  same = refl;
  less = omega (arith, some, room, length-append h.hand bytes);
}
fill_is law (log ∷ logs) (h ∷ hs) (suc k) bytes is lt some room next =
    let it = fill_is law logs hs k bytes is.1 (omega (arith, lt)) some room next in
    record { are = (is.0, it.are); same = ap (λ (ls : List (List LogRecord)). left_of log h ∷ ls) it.same; less = omega (arith, it.less) }

pub fill_goes : FilledIsOf → (logs : List (List ℕ)) (s : HeadsState) (member : ℕ) (bytes : List ℕ) → 1 ≤ s.block → AreOf logs s.heads → AreWanted (taken_of s) member (length bytes) → AreNextOf logs s.heads member bytes
    → IsFilled logs s.heads (after_fill s member bytes).heads
fill_goes law logs s member bytes one is w next =
    let it = wanted s member (length bytes) w in
    fill_is law logs s.heads (member - 1) bytes is it.within (it.some one) it.room next

-- ---- how much is left to be done

less_at : (heads : List HeadState) (k : ℕ) (bytes : List ℕ) → k < length heads → 1 ≤ length bytes → hand_end (head_at heads k) + length bytes ≤ (head_at heads k).end → work_left (filled_at heads k bytes) < work_left heads
less_at [] k bytes lt some room = absurd (omega (arith, lt))
less_at (h ∷ hs) zero bytes lt some room = omega (arith, some, room, length-append h.hand bytes)
less_at (h ∷ hs) (suc k) bytes lt some room = omega (arith, less_at hs k bytes (omega (arith, lt)) some room)

pub fill_leaves : (s : HeadsState) (member : ℕ) (bytes : List ℕ) → 1 ≤ s.block → AreWanted (taken_of s) member (length bytes) → work_left (after_fill s member bytes).heads < work_left s.heads
fill_leaves s member bytes one w =
    let it = wanted s member (length bytes) w in
    less_at s.heads (member - 1) bytes it.within (it.some one) it.room

taken_when : RecordHasSize → (h : HeadState) (f : Found) → record_in h.hand ≡ f → work_left (after_by h f ∷ []) ≤ work_left (h ∷ [])
taken_when size h (Ok (r, n)) e = let s = size h.hand r n e in omega (arith, s.0, s.1, length-drop n h.hand)
taken_when size h (Err fault) e = omega arith

no_more_at : RecordHasSize → (heads : List HeadState) (k : ℕ) → work_left (set heads k (after_take (head_at heads k))) ≤ work_left heads
no_more_at size [] k = omega arith
no_more_at size (h ∷ hs) zero = omega (arith, taken_when size h (record_in h.hand) refl)
no_more_at size (h ∷ hs) (suc k) = omega (arith, no_more_at size hs k)

no_more_by : RecordHasSize → (stop : Option Taken) (heads : List HeadState) (least : Option (ℕ × ℕ)) → work_left (heads_by stop heads least) ≤ work_left heads
no_more_by size (Some stop) heads least = omega arith
no_more_by size None heads None = omega arith
no_more_by size None heads (Some p) = no_more_at size heads p.0

pub taken_leaves : RecordHasSize → (s : HeadsState) → work_left (after_taken s).heads ≤ work_left s.heads
taken_leaves size s = no_more_by size (first_stop s.block 1 s.heads) s.heads (least_from 0 s.heads)

-- ---- the end

none_number : (o : Option ℕ) (i : ℕ) (later : Option (ℕ × ℕ)) → least_of_two i o later ≡ None → (o ≡ None) × (later ≡ None)
none_number None i later e = (refl, e)
none_number (Some n) i None e = absurd cc
none_number (Some n) i (Some q) e = absurd (none_cond (nat_le n q.1) e)
  where
    none_cond : (b : Bool) → cond {A = Option (ℕ × ℕ)} b (Some (i, n)) (Some q) ≡ None → ⊥
    none_cond true e = cc
    none_cond false e = cc

at_end : (log : List ℕ) (h : HeadState) (f : Found) → IsOf log h → GoesFurther h f → number_by f ≡ None → h.at ≡ h.end
at_end log h (Ok (r, n)) is go e = absurd cc
at_end log h (Err fault) is go e = omega (arith, is.fits, go.1)

all_end : (i : ℕ) (logs : List (List ℕ)) (heads : List HeadState) → AreOf logs heads → AllFurther heads → least_from i heads ≡ None → AreRead heads
all_end i [] [] is go e = tt
all_end i [] (h ∷ hs) is go e = absurd is
all_end i (log ∷ logs) [] is go e = absurd is
all_end i (log ∷ logs) (h ∷ hs) is go e =
    let both = none_number (number_of h) i (least_from (i + 1) hs) e in
    (at_end log h (record_in h.hand) is.0 go.0 both.0, all_end (i + 1) logs hs is.1 go.1 both.1)

record_end : RecordHasSize → (m : ℕ) (heads : List HeadState) (p : ℕ × ℕ) → least_from 0 heads ≡ Some p → taken_record m (first_by (record_in (head_at heads p.0).hand)) ≡ taken.End → ⊥
record_end size m heads p e is =
    let it = placed 0 heads p e in
    let at : it.place ≡ p.0 = omega (arith, it.is) in
    by_number (record_in (head_at heads p.0).hand) (subst (λ (k : ℕ). number_of (head_at heads k) ≡ Some p.1) at it.number) is
  where
    by_number : (f : Found) → number_by f ≡ Some p.1 → taken_record m (first_by f) ≡ taken.End → ⊥
    by_number (Ok (r, n)) number is = cc
    by_number (Err fault) number is = cc

end_by : RecordHasSize → (logs : List (List ℕ)) (heads : List HeadState) (stop : Option Taken) (least : Option (ℕ × ℕ)) → AreOf logs heads → IfStops stop → (stop ≡ None → AllFurther heads) → least_from 0 heads ≡ least → taken_by stop heads least ≡ taken.End → AreRead heads
end_by size logs heads (Some (taken.Record m r)) least is ok go e end = absurd ok
end_by size logs heads (Some (taken.Wants m at n)) least is ok go e end = absurd cc
end_by size logs heads (Some (taken.Bad m at)) least is ok go e end = absurd cc
end_by size logs heads (Some taken.End) least is ok go e end = absurd ok
end_by size logs heads None None is ok go e end = all_end 0 logs heads is (go refl) e
end_by size logs heads None (Some p) is ok go e end = absurd (record_end size (p.0 + 1) heads p e end)

-- a log that is read up to its end neither stops nor has a record
none_in_hand : NothingIsShort → (log : List ℕ) (h : HeadState) → IsOf log h → h.at ≡ h.end → record_in h.hand ≡ Err NotWhole
none_in_hand law log h is e = let none : h.hand ≡ [] = nil_from_length h.hand (omega (arith, is.fits, e)) in ap record_in none ∙ law

no_stop : (block m : ℕ) (h : HeadState) → h.at ≡ h.end → h.end ≤ hand_end h → stop_of m h.end (standing_by block h (Err NotWhole)) ≡ None
no_stop block m h e le =
    let short : nat_lt (hand_end h) h.end ≡ false = le-ltb _ _ le in
    let over : nat_lt h.at h.end ≡ false = le-ltb _ _ (omega (arith, e)) in
    ap (λ (b : Bool). stop_of m h.end (cond b (standing.Wants (hand_end h) (min (h.end - hand_end h) block)) (standing.Ends h.at))) short
    ∙ ap (λ (b : Bool). cond b (Some (taken.Bad m h.end)) None) over

no_stops : NothingIsShort → (block m : ℕ) (logs : List (List ℕ)) (heads : List HeadState) → AreOf logs heads → AreRead heads → first_stop block m heads ≡ None
no_stops law block m [] [] is all = refl
no_stops law block m [] (h ∷ hs) is all = absurd is
no_stops law block m (log ∷ logs) [] is all = absurd is
no_stops law block m (log ∷ logs) (h ∷ hs) is all =
    let none = none_in_hand law log h is.0 all.0 in
    let stop : stop_of m h.end (standing_of block h) ≡ None = ap (λ (f : Found). stop_of m h.end (standing_by block h f)) none ∙ no_stop block m h all.0 (omega (arith, all.0)) in
    ap (λ (o : Option Taken). or_else o (first_stop block (m + 1) hs)) stop ∙ no_stops law block (m + 1) logs hs is.1 all.1

no_least : NothingIsShort → (i : ℕ) (logs : List (List ℕ)) (heads : List HeadState) → AreOf logs heads → AreRead heads → least_from i heads ≡ None
no_least law i [] [] is all = refl
no_least law i [] (h ∷ hs) is all = absurd is
no_least law i (log ∷ logs) [] is all = absurd is
no_least law i (log ∷ logs) (h ∷ hs) is all =
    ap (λ (f : Found). least_of_two i (number_by f) (least_from (i + 1) hs)) (none_in_hand law log h is.0 all.0) ∙ no_least law (i + 1) logs hs is.1 all.1

pub end_is : NothingIsShort → RecordHasSize → (logs : List (List ℕ)) (s : HeadsState) → AreOf logs s.heads → (taken_of s ≡ taken.End) ↔ AreRead s.heads
end_is law size logs s is = (
  λ e. end_by size logs s.heads (first_stop s.block 1 s.heads) (least_from 0 s.heads) is (stops s.block 1 s.heads) (all_further s.block 1 s.heads) refl e,
  λ all.
      ap (λ (o : Option Taken). taken_by o s.heads (least_from 0 s.heads)) (no_stops law s.block 1 logs s.heads is all)
      ∙ ap (λ (o : Option (ℕ × ℕ)). taken_by None s.heads o) (no_least law 0 logs s.heads is all),
)
