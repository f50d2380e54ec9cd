-- Logs of whole records that are read by blocks.
use Rattle.std.proofs.Common.{◌≡◌, ℕ, zero, suc, ◌+◌, ◌-◌, ◌<◌, Bool, true, false, cond, List, [], ◌∷◌, ◌++◌, length, get_or, set, drop, Option, Some, None, Result, Ok, Err, refl, sym, ap, subst, ◌∙◌, arith}
use Rattle.std.specs.Prelude.{nat_lt, min}
use Rattle.std.specs.List.{AllByRecursion}
use Rattle.std.proofs.lemmas.Bool.{ltb-true, ltb-false}
use Rattle.std.proofs.lemmas.List.{drop_at}
use Rattle.ds_model.specs.declared.log.LogRecord.{LogRecord}
use Rattle.ds_model.specs.RecordBytes.{record_bytes, log_bytes, IsAllowed}
use Rattle.log_record.specs.declared.fault.RecordFault.{RecordFault}
use Rattle.log_record.specs.declared.fault.RecordFault.TheVariants.{NotWhole, Bad, NoMemory}
use Rattle.log_record.specs.Reading.{record_in}
use Rattle.log_head.specs.declared.standing.Standing.TheVariants as standing
use Rattle.log_head.specs.Heads.{HeadState, hand_end, standing_by, standing_of, first_by, behind, after_by, after_take, filled, IsOf, left_bytes, left_of}
use Rattle.log_head.specs.Laws.{NothingIsShort, TakenIsFirst, RecordIsLeft, EndIsInHand, BadIsLeft}
use Rattle.log_heads.specs.declared.taken.Taken.{Taken}
use Rattle.log_heads.specs.declared.taken.Taken.TheVariants as taken
use Rattle.log_heads.specs.Heads.{HeadsState, head_at, or_else, stop_of, first_stop, least_from, taken_record, taken_by, taken_of, heads_by, after_taken, after_fill}
use Rattle.log_heads.specs.Logs.{AreOf, left, GoesOn, IsFilled}
use Rattle.disk_walk.specs.Walks.{IsWhole, AreWhole, Stand, Comes}

abbrev Read : Type 0
Read = Result (LogRecord × ℕ) RecordFault

abbrev ok_read : LogRecord → ℕ → Read
ok_read r n = Ok (r, n)

abbrev err_read : RecordFault → Read
err_read fault = Err fault

abbrev size_of : Read → ℕ
size_of (Ok found) = found.1
size_of (Err fault) = 0

same_size : (r : LogRecord) (a b : ℕ) → ok_read r a ≡ ok_read r b → a ≡ b
same_size r a b e = ap size_of e

not_both : (r : LogRecord) (n : ℕ) (fault : RecordFault) → ok_read r n ≡ err_read fault → ⊥
not_both r n fault e = cc

not_equal : (field : ℕ) → err_read NotWhole ≡ err_read (Bad field) → ⊥
not_equal field e = cc

-- a spelling is read, whatever follows it
abbrev pub Again : Type 0
Again = (r : LogRecord) (rest : List ℕ) → IsAllowed r → record_in (record_bytes r ++ rest) ≡ Ok (r, length (record_bytes r))

-- ---- whole records stay whole records

whole_behind : Again → TakenIsFirst → RecordIsLeft → (log : List ℕ) (h : HeadState) (r : LogRecord) (n : ℕ) → IsOf log h → IsWhole log h → record_in h.hand ≡ Ok (r, n) → IsWhole log (behind h n)
whole_behind again first left log h r n is w e =
    let rest : List LogRecord = left_of log (behind h n) in
    let records : left_of log h ≡ r ∷ rest = (first log h r n is e).1 in
    let l = left log h r n is e in
    let allowed : AllByRecursion IsAllowed (r ∷ rest) = subst (AllByRecursion IsAllowed) records w.1 in
    let spelled : left_bytes log h ≡ record_bytes r ++ log_bytes rest = w.0 ∙ ap log_bytes records in
    let read : record_in (left_bytes log h) ≡ Ok (r, length (record_bytes r)) = ap record_in spelled ∙ again r (log_bytes rest) allowed.0 in
    let size : n ≡ length (record_bytes r) = same_size r n (length (record_bytes r)) (sym l.0 ∙ read) in (
      l.1 ∙ ap (drop n) spelled ∙ drop_at (record_bytes r) (log_bytes rest) n (sym size),
      allowed.1,
    )

whole_when : Again → TakenIsFirst → RecordIsLeft → (log : List ℕ) (h : HeadState) (f : Read) → IsOf log h → IsWhole log h → record_in h.hand ≡ f → IsWhole log (after_by h f)
whole_when again first left log h (Ok (r, n)) is w e = whole_behind again first left log h r n is w e
whole_when again first left log h (Err fault) is w e = w

whole_at : Again → TakenIsFirst → RecordIsLeft → (logs : List (List ℕ)) (hs : List HeadState) (k : ℕ) → AreOf logs hs → AreWhole logs hs → AreWhole logs (set hs k (after_take (head_at hs k)))
whole_at again first left [] hs k is w = tt
whole_at again first left (log ∷ logs) [] k is w = absurd is
whole_at again first left (log ∷ logs) (h ∷ hs) zero is w = (whole_when again first left log h (record_in h.hand) is.0 w.0 refl, w.1)
whole_at again first left (log ∷ logs) (h ∷ hs) (suc k) is w = (w.0, whole_at again first left logs hs k is.1 w.1)

whole_by : Again → TakenIsFirst → RecordIsLeft → (stop : Option Taken) (logs : List (List ℕ)) (hs : List HeadState) (least : Option (ℕ × ℕ)) → AreOf logs hs → AreWhole logs hs → AreWhole logs (heads_by stop hs least)
whole_by again first left (Some stop) logs hs least is w = w
whole_by again first left None logs hs None is w = w
whole_by again first left None logs hs (Some p) is w = whole_at again first left logs hs p.0 is w

-- ---- and nothing else is met

bad_reads : Again → NothingIsShort → (rs : List LogRecord) (bytes : List ℕ) (field : ℕ) → AllByRecursion IsAllowed rs → bytes ≡ log_bytes rs → record_in bytes ≡ Err (Bad field) → ⊥
bad_reads again none [] bytes field allowed is e = not_equal field (sym none ∙ ap record_in (sym is) ∙ e)
bad_reads again none (r ∷ rs) bytes field allowed is e = not_both r (length (record_bytes r)) (Bad field) (sym (again r (log_bytes rs) allowed.0) ∙ ap record_in (sym is) ∙ e)

-- bytes that are no whole record are none
short_reads : Again → (rs : List LogRecord) (bytes : List ℕ) (fault : RecordFault) → AllByRecursion IsAllowed rs → bytes ≡ log_bytes rs → record_in bytes ≡ Err fault → length bytes ≡ 0
short_reads again [] bytes fault allowed is e = ap length is
short_reads again (r ∷ rs) bytes fault allowed is e = absurd (not_both r (length (record_bytes r)) fault (sym (again r (log_bytes rs) allowed.0) ∙ ap record_in (sym is) ∙ e))

ends_bad : (b : Bool) (h : HeadState) (m member at : ℕ) → nat_lt h.at h.end ≡ b → (h.at < h.end → ⊥) → cond b (Some (taken.Bad m h.end)) None ≡ Some (taken.Bad member at) → ⊥
ends_bad true h m member at e past is = past (ltb-true _ _ e)
ends_bad false h m member at e past is = cc

short_bad : Again → EndIsInHand → (fault : RecordFault) (b : Bool) (block m : ℕ) (log : List ℕ) (h : HeadState) (member at : ℕ) → nat_lt (hand_end h) h.end ≡ b → record_in h.hand ≡ Err fault → IsOf log h → IsWhole log h
    → stop_of m h.end (cond b (standing.Wants (hand_end h) (min (h.end - hand_end h) block)) (standing.Ends h.at)) ≡ Some (taken.Bad member at) → ⊥
short_bad again ended fault true block m log h member at t e is w bad = cc
short_bad again ended fault false block m log h member at t e is w bad =
    let all : hand_end h ≡ h.end = omega (arith, is.fits, ltb-false _ _ t) in
    let same : left_bytes log h ≡ h.hand = ended log h is all in
    let none : length (left_bytes log h) ≡ 0 = short_reads again (left_of log h) (left_bytes log h) fault w.1 w.0 (ap record_in same ∙ e) in
    let hand : length h.hand ≡ 0 = ap length (sym same) ∙ none in
    ends_bad (nat_lt h.at h.end) h m member at refl (λ lt. absurd (omega (arith, lt, all, hand))) bad

one_bad : Again → NothingIsShort → EndIsInHand → BadIsLeft → (f : Read) (block m : ℕ) (log : List ℕ) (h : HeadState) (member at : ℕ) → record_in h.hand ≡ f → IsOf log h → IsWhole log h
    → stop_of m h.end (standing_by block h f) ≡ Some (taken.Bad member at) → ⊥
one_bad again none ended bad (Ok found) block m log h member at e is w stop = cc
one_bad again none ended bad (Err (Bad field)) block m log h member at e is w stop = bad_reads again none (left_of log h) (left_bytes log h) field w.1 w.0 (bad log h field is e)
one_bad again none ended bad (Err NotWhole) block m log h member at e is w stop = short_bad again ended NotWhole (nat_lt (hand_end h) h.end) block m log h member at refl e is w stop
one_bad again none ended bad (Err NoMemory) block m log h member at e is w stop = short_bad again ended NoMemory (nat_lt (hand_end h) h.end) block m log h member at refl e is w stop

stop_bad : Again → NothingIsShort → EndIsInHand → BadIsLeft → (o : Option Taken) (block m : ℕ) (log : List ℕ) (h : HeadState) (hs : List HeadState) (member at : ℕ) → IsOf log h → IsWhole log h
    → stop_of m h.end (standing_of block h) ≡ o → or_else o (first_stop block (m + 1) hs) ≡ Some (taken.Bad member at) → (first_stop block (m + 1) hs ≡ Some (taken.Bad member at) → ⊥) → ⊥
stop_bad again none ended bad None block m log h hs member at is w e stop more = more stop
stop_bad again none ended bad (Some x) block m log h hs member at is w e stop more = one_bad again none ended bad (record_in h.hand) block m log h member at refl is w (e ∙ stop)

first_bad : Again → NothingIsShort → EndIsInHand → BadIsLeft → (block m : ℕ) (logs : List (List ℕ)) (hs : List HeadState) (member at : ℕ) → AreOf logs hs → AreWhole logs hs → first_stop block m hs ≡ Some (taken.Bad member at) → ⊥
first_bad again none ended bad block m [] [] member at is w e = cc
first_bad again none ended bad block m [] (h ∷ hs) member at is w e = absurd is
first_bad again none ended bad block m (log ∷ logs) [] member at is w e = absurd is
first_bad again none ended bad block m (log ∷ logs) (h ∷ hs) member at is w e =
    stop_bad again none ended bad (stop_of m h.end (standing_of block h)) block m log h hs member at is.0 w.0 refl e (first_bad again none ended bad block (m + 1) logs hs member at is.1 w.1)

record_bad : (m : ℕ) (o : Option LogRecord) (member at : ℕ) → taken_record m o ≡ taken.Bad member at → ⊥
record_bad m None member at e = cc
record_bad m (Some r) member at e = cc

taken_bad : (stop : Option Taken) (hs : List HeadState) (least : Option (ℕ × ℕ)) (member at : ℕ) → taken_by stop hs least ≡ taken.Bad member at → stop ≡ Some (taken.Bad member at)
taken_bad (Some stop) hs least member at e = cc
taken_bad None hs None member at e = absurd cc
taken_bad None hs (Some p) member at e = absurd (record_bad (p.0 + 1) (first_by (record_in (head_at hs p.0).hand)) member at e)

-- ---- what is taken

-- what was taken, where nothing is damaged
stands_when : (logs : List (List ℕ)) (hs gs : List HeadState) (t : Taken) → ((member at : ℕ) → t ≡ taken.Bad member at → ⊥) → AreOf logs hs → AreWhole logs gs → GoesOn logs hs t gs → Stand logs gs × Comes (left logs hs) t (left logs gs)
stands_when logs hs gs (taken.Record member r) unmet is w goes = (record { of = goes.0; whole = w }, goes.2)
stands_when logs hs gs (taken.Wants member at count) unmet is w goes = (record { of = subst (AreOf logs) (sym goes) is; whole = w }, ap (left logs) goes)
stands_when logs hs gs (taken.Bad member at) unmet is w goes = absurd (unmet member at refl)
stands_when logs hs gs taken.End unmet is w goes = (record { of = subst (AreOf logs) (sym goes.0) is; whole = w }, goes.1)

pub stands : Again → NothingIsShort → TakenIsFirst → RecordIsLeft → EndIsInHand → BadIsLeft → (logs : List (List ℕ)) (s g : HeadsState) (t : Taken) → t ≡ taken_of s → g ≡ after_taken s
    → GoesOn logs s.heads t g.heads → Stand logs s.heads → Stand logs g.heads × Comes (left logs s.heads) t (left logs g.heads)
stands again none first left ended bad logs s g t is new goes stand =
    let whole : AreWhole logs g.heads = subst (λ (x : HeadsState). AreWhole logs x.heads) (sym new) (whole_by again first left (first_stop s.block 1 s.heads) logs s.heads (least_from 0 s.heads) stand.of stand.whole) in
    stands_when logs s.heads g.heads t
    (λ member at e. first_bad again none ended bad s.block 1 logs s.heads member at stand.of stand.whole (taken_bad (first_stop s.block 1 s.heads) s.heads (least_from 0 s.heads) member at (sym is ∙ e)))
    stand.of whole goes

-- ---- bytes that are read on

-- bytes in hand say nothing of what is left
whole_filled : (logs : List (List ℕ)) (hs : List HeadState) (k : ℕ) (bytes : List ℕ) → AreWhole logs hs → AreWhole logs (set hs k (filled (head_at hs k) bytes))
whole_filled [] hs k bytes w = tt
whole_filled (log ∷ logs) [] k bytes w = tt
whole_filled (log ∷ logs) (h ∷ hs) zero bytes w = (w.0, w.1)
whole_filled (log ∷ logs) (h ∷ hs) (suc k) bytes w = (w.0, whole_filled logs hs k bytes w.1)

pub stands_filled : (logs : List (List ℕ)) (s g : HeadsState) (member : ℕ) (bytes : List ℕ) → g ≡ after_fill s member bytes → IsFilled logs s.heads g.heads → Stand logs s.heads → Stand logs g.heads × (left logs g.heads ≡ left logs s.heads)
stands_filled logs s g member bytes new is stand =
    let whole : AreWhole logs g.heads = subst (λ (x : HeadsState). AreWhole logs x.heads) (sym new) (whole_filled logs s.heads (member - 1) bytes stand.whole) in
    (record { of = is.are; whole = whole }, is.same)

-- the log of a member, of as many as there are heads
pub is_of_at : (logs : List (List ℕ)) (hs : List HeadState) (k : ℕ) → AreOf logs hs → IsOf (get_or logs k []) (head_at hs k)
is_of_at [] [] k is = record { within = omega arith; fits = omega arith; told = refl }
is_of_at [] (h ∷ hs) k is = absurd is
is_of_at (log ∷ logs) [] k is = absurd is
is_of_at (log ∷ logs) (h ∷ hs) zero is = is.0
is_of_at (log ∷ logs) (h ∷ hs) (suc k) is = is_of_at logs hs k is.1
