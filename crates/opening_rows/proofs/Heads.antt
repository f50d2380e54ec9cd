-- Logs of whole records that are read by blocks.
use Rattle.std.proofs.Common.{◌≡◌, ℕ, zero, suc, ◌+◌, ◌-◌, ◌<◌, Bool, true, false, true≢false, ◌||◌, cond, List, [], ◌∷◌, ◌++◌, length, get_or, set, take, drop, Option, Some, None, Result, Ok, Err, refl, sym, ap, subst, ◌∙◌, arith}
use Rattle.std.specs.Prelude.{nat_lt, min, ◌==◌, ◌&&◌}
use Rattle.std.specs.List.{AllByRecursion}
use Rattle.std.proofs.lemmas.Bool.{ltb-true, ltb-false}
use Rattle.std.proofs.lemmas.List.{drop_at}
use Rattle.ds_model.specs.declared.log.LogRecord.{LogRecord}
use Rattle.ds_model.specs.RecordBytes.{record_bytes, log_bytes, IsAllowed}
use Rattle.log_record.specs.declared.fault.RecordFault.{RecordFault}
use Rattle.log_record.specs.declared.fault.RecordFault.TheVariants.{NotWhole, Bad, NoMemory}
use Rattle.log_record.specs.declared.log.Log.{Log}
use Rattle.log_record.specs.Reading.{record_in}
use Rattle.log_record.specs.Logs.{parts_of, IsLogOf}
use Rattle.log_merge.specs.Merging as merging
use Rattle.log_head.specs.declared.standing.Standing.TheVariants as standing
use Rattle.log_head.specs.Whole.{whole_records}
use Rattle.log_head.specs.Heads.{HeadState, hand_end, standing_by, standing_of, first_by, behind, after_by, after_take, filled, IsOf, left_bytes, left_of}
use Rattle.log_head.specs.Laws.{NothingIsShort, PartsAreWhole, TakenIsFirst, RecordIsLeft, EndIsInHand, BadIsLeft}
use Rattle.log_heads.specs.declared.taken.Taken.{Taken}
use Rattle.log_heads.specs.declared.taken.Taken.TheVariants as taken
use Rattle.log_heads.specs.Heads.{HeadsState, head_at, heads_of, AreStarts, or_else, stop_of, first_stop, least_from, taken_record, taken_by, taken_of, heads_by, after_taken, after_fill}
use Rattle.log_heads.specs.Logs.{AreOf, left, together, NoneFalls, GoesOn, IsFilled}
use Rattle.report_check.specs.Records.{records_of}
use Rattle.opening_rows.specs.Reading.{AreLogsOf}
use Rattle.opening_rows.specs.Surveyed.{lengths_of}
use Rattle.std.specs.FinMap as finite
use Rattle.ds_model.specs.Rows.{Rows}
use Rattle.std.specs.BTreeSet as set
use Rattle.std.specs.Ordering.{nat_cmp}
use Rattle.ds_model.specs.Logs.{is_commit, has_commit, by_lrsn}
use Rattle.opening_rows.specs.Rows.{IsWhole, AreWhole, Stand, Comes, IsNextOfAll, rows_by, counts, IsAdded, IsMade}
use Rattle.opening_rows.specs.declared.made.Made.{Made}
use Rattle.opening_rows.proofs.Order.{row_more, rows_done, none_together, commits_by}

abbrev Read : Type 0
Read = Result (LogRecord × ℕ) RecordFault

abbrev ok_read : LogRecord → ℕ → Read
ok_read r n = Ok (r, n)

abbrev err_read : RecordFault → Read
err_read fault = Err fault

abbrev size_of : Read → ℕ
size_of (Ok found) = found.1
size_of (Err fault) = 0

same_size : (r : LogRecord) (a b : ℕ) → ok_read r a ≡ ok_read r b → a ≡ b
same_size r a b e = ap size_of e

not_both : (r : LogRecord) (n : ℕ) (fault : RecordFault) → ok_read r n ≡ err_read fault → ⊥
not_both r n fault e = cc

not_equal : (field : ℕ) → err_read NotWhole ≡ err_read (Bad field) → ⊥
not_equal field e = cc

-- a spelling is read, whatever follows it
abbrev Again : Type 0
Again = (r : LogRecord) (rest : List ℕ) → IsAllowed r → record_in (record_bytes r ++ rest) ≡ Ok (r, length (record_bytes r))

-- ---- whole records stay whole records

whole_behind : Again → TakenIsFirst → RecordIsLeft → (log : List ℕ) (h : HeadState) (r : LogRecord) (n : ℕ) → IsOf log h → IsWhole log h → record_in h.hand ≡ Ok (r, n) → IsWhole log (behind h n)
whole_behind again first left log h r n is w e =
    let rest : List LogRecord = left_of log (behind h n) in
    let records : left_of log h ≡ r ∷ rest = (first log h r n is e).1 in
    let l = left log h r n is e in
    let allowed : AllByRecursion IsAllowed (r ∷ rest) = subst (AllByRecursion IsAllowed) records w.1 in
    let spelled : left_bytes log h ≡ record_bytes r ++ log_bytes rest = w.0 ∙ ap log_bytes records in
    let read : record_in (left_bytes log h) ≡ Ok (r, length (record_bytes r)) = ap record_in spelled ∙ again r (log_bytes rest) allowed.0 in
    let size : n ≡ length (record_bytes r) = same_size r n (length (record_bytes r)) (sym l.0 ∙ read) in (
      l.1 ∙ ap (drop n) spelled ∙ drop_at (record_bytes r) (log_bytes rest) n (sym size),
      allowed.1,
    )

whole_when : Again → TakenIsFirst → RecordIsLeft → (log : List ℕ) (h : HeadState) (f : Read) → IsOf log h → IsWhole log h → record_in h.hand ≡ f → IsWhole log (after_by h f)
whole_when again first left log h (Ok (r, n)) is w e = whole_behind again first left log h r n is w e
whole_when again first left log h (Err fault) is w e = w

whole_at : Again → TakenIsFirst → RecordIsLeft → (logs : List (List ℕ)) (hs : List HeadState) (k : ℕ) → AreOf logs hs → AreWhole logs hs → AreWhole logs (set hs k (after_take (head_at hs k)))
whole_at again first left [] hs k is w = tt
whole_at again first left (log ∷ logs) [] k is w = absurd is
whole_at again first left (log ∷ logs) (h ∷ hs) zero is w = (whole_when again first left log h (record_in h.hand) is.0 w.0 refl, w.1)
whole_at again first left (log ∷ logs) (h ∷ hs) (suc k) is w = (w.0, whole_at again first left logs hs k is.1 w.1)

whole_by : Again → TakenIsFirst → RecordIsLeft → (stop : Option Taken) (logs : List (List ℕ)) (hs : List HeadState) (least : Option (ℕ × ℕ)) → AreOf logs hs → AreWhole logs hs → AreWhole logs (heads_by stop hs least)
whole_by again first left (Some stop) logs hs least is w = w
whole_by again first left None logs hs None is w = w
whole_by again first left None logs hs (Some p) is w = whole_at again first left logs hs p.0 is w

-- ---- and nothing else is met

bad_reads : Again → NothingIsShort → (rs : List LogRecord) (bytes : List ℕ) (field : ℕ) → AllByRecursion IsAllowed rs → bytes ≡ log_bytes rs → record_in bytes ≡ Err (Bad field) → ⊥
bad_reads again none [] bytes field allowed is e = not_equal field (sym none ∙ ap record_in (sym is) ∙ e)
bad_reads again none (r ∷ rs) bytes field allowed is e = not_both r (length (record_bytes r)) (Bad field) (sym (again r (log_bytes rs) allowed.0) ∙ ap record_in (sym is) ∙ e)

-- bytes that are no whole record are none
short_reads : Again → (rs : List LogRecord) (bytes : List ℕ) (fault : RecordFault) → AllByRecursion IsAllowed rs → bytes ≡ log_bytes rs → record_in bytes ≡ Err fault → length bytes ≡ 0
short_reads again [] bytes fault allowed is e = ap length is
short_reads again (r ∷ rs) bytes fault allowed is e = absurd (not_both r (length (record_bytes r)) fault (sym (again r (log_bytes rs) allowed.0) ∙ ap record_in (sym is) ∙ e))

ends_bad : (b : Bool) (h : HeadState) (m member at : ℕ) → nat_lt h.at h.end ≡ b → (h.at < h.end → ⊥) → cond b (Some (taken.Bad m h.end)) None ≡ Some (taken.Bad member at) → ⊥
ends_bad true h m member at e past is = past (ltb-true _ _ e)
ends_bad false h m member at e past is = cc

short_bad : Again → EndIsInHand → (fault : RecordFault) (b : Bool) (block m : ℕ) (log : List ℕ) (h : HeadState) (member at : ℕ) → nat_lt (hand_end h) h.end ≡ b → record_in h.hand ≡ Err fault → IsOf log h → IsWhole log h
    → stop_of m h.end (cond b (standing.Wants (hand_end h) (min (h.end - hand_end h) block)) (standing.Ends h.at)) ≡ Some (taken.Bad member at) → ⊥
short_bad again ended fault true block m log h member at t e is w bad = cc
short_bad again ended fault false block m log h member at t e is w bad =
    let all : hand_end h ≡ h.end = omega (arith, is.fits, ltb-false _ _ t) in
    let same : left_bytes log h ≡ h.hand = ended log h is all in
    let none : length (left_bytes log h) ≡ 0 = short_reads again (left_of log h) (left_bytes log h) fault w.1 w.0 (ap record_in same ∙ e) in
    let hand : length h.hand ≡ 0 = ap length (sym same) ∙ none in
    ends_bad (nat_lt h.at h.end) h m member at refl (λ lt. absurd (omega (arith, lt, all, hand))) bad

one_bad : Again → NothingIsShort → EndIsInHand → BadIsLeft → (f : Read) (block m : ℕ) (log : List ℕ) (h : HeadState) (member at : ℕ) → record_in h.hand ≡ f → IsOf log h → IsWhole log h
    → stop_of m h.end (standing_by block h f) ≡ Some (taken.Bad member at) → ⊥
one_bad again none ended bad (Ok found) block m log h member at e is w stop = cc
one_bad again none ended bad (Err (Bad field)) block m log h member at e is w stop = bad_reads again none (left_of log h) (left_bytes log h) field w.1 w.0 (bad log h field is e)
one_bad again none ended bad (Err NotWhole) block m log h member at e is w stop = short_bad again ended NotWhole (nat_lt (hand_end h) h.end) block m log h member at refl e is w stop
one_bad again none ended bad (Err NoMemory) block m log h member at e is w stop = short_bad again ended NoMemory (nat_lt (hand_end h) h.end) block m log h member at refl e is w stop

stop_bad : Again → NothingIsShort → EndIsInHand → BadIsLeft → (o : Option Taken) (block m : ℕ) (log : List ℕ) (h : HeadState) (hs : List HeadState) (member at : ℕ) → IsOf log h → IsWhole log h
    → stop_of m h.end (standing_of block h) ≡ o → or_else o (first_stop block (m + 1) hs) ≡ Some (taken.Bad member at) → (first_stop block (m + 1) hs ≡ Some (taken.Bad member at) → ⊥) → ⊥
stop_bad again none ended bad None block m log h hs member at is w e stop more = more stop
stop_bad again none ended bad (Some x) block m log h hs member at is w e stop more = one_bad again none ended bad (record_in h.hand) block m log h member at refl is w (e ∙ stop)

first_bad : Again → NothingIsShort → EndIsInHand → BadIsLeft → (block m : ℕ) (logs : List (List ℕ)) (hs : List HeadState) (member at : ℕ) → AreOf logs hs → AreWhole logs hs → first_stop block m hs ≡ Some (taken.Bad member at) → ⊥
first_bad again none ended bad block m [] [] member at is w e = cc
first_bad again none ended bad block m [] (h ∷ hs) member at is w e = absurd is
first_bad again none ended bad block m (log ∷ logs) [] member at is w e = absurd is
first_bad again none ended bad block m (log ∷ logs) (h ∷ hs) member at is w e =
    stop_bad again none ended bad (stop_of m h.end (standing_of block h)) block m log h hs member at is.0 w.0 refl e (first_bad again none ended bad block (m + 1) logs hs member at is.1 w.1)

record_bad : (m : ℕ) (o : Option LogRecord) (member at : ℕ) → taken_record m o ≡ taken.Bad member at → ⊥
record_bad m None member at e = cc
record_bad m (Some r) member at e = cc

taken_bad : (stop : Option Taken) (hs : List HeadState) (least : Option (ℕ × ℕ)) (member at : ℕ) → taken_by stop hs least ≡ taken.Bad member at → stop ≡ Some (taken.Bad member at)
taken_bad (Some stop) hs least member at e = cc
taken_bad None hs None member at e = absurd cc
taken_bad None hs (Some p) member at e = absurd (record_bad (p.0 + 1) (first_by (record_in (head_at hs p.0).hand)) member at e)

-- ---- what is taken

-- what was taken, where nothing is damaged
stands_when : (logs : List (List ℕ)) (hs gs : List HeadState) (t : Taken) → ((member at : ℕ) → t ≡ taken.Bad member at → ⊥) → AreOf logs hs → AreWhole logs gs → GoesOn logs hs t gs → Stand logs gs × Comes (left logs hs) t (left logs gs)
stands_when logs hs gs (taken.Record member r) unmet is w goes = (record { of = goes.0; whole = w }, goes.2)
stands_when logs hs gs (taken.Wants member at count) unmet is w goes = (record { of = subst (AreOf logs) (sym goes) is; whole = w }, ap (left logs) goes)
stands_when logs hs gs (taken.Bad member at) unmet is w goes = absurd (unmet member at refl)
stands_when logs hs gs taken.End unmet is w goes = (record { of = subst (AreOf logs) (sym goes.0) is; whole = w }, goes.1)

pub stands : Again → NothingIsShort → TakenIsFirst → RecordIsLeft → EndIsInHand → BadIsLeft → (logs : List (List ℕ)) (s g : HeadsState) (t : Taken) → t ≡ taken_of s → g ≡ after_taken s
    → GoesOn logs s.heads t g.heads → Stand logs s.heads → Stand logs g.heads × Comes (left logs s.heads) t (left logs g.heads)
stands again none first left ended bad logs s g t is new goes stand =
    let whole : AreWhole logs g.heads = subst (λ (x : HeadsState). AreWhole logs x.heads) (sym new) (whole_by again first left (first_stop s.block 1 s.heads) logs s.heads (least_from 0 s.heads) stand.of stand.whole) in
    stands_when logs s.heads g.heads t
    (λ member at e. first_bad again none ended bad s.block 1 logs s.heads member at stand.of stand.whole (taken_bad (first_stop s.block 1 s.heads) s.heads (least_from 0 s.heads) member at (sym is ∙ e)))
    stand.of whole goes

-- ---- bytes that are read on

-- bytes in hand say nothing of what is left
whole_filled : (logs : List (List ℕ)) (hs : List HeadState) (k : ℕ) (bytes : List ℕ) → AreWhole logs hs → AreWhole logs (set hs k (filled (head_at hs k) bytes))
whole_filled [] hs k bytes w = tt
whole_filled (log ∷ logs) [] k bytes w = tt
whole_filled (log ∷ logs) (h ∷ hs) zero bytes w = (w.0, w.1)
whole_filled (log ∷ logs) (h ∷ hs) (suc k) bytes w = (w.0, whole_filled logs hs k bytes w.1)

pub stands_filled : (logs : List (List ℕ)) (s g : HeadsState) (member : ℕ) (bytes : List ℕ) → g ≡ after_fill s member bytes → IsFilled logs s.heads g.heads → Stand logs s.heads → Stand logs g.heads × (left logs g.heads ≡ left logs s.heads)
stands_filled logs s g member bytes new is stand =
    let whole : AreWhole logs g.heads = subst (λ (x : HeadsState). AreWhole logs x.heads) (sym new) (whole_filled logs s.heads (member - 1) bytes stand.whole) in
    (record { of = is.are; whole = whole }, is.same)

-- the log of a member, of as many as there are heads
pub is_of_at : (logs : List (List ℕ)) (hs : List HeadState) (k : ℕ) → AreOf logs hs → IsOf (get_or logs k []) (head_at hs k)
is_of_at [] [] k is = record { within = omega arith; fits = omega arith; told = refl }
is_of_at [] (h ∷ hs) k is = absurd is
is_of_at (log ∷ logs) [] k is = absurd is
is_of_at (log ∷ logs) (h ∷ hs) zero is = is.0
is_of_at (log ∷ logs) (h ∷ hs) (suc k) is = is_of_at logs hs k is.1

-- ---- where reading begins

abbrev AreZeros : List ℕ → Type 0
AreZeros starts = AllByRecursion (λ (s : ℕ). s ≡ 0) starts

pub starts_within : (starts ends : List ℕ) → AreZeros starts → AreStarts starts ends
starts_within [] ends z = tt
starts_within (s ∷ ss) [] z = tt
starts_within (s ∷ ss) (l ∷ ls) z = (omega (arith, z.0), starts_within ss ls z.1)

record Begins (bytes : List ℕ) (h : HeadState) (records : List LogRecord) : Type 0 where
  of : IsOf bytes h
  whole : IsWhole bytes h
  left_is : left_of bytes h ≡ records

begins_at : PartsAreWhole → (bytes : List ℕ) (log : Log) → IsLogOf bytes log → Begins bytes (record { at = 0; hand = []; end = log.length }) log.records
begins_at parts bytes log is =
    let a = parts bytes (parts_of log) is.is_read in
    let h : HeadState = record { at = 0; hand = []; end = log.length } in
    let all : log.length - 0 ≡ log.length = omega arith in
    let bytes_are : left_bytes bytes h ≡ take log.length bytes = ap (λ (n : ℕ). take n bytes) all in
    let records_are : left_of bytes h ≡ log.records = ap whole_records bytes_are ∙ a.1 in
    record {
      of = record { within = a.0; fits = omega arith; told = refl };
      whole = (bytes_are ∙ is.spelled ∙ ap log_bytes (sym records_are), subst (AllByRecursion IsAllowed) (sym records_are) is.allowed);
      left_is = records_are;
    }

record AllBegin (bytes : List (List ℕ)) (hs : List HeadState) (logs : List Log) : Type 0 where
  of : AreOf bytes hs
  whole : AreWhole bytes hs
  left_is : left bytes hs ≡ records_of logs

all_begin : PartsAreWhole → (bytes : List (List ℕ)) (logs : List Log) (starts : List ℕ) → AreZeros starts → length starts ≡ length (lengths_of logs) → AreLogsOf bytes logs → AllBegin bytes (heads_of starts (lengths_of logs)) logs
all_begin parts [] [] [] z long are = record { of = tt; whole = tt; left_is = refl }
all_begin parts [] [] (s ∷ ss) z long are = absurd (omega (arith, long))
all_begin parts [] (log ∷ logs) starts z long are = absurd are
all_begin parts (bs ∷ bss) [] starts z long are = absurd are
all_begin parts (bs ∷ bss) (log ∷ logs) [] z long are = absurd (omega (arith, long))
all_begin parts (bs ∷ bss) (log ∷ logs) (s ∷ ss) z long are =
    let one = subst (λ (k : ℕ). Begins bs (record { at = k; hand = []; end = log.length }) log.records) (sym z.0) (begins_at parts bs log are.0) in
    let more = all_begin parts bss logs ss z.1 (omega (arith, long)) are.1 in
    record {
      of = (one.of, more.of);
      whole = (one.whole, more.whole);
      left_is = ap (λ (l : List LogRecord). l ∷ left bss (heads_of ss (lengths_of logs))) one.left_is ∙ ap (λ (ls : List (List LogRecord)). log.records ∷ ls) more.left_is;
    }

none_falls : (logs : List Log) → merging.NoneFalls logs → NoneFalls (records_of logs)
none_falls [] h = tt
none_falls (l ∷ ls) h = (h.0, none_falls ls h.1)

-- what is left at first are the records of the logs
pub record Start (bytes : List (List ℕ)) (hs : List HeadState) (logs : List Log) : Type 0 where
  pub stand : Stand bytes hs
  pub left_is : left bytes hs ≡ records_of logs
  pub none : NoneFalls (left bytes hs)

pub start : PartsAreWhole → (bytes : List (List ℕ)) (logs : List Log) (starts ends : List ℕ) → AreZeros starts → length starts ≡ length ends → ends ≡ lengths_of logs → merging.NoneFalls logs → AreLogsOf bytes logs → Start bytes (heads_of starts ends) logs
start parts bytes logs starts ends z long is rise are =
    let b = all_begin parts bytes logs starts z (long ∙ ap length is) are in
    subst (λ (l : List ℕ). Start bytes (heads_of starts l) logs) (sym is)
    (record { stand = record { of = b.of; whole = b.whole }; left_is = b.left_is; none = subst NoneFalls (sym b.left_is) (none_falls logs rise) })

-- ---- what is made of records

none_found : (f p x : Bool) → f ≡ (p && false) → (f || x) ≡ x
none_found true true x e = absurd (true≢false e)
none_found true false x e = absurd (true≢false e)
none_found false p x e = refl

found_on : (f g p a b : Bool) → g ≡ (f || (p && (a || false))) → (g || (p && b)) ≡ (f || (p && (a || b)))
found_on true g p a b e = ap (λ (x : Bool). x || (p && b)) e
found_on false g true true b e = ap (λ (x : Bool). x || b) e
found_on false g true false b e = ap (λ (x : Bool). x || b) e
found_on false g false a b e = ap (λ (x : Bool). x || false) e

found_all : (f p c d : Bool) → c ≡ false → (f || (p && c)) ≡ d → f ≡ d
found_all true p c d none e = e
found_all false true c d none e = sym none ∙ e
found_all false false c d none e = e

abbrev commits_left : List (List ℕ) → List HeadState → ℕ → Bool
commits_left logs heads tran = has_commit (by_lrsn (together (left logs heads))) tran

-- what is left of the logs gives beside this what all of it gave
pub record IsRest (logs : List (List ℕ)) (pending committed : ℕ → Bool) (start now : List HeadState) (m : Made) : Type 0 where
  pub stand : Stand logs now
  pub none : NoneFalls (left logs now)
  pub rest : rows_by (counts pending committed) m.rows (left logs now) ≡ rows_by (counts pending committed) finite.empty (left logs start)
  pub found : (tran : ℕ) → (set.contains nat_cmp m.found tran || (pending tran && commits_left logs now tran)) ≡ (pending tran && commits_left logs start tran)

abbrev pub MadeSoFar : List (List ℕ) → (ℕ → Bool) → (ℕ → Bool) → List HeadState → List HeadState → Made → Type 0
MadeSoFar logs pending committed start now m = Stand logs start → NoneFalls (left logs start) → IsRest logs pending committed start now m

pub made_start : (logs : List (List ℕ)) (pending committed : ℕ → Bool) (start : List HeadState) (m : Made) → IsMade pending committed [] m → MadeSoFar logs pending committed start start m
made_start logs pending committed start m is = λ stand none. record {
  stand = stand;
  none = none;
  rest = ap (λ (rows : Rows). rows_by (counts pending committed) rows (left logs start)) is.rows_are;
  found = λ tran. none_found (set.contains nat_cmp m.found tran) (pending tran) (pending tran && commits_left logs start tran) (is.found_are tran);
}

pub made_on : (logs : List (List ℕ)) (pending committed : ℕ → Bool) (start old new : List HeadState) (m after : Made) (r : LogRecord) → MadeSoFar logs pending committed start old m
    → (Stand logs old → Stand logs new × IsNextOfAll (left logs old) (Some r) (left logs new)) → IsAdded pending committed m after r → MadeSoFar logs pending committed start new after
made_on logs pending committed start old new m after r so_far next is = λ stand none.
    let s = so_far stand none in
    let n = next s.stand in
    let t = n.1.1 in
    let lowest : by_lrsn (together (left logs old)) ≡ r ∷ by_lrsn (together (left logs new)) = t.lowest s.none in
    record {
      stand = n.0;
      none = t.rises s.none;
      rest = ap (λ (rows : Rows). rows_by (counts pending committed) rows (left logs new)) is.rows_are ∙ sym (row_more (counts pending committed) m.rows n.1.0 r (left logs old) (left logs new) t s.none) ∙ s.rest;
      found = λ tran.
          found_on (set.contains nat_cmp m.found tran) (set.contains nat_cmp after.found tran) (pending tran) (is_commit r.body && (r.tran == tran)) (commits_left logs new tran) (is.found_are tran)
          ∙ ap (λ (l : List LogRecord). set.contains nat_cmp m.found tran || (pending tran && has_commit l tran)) (sym lowest)
          ∙ s.found tran;
    }

pub made_end : (logs : List (List ℕ)) (pending committed : ℕ → Bool) (start old new : List HeadState) (m : Made) → MadeSoFar logs pending committed start old m
    → (Stand logs old → Stand logs new × IsNextOfAll (left logs old) None (left logs new)) → Stand logs start → NoneFalls (left logs start) → IsMade pending committed (left logs start) m
made_end logs pending committed start old new m so_far next stand none =
    let s = so_far stand none in
    let over = (next s.stand).1 in
    record {
      rows_are = sym (rows_done (counts pending committed) m.rows (left logs old) over) ∙ s.rest;
      found_are = λ tran.
          found_all (set.contains nat_cmp m.found tran) (pending tran) (commits_left logs old tran) (pending tran && commits_left logs start tran) (ap (λ (l : List LogRecord). has_commit (by_lrsn l) tran) (none_together (left logs old) over)) (s.found tran)
          ∙ ap (λ (b : Bool). pending tran && b) (commits_by (together (left logs start)) tran);
    }
