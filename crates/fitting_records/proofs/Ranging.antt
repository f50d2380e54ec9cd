-- The first record that doesn't fit, found by range after range.
use Rattle.std.proofs.Common.{◌≡◌, ℕ, ◌+◌, ◌<◌, ◌≤◌, Bool, true, false, cond, List, [], ◌∷◌, ◌++◌, length, Option, Some, None, Result, Ok, Err, refl, sym, ap, subst, ◌∙◌, arith, append_assoc}
use Rattle.std.specs.Prelude.{nat_le, nat_lt, ◌||◌}
use Rattle.std.proofs.lemmas.Bool.Decides.{nat_tests}
use Rattle.std.proofs.lemmas.List.{append-nil}
use Rattle.ds_disk.specs.Contents.{Contents}
use Rattle.ds_model.specs.declared.log.LogRecord.{LogRecord}
use Rattle.ds_model.specs.RecordBytes.{record_bytes}
use Rattle.log_record.specs.declared.log.Log.{Log}
use Rattle.sound_disk.specs.Whole_logs.{AreWholeLogs}
use Rattle.disk_spots.specs.declared.spot.Spot.{Spot}
use Rattle.disk_spots.specs.declared.spot.Spot.TheVariants as spot
use Rattle.disk_walk.specs.Reading.{Reads}
use Rattle.disk_walk.specs.Whole.{OfWholeLogs}
use Rattle.disk_walk.proofs.One.{reads_on, reads_to, reads_none}
use Rattle.fitting_records.specs.declared.ranged.NumberRange.{NumberRange}
use Rattle.fitting_records.specs.declared.ranged.Place.{Place}
use Rattle.fitting_records.specs.declared.ranged.RangeSeen.{RangeSeen}
use Rattle.fitting_records.specs.Fitting.{Seen, nothing_seen, is_new, fits, seen_with, behind_log, fitted_from, goes_on, unfit_among}
use Rattle.fitting_records.specs.Ranges.{is_in, nothing_in, fits_in, entered, found_at, tried_when, least_with, next_with, noted, range_with, range_from, left_behind, range_among, is_sooner, sooner}
use Rattle.fitting_records.specs.Ranging.{spot_at, IsRangedBy, IsSearched}
use Rattle.fitting_records.specs.Telling.{AreFitTold}
use Rattle.fitting_records.proofs.Agreeing.{Agrees, agrees_none, agrees_more, agrees_noted, agrees_behind, fits_too, misfits_too, blamed}
use Rattle.fitting_records.proofs.Firsts.{fit_told}

-- ---- the first one found stays

pub stays_log : (member : ℕ) (rs : List LogRecord) (s : RangeSeen) (at : ℕ) (p : Place) → s.first ≡ Some p → (range_from member s at rs).first ≡ Some p
stays_log member [] s at p e = e
stays_log member (r ∷ rs) s at p e = stays_log member rs (range_with s member at r) (at + length (record_bytes r)) p (ap (λ (o : Option Place). (noted (tried_when o s member at r) r).first) e ∙ e)

stays_logs : (logs : List Log) (s : RangeSeen) (p : Place) → s.first ≡ Some p → (range_among s logs).first ≡ Some p
stays_logs [] s p e = e
stays_logs (log ∷ logs) s p e = stays_logs logs (left_behind (range_from log.member s 0 log.records)) p (stays_log log.member log.records s 0 p e)

-- ---- what is found is not before what is still to be asked

-- the place, if there is one, is this one or behind it
abbrev pub FromPlace : ℕ → ℕ → Option Place → Type 0
FromPlace member at None = Unit {0}
FromPlace member at (Some p) = is_sooner p (record { member = member; at = at }) ≡ false

from_none : (member at : ℕ) (o : Option Place) → o ≡ None → FromPlace member at o
from_none member at o e = subst (FromPlace member at) (sym e) tt

not_sooner : (member at place : ℕ) → at ≤ place → is_sooner (record { member = member; at = place }) (record { member = member; at = at }) ≡ false
not_sooner member at place le = grind (arith, nat_tests)

from_here : (member at place : ℕ) (o : Option Place) → at ≤ place → o ≡ Some (record { member = member; at = place }) → FromPlace member at o
from_here member at place o le e = subst (FromPlace member at) (sym e) (not_sooner member at place le)

tried_is : (s : RangeSeen) (member at : ℕ) (r : LogRecord) (b : Bool) → s.first ≡ None → fits_in s member r ≡ b → range_with s member at r ≡ noted (cond b (entered s member r) (found_at s member at)) r
tried_is s member at r b e f = ap (λ (o : Option Place). noted (tried_when o s member at r) r) e ∙ ap (λ (x : Bool). noted (cond x (entered s member r) (found_at s member at)) r) f

after_one : (member : ℕ) (r : LogRecord) (rs : List LogRecord) (s : RangeSeen) (at place : ℕ) (b : Bool) → s.first ≡ None → at ≤ place → fits_in s member r ≡ b
    → FromPlace member at (range_from member (noted (entered s member r) r) (place + length (record_bytes r)) rs).first → FromPlace member at (range_from member s place (r ∷ rs)).first
after_one member r rs s at place true e le f more = subst (λ (x : RangeSeen). FromPlace member at (range_from member x (place + length (record_bytes r)) rs).first) (sym (tried_is s member place r true e f)) more
after_one member r rs s at place false e le f more =
    from_here member at place (range_from member s place (r ∷ rs)).first le
    (ap (λ (x : RangeSeen). (range_from member x (place + length (record_bytes r)) rs).first) (tried_is s member place r false e f)
    ∙ stays_log member rs (noted (found_at s member place) r) (place + length (record_bytes r)) (record { member = member; at = place }) refl)

after_log : (member : ℕ) (rs : List LogRecord) (s : RangeSeen) (at place : ℕ) → s.first ≡ None → at ≤ place → FromPlace member at (range_from member s place rs).first
after_log member [] s at place e le = from_none member at s.first e
after_log member (r ∷ rs) s at place e le =
    after_one member r rs s at place (fits_in s member r) e le refl (after_log member rs (noted (entered s member r) r) at (place + length (record_bytes r)) e (omega (arith, le)))

-- the logs of these members
abbrev pub HaveMembers : ℕ → List Log → Type 0
HaveMembers k [] = Unit {0}
HaveMembers k (log ∷ logs) = (log.member ≡ k) × HaveMembers (k + 1) logs

later_place : (p : Place) (k member at : ℕ) → is_sooner p (record { member = k; at = 0 }) ≡ false → member < k → is_sooner p (record { member = member; at = at }) ≡ false
later_place p k member at h lt = grind (arith, nat_tests)

later_from : (o : Option Place) (k member at : ℕ) → FromPlace k 0 o → member < k → FromPlace member at o
later_from None k member at h lt = tt
later_from (Some p) k member at h lt = later_place p k member at h lt

after_found : (log : Log) (logs : List Log) (s : RangeSeen) (member at : ℕ) (o : Option Place) → (range_from log.member s 0 log.records).first ≡ o → FromPlace member at o
    → ((range_from log.member s 0 log.records).first ≡ None → FromPlace member at (range_among s (log ∷ logs)).first) → FromPlace member at (range_among s (log ∷ logs)).first
after_found log logs s member at None e h go = go e
after_found log logs s member at (Some p) e h go = subst (FromPlace member at) (sym (stays_logs logs (left_behind (range_from log.member s 0 log.records)) p e)) h

after_logs : (logs : List Log) (k : ℕ) (s : RangeSeen) (member at : ℕ) → HaveMembers k logs → member < k → s.first ≡ None → FromPlace member at (range_among s logs).first
after_logs [] k s member at m lt e = from_none member at s.first e
after_logs (log ∷ logs) k s member at m lt e =
    after_found log logs s member at (range_from log.member s 0 log.records).first refl
    (later_from (range_from log.member s 0 log.records).first k member at (subst (λ (n : ℕ). FromPlace n 0 (range_from log.member s 0 log.records).first) m.0 (after_log log.member log.records s 0 0 e (omega arith))) lt)
    (λ none. after_logs logs (k + 1) (left_behind (range_from log.member s 0 log.records)) member at m.1 (omega (arith, lt)) none)

-- ---- the number that is to blame

abbrev pub blame_from : Seen → List LogRecord → Option ℕ
blame_from seen [] = None
blame_from seen (r ∷ rs) = cond (fits seen r) (blame_from (seen_with seen r) rs) (Some (blamed seen r))

abbrev pub blame_on : (Seen → Option ℕ) → Option ℕ → Result Seen ℕ → Option ℕ
blame_on more here (Ok seen) = more seen
blame_on more here (Err at) = here

abbrev pub blame_among : Seen → List Log → Option ℕ
blame_among seen [] = None
blame_among seen (log ∷ logs) = blame_on (λ s. blame_among (behind_log s log.records) logs) (blame_from seen log.records) (fitted_from seen 0 log.records)

-- ---- one log

pub record IsMisfitOf (member : ℕ) (blame : Option ℕ) (range : NumberRange) (at : ℕ) (s : RangeSeen) : Type 0 where
  pub from_there : FromPlace member at s.first
  pub blamed_is : (n : ℕ) → blame ≡ Some n → is_in range n ≡ true → s.first ≡ Some (record { member = member; at = at })

pub record IsFitOf (member : ℕ) (all : List LogRecord) (range : NumberRange) (full : Seen) (s : RangeSeen) : Type 0 where
  pub agrees : Agrees member all full s
  pub none : s.first ≡ None
  pub range_is : s.range ≡ range

abbrev Ranged : ℕ → List LogRecord → Option ℕ → NumberRange → RangeSeen → Result Seen ℕ → Type 0
Ranged member all blame range s (Ok full) = IsFitOf member all range full s
Ranged member all blame range s (Err at) = IsMisfitOf member blame range at s

some_number : (m n : ℕ) → Some m ≡ Some n → m ≡ n
some_number m n e = cc

one_ranged : (member : ℕ) (before : List LogRecord) (r : LogRecord) (rs : List LogRecord) (full : Seen) (s : RangeSeen) (at : ℕ) (b : Bool) → Agrees member before full s → s.first ≡ None → fits full r ≡ b
    → (fits full r ≡ true → Ranged member ((before ++ r ∷ []) ++ rs) (blame_from (seen_with full r) rs) s.range (range_from member (noted (entered s member r) r) (at + length (record_bytes r)) rs) (fitted_from (seen_with full r) (at + length (record_bytes r)) rs))
    → Ranged member (before ++ r ∷ rs) (cond b (blame_from (seen_with full r) rs) (Some (blamed full r))) s.range (range_from member s at (r ∷ rs)) (cond b (fitted_from (seen_with full r) (at + length (record_bytes r)) rs) (Err at))
one_ranged member before r rs full s at true a e f go =
    subst (λ (l : List LogRecord). Ranged member l (blame_from (seen_with full r) rs) s.range (range_from member s at (r ∷ rs)) (fitted_from (seen_with full r) (at + length (record_bytes r)) rs)) (append_assoc before (r ∷ []) rs)
    (subst (λ (x : RangeSeen). Ranged member ((before ++ r ∷ []) ++ rs) (blame_from (seen_with full r) rs) s.range (range_from member x (at + length (record_bytes r)) rs) (fitted_from (seen_with full r) (at + length (record_bytes r)) rs))
    (sym (tried_is s member at r true e (fits_too member before full s r a f))) (go f))
one_ranged member before r rs full s at false a e f go = record {
  from_there = after_log member (r ∷ rs) s at at e (omega arith);
  blamed_is = λ n is within.
      let there : is_in s.range (blamed full r) ≡ true = subst (λ (m : ℕ). is_in s.range m ≡ true) (sym (some_number (blamed full r) n is)) within in
      ap (λ (x : RangeSeen). (range_from member x (at + length (record_bytes r)) rs).first) (tried_is s member at r false e (misfits_too member before full s r a f there))
      ∙ stays_log member rs (noted (found_at s member at) r) (at + length (record_bytes r)) (record { member = member; at = at }) refl;
}

log_ranged : (member : ℕ) (before rs : List LogRecord) (full : Seen) (s : RangeSeen) (at : ℕ) → Agrees member before full s → s.first ≡ None
    → Ranged member (before ++ rs) (blame_from full rs) s.range (range_from member s at rs) (fitted_from full at rs)
log_ranged member before [] full s at a e = record { agrees = subst (λ (l : List LogRecord). Agrees member l full s) (sym (append-nil before)) a; none = e; range_is = refl }
log_ranged member before (r ∷ rs) full s at a e =
    one_ranged member before r rs full s at (fits full r) a e refl
    (λ f.
    log_ranged member (before ++ r ∷ []) rs (seen_with full r) (noted (entered s member r) r) (at + length (record_bytes r)) (agrees_noted member (before ++ r ∷ []) (seen_with full r) (entered s member r) r (agrees_more member before full s r f a)) e)

-- ---- all logs

-- the place, if there is one, is the spot, if there is one, or behind it
abbrev pub IsFrom : Option Spot → Option Place → Type 0
IsFrom None None = Unit {0}
IsFrom None (Some p) = ⊥
IsFrom (Some (spot.Page id)) None = Unit {0}
IsFrom (Some (spot.Page id)) (Some p) = ⊥
IsFrom (Some (spot.Log member at)) None = Unit {0}
IsFrom (Some (spot.Log member at)) (Some p) = is_sooner p (record { member = member; at = at }) ≡ false

from_place : (member at : ℕ) (o : Option Place) → FromPlace member at o → IsFrom (Some (spot.Log member at)) o
from_place member at None h = tt
from_place member at (Some p) h = h

pub record AllRanged (unfit : Option Spot) (blame : Option ℕ) (range : NumberRange) (s : RangeSeen) : Type 0 where
  pub from_there : IsFrom unfit s.first
  pub blamed_is : (n : ℕ) → blame ≡ Some n → is_in range n ≡ true → spot_at s.first ≡ unfit

none_from : (o : Option Place) → o ≡ None → IsFrom None o
none_from o e = subst (IsFrom None) (sym e) tt

none_blamed : (n : ℕ) → (o : Option ℕ) → o ≡ None → o ≡ Some n → ⊥
none_blamed n o e h = cc

log_then : (log : Log) (logs : List Log) (k : ℕ) (full : Seen) (s : RangeSeen) (result : Result Seen ℕ) → HaveMembers (k + 1) logs → log.member ≡ k
    → Ranged k log.records (blame_from full log.records) s.range (range_from k s 0 log.records) result
    → ((f : Seen) (x : RangeSeen) → Agrees (k + 1) [] f x → x.first ≡ None → AllRanged (unfit_among f logs) (blame_among f logs) x.range (range_among x logs))
    → AllRanged (goes_on (λ f. unfit_among (behind_log f log.records) logs) log.member result) (blame_on (λ f. blame_among (behind_log f log.records) logs) (blame_from full log.records) result) s.range (range_among s (log ∷ logs))
log_then log logs k full s (Ok f) m is h go =
    let more = go (behind_log f log.records) (left_behind (range_from k s 0 log.records)) (agrees_behind k log.records f (range_from k s 0 log.records) h.agrees) h.none in
    subst (λ (n : ℕ). AllRanged (unfit_among (behind_log f log.records) logs) (blame_among (behind_log f log.records) logs) s.range (range_among (left_behind (range_from n s 0 log.records)) logs)) (sym is)
    (subst (λ (range : NumberRange). AllRanged (unfit_among (behind_log f log.records) logs) (blame_among (behind_log f log.records) logs) range (range_among (left_behind (range_from k s 0 log.records)) logs)) h.range_is more)
log_then log logs k full s (Err at) m is h go =
    subst (λ (n : ℕ). AllRanged (Some (spot.Log n at)) (blame_from full log.records) s.range (range_among (left_behind (range_from n s 0 log.records)) logs)) (sym is) (record {
      from_there = from_place k at (range_among (left_behind (range_from k s 0 log.records)) logs).first (behind (range_from k s 0 log.records).first refl h.from_there);
      blamed_is = λ n blame within. ap spot_at (stays_logs logs (left_behind (range_from k s 0 log.records)) (record { member = k; at = at }) (h.blamed_is n blame within));
    })
  where
    behind : (o : Option Place) → (range_from k s 0 log.records).first ≡ o → FromPlace k at o → FromPlace k at (range_among (left_behind (range_from k s 0 log.records)) logs).first
    behind None none from = after_logs logs (k + 1) (left_behind (range_from k s 0 log.records)) k at m (omega arith) none
    behind (Some p) some from = subst (FromPlace k at) (sym (stays_logs logs (left_behind (range_from k s 0 log.records)) p some)) from

logs_ranged : (logs : List Log) (k : ℕ) (full : Seen) (s : RangeSeen) → HaveMembers k logs → Agrees k [] full s → s.first ≡ None → AllRanged (unfit_among full logs) (blame_among full logs) s.range (range_among s logs)
logs_ranged [] k full s m a e = record { from_there = none_from s.first e; blamed_is = λ n is within. absurd (none_blamed n None refl is) }
logs_ranged (log ∷ logs) k full s m a e =
    log_then log logs k full s (fitted_from full 0 log.records) m.1 m.0 (log_ranged k [] log.records full s 0 a e) (λ f x agrees none. logs_ranged logs (k + 1) f x m.1 agrees none)

members_of : (k : ℕ) (bytes : List (List ℕ)) (logs : List Log) → AreWholeLogs k bytes logs → HaveMembers k logs
members_of k [] [] h = tt
members_of k [] (l ∷ ls) h = absurd h
members_of k (b ∷ bs) [] h = absurd h
members_of k (b ∷ bs) (l ∷ ls) h = (h.0.member_is, members_of (k + 1) bs ls h.1)

-- ---- numbers that are met

abbrev reaches : Option ℕ → ℕ → Bool
reaches None n = false
reaches (Some m) n = nat_le m n

-- the number is before the end of the range, or not before the least one behind it
abbrev covered : RangeSeen → ℕ → Bool
covered s n = nat_lt n s.range.to || reaches s.next n

keeps_least : (o : Option ℕ) (k n : ℕ) → reaches o n ≡ true → reaches (least_with o k) n ≡ true
keeps_least None k n h = absurd cc
keeps_least (Some m) k n h = by_test (nat_lt k m) refl
  where
    by_test : (b : Bool) → nat_lt k m ≡ b → reaches (cond b (Some k) (Some m)) n ≡ true
    by_test true e = grind (arith, nat_tests)
    by_test false e = h

least_of : (o : Option ℕ) (n : ℕ) → reaches (least_with o n) n ≡ true
least_of None n = grind (arith, nat_tests)
least_of (Some m) n = by_test (nat_lt n m) refl
  where
    by_test : (b : Bool) → nat_lt n m ≡ b → reaches (cond b (Some n) (Some m)) n ≡ true
    by_test true e = grind (arith, nat_tests)
    by_test false e = grind (arith, nat_tests)

abbrev covers : ℕ → Option ℕ → ℕ → Bool
covers to o n = nat_lt n to || reaches o n

covers_keeps : (to : ℕ) (o : Option ℕ) (k n : ℕ) → covers to o n ≡ true → covers to (next_with to o k) n ≡ true
covers_keeps to o k n h = by_test (nat_lt k to) (nat_lt n to) h
  where
    by_test : (b c : Bool) → (c || reaches o n) ≡ true → (c || reaches (cond b o (least_with o k)) n) ≡ true
    by_test b true e = refl
    by_test true false e = e
    by_test false false e = keeps_least o k n e

covers_own : (to : ℕ) (o : Option ℕ) (n : ℕ) → covers to (next_with to o n) n ≡ true
covers_own to o n = by_test (nat_lt n to)
  where
    by_test : (b : Bool) → (b || reaches (cond b o (least_with o n)) n) ≡ true
    by_test true = refl
    by_test false = least_of o n

-- what a record leaves of the range and of the least number behind it
pub record IsTried (old new : RangeSeen) : Type 0 where
  pub range_is : new.range ≡ old.range
  pub next_is : new.next ≡ old.next

tried_by : (o : Option Place) (s : RangeSeen) (member at : ℕ) (r : LogRecord) → IsTried s (tried_when o s member at r)
tried_by None s member at r = by_test (fits_in s member r)
  where
    by_test : (b : Bool) → IsTried s (cond b (entered s member r) (found_at s member at))
    by_test true = record { range_is = refl; next_is = refl }
    by_test false = record { range_is = refl; next_is = refl }
tried_by (Some p) s member at r = record { range_is = refl; next_is = refl }

covered_with : (s : RangeSeen) (member at : ℕ) (r : LogRecord) (n : ℕ) → covered (range_with s member at r) n ≡ covers s.range.to (next_with s.range.to (next_with s.range.to s.next r.lrsn) r.tran) n
covered_with s member at r n =
    let t = tried_by s.first s member at r in
    ap (λ (range : NumberRange). covers range.to (next_with range.to (next_with range.to (tried_when s.first s member at r).next r.lrsn) r.tran) n) t.range_is
    ∙ ap (λ (o : Option ℕ). covers s.range.to (next_with s.range.to (next_with s.range.to o r.lrsn) r.tran) n) t.next_is

covered_more : (s : RangeSeen) (member at : ℕ) (r : LogRecord) (n : ℕ) → covered s n ≡ true → covered (range_with s member at r) n ≡ true
covered_more s member at r n h =
    covered_with s member at r n ∙ covers_keeps s.range.to (next_with s.range.to s.next r.lrsn) r.tran n (covers_keeps s.range.to s.next r.lrsn n h)

covered_number : (s : RangeSeen) (member at : ℕ) (r : LogRecord) → covered (range_with s member at r) r.lrsn ≡ true
covered_number s member at r = covered_with s member at r r.lrsn ∙ covers_keeps s.range.to (next_with s.range.to s.next r.lrsn) r.tran r.lrsn (covers_own s.range.to s.next r.lrsn)

covered_tran : (s : RangeSeen) (member at : ℕ) (r : LogRecord) → covered (range_with s member at r) r.tran ≡ true
covered_tran s member at r = covered_with s member at r r.tran ∙ covers_own s.range.to (next_with s.range.to s.next r.lrsn) r.tran

covered_log : (member : ℕ) (rs : List LogRecord) (s : RangeSeen) (at n : ℕ) → covered s n ≡ true → covered (range_from member s at rs) n ≡ true
covered_log member [] s at n h = h
covered_log member (r ∷ rs) s at n h = covered_log member rs (range_with s member at r) (at + length (record_bytes r)) n (covered_more s member at r n h)

covered_logs : (logs : List Log) (s : RangeSeen) (n : ℕ) → covered s n ≡ true → covered (range_among s logs) n ≡ true
covered_logs [] s n h = h
covered_logs (log ∷ logs) s n h = covered_logs logs (left_behind (range_from log.member s 0 log.records)) n (covered_log log.member log.records s 0 n h)

covered_blame : (s : RangeSeen) (member at : ℕ) (r : LogRecord) (b : Bool) → covered (range_with s member at r) (cond b r.tran r.lrsn) ≡ true
covered_blame s member at r true = covered_tran s member at r
covered_blame s member at r false = covered_number s member at r

one_covered : (member : ℕ) (r : LogRecord) (rs : List LogRecord) (full : Seen) (s : RangeSeen) (at n : ℕ) (b : Bool) → cond b (blame_from (seen_with full r) rs) (Some (blamed full r)) ≡ Some n
    → (blame_from (seen_with full r) rs ≡ Some n → covered (range_from member s at (r ∷ rs)) n ≡ true) → covered (range_from member s at (r ∷ rs)) n ≡ true
one_covered member r rs full s at n true h go = go h
one_covered member r rs full s at n false h go =
    covered_log member rs (range_with s member at r) (at + length (record_bytes r)) n
    (subst (λ (m : ℕ). covered (range_with s member at r) m ≡ true) (some_number (blamed full r) n h) (covered_blame s member at r (is_new full r)))

blame_covered : (member : ℕ) (rs : List LogRecord) (full : Seen) (s : RangeSeen) (at n : ℕ) → blame_from full rs ≡ Some n → covered (range_from member s at rs) n ≡ true
blame_covered member [] full s at n e = absurd cc
blame_covered member (r ∷ rs) full s at n e = one_covered member r rs full s at n (fits full r) e (λ h. blame_covered member rs (seen_with full r) (range_with s member at r) (at + length (record_bytes r)) n h)

log_covered : (log : Log) (logs : List Log) (full : Seen) (s : RangeSeen) (n : ℕ) (result : Result Seen ℕ) → blame_on (λ f. blame_among (behind_log f log.records) logs) (blame_from full log.records) result ≡ Some n
    → ((f : Seen) → blame_among f logs ≡ Some n → covered (range_among s (log ∷ logs)) n ≡ true) → covered (range_among s (log ∷ logs)) n ≡ true
log_covered log logs full s n (Ok f) h go = go (behind_log f log.records) h
log_covered log logs full s n (Err at) h go = covered_logs logs (left_behind (range_from log.member s 0 log.records)) n (blame_covered log.member log.records full s 0 n h)

all_covered : (logs : List Log) (full : Seen) (s : RangeSeen) (n : ℕ) → blame_among full logs ≡ Some n → covered (range_among s logs) n ≡ true
all_covered [] full s n e = absurd cc
all_covered (log ∷ logs) full s n e = log_covered log logs full s n (fitted_from full 0 log.records) e (λ f h. all_covered logs f (left_behind (range_from log.member s 0 log.records)) n h)

-- ---- where a record doesn't fit a number is to blame

pub record SomeBlame (o : Option ℕ) : Type 0 where
  pub number : ℕ
  pub is : o ≡ Some number

one_blame : (r : LogRecord) (rs : List LogRecord) (full : Seen) (at place : ℕ) (b : Bool) → cond b (fitted_from (seen_with full r) (at + length (record_bytes r)) rs) (Err at) ≡ Err place
    → (fitted_from (seen_with full r) (at + length (record_bytes r)) rs ≡ Err place → SomeBlame (blame_from (seen_with full r) rs)) → SomeBlame (cond b (blame_from (seen_with full r) rs) (Some (blamed full r)))
one_blame r rs full at place true h go = go h
one_blame r rs full at place false h go = record { number = blamed full r; is = refl }

log_blame : (rs : List LogRecord) (full : Seen) (at place : ℕ) → fitted_from full at rs ≡ Err place → SomeBlame (blame_from full rs)
log_blame [] full at place e = absurd cc
log_blame (r ∷ rs) full at place e = one_blame r rs full at place (fits full r) e (λ h. log_blame rs (seen_with full r) (at + length (record_bytes r)) place h)

blame_in : (log : Log) (logs : List Log) (full : Seen) (s : Spot) (result : Result Seen ℕ) → fitted_from full 0 log.records ≡ result → goes_on (λ f. unfit_among (behind_log f log.records) logs) log.member result ≡ Some s
    → ((f : Seen) → unfit_among f logs ≡ Some s → SomeBlame (blame_among f logs)) → SomeBlame (blame_on (λ f. blame_among (behind_log f log.records) logs) (blame_from full log.records) result)
blame_in log logs full s (Ok f) was h go = go (behind_log f log.records) h
blame_in log logs full s (Err at) was h go = log_blame log.records full 0 at was

some_blame : (logs : List Log) (full : Seen) (s : Spot) → unfit_among full logs ≡ Some s → SomeBlame (blame_among full logs)
some_blame [] full s e = absurd cc
some_blame (log ∷ logs) full s e = blame_in log logs full s (fitted_from full 0 log.records) refl e (λ f h. some_blame logs f s h)

-- ---- the sooner one

pub sooner_from : (x : Option Spot) (a b : Option Place) → IsFrom x a → IsFrom x b → IsFrom x (sooner a b)
sooner_from x None b h k = k
sooner_from x (Some p) None h k = h
sooner_from x (Some p) (Some q) h k = by_test (is_sooner q p)
  where
    by_test : (c : Bool) → IsFrom x (cond c (Some q) (Some p))
    by_test true = k
    by_test false = h

sooner_first : (x : Option Spot) (a b : Option Place) → IsFrom x b → spot_at a ≡ x → spot_at (sooner a b) ≡ x
sooner_first x None None k e = e
sooner_first x None (Some q) k e = absurd (subst (λ (y : Option Spot). IsFrom y (Some q)) (sym e) k)
sooner_first x (Some p) None k e = e
sooner_first x (Some p) (Some q) k e = by_test (is_sooner q p) (subst (λ (y : Option Spot). IsFrom y (Some q)) (sym e) k)
  where
    by_test : (c : Bool) → c ≡ false → spot_at (cond c (Some q) (Some p)) ≡ x
    by_test true fails_it = absurd cc
    by_test false fails_it = e

same_place : (p q : Place) → is_sooner p q ≡ false → is_sooner q p ≡ false → (p.member ≡ q.member) × (p.at ≡ q.at)
same_place p q h k = (members, places members)
  where
    members : p.member ≡ q.member
    members = grind (arith, nat_tests)

    places : p.member ≡ q.member → p.at ≡ q.at
    places e = grind (arith, nat_tests)

sooner_second : (x : Option Spot) (a b : Option Place) → IsFrom x a → spot_at b ≡ x → spot_at (sooner a b) ≡ x
sooner_second x None b h e = e
sooner_second x (Some p) None h e = absurd (subst (λ (y : Option Spot). IsFrom y (Some p)) (sym e) h)
sooner_second x (Some p) (Some q) h e = by_test (is_sooner q p) refl (subst (λ (y : Option Spot). IsFrom y (Some p)) (sym e) h)
  where
    by_test : (c : Bool) → is_sooner q p ≡ c → is_sooner p q ≡ false → spot_at (cond c (Some q) (Some p)) ≡ x
    by_test true is fails_it = e
    by_test false is fails_it =
        let same = same_place p q fails_it is in
        ap (λ (m : ℕ). Some (spot.Log m p.at)) same.0 ∙ ap (λ (n : ℕ). Some (spot.Log q.member n)) same.1 ∙ e

-- ---- range after range

-- what the ranges before this number have found
pub record Searches (first : Option Place) (from : ℕ) (logs : List Log) : Type 0 where
  pub from_there : IsFrom (unfit_among nothing_seen logs) first
  pub blamed_is : (n : ℕ) → blame_among nothing_seen logs ≡ Some n → nat_lt n from ≡ true → spot_at first ≡ unfit_among nothing_seen logs

nothing_from : (x : Option Spot) → IsFrom x None
nothing_from None = tt
nothing_from (Some (spot.Page id)) = tt
nothing_from (Some (spot.Log member at)) = tt

search_first : (logs : List Log) → Searches None 0 logs
search_first logs = record { from_there = nothing_from (unfit_among nothing_seen logs); blamed_is = λ n is lt. absurd (below n lt) }
  where
    below : (n : ℕ) → nat_lt n 0 ≡ true → ⊥
    below n lt = grind (arith, nat_tests)

-- the number was asked for before, or it is in the range
asked : (range : NumberRange) (o : Option ℕ) (from n : ℕ) → range.from ≡ from → covers range.to o n ≡ true → reaches o n ≡ false → (nat_lt n from || is_in range n) ≡ true
asked range o from n is h fails_it = grind (arith, nat_tests)

either : (a b : Bool) (X : Type 0) → (a || b) ≡ true → (a ≡ true → X) → (b ≡ true → X) → X
either true b X h f g = f refl
either false b X h f g = g h

not_reached : (next n : ℕ) → nat_lt n next ≡ true → reaches (Some next) n ≡ false
not_reached next n lt = grind (arith, nat_tests)

range_log : (member : ℕ) (rs : List LogRecord) (x : RangeSeen) (at : ℕ) → (range_from member x at rs).range ≡ x.range
range_log member [] x at = refl
range_log member (r ∷ rs) x at = range_log member rs (range_with x member at r) (at + length (record_bytes r)) ∙ (tried_by x.first x member at r).range_is

range_stays : (logs : List Log) (x : RangeSeen) → (range_among x logs).range ≡ x.range
range_stays [] x = refl
range_stays (log ∷ logs) x = range_stays logs (left_behind (range_from log.member x 0 log.records)) ∙ range_log log.member log.records x 0

search_on : (first : Option Place) (from n : ℕ) (range : NumberRange) (s : RangeSeen) (bytes : List (List ℕ)) (logs : List Log) → AreWholeLogs 1 bytes logs → range.from ≡ from → Searches first from logs → IsRangedBy range s logs
    → blame_among nothing_seen logs ≡ Some n → reaches s.next n ≡ false → spot_at (sooner first s.first) ≡ unfit_among nothing_seen logs
search_on first from n range s bytes logs whole is h by blame fails_it =
    let all : AllRanged (unfit_among nothing_seen logs) (blame_among nothing_seen logs) range s =
    subst (AllRanged (unfit_among nothing_seen logs) (blame_among nothing_seen logs) range) (sym by) (logs_ranged logs 1 nothing_seen (nothing_in range) (members_of 1 bytes logs whole) (agrees_none 1 range) refl) in
    let there : covered s n ≡ true = subst (λ (x : RangeSeen). covered x n ≡ true) (sym by) (all_covered logs nothing_seen (nothing_in range) n blame) in
    let to_is : s.range ≡ range = ap (λ (x : RangeSeen). x.range) by ∙ range_stays logs (nothing_in range) in
    let within : covers range.to s.next n ≡ true = subst (λ (x : NumberRange). covers x.to s.next n ≡ true) to_is there in
    either (nat_lt n from) (is_in range n) (spot_at (sooner first s.first) ≡ unfit_among nothing_seen logs) (asked range s.next from n is within fails_it)
    (λ lt. sooner_first (unfit_among nothing_seen logs) first s.first all.from_there (h.blamed_is n blame lt))
    (λ in_it. sooner_second (unfit_among nothing_seen logs) first s.first h.from_there (all.blamed_is n blame in_it))

from_all : (range : NumberRange) (s : RangeSeen) (bytes : List (List ℕ)) (logs : List Log) → AreWholeLogs 1 bytes logs → IsRangedBy range s logs → IsFrom (unfit_among nothing_seen logs) s.first
from_all range s bytes logs whole by =
    let all = logs_ranged logs 1 nothing_seen (nothing_in range) (members_of 1 bytes logs whole) (agrees_none 1 range) refl in
    subst (λ (x : RangeSeen). IsFrom (unfit_among nothing_seen logs) x.first) (sym by) all.from_there

search_next : (first : Option Place) (from next : ℕ) (range : NumberRange) (s : RangeSeen) (bytes : List (List ℕ)) (logs : List Log) → AreWholeLogs 1 bytes logs → range.from ≡ from → s.next ≡ Some next → Searches first from logs → IsRangedBy range s logs
    → Searches (sooner first s.first) next logs
search_next first from next range s bytes logs whole is some h by = record {
  from_there = sooner_from (unfit_among nothing_seen logs) first s.first h.from_there (from_all range s bytes logs whole by);
  blamed_is = λ n blame lt. search_on first from n range s bytes logs whole is h by blame (ap (λ (o : Option ℕ). reaches o n) some ∙ not_reached next n lt);
}

search_last : (first : Option Place) (from : ℕ) (range : NumberRange) (s : RangeSeen) (bytes : List (List ℕ)) (logs : List Log) → AreWholeLogs 1 bytes logs → range.from ≡ from → s.next ≡ None → Searches first from logs → IsRangedBy range s logs
    → IsSearched (sooner first s.first) logs
search_last first from range s bytes logs whole is none h by = by_unfit (unfit_among nothing_seen logs) refl
  where
    nowhere : (o : Option Place) → IsFrom None o → spot_at o ≡ None
    nowhere None h = refl
    nowhere (Some p) h = absurd h

    by_unfit : (x : Option Spot) → unfit_among nothing_seen logs ≡ x → spot_at (sooner first s.first) ≡ unfit_among nothing_seen logs
    by_unfit None e =
        nowhere (sooner first s.first) (subst (λ (x : Option Spot). IsFrom x (sooner first s.first)) e (sooner_from (unfit_among nothing_seen logs) first s.first h.from_there (from_all range s bytes logs whole by))) ∙ sym e
    by_unfit (Some spot) e = let b = some_blame logs nothing_seen spot e in search_on first from b.number range s bytes logs whole is h by b.is (ap (λ (o : Option ℕ). reaches o b.number) none)

-- ---- as it is read

abbrev pub SearchesOn : List ℕ → Option Place → ℕ → ℕ → Contents → Type 0
SearchesOn ends first from n c = OfWholeLogs ends (Searches first from) c

pub search_starts : (a : Option Contents) (n : ℕ) (ends : List ℕ) → Reads a a n n (SearchesOn ends None 0) (Ok 0)
search_starts a n ends = reads_none a n (SearchesOn ends None 0) 0 (λ c logs whole is. search_first logs)

abbrev pub RangedIs : List ℕ → NumberRange → RangeSeen → Contents → Type 0
RangedIs ends range s c = OfWholeLogs ends (IsRangedBy range s) c

pub search_goes : (a b e : Option Contents) (n k j : ℕ) (ends : List ℕ) (first now : Option Place) (from next : ℕ) (range : NumberRange) (s : RangeSeen) → range.from ≡ from → s.next ≡ Some next → now ≡ sooner first s.first
    → Reads a b n k (SearchesOn ends first from) (Ok 0) → Reads b e k j (RangedIs ends range) (Ok s) → Reads a e n j (SearchesOn ends now next) (Ok 0)
search_goes a b e n k j ends first now from next range s is some now_is p q =
    reads_on a b e n k j (SearchesOn ends first from) 0 (RangedIs ends range) s (SearchesOn ends now next) 0 p q
    (λ c on by logs whole are. subst (λ (o : Option Place). Searches o next logs) (sym now_is) (search_next first from next range s c.logs logs whole is some (on logs whole are) (by logs whole are)))

pub search_ends : (a b e : Option Contents) (n k j : ℕ) (ends : List ℕ) (first now : Option Place) (from : ℕ) (range : NumberRange) (s : RangeSeen) → range.from ≡ from → s.next ≡ None → now ≡ sooner first s.first
    → Reads a b n k (SearchesOn ends first from) (Ok 0) → Reads b e k j (RangedIs ends range) (Ok s) → Reads a e n j (λ (found : Option Place) c. OfWholeLogs ends (IsSearched found) c) (Ok now)
search_ends a b e n k j ends first now from range s is none now_is p q =
    reads_on a b e n k j (SearchesOn ends first from) 0 (RangedIs ends range) s (λ (found : Option Place) c. OfWholeLogs ends (IsSearched found) c) now p q
    (λ c on by logs whole are. subst (λ (o : Option Place). IsSearched o logs) (sym now_is) (search_last first from range s c.logs logs whole is none (on logs whole are) (by logs whole are)))

-- ---- what is told

pub unfit_told : (a b : Option Contents) (n k : ℕ) (ends : List ℕ) (first : Option Place) (found : Option Spot) → found ≡ spot_at first → Reads a b n k (λ (o : Option Place) c. OfWholeLogs ends (IsSearched o) c) (Ok first)
    → Reads a b n k (λ (o : Option Spot) c. OfWholeLogs ends (AreFitTold o) c) (Ok found)
unfit_told a b n k ends first found is p =
    reads_to a b n k (λ (o : Option Place) c. OfWholeLogs ends (IsSearched o) c) first (λ (o : Option Spot) c. OfWholeLogs ends (AreFitTold o) c) found p (λ c so logs whole are. fit_told logs found (is ∙ so logs whole are))
