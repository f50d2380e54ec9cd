-- The first record that doesn't fit those before it, as far as the numbers of a range tell.
use Rattle.std.specs.Prelude.{ℕ, ◌+◌, ◌==◌, nat_le, nat_lt, Bool, true, not, ◌&&◌, ◌||◌, if◌then◌else◌, List, [], ◌∷◌, length, Option, None, Some, is_some}
use Rattle.std.specs.Ordering.{nat_cmp}
use Rattle.std.specs.FinMap as finite
use Rattle.ds_model.specs.declared.log.LogRecord.{LogRecord}
use Rattle.ds_model.specs.RecordBytes.{record_bytes}
use Rattle.log_record.specs.declared.log.Log.{Log}
use Rattle.log_record.specs.Changes.{is_drawn}
use Rattle.fitting_records.specs.declared.ranged.NumberRange.{NumberRange}
use Rattle.fitting_records.specs.declared.ranged.Place.{Place}
use Rattle.fitting_records.specs.declared.ranged.RangeSeen.{RangeSeen}
use Rattle.fitting_records.specs.Fitting.{Numbers, Standings, follows_on, with_tran}

abbrev pub Homes : Type 0
Homes = finite.FinMap nat_cmp ℕ

abbrev pub is_in : NumberRange → ℕ → Bool
is_in range n = nat_le range.from n && nat_lt n range.to

abbrev pub nothing_in : NumberRange → RangeSeen
nothing_in range = record { range = range; drawn = finite.empty; homes = finite.empty; trans = finite.empty; first = None; next = None }

-- ---- one record

-- its number, if it was drawn, is neither 0 nor that of another
abbrev pub is_new_in : RangeSeen → LogRecord → Bool
is_new_in s r = not (is_drawn r.body) || (not (r.lrsn == 0) && not (is_some (finite.get s.drawn r.lrsn)))

-- a transaction that was met in no log, or in the member's
abbrev pub is_own : ℕ → Option ℕ → Bool
is_own member None = true
is_own member (Some home) = home == member

abbrev pub is_home_in : RangeSeen → ℕ → LogRecord → Bool
is_home_in s member r = (r.tran == 0) || is_own member (finite.get s.homes r.tran)

-- its number and its transaction are asked for, each if it is in the range
abbrev pub fits_in : RangeSeen → ℕ → LogRecord → Bool
fits_in s member r = (not (is_in s.range r.lrsn) || is_new_in s r) && (not (is_in s.range r.tran) || (is_home_in s member r && follows_on (finite.get s.trans r.tran) r))

-- ---- one record more

abbrev pub drawn_with : NumberRange → Numbers → LogRecord → Numbers
drawn_with range drawn r = if is_drawn r.body && is_in range r.lrsn then finite.insert drawn r.lrsn true else drawn

abbrev pub homes_with : NumberRange → Homes → ℕ → LogRecord → Homes
homes_with range homes member r = if is_in range r.tran then finite.insert homes r.tran member else homes

abbrev pub trans_with : NumberRange → Standings → LogRecord → Standings
trans_with range trans r = if is_in range r.tran then with_tran trans r else trans

abbrev pub entered : RangeSeen → ℕ → LogRecord → RangeSeen
entered s member r = record {
  range = s.range;
  drawn = drawn_with s.range s.drawn r;
  homes = homes_with s.range s.homes member r;
  trans = trans_with s.range s.trans r;
  first = s.first;
  next = s.next;
}

abbrev pub found_at : RangeSeen → ℕ → ℕ → RangeSeen
found_at s member at = record { range = s.range; drawn = s.drawn; homes = s.homes; trans = s.trans; first = Some (record { member = member; at = at }); next = s.next }

-- behind the first that doesn't fit none is asked
abbrev pub tried_when : Option Place → RangeSeen → ℕ → ℕ → LogRecord → RangeSeen
tried_when None s member at r = if fits_in s member r then entered s member r else found_at s member at
tried_when (Some first) s member at r = s

-- the least number behind the range
abbrev pub least_with : Option ℕ → ℕ → Option ℕ
least_with None n = Some n
least_with (Some m) n = if nat_lt n m then Some n else Some m

abbrev pub next_with : ℕ → Option ℕ → ℕ → Option ℕ
next_with to next n = if nat_lt n to then next else least_with next n

abbrev pub noted : RangeSeen → LogRecord → RangeSeen
noted s r = record {
  range = s.range;
  drawn = s.drawn;
  homes = s.homes;
  trans = s.trans;
  first = s.first;
  next = next_with s.range.to (next_with s.range.to s.next r.lrsn) r.tran;
}

-- with the member's record, which begins at this byte
abbrev pub range_with : RangeSeen → ℕ → ℕ → LogRecord → RangeSeen
range_with s member at r = noted (tried_when s.first s member at r) r

abbrev pub range_from : ℕ → RangeSeen → ℕ → List LogRecord → RangeSeen
range_from member s at [] = s
range_from member s at (r ∷ rs) = range_from member (range_with s member at r) (at + length (record_bytes r)) rs

-- ---- logs

abbrev pub left_behind : RangeSeen → RangeSeen
left_behind s = record { range = s.range; drawn = s.drawn; homes = s.homes; trans = finite.empty; first = s.first; next = s.next }

abbrev pub range_among : RangeSeen → List Log → RangeSeen
range_among s [] = s
range_among s (log ∷ logs) = range_among (left_behind (range_from log.member s 0 log.records)) logs

-- ---- places

-- by the order of the logs, and in each by the order of its records
abbrev pub is_sooner : Place → Place → Bool
is_sooner a b = nat_lt a.member b.member || ((a.member == b.member) && nat_lt a.at b.at)

abbrev pub sooner : Option Place → Option Place → Option Place
sooner None b = b
sooner (Some a) None = Some a
sooner (Some a) (Some b) = if is_sooner b a then Some b else Some a
