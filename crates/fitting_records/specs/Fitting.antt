-- The first record that doesn't fit those before it, by maps that go on with each record.
use Rattle.std.specs.Prelude.{ℕ, ◌+◌, ◌==◌, Bool, true, not, ◌&&◌, ◌||◌, if◌then◌else◌, List, [], ◌∷◌, length, Option, None, Some, Result, Ok, Err, is_some}
use Rattle.std.specs.Ordering.{nat_cmp}
use Rattle.std.specs.FinMap as finite
use Rattle.ds_model.specs.declared.log.LogRecord.{LogRecord}
use Rattle.ds_model.specs.RecordBytes.{record_bytes}
use Rattle.log_record.specs.declared.log.Log.{Log}
use Rattle.log_record.specs.Changes.{is_drawn}
use Rattle.disk_spots.specs.declared.spot.Spot.{Spot}
use Rattle.disk_spots.specs.declared.spot.Spot.TheVariants as spot
use Rattle.fitting_records.specs.declared.standing.Standing.{Standing}
use Rattle.fitting_records.specs.Standings.{new_standing, may_take, after_body}

abbrev pub Numbers : Type 0
Numbers = finite.FinMap nat_cmp Bool

abbrev pub Standings : Type 0
Standings = finite.FinMap nat_cmp Standing

-- what the records so far say: the numbers that were drawn, the transactions of the logs before this one, and what the records of this log come to for each
pub record Seen : Type 0 where
  pub drawn : Numbers
  pub elsewhere : Numbers
  pub trans : Standings

abbrev pub nothing_seen : Seen
nothing_seen = record { drawn = finite.empty; elsewhere = finite.empty; trans = finite.empty }

-- ---- one record

-- its number, if it was drawn, is neither 0 nor that of another
abbrev pub is_new : Seen → LogRecord → Bool
is_new seen r = not (is_drawn r.body) || (not (r.lrsn == 0) && not (is_some (finite.get seen.drawn r.lrsn)))

-- its transaction, if it has one, stands in no log before
abbrev pub is_home : Seen → LogRecord → Bool
is_home seen r = (r.tran == 0) || not (is_some (finite.get seen.elsewhere r.tran))

-- a transaction has the number of its first record
abbrev pub is_first : LogRecord → Bool
is_first r = (r.tran == 0) || (r.lrsn == r.tran)

abbrev pub follows_on : Option Standing → LogRecord → Bool
follows_on None r = is_first r && may_take new_standing r.body
follows_on (Some s) r = may_take s r.body

abbrev pub follows : Seen → LogRecord → Bool
follows seen r = follows_on (finite.get seen.trans r.tran) r

abbrev pub fits : Seen → LogRecord → Bool
fits seen r = is_new seen r && is_home seen r && follows seen r

-- ---- one record more

abbrev pub standing_of : Option Standing → Standing
standing_of None = new_standing
standing_of (Some s) = s

abbrev pub with_tran : Standings → LogRecord → Standings
with_tran trans r = finite.insert trans r.tran (after_body (standing_of (finite.get trans r.tran)) r r.body)

abbrev pub seen_with : Seen → LogRecord → Seen
seen_with seen r = record {
  drawn = if is_drawn r.body then finite.insert seen.drawn r.lrsn true else seen.drawn;
  elsewhere = seen.elsewhere;
  trans = with_tran seen.trans r;
}

-- ---- logs

abbrev pub trans_of : Numbers → List LogRecord → Numbers
trans_of trans [] = trans
trans_of trans (r ∷ rs) = trans_of (finite.insert trans r.tran true) rs

-- behind the last record of a log, which has these
abbrev pub behind_log : Seen → List LogRecord → Seen
behind_log seen records = record { drawn = seen.drawn; elsewhere = trans_of seen.elsewhere records; trans = finite.empty }

-- what is seen behind these records of a log, which begin at this byte, or where the first begins that doesn't fit
abbrev pub fitted_from : Seen → ℕ → List LogRecord → Result Seen ℕ
fitted_from seen at [] = Ok seen
fitted_from seen at (r ∷ rs) = if fits seen r then fitted_from (seen_with seen r) (at + length (record_bytes r)) rs else Err at

abbrev pub goes_on : (Seen → Option Spot) → ℕ → Result Seen ℕ → Option Spot
goes_on more member (Ok seen) = more seen
goes_on more member (Err at) = Some (spot.Log member at)

-- by the order of the logs, and in each by the order of its records
abbrev pub unfit_among : Seen → List Log → Option Spot
unfit_among seen [] = None
unfit_among seen (log ∷ logs) = goes_on (λ s. unfit_among (behind_log s log.records) logs) log.member (fitted_from seen 0 log.records)
