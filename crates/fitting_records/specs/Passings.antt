-- Whether a record fits those before it of all logs, in the order of their numbers, by what is open alone.
use Rattle.std.specs.Prelude.{ℕ, ◌==◌, nat_lt, Bool, true, false, not, ◌&&◌, ◌||◌, if◌then◌else◌, Option, None, Some}
use Rattle.std.specs.Ordering.{nat_cmp}
use Rattle.std.specs.FinMap as finite
use Rattle.ds_model.specs.declared.log.LogRecord.{LogRecord}
use Rattle.ds_model.specs.declared.log.Body.{Body}
use Rattle.ds_model.specs.declared.log.Body.TheVariants as body
use Rattle.log_record.specs.Changes.{is_drawn}
use Rattle.fitting_records.specs.declared.standing.Standing.{Standing}
use Rattle.fitting_records.specs.declared.passing.OpenTran.{OpenTran}
use Rattle.fitting_records.specs.declared.passing.Passing.{Passing}
use Rattle.fitting_records.specs.Standings.{new_standing, may_take, after_body}

abbrev pub OpenTrans : Type 0
OpenTrans = finite.FinMap nat_cmp OpenTran

abbrev pub nothing_passed : Passing
nothing_passed = record { last = 0; greatest = 0; trans = finite.empty }

-- ---- one record

-- it may belong to no transaction
abbrev pub is_apart : Body → Bool
is_apart (body.RowChange change) = false
is_apart (body.Compensation change undone) = false
is_apart (body.System patches) = true
is_apart body.Commit = false
is_apart body.Ended = false
is_apart (body.Checkpoint offset) = true
is_apart body.RestartEnd = true

-- its transaction is over behind it
abbrev pub closes : Body → Bool
closes (body.RowChange change) = false
closes (body.Compensation change undone) = false
closes (body.System patches) = false
closes body.Commit = true
closes body.Ended = true
closes (body.Checkpoint offset) = false
closes body.RestartEnd = false

-- its number, if it was drawn, is above those that were drawn before
abbrev pub rises : Passing → LogRecord → Bool
rises s r = not (is_drawn r.body) || nat_lt s.last r.lrsn

-- it may be the first of its transaction
abbrev pub begins : LogRecord → Bool
begins r = is_drawn r.body && (r.lrsn == r.tran) && may_take new_standing r.body

-- it may be the next of its transaction, of the member's log
abbrev pub goes_on : Option OpenTran → ℕ → LogRecord → Bool
goes_on None member r = begins r
goes_on (Some o) member r = (o.home == member) && may_take o.standing r.body

abbrev pub may_pass : Passing → ℕ → LogRecord → Bool
may_pass s member r = rises s r && (if r.tran == 0 then is_apart r.body else goes_on (finite.get s.trans r.tran) member r)

-- ---- one record more

abbrev pub standing_in : Option OpenTran → Standing
standing_in None = new_standing
standing_in (Some o) = o.standing

abbrev pub gone_on : Option OpenTran → ℕ → LogRecord → OpenTran
gone_on o member r = record { home = member; standing = after_body (standing_in o) r r.body }

abbrev pub trans_with : OpenTrans → ℕ → LogRecord → OpenTrans
trans_with trans member r = if closes r.body then finite.remove trans r.tran else finite.insert trans r.tran (gone_on (finite.get trans r.tran) member r)

abbrev pub greater : ℕ → ℕ → ℕ
greater a b = if nat_lt a b then b else a

abbrev pub passed : Passing → ℕ → LogRecord → Passing
passed s member r = record {
  last = if is_drawn r.body then r.lrsn else s.last;
  greatest = greater s.greatest r.lrsn;
  trans = if r.tran == 0 then s.trans else trans_with s.trans member r;
}
