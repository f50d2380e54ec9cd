-- Where the whole records of a log end.
use Rattle.std.specs.Prelude.{◌≡◌, ℕ, ◌+◌, ◌≤◌, List, length, Option, None, Some, Result, Ok, Err}
use Rattle.ds_model.specs.RecordBytes.{record_limit}
use Rattle.log_record.specs.Logs.{Parts, parts_in}
use Rattle.log_head.specs.declared.standing.Standing.{Standing}
use Rattle.log_head.specs.declared.standing.Standing.TheVariants as standing
use Rattle.log_head.specs.Heads.{HeadState, hand_end, first_of, standing_of, IsOf, left_bytes}

-- the most bytes that are asked for at once, and the log as far as it is read
pub record EndState : Type 0 where
  pub block : ℕ
  pub head : HeadState

-- where the whole records end, or where the first field begins that isn't allowed, of bytes that begin at this byte of a log
abbrev pub ends_from : ℕ → Result Parts ℕ → Result ℕ ℕ
ends_from at (Ok p) = Ok (at + p.size)
ends_from at (Err field) = Err (at + field)

-- the same of what is left of a log
abbrev pub end_of : List ℕ → HeadState → Result ℕ ℕ
end_of log h = ends_from h.at (parts_in (left_bytes log h))

-- what is told of a log that goes on so: that bytes are wanted, or its end, or its damage
abbrev pub Tells : Standing → Result ℕ ℕ → Type 0
Tells standing.Ready end = ⊥
Tells (standing.Wants at count) end = Unit {0}
Tells (standing.Bad at) end = end ≡ Err at
Tells (standing.Ends at) end = end ≡ Ok at

-- so many bytes are wanted
abbrev pub AreWanted : Standing → ℕ → Type 0
AreWanted standing.Ready count = ⊥
AreWanted (standing.Wants at n) count = n ≡ count
AreWanted (standing.Bad at) count = ⊥
AreWanted (standing.Ends at) count = ⊥

-- records in hand were passed, and the log ends where it did
pub record ArePassed (old new : HeadState) : Type 0 where
  pub end : new.end ≡ old.end
  pub hand : hand_end new ≡ hand_end old
  pub few : length new.hand ≤ length old.hand
  pub kept : (log : List ℕ) → IsOf log old → IsOf log new × (end_of log new ≡ end_of log old)

-- these bytes were read, and every whole record of them was passed; in hand are no more than they and the longest record
pub record IsRead (old new : EndState) (count : ℕ) : Type 0 where
  pub block : new.block ≡ old.block
  pub end : new.head.end ≡ old.head.end
  pub further : hand_end new.head ≡ hand_end old.head + count
  pub none : first_of new.head ≡ None
  pub few : length new.head.hand ≤ record_limit + count
