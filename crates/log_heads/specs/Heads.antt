-- Logs that are read by blocks, all together.
use Rattle.std.specs.Prelude.{◌≡◌, ℕ, ◌+◌, ◌-◌, ◌≤◌, nat_lt, nat_le, if◌then◌else◌, List, [], ◌∷◌, length, slice_index_or, slice_set, Option, None, Some}
use Rattle.ds_model.specs.declared.log.LogRecord.{LogRecord}
use Rattle.ds_model.specs.RecordBytes.{record_limit}
use Rattle.log_head.specs.declared.standing.Standing.{Standing}
use Rattle.log_head.specs.declared.standing.Standing.TheVariants as standing
use Rattle.log_head.specs.Heads.{HeadState, standing_of, first_of, number_of, after_take, filled}
use Rattle.log_heads.specs.declared.taken.Taken.{Taken}
use Rattle.log_heads.specs.declared.taken.Taken.TheVariants as taken

-- the most bytes that are asked for at once, and the logs of the members 1, 2, .. in this order
pub record HeadsState : Type 0 where
  pub block : ℕ
  pub heads : List HeadState

abbrev pub no_head : HeadState
no_head = record { at = 0; hand = []; end = 0 }

abbrev pub head_at : List HeadState → ℕ → HeadState
head_at heads i = slice_index_or heads i no_head

-- nothing is read yet of the logs, from these starts on and up to these lengths
abbrev pub heads_of : List ℕ → List ℕ → List HeadState
heads_of [] lengths = []
heads_of (s ∷ ss) [] = []
heads_of (s ∷ ss) (l ∷ ls) = record { at = s; hand = []; end = l } ∷ heads_of ss ls

-- no start is past its length
abbrev pub AreStarts : List ℕ → List ℕ → Type 0
AreStarts [] lengths = Unit {0}
AreStarts (s ∷ ss) [] = Unit {0}
AreStarts (s ∷ ss) (l ∷ ls) = (s ≤ l) × AreStarts ss ls

-- of no log more bytes are in hand than a block and the longest record
abbrev pub IsFew : ℕ → HeadState → Type 0
IsFew block h = length h.hand ≤ block + record_limit

-- ---- the first log that can't go on

abbrev pub or_else : {X : Type 0} → Option X → Option X → Option X
or_else None y = y
or_else (Some x) y = Some x

-- why a log can't go on: bytes are wanted, or a field isn't allowed; of the last bytes, where they are no whole record, the log's length is named
abbrev pub stop_of : ℕ → ℕ → Standing → Option Taken
stop_of member end standing.Ready = None
stop_of member end (standing.Wants at count) = Some (taken.Wants member at count)
stop_of member end (standing.Bad at) = Some (taken.Bad member at)
stop_of member end (standing.Ends at) = if nat_lt at end then Some (taken.Bad member end) else None

-- by the order of the logs, of which the first is this member's
abbrev pub first_stop : ℕ → ℕ → List HeadState → Option Taken
first_stop block member [] = None
first_stop block member (h ∷ hs) = or_else (stop_of member h.end (standing_of block h)) (first_stop block (member + 1) hs)

-- ---- the record with the least number

-- the place of the record with this number, or the later one, where that has a lesser number
abbrev pub least_of_two : ℕ → Option ℕ → Option (ℕ × ℕ) → Option (ℕ × ℕ)
least_of_two i None later = later
least_of_two i (Some n) None = Some (i, n)
least_of_two i (Some n) (Some later) = if nat_le n later.1 then Some (i, n) else Some later

-- at which place, counted from i, the first record has the least number, and which; of equal ones the first
abbrev pub least_from : ℕ → List HeadState → Option (ℕ × ℕ)
least_from i [] = None
least_from i (h ∷ hs) = least_of_two i (number_of h) (least_from (i + 1) hs)

-- ---- what is taken

abbrev pub taken_record : ℕ → Option LogRecord → Taken
taken_record member None = taken.End
taken_record member (Some r) = taken.Record member r

abbrev pub taken_by : Option Taken → List HeadState → Option (ℕ × ℕ) → Taken
taken_by (Some stop) heads least = stop
taken_by None heads None = taken.End
taken_by None heads (Some least) = taken_record (least.0 + 1) (first_of (head_at heads least.0))

-- the first log that can't go on is named; where all can, the record with the least number is taken
abbrev pub taken_of : HeadsState → Taken
taken_of s = taken_by (first_stop s.block 1 s.heads) s.heads (least_from 0 s.heads)

abbrev pub heads_by : Option Taken → List HeadState → Option (ℕ × ℕ) → List HeadState
heads_by (Some stop) heads least = heads
heads_by None heads None = heads
heads_by None heads (Some least) = slice_set heads least.0 (after_take (head_at heads least.0))

abbrev pub after_taken : HeadsState → HeadsState
after_taken s = record { block = s.block; heads = heads_by (first_stop s.block 1 s.heads) s.heads (least_from 0 s.heads) }

-- ---- bytes that are wanted

-- so many bytes of the member's log are wanted
abbrev pub AreWanted : Taken → ℕ → ℕ → Type 0
AreWanted (taken.Record m r) member count = ⊥
AreWanted (taken.Wants m at n) member count = (m ≡ member) × (n ≡ count)
AreWanted (taken.Bad m at) member count = ⊥
AreWanted taken.End member count = ⊥

abbrev pub after_fill : HeadsState → ℕ → List ℕ → HeadsState
after_fill s member bytes = record { block = s.block; heads = slice_set s.heads (member - 1) (filled (head_at s.heads (member - 1)) bytes) }
