-- What reading logs by blocks comes to.
use Rattle.std.specs.Prelude.{◌≡◌, ◌↔◌, ℕ, ◌+◌, ◌-◌, ◌<◌, ◌≤◌, List, length}
use Rattle.ds_model.specs.declared.log.LogRecord.{LogRecord}
use Rattle.ds_model.specs.Logs.{by_lrsn}
use Rattle.log_merge.specs.Merging.{kept, in_order}
use Rattle.log_heads.specs.declared.taken.Taken.TheVariants as taken
use Rattle.log_head.specs.Heads.{hand_end}
use Rattle.log_heads.specs.Heads.{HeadsState, head_at, taken_of, after_taken, AreWanted, after_fill}
use Rattle.log_heads.specs.Logs.{AreOf, GoesOn, AreRead, AreNextOf, work_left, IsFilled}

-- what is taken is the next record of all logs, and is told from them
abbrev pub TakenGoesOn : Type 0
TakenGoesOn = (logs : List (List ℕ)) (s : HeadsState) → AreOf logs s.heads → GoesOn logs s.heads (taken_of s) (after_taken s).heads

-- the end comes exactly where all logs are read
abbrev pub EndIsRead : Type 0
EndIsRead = (logs : List (List ℕ)) (s : HeadsState) → AreOf logs s.heads → (taken_of s ≡ taken.End) ↔ AreRead s.heads

-- where bytes are wanted they stay so
abbrev pub WantsAgain : Type 0
WantsAgain = (s : HeadsState) (member at count : ℕ) → taken_of s ≡ taken.Wants member at count → taken_of (after_taken s) ≡ taken.Wants member at count

-- they follow those in hand of a log, which goes on so far, and aren't more than a block
abbrev pub WantsNext : Type 0
WantsNext = (s : HeadsState) (member at count : ℕ) → taken_of s ≡ taken.Wants member at count → (at ≡ hand_end (head_at s.heads (member - 1))) × (at + count ≤ (head_at s.heads (member - 1)).end) × (count ≤ s.block)

-- bytes that are wanted leave the same records
abbrev pub FillGoesOn : Type 0
FillGoesOn = (logs : List (List ℕ)) (s : HeadsState) (member : ℕ) (bytes : List ℕ) → 1 ≤ s.block → AreOf logs s.heads → AreWanted (taken_of s) member (length bytes) → AreNextOf logs s.heads member bytes → IsFilled logs s.heads (after_fill s member bytes).heads

-- whatever the logs, what is taken leaves no more to be done, and bytes that are wanted leave less
abbrev pub TakenLeaves : Type 0
TakenLeaves = (s : HeadsState) → work_left (after_taken s).heads ≤ work_left s.heads

abbrev pub FillLeaves : Type 0
FillLeaves = (s : HeadsState) (member : ℕ) (bytes : List ℕ) → 1 ≤ s.block → AreWanted (taken_of s) member (length bytes) → work_left (after_fill s member bytes).heads < work_left s.heads

-- of records in the order of their numbers, those that change pages or commit are in order
abbrev pub KeptInOrder : Type 0
KeptInOrder = (records : List LogRecord) → kept (by_lrsn records) ≡ in_order records
