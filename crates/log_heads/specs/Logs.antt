-- What is left of logs that are read by blocks.
use Rattle.std.specs.Prelude.{◌≡◌, ℕ, ◌+◌, ◌-◌, ◌<◌, List, [], ◌∷◌, ◌++◌, slice_index_or, slice_set}
use Rattle.std.specs.List.{flat_map, AllByRecursion}
use Rattle.ds_model.specs.declared.log.LogRecord.{LogRecord}
use Rattle.ds_model.specs.Logs.{by_lrsn}
use Rattle.log_head.specs.Heads.{HeadState, hand_end, IsOf, AreNext, left_of}
use Rattle.log_merge.specs.Merging.{kept, in_order, RisesFrom}
use Rattle.log_heads.specs.declared.taken.Taken.{Taken}
use Rattle.log_heads.specs.declared.taken.Taken.TheVariants as taken
use Rattle.log_heads.specs.Heads.{head_at}

-- the logs are read up to where they are told, and what is in hand is theirs
abbrev pub AreOf : List (List ℕ) → List HeadState → Type 0
AreOf [] [] = Unit {0}
AreOf [] (h ∷ hs) = ⊥
AreOf (log ∷ logs) [] = ⊥
AreOf (log ∷ logs) (h ∷ hs) = IsOf log h × AreOf logs hs

-- the records of each log that are still to be taken
abbrev pub left : List (List ℕ) → List HeadState → List (List LogRecord)
left [] hs = []
left (log ∷ logs) [] = []
left (log ∷ logs) (h ∷ hs) = left_of log h ∷ left logs hs

abbrev pub list_at : List (List LogRecord) → ℕ → List LogRecord
list_at lists i = slice_index_or lists i []

-- all records, one log after the other
abbrev pub together : List (List LogRecord) → List LogRecord
together lists = flat_map (λ (l : List LogRecord). l) lists

-- the numbers of no log fall
abbrev pub NoneFalls : List (List LogRecord) → Type 0
NoneFalls lists = AllByRecursion (RisesFrom 0) lists

-- the first record of a member's log is taken, and no other. Where the numbers of no log fall, it is the first of all records in the order of their numbers, and
-- the merged records go on with it, if it is of a kind that they hold.
pub record IsTaken (member : ℕ) (r : LogRecord) (before after : List (List LogRecord)) : Type 0 where
  pub first : list_at before (member - 1) ≡ r ∷ list_at after (member - 1)
  pub others : after ≡ slice_set before (member - 1) (list_at after (member - 1))
  pub lowest : NoneFalls before → by_lrsn (together before) ≡ r ∷ by_lrsn (together after)
  pub merged : NoneFalls before → in_order (together before) ≡ kept (r ∷ []) ++ in_order (together after)
  pub rises : NoneFalls before → NoneFalls after

-- the bytes that are put behind those in hand of the member's log are the log's
abbrev pub AreNextOf : List (List ℕ) → List HeadState → ℕ → List ℕ → Type 0
AreNextOf logs heads member bytes = AreNext (slice_index_or logs (member - 1) []) (head_at heads (member - 1)) bytes

-- how much is to be done: the bytes of which no record is taken, and again those that aren't in hand
abbrev pub work_left : List HeadState → ℕ
work_left [] = 0
work_left (h ∷ hs) = (h.end - h.at) + (h.end - hand_end h) + work_left hs

-- how reading goes on by what was taken: a record is; or nothing has changed; and at the end no record is left
abbrev pub GoesOn : List (List ℕ) → List HeadState → Taken → List HeadState → Type 0
GoesOn logs old (taken.Record member r) new = AreOf logs new × (work_left new < work_left old) × IsTaken member r (left logs old) (left logs new)
GoesOn logs old (taken.Wants member at count) new = new ≡ old
GoesOn logs old (taken.Bad member at) new = new ≡ old
GoesOn logs old taken.End new = (new ≡ old) × AllByRecursion (λ (l : List LogRecord). l ≡ []) (left logs old)

-- all logs are read up to their ends
abbrev pub AreRead : List HeadState → Type 0
AreRead heads = AllByRecursion (λ (h : HeadState). h.at ≡ h.end) heads

-- what bytes that are wanted leave: the same records
pub record IsFilled (logs : List (List ℕ)) (old new : List HeadState) : Type 0 where
  pub are : AreOf logs new
  pub same : left logs new ≡ left logs old
  pub less : work_left new < work_left old
