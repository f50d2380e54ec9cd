-- What comes next of logs that are read by blocks, each up to where its whole records end.
use Rattle.std.specs.Prelude.{◌≡◌, ℕ, ◌≤◌, List, [], ◌∷◌, length, take}
use Rattle.std.specs.List.{AllByRecursion}
use Rattle.ds_model.specs.declared.log.LogRecord.{LogRecord}
use Rattle.ds_model.specs.RecordBytes.{log_bytes, IsAllowed}
use Rattle.log_head.specs.Heads.{HeadState, left_bytes, left_of}
use Rattle.log_heads.specs.declared.taken.Taken.{Taken}
use Rattle.log_heads.specs.declared.taken.Taken.TheVariants as taken
use Rattle.log_heads.specs.Logs.{AreOf, left, IsTaken}
use Rattle.disk_walk.specs.declared.walk.Next.{Next}
use Rattle.disk_walk.specs.declared.walk.Next.TheVariants as next

-- what is left of each log, as far as it is read, are whole records
abbrev pub IsWhole : List ℕ → HeadState → Type 0
IsWhole log h = (left_bytes log h ≡ log_bytes (left_of log h)) × AllByRecursion IsAllowed (left_of log h)

abbrev pub AreWhole : List (List ℕ) → List HeadState → Type 0
AreWhole [] hs = Unit {0}
AreWhole (log ∷ logs) [] = Unit {0}
AreWhole (log ∷ logs) (h ∷ hs) = IsWhole log h × AreWhole logs hs

-- the logs are read so
pub record Stand (logs : List (List ℕ)) (heads : List HeadState) : Type 0 where
  pub of : AreOf logs heads
  pub whole : AreWhole logs heads

-- ---- where reading begins

-- the whole records of the log are these, and end there
pub record IsUpTo (log : List ℕ) (end : ℕ) (records : List LogRecord) : Type 0 where
  pub within : end ≤ length log
  pub spelled : take end log ≡ log_bytes records
  pub allowed : AllByRecursion IsAllowed records

abbrev pub AreUpTo : List (List ℕ) → List ℕ → List (List LogRecord) → Type 0
AreUpTo [] [] [] = Unit {0}
AreUpTo [] [] (rs ∷ lists) = ⊥
AreUpTo [] (e ∷ ends) lists = ⊥
AreUpTo (log ∷ logs) [] lists = ⊥
AreUpTo (log ∷ logs) (e ∷ ends) [] = ⊥
AreUpTo (log ∷ logs) (e ∷ ends) (rs ∷ lists) = IsUpTo log e rs × AreUpTo logs ends lists

-- all of them are left
pub record Begins (logs : List (List ℕ)) (heads : List HeadState) (lists : List (List LogRecord)) : Type 0 where
  pub stand : Stand logs heads
  pub left_is : left logs heads ≡ lists

-- ---- reading on

-- bytes that are read on leave the same records
abbrev pub AreKept : List (List ℕ) → List HeadState → List HeadState → Type 0
AreKept logs old new = Stand logs old → Stand logs new × (left logs new ≡ left logs old)

-- ---- the next record

-- no record is left
abbrev pub AreRead : List (List LogRecord) → Type 0
AreRead lists = AllByRecursion (λ (l : List LogRecord). l ≡ []) lists

-- what is taken of logs of whole records: the next record of all; or bytes are wanted; or none is left
abbrev pub Comes : List (List LogRecord) → Taken → List (List LogRecord) → Type 0
Comes old (taken.Record member r) new = IsTaken member r old new
Comes old (taken.Wants member at count) new = new ≡ old
Comes old (taken.Bad member at) new = ⊥
Comes old taken.End new = AreRead old

-- the same where no bytes are wanted
abbrev pub IsNextOfAll : List (List LogRecord) → Next → List (List LogRecord) → Type 0
IsNextOfAll old (next.Record member r) new = IsTaken member r old new
IsNextOfAll old (next.Bad member at) new = ⊥
IsNextOfAll old next.End new = AreRead old
