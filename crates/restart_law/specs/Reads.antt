-- The log that a restart reads, beside the one that the disk tells.
use Rattle.std.specs.Prelude.{◌≡◌, ◌≢◌, ℕ, ◌+◌, true, false, List, [], ◌++◌, length, take, drop, Some, Ok, IfSome}
use Rattle.ds_disk.specs.Contents.{Contents, log_of}
use Rattle.ds_model.specs.declared.log.LogRecord.{LogRecord}
use Rattle.log_reader.specs.Keeping.{AreBytes, AreWhole}
use Rattle.checkpoint_reader.specs.Keeping.{Stands}
use Rattle.checkpoint_reader.specs.Readers.{ReaderState}
use Rattle.log_starts.specs.Starts.{BeginsIn, MayBegin}
use Rattle.log_record.specs.Logs.{Parts, parts_in}
use Rattle.member_intents.specs.declared.outcome.Answered.{Answered}
use Rattle.member_intents.specs.declared.outcome.Answered.TheVariants as answered
use Rattle.restart_records.specs.Own.{OwnState}
use Rattle.restart_marks.specs.declared.intent.RestartSent.{RestartSent}
use Rattle.restart_marks.specs.State.{IsFresh, RestartState}
use Rattle.restart_resources.specs.Calls.{Drive}
use Rattle.restart_resources.specs.Events.{Happens, World}
use Rattle.restart_resources.specs.Held.{Held}
use Rattle.restart_law.specs.Opens.{OpensStand}

-- up to where the bytes are known to be whole records they are
abbrev pub IsKnown : List ℕ → ReaderState → Type 0
IsKnown bytes r = AreWhole (take r.known bytes)

-- what is kept, and what is looked at, are bytes of these; those that are kept stand behind whole records of them, from the first on or from a
-- Checkpoint that names its place; and their number is the one that was told, if one was
pub record ReadsFront (member : ℕ) (bytes : List ℕ) (r : ReaderState) : Type 0 where
  pub own : r.member ≡ member
  pub whole : IsKnown bytes r
  pub stands : Stands bytes r
  pub begins : BeginsIn bytes r.held
  pub told : IfSome r.length_told (λ long. long ≡ length bytes)

-- The records are those of the bytes from this one on, before which whole records stand: it is the first, or a Checkpoint begins there that names
-- it.
pub record AreLast (bytes : List ℕ) (records : List LogRecord) : Type 0 where
  pub start : ℕ
  pub whole : AreWhole (take start bytes)
  pub begins : MayBegin start (drop start bytes)
  pub parts : Parts
  pub told : parts_in (drop start bytes) ≡ Ok parts
  pub are : records ≡ parts.records

-- As long as the log isn't read whole, a front of these bytes is, and no record waits; then its records are their last ones.
pub record ReadsTrue (bytes : List ℕ) (s : RestartState) : Type 0 where
  pub reading : s.own.is_read ≡ false → IfSome s.own.reader (ReadsFront s.member bytes)
  pub idle : s.own.is_read ≡ false → s.log.pending ≡ []
  pub records : s.own.is_read ≡ true → AreLast bytes s.own.records

-- the disk tells these bytes as the log of the member
pub record TellsLog (drive : Drive) (member : ℕ) (bytes : List ℕ) : Type 0 where
  pub contents : Contents
  pub told : drive.contents ≡ Some contents
  pub log : log_of contents.logs member ≡ bytes

-- up to the end that the restart was given, the bytes are whole records
abbrev pub KnowsWhole : List ℕ → RestartState → Type 0
KnowsWhole bytes s = IfSome s.own.reader (IsKnown bytes)

-- ---- the laws

-- so they are where nothing is known
abbrev pub NothingKnown : Type 0
NothingKnown = (bytes : List ℕ) (s : RestartState) → IfSome s.own.reader (λ (r : ReaderState). r.known ≡ 0) → KnowsWhole bytes s

-- where all of them were whole records, whatever was appended since
abbrev pub WholeKnown : Type 0
WholeKnown = (bytes more : List ℕ) (s : RestartState) → AreWhole bytes → IfSome s.own.reader (λ (r : ReaderState). r.known ≡ length bytes) → KnowsWhole (bytes ++ more) s

abbrev pub ReadsBegin : Type 0
ReadsBegin = (member : ℕ) (bytes : List ℕ) (s : RestartState) → IsFresh member s → KnowsWhole bytes s → ReadsTrue bytes s

-- they are bytes, and the disk tells them as long as the log isn't read whole; and what is read is true
pub record StillReads (bytes : List ℕ) (drive : Drive) (s : RestartState) : Type 0 where
  pub are : AreBytes bytes
  pub reads : ReadsTrue bytes s
  pub tells : s.own.is_read ≡ false → TellsLog drive s.member bytes

abbrev pub ReadsStay : Type 0
ReadsStay = (bytes : List ℕ) (u v : World) (h k : Held) (x : RestartSent) (a : Answered) → Happens u h x a v k → a ≢ answered.Failed → OpensStand h.marks → StillReads bytes u.drive h.marks → StillReads bytes v.drive k.marks

-- what was read are the last records of the bytes, and it is told up to which byte they go, and how many bytes follow
pub record ReadsWhole (bytes : List ℕ) (o : OwnState) : Type 0 where
  pub last : AreLast bytes o.records
  pub long : o.long ≡ last.start + last.parts.size
  pub tail : o.tail ≡ last.parts.tail

-- behind the event in which the log is read
abbrev pub WholeIsRead : Type 0
WholeIsRead = (bytes : List ℕ) (u v : World) (h k : Held) (x : RestartSent) (a : Answered)
    → Happens u h x a v k → a ≢ answered.Failed → OpensStand h.marks → StillReads bytes u.drive h.marks → h.marks.own.is_read ≡ false → k.marks.own.is_read ≡ true → ReadsWhole bytes k.marks.own
