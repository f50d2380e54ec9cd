-- What a run of moves makes of the logs and log buffers that tell of the world of pages.
use Rattle.std.specs.Prelude.{◌≡◌, ◌≢◌, ℕ, ◌+◌, ◌<◌, ◌≤◌, nat_lt, Bool, true, false, List, [], ◌∷◌, ◌++◌, filter}
use Rattle.ds_base.specs.declared.names.PageId.{PageId}
use Rattle.ds_model.specs.declared.log.LogRecord.{LogRecord}
use Rattle.ds_model.specs.RecordBytes.{IsAllowed}
use Rattle.log_record.specs.Changes.{is_drawn}
use Rattle.page_images.specs.Images.{zeros}
use Rattle.page_chain.specs.Chains.{touches, after_record}
use Rattle.page_protocol.specs.Page.{put}
use Rattle.page_protocol.specs.Moves.{World, Move, Fail, Run, Step, start}
use Rattle.page_protocol.specs.Always.{Good}
use Rattle.log_tells.specs.Told.{Told, LogsTell, drawn_in, part_of}
use Rattle.log_tells.specs.Keeps.{ArePending, appended, is_within, told_at}
use Rattle.page_events.specs.Given.{ArePlain}

-- ---- the state

-- what was drawn stands on disk as far as the world says, and behind that in the log buffers
pub record AllTell (name : ℕ → PageId) (w : World) (content : ℕ → ℕ → List ℕ) (told : List Told) (logs buffers : ℕ → List LogRecord) : Type 0 where
  pub disk : LogsTell name w content told logs
  pub pending : (m : ℕ) → ArePending w told m (buffers m)

-- over empty disks, and with empty log buffers
abbrev pub StartsAllTold : Type 0
StartsAllTold = (name : ℕ → PageId) (content : ℕ → ℕ → List ℕ) → ((n : ℕ) → content n 0 ≡ zeros) → AllTell name start content [] (λ m. []) (λ m. [])

-- ---- runs

-- Moves lead from a good world in which the group runs to this one: no failure and no move of a group restart, and an append only where one
-- may be. The bytes of no version change.
pub record GoesPlainly (appends : Bool) (w v : World) (content after : ℕ → ℕ → List ℕ) : Type 0 where
  pub good : Good w
  pub running : w.down ≡ false
  pub set : ℕ → ℕ
  pub moves : List Move
  pub run : Run set w moves v
  pub plain : ArePlain appends moves
  pub kept : (n i : ℕ) → i ≤ (w.pages n).last → after n i ≡ content n i

-- ---- nothing is drawn, and nothing appended

abbrev pub QuietRuns : Type 0
QuietRuns = (name : ℕ → PageId) (w v : World) (content after : ℕ → ℕ → List ℕ) (told : List Told) (logs buffers : ℕ → List LogRecord)
    → GoesPlainly false w v content after → v.group.counter ≡ w.group.counter → AllTell name w content told logs buffers → AllTell name v after told logs buffers

-- ---- one number is drawn

-- by this member for this record, which changes the pages that have one version more: what it makes of the last one
pub record IsDrawnBy (name : ℕ → PageId) (w v : World) (content after : ℕ → ℕ → List ℕ) (m : ℕ) (r : LogRecord) : Type 0 where
  pub counter : v.group.counter ≡ w.group.counter + 1
  pub longer : w.group.written m < v.group.written m
  pub allowed : IsAllowed r
  pub own : is_drawn r.body ≡ true
  pub number : r.lrsn ≡ w.group.counter + 1
  pub changes : (n : ℕ) → touches (name n) r ≡ nat_lt (w.pages n).last (v.pages n).last
  pub behind : (n : ℕ) → touches (name n) r ≡ true → after n ((w.pages n).last + 1) ≡ after_record (name n) (content n (w.pages n).last) r

-- its log buffer has the record, and maybe others that draw no number
abbrev pub DrawRuns : Type 0
DrawRuns = (name : ℕ → PageId) (w v : World) (content after : ℕ → ℕ → List ℕ) (told : List Told) (logs buffers : ℕ → List LogRecord) (m : ℕ) (r : LogRecord) (more : List LogRecord)
    → GoesPlainly false w v content after → IsDrawnBy name w v content after m r → drawn_in more ≡ r ∷ [] → AllTell name w content told logs buffers
    → AllTell name v after (told ++ told_at m (w.group.written m) r ∷ []) logs (appended buffers m more)

-- ---- a log buffer is appended

-- the log of this member has this front of the log buffer, and the rest of it stays there
pub record IsAppendedBy (w v : World) (told : List Told) (buffers : ℕ → List LogRecord) (m : ℕ) (front rest : List LogRecord) : Type 0 where
  pub counter : v.group.counter ≡ w.group.counter
  pub split : buffers m ≡ front ++ rest
  pub rises : w.group.stable m ≤ v.group.stable m
  pub part : drawn_in front ≡ part_of m (w.group.stable m) (v.group.stable m) told
  pub others : (k : ℕ) → k ≢ m → v.group.stable k ≡ w.group.stable k

abbrev pub AppendRuns : Type 0
AppendRuns = (name : ℕ → PageId) (w v : World) (content after : ℕ → ℕ → List ℕ) (told : List Told) (logs buffers : ℕ → List LogRecord) (m : ℕ) (front rest : List LogRecord)
    → GoesPlainly true w v content after → IsAppendedBy w v told buffers m front rest → AllTell name w content told logs buffers
    → AllTell name v after told (appended logs m front) (put buffers m rest)

-- ---- a member fails

-- Moves lead to a failure of this member, and from it to the second world: none of them is another, or a move of a group restart, and none
-- behind it an append.
pub record FailsOnce (m : ℕ) (w v : World) (content after : ℕ → ℕ → List ℕ) : Type 0 where
  pub good : Good w
  pub running : w.down ≡ false
  pub set : ℕ → ℕ
  pub before : List Move
  pub up_to : World
  pub run : Run set w before up_to
  pub plain : ArePlain true before
  pub cut : ℕ → ℕ
  pub failed : World
  pub step : Step set up_to (Fail m cut) failed
  pub behind : List Move
  pub rest : Run set failed behind v
  pub quiet : ArePlain false behind
  pub kept : (n i : ℕ) → i ≤ (w.pages n).last → after n i ≡ content n i

-- what its log hadn't on disk is gone, but for a front of its log buffer that was appended
abbrev pub FailRuns : Type 0
FailRuns = (name : ℕ → PageId) (w v : World) (content after : ℕ → ℕ → List ℕ) (told : List Told) (logs buffers : ℕ → List LogRecord) (m : ℕ) (front rest : List LogRecord)
    → FailsOnce m w v content after → IsAppendedBy w v told buffers m front rest → AllTell name w content told logs buffers
    → AllTell name v after (filter (is_within v.group.written) told) (appended logs m front) (put buffers m [])
