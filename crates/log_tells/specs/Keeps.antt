-- How logs go on telling: each move of the world of pages with what it makes of the logs.
use Rattle.std.specs.Prelude.{◌≡◌, ℕ, ◌+◌, ◌≤◌, ◌==◌, nat_lt, Bool, true, false, List, [], ◌∷◌, ◌++◌, filter, length}
use Rattle.std.specs.List.{AllByRecursion}
use Rattle.ds_base.specs.declared.names.PageId.{PageId}
use Rattle.ds_model.specs.declared.log.LogRecord.{LogRecord}
use Rattle.ds_model.specs.RecordBytes.{IsAllowed}
use Rattle.log_record.specs.Changes.{is_drawn}
use Rattle.page_images.specs.Images.{zeros}
use Rattle.page_chain.specs.Chains.{touches, after_record}
use Rattle.page_protocol.specs.Page.{put}
use Rattle.page_protocol.specs.Moves.{World, Move, Step, Draw, Force, Fail, GroupFail, Compensate, Append, failed, start}
use Rattle.page_protocol.specs.Always.{Good}
use Rattle.log_tells.specs.Told.{Told, IsTold, HaveParts, LogsTell, drawn_in, part_of}

-- ---- what a move draws, and what it cuts

abbrev pub told_at : ℕ → ℕ → LogRecord → Told
told_at m place r = record { member = m; place = place; it = r }

-- its log is longer than the place at which it stands
abbrev pub is_within : (ℕ → ℕ) → Told → Bool
is_within lengths t = nat_lt t.place (lengths t.member)

-- a failure of a member, or of all, leaves what stands within the lengths to which it cuts the logs
abbrev pub told_after : World → Move → LogRecord → List Told → List Told
told_after w (Draw m touched) r told = told ++ told_at m (w.group.written m) r ∷ []
told_after w (Compensate n m) r told = told ++ told_at m (w.group.stable m) r ∷ []
told_after w (Append m) r told = told ++ told_at m (w.group.stable m) r ∷ []
told_after w (Fail m cut) r told = filter (is_within (failed w.group m).written) told
told_after w (GroupFail cut counter) r told = filter (is_within w.group.stable) told
told_after w _ r told = told

-- the pages that a move changes by a record
abbrev pub changed_by : Move → ℕ → Bool
changed_by (Draw m touched) n = touched n
changed_by (Compensate k m) n = n == k
changed_by _ n = false

-- it draws the next number, and changes these pages
pub record IsNext (name : ℕ → PageId) (w : World) (r : LogRecord) (changed : ℕ → Bool) : Type 0 where
  pub allowed : IsAllowed r
  pub own : is_drawn r.body ≡ true
  pub number : r.lrsn ≡ w.group.counter + 1
  pub changes : (n : ℕ) → touches (name n) r ≡ changed n

-- a move that draws a number has a record, and a failure of all leaves no record with a number above those that are drawn from then on
abbrev pub Fits : (ℕ → PageId) → World → Move → LogRecord → List Told → Type 0
Fits name w (Draw m touched) r told = IsNext name w r touched
Fits name w (Compensate n m) r told = IsNext name w r (λ k. k == n)
Fits name w (Append m) r told = IsNext name w r (λ k. false)
Fits name w (GroupFail cut counter) r told = AllByRecursion (λ (t : Told). t.it.lrsn ≤ counter) (filter (is_within w.group.stable) told)
Fits name w _ r told = Unit {0}

-- the bytes of no version change, and a page that the record changes has one version more: what the record makes of the last one
pub record GoesOn (name : ℕ → PageId) (w : World) (e : Move) (r : LogRecord) (content after : ℕ → ℕ → List ℕ) : Type 0 where
  pub kept : (n v : ℕ) → v ≤ (w.pages n).last → after n v ≡ content n v
  pub behind : (n : ℕ) → changed_by e n ≡ true → after n ((w.pages n).last + 1) ≡ after_record (name n) (content n (w.pages n).last) r

abbrev pub StaysTold : Type 0
StaysTold = (name : ℕ → PageId) (set : ℕ → ℕ) (w v : World) (e : Move) (r : LogRecord) (content after : ℕ → ℕ → List ℕ) (told : List Told)
    → Good w → IsTold name w content told → Step set w e v → Fits name w e r told → GoesOn name w e r content after → IsTold name v after (told_after w e r told)

-- ---- the logs on disk

abbrev pub appended : (ℕ → List LogRecord) → ℕ → List LogRecord → ℕ → List LogRecord
appended logs m records = put logs m (logs m ++ records)

-- what a move appends: a member puts a front of its log buffer behind its log, and a group restart the record of its move
abbrev pub logs_after : Move → List LogRecord → (ℕ → List LogRecord) → ℕ → List LogRecord
logs_after (Force m k) records logs = appended logs m records
logs_after (Compensate n m) records logs = appended logs m records
logs_after (Append m) records logs = appended logs m records
logs_after _ records logs = logs

abbrev pub IsAppended : World → Move → LogRecord → List LogRecord → List Told → Type 0
IsAppended w (Force m k) r records told = drawn_in records ≡ part_of m (w.group.stable m) k told
IsAppended w (Compensate n m) r records told = drawn_in records ≡ r ∷ []
IsAppended w (Append m) r records told = drawn_in records ≡ r ∷ []
IsAppended w _ r records told = Unit {0}

abbrev pub LogsGoOn : Type 0
LogsGoOn = (name : ℕ → PageId) (set : ℕ → ℕ) (w v : World) (e : Move) (r : LogRecord) (records : List LogRecord) (content after : ℕ → ℕ → List ℕ) (told : List Told) (logs : ℕ → List LogRecord)
    → Good w → LogsTell name w content told logs → Step set w e v → Fits name w e r told → GoesOn name w e r content after → IsAppended w e r records told
    → LogsTell name v after (told_after w e r told) (logs_after e records logs)

-- records that draw no number may stand anywhere
abbrev pub OthersStand : Type 0
OthersStand = (name : ℕ → PageId) (w : World) (content : ℕ → ℕ → List ℕ) (told : List Told) (logs : ℕ → List LogRecord) (m : ℕ) (records : List LogRecord)
    → LogsTell name w content told logs → drawn_in records ≡ [] → LogsTell name w content told (appended logs m records)

-- ---- an append of a log buffer that was cut short: the records of it that stand whole are a part, up to a place that the log buffer had

pub record IsFront (w : World) (told : List Told) (m : ℕ) (front : List LogRecord) : Type 0 where
  pub place : ℕ
  pub from : w.group.stable m ≤ place
  pub to : place ≤ w.group.written m
  pub part : drawn_in front ≡ part_of m (w.group.stable m) place told

abbrev pub FrontsAreParts : Type 0
FrontsAreParts = (name : ℕ → PageId) (w : World) (content : ℕ → ℕ → List ℕ) (told : List Told) (m : ℕ) (front rest : List LogRecord)
    → Good w → IsTold name w content told → drawn_in (front ++ rest) ≡ part_of m (w.group.stable m) (w.group.written m) told → IsFront w told m front

-- ---- what was read of logs before

-- a part of a log stays as long as no failure cuts the log before its end
abbrev pub PartsStay : Type 0
PartsStay = (name : ℕ → PageId) (set : ℕ → ℕ) (w v : World) (content : ℕ → ℕ → List ℕ) (told : List Told) (e : Move) (r : LogRecord) (m from to : ℕ)
    → Good w → IsTold name w content told → Step set w e v → to ≤ w.group.stable m → part_of m from to (told_after w e r told) ≡ part_of m from to told

-- ---- a log buffer

-- these are its records, which stand behind the log
abbrev pub ArePending : World → List Told → ℕ → List LogRecord → Type 0
ArePending w told m records = drawn_in records ≡ part_of m (w.group.stable m) (w.group.written m) told

-- its member draws, and puts the record there
abbrev pub DrawsPend : Type 0
DrawsPend = (name : ℕ → PageId) (set : ℕ → ℕ) (w v : World) (content : ℕ → ℕ → List ℕ) (told : List Told) (m : ℕ) (touched : ℕ → Bool) (r : LogRecord) (records more : List LogRecord)
    → Good w → IsTold name w content told → Step set w (Draw m touched) v → ArePending w told m records → drawn_in more ≡ r ∷ [] → ArePending v (told_after w (Draw m touched) r told) m (records ++ more)

-- it is put behind the log up to this place
abbrev pub ForcesPend : Type 0
ForcesPend = (name : ℕ → PageId) (set : ℕ → ℕ) (w v : World) (content : ℕ → ℕ → List ℕ) (told : List Told) (m k : ℕ) (front rest : List LogRecord)
    → Good w → IsTold name w content told → Step set w (Force m k) v → drawn_in front ≡ part_of m (w.group.stable m) k told → ArePending w told m (front ++ rest) → ArePending v told m rest

-- ---- the start: over empty disks nothing was drawn

abbrev pub StartsTold : Type 0
StartsTold = (name : ℕ → PageId) (content : ℕ → ℕ → List ℕ) → ((n : ℕ) → content n 0 ≡ zeros) → LogsTell name start content [] (λ m. [])
