-- What follows where logs tell of the world of pages: redo by logs leads to the versions of that world.
use Rattle.std.specs.Prelude.{◌≡◌, ◌≢◌, ◌⊎◌, ℕ, ◌+◌, ◌<◌, ◌≤◌, ◌==◌, ◌&&◌, Bool, true, false, if◌then◌else◌, List, [], ◌∷◌, filter, Some, Ok}
use Rattle.std.specs.List.{AllByRecursion, list_any}
use Rattle.ds_base.specs.declared.names.PageId.{PageId}
use Rattle.ds_model.specs.declared.log.LogRecord.{LogRecord}
use Rattle.ds_model.specs.RecordBytes.{IsAllowed}
use Rattle.page_format.specs.Fields.{lrsn_of}
use Rattle.log_record.specs.Changes.{is_drawn}
use Rattle.log_record.specs.declared.log.Log.{Log}
use Rattle.log_merge.specs.Merging.{all_records, in_order}
use Rattle.page_chain.specs.Chains.{touches, redo}
use Rattle.page_redo.specs.Forward.{brought_forward}
use Rattle.page_protocol.specs.Page.{Page, AllStable, copy_before}
use Rattle.page_protocol.specs.Moves.{World, Move, Step, IsRead, IsWritten}
use Rattle.page_protocol.specs.Always.{Good}
use Rattle.log_tells.specs.Keeps.{is_within}
use Rattle.log_tells.specs.Told.{Told, IsTold, HaveParts, LogsTell, drawn_in, part_of, chain_of, records_of, is_between}

-- ---- versions and their numbers

-- a version shows the number of its last change
abbrev pub VersionsShow : Type 0
VersionsShow = (name : ℕ → PageId) (w : World) (content : ℕ → ℕ → List ℕ) (told : List Told) (n i : ℕ)
    → IsTold name w content told → i < (w.pages n).last → lrsn_of (content n (i + 1)) ≡ (w.pages n).lrsn i

-- so no two have the same bytes
abbrev pub VersionsDiffer : Type 0
VersionsDiffer = (name : ℕ → PageId) (w : World) (content : ℕ → ℕ → List ℕ) (told : List Told) (n a b : ℕ)
    → Good w → IsTold name w content told → a ≤ (w.pages n).last → b ≤ (w.pages n).last → content n a ≡ content n b → a ≡ b

-- ---- redo by some records of the chain: those from one version up to another, and any before

pub record AreThose (p : Page) (used : ℕ → ℕ → Bool) (d v : ℕ) : Type 0 where
  pub older : d ≤ v
  pub there : v ≤ p.last
  pub has : (i : ℕ) → d ≤ i → i < v → used (p.author i) (p.place i) ≡ true
  pub no_more : (i : ℕ) → v ≤ i → i < p.last → used (p.author i) (p.place i) ≡ false

abbrev pub is_used : (ℕ → ℕ → Bool) → Told → Bool
is_used used t = used t.member t.place

abbrev pub RedoLeads : Type 0
RedoLeads = (name : ℕ → PageId) (w : World) (content : ℕ → ℕ → List ℕ) (told : List Told) (used : ℕ → ℕ → Bool) (n d v : ℕ)
    → Good w → IsTold name w content told → AreThose (w.pages n) used d v
    → redo (name n) (content n d) (records_of (filter (is_used used) (chain_of (name n) told))) ≡ content n v

-- ---- the logs of several members, merged

-- the logs of this member and those behind it, by member
abbrev pub records_from : ℕ → List Log → ℕ → List LogRecord
records_from k [] m = []
records_from k (l ∷ ls) m = if m == k then l.records else records_from (k + 1) ls m

-- the logs of the members 1, 2 and so on
abbrev pub records_by : List Log → ℕ → List LogRecord
records_by logs = records_from 1 logs

abbrev pub is_in : (ℕ → ℕ) → (ℕ → ℕ) → Told → Bool
is_in from to t = is_between (from t.member) (to t.member) t

-- merged by their numbers, parts of logs are those of all records that stand in these parts, in the order in which they were drawn
abbrev pub MergedAre : Type 0
MergedAre = (name : ℕ → PageId) (w : World) (content : ℕ → ℕ → List ℕ) (told : List Told) (from to : ℕ → ℕ) (logs : List Log)
    → IsTold name w content told → HaveParts told from to (records_by logs) → in_order (all_records logs) ≡ records_of (filter (is_in from to) told)

-- each change behind this version stands in its log behind these places
abbrev pub IsCovered : Page → (ℕ → ℕ) → ℕ → Type 0
IsCovered p from d = (i : ℕ) → d ≤ i → i < p.last → from (p.author i) ≤ p.place i

-- ---- a rebuild: the logs that it read since the loss lead from the disk's page to the version that it reads

abbrev pub RebuildLeads : Type 0
RebuildLeads = (name : ℕ → PageId) (w : World) (content : ℕ → ℕ → List ℕ) (told : List Told) (from : ℕ → ℕ) (logs : List Log) (n v : ℕ)
    → Good w → IsTold name w content told → w.down ≡ false → w.group.lost ≡ true → HaveParts told from w.group.read (records_by logs)
    → IsCovered (w.pages n) from (w.pages n).disk → IsRead w.group (w.pages n) v
    → redo (name n) (content n (w.pages n).disk) (in_order (all_records logs)) ≡ content n v

-- where no field of the page is in the way, the page is what the rebuild makes of it
abbrev pub RebuildBrings : Type 0
RebuildBrings = (name : ℕ → PageId) (w : World) (content : ℕ → ℕ → List ℕ) (told : List Told) (from : ℕ → ℕ) (logs : List Log) (n v : ℕ) (applied : Bool)
    → Good w → IsTold name w content told → w.down ≡ false → w.group.lost ≡ true → HaveParts told from w.group.read (records_by logs)
    → IsCovered (w.pages n) from (w.pages n).disk → IsRead w.group (w.pages n) v
    → (brought_forward (name n) (content n (w.pages n).disk) (in_order (all_records logs))).outcome ≡ Ok applied
    → (brought_forward (name n) (content n (w.pages n).disk) (in_order (all_records logs))).page ≡ content n v

-- ---- a restart of a member: its own log leads from the group's copy, and from each later version, to the last one

abbrev pub RestartLeads : Type 0
RestartLeads = (name : ℕ → PageId) (w : World) (content : ℕ → ℕ → List ℕ) (told : List Told) (from : ℕ → ℕ) (own : List LogRecord) (m n d : ℕ)
    → Good w → IsTold name w content told → w.down ≡ false → (w.pages n).owner ≡ Some m → AllStable w.group (w.pages n) (w.pages n).last → drawn_in own ≡ part_of m (from m) (w.group.stable m) told
    → IsCovered (w.pages n) from d → copy_before w.group (w.pages n) ≤ d → d ≤ (w.pages n).last
    → redo (name n) (content n d) own ≡ content n (w.pages n).last

-- a page that shows a number no less than those of all the own records that change it has all changes of the member
abbrev pub ShowsWritten : Type 0
ShowsWritten = (name : ℕ → PageId) (w : World) (content : ℕ → ℕ → List ℕ) (told : List Told) (from : ℕ → ℕ) (own : List LogRecord) (m n d : ℕ)
    → Good w → IsTold name w content told → w.down ≡ false → drawn_in own ≡ part_of m (from m) (w.group.written m) told
    → IsCovered (w.pages n) from d → d ≤ copy_before w.group (w.pages n) → d ≤ (w.pages n).last
    → AllByRecursion (λ (r : LogRecord). touches (name n) r ≡ true → r.lrsn ≤ lrsn_of (content n d)) own
    → IsWritten w.group (w.pages n) m

-- ---- a restart of the group: the logs on disk lead from each version to the last one

abbrev pub GroupRestartLeads : Type 0
GroupRestartLeads = (name : ℕ → PageId) (w : World) (content : ℕ → ℕ → List ℕ) (told : List Told) (from : ℕ → ℕ) (logs : List Log) (n d : ℕ)
    → Good w → IsTold name w content told → w.down ≡ true → HaveParts told from w.group.stable (records_by logs)
    → IsCovered (w.pages n) from d → d ≤ (w.pages n).last
    → redo (name n) (content n d) (in_order (all_records logs)) ≡ content n (w.pages n).last

-- no change on disk has a greater number than the logs on disk
abbrev pub NumbersStand : Type 0
NumbersStand = (name : ℕ → PageId) (w : World) (content : ℕ → ℕ → List ℕ) (told : List Told) (logs : ℕ → List LogRecord) (top : ℕ)
    → LogsTell name w content told logs → ((m : ℕ) → AllByRecursion (λ (r : LogRecord). r.lrsn ≤ top) (logs m))
    → (n i : ℕ) → i < (w.pages n).last → (w.pages n).place i < w.group.stable ((w.pages n).author i) → (w.pages n).lrsn i ≤ top

-- a change of a member stands on disk where a record of its log there has no lesser number
abbrev pub LaterTells : Type 0
LaterTells = (name : ℕ → PageId) (w : World) (content : ℕ → ℕ → List ℕ) (told : List Told) (logs : ℕ → List LogRecord) (n i number : ℕ)
    → LogsTell name w content told logs → list_any (λ (r : LogRecord). is_drawn r.body && (r.lrsn == number)) (logs ((w.pages n).author i)) ≡ true
    → i < (w.pages n).last → (w.pages n).lrsn i ≤ number → (w.pages n).place i < w.group.stable ((w.pages n).author i)

-- so after a failure of all, numbers may be drawn from above those of the logs on
abbrev pub TopsFit : Type 0
TopsFit = (name : ℕ → PageId) (w : World) (content : ℕ → ℕ → List ℕ) (told : List Told) (logs : ℕ → List LogRecord) (top : ℕ)
    → LogsTell name w content told logs → ((m : ℕ) → AllByRecursion (λ (r : LogRecord). r.lrsn ≤ top) (logs m))
    → AllByRecursion (λ (t : Told). t.it.lrsn ≤ top) (filter (is_within w.group.stable) told)

-- ---- where reading begins: as long as these places are on disk, each page there goes on having what stands before them

pub record StaysCovered (w v : World) (from : ℕ → ℕ) : Type 0 where
  pub stable : (m : ℕ) → from m ≤ v.group.stable m
  pub each : (n : ℕ) → IsCovered (w.pages n) from (w.pages n).disk → IsCovered (v.pages n) from (v.pages n).disk

abbrev pub CoveredStays : Type 0
CoveredStays = (name : ℕ → PageId) (set : ℕ → ℕ) (w v : World) (content : ℕ → ℕ → List ℕ) (told : List Told) (e : Move) (from : ℕ → ℕ)
    → Good w → IsTold name w content told → Step set w e v → ((m : ℕ) → from m ≤ w.group.stable m) → StaysCovered w v from

-- the version that a rebuild reads stays so, until it reads on
abbrev pub ReadStays : Type 0
ReadStays = (name : ℕ → PageId) (set : ℕ → ℕ) (w v : World) (content : ℕ → ℕ → List ℕ) (told : List Told) (e : Move) (n k : ℕ)
    → Good w → IsTold name w content told → Step set w e v → w.down ≡ false → w.group.lost ≡ true → ((m : ℕ) → v.group.read m ≡ w.group.read m) → IsRead w.group (w.pages n) k → IsRead v.group (v.pages n) k

-- a page that no record of theirs changes, and one to which none was applied, is the version that the rebuild reads already
abbrev pub UntouchedIsRead : Type 0
UntouchedIsRead = (name : ℕ → PageId) (w : World) (content : ℕ → ℕ → List ℕ) (told : List Told) (from : ℕ → ℕ) (logs : List Log) (n : ℕ)
    → Good w → IsTold name w content told → w.down ≡ false → w.group.lost ≡ true → HaveParts told from w.group.read (records_by logs)
    → IsCovered (w.pages n) from (w.pages n).disk → list_any (touches (name n)) (in_order (all_records logs)) ≡ false → IsRead w.group (w.pages n) (w.pages n).disk

abbrev pub UnchangedIsRead : Type 0
UnchangedIsRead = (name : ℕ → PageId) (w : World) (content : ℕ → ℕ → List ℕ) (told : List Told) (from : ℕ → ℕ) (logs : List Log) (n : ℕ)
    → Good w → IsTold name w content told → w.down ≡ false → w.group.lost ≡ true → HaveParts told from w.group.read (records_by logs)
    → IsCovered (w.pages n) from (w.pages n).disk → (brought_forward (name n) (content n (w.pages n).disk) (in_order (all_records logs))).outcome ≡ Ok false
    → IsRead w.group (w.pages n) (w.pages n).disk

-- where no field of a page is in the way, it is brought so far by the own log of a member, and by the logs of all

abbrev pub RestartBrings : Type 0
RestartBrings = (name : ℕ → PageId) (w : World) (content : ℕ → ℕ → List ℕ) (told : List Told) (from : ℕ → ℕ) (own : List LogRecord) (m n d : ℕ) (applied : Bool)
    → Good w → IsTold name w content told → w.down ≡ false → (w.pages n).owner ≡ Some m → AllStable w.group (w.pages n) (w.pages n).last → drawn_in own ≡ part_of m (from m) (w.group.stable m) told → AllByRecursion IsAllowed own
    → IsCovered (w.pages n) from d → copy_before w.group (w.pages n) ≤ d → d ≤ (w.pages n).last
    → (brought_forward (name n) (content n d) own).outcome ≡ Ok applied → (brought_forward (name n) (content n d) own).page ≡ content n (w.pages n).last

abbrev pub GroupRestartBrings : Type 0
GroupRestartBrings = (name : ℕ → PageId) (w : World) (content : ℕ → ℕ → List ℕ) (told : List Told) (from : ℕ → ℕ) (logs : List Log) (n d : ℕ) (applied : Bool)
    → Good w → IsTold name w content told → w.down ≡ true → HaveParts told from w.group.stable (records_by logs)
    → IsCovered (w.pages n) from d → d ≤ (w.pages n).last
    → (brought_forward (name n) (content n d) (in_order (all_records logs))).outcome ≡ Ok applied → (brought_forward (name n) (content n d) (in_order (all_records logs))).page ≡ content n (w.pages n).last
