-- The logs and log buffers of a group, in bytes, through any event of a member that is up.
use Rattle.std.specs.Prelude.{◌≡◌, ◌≢◌, ℕ, ◌-◌, ◌≤◌, ◌==◌, ◌&&◌, nat_lt, true, List, [], ◌∷◌, ◌++◌, length, Some}
use Rattle.std.specs.List.{AllByRecursion}
use Rattle.ds_disk.specs.Contents.{Contents, log_of}
use Rattle.ds_model.specs.declared.log.LogRecord.{LogRecord}
use Rattle.ds_model.specs.RecordBytes.{IsAllowed, log_bytes}
use Rattle.page_format.specs.Fields.{lrsn_of}
use Rattle.log_appends.specs.Rests.{IsRest}
use Rattle.page_chain.specs.Chains.{touches, after_record}
use Rattle.member_intents.specs.declared.intent.Intent.{Intent}
use Rattle.member_intents.specs.declared.outcome.Answered.{Answered}
use Rattle.member_intents.specs.declared.outcome.Sent.{Sent}
use Rattle.member_effects.specs.Puts.{event_records}
use Rattle.member_resources.specs.Held.{Held, begun}
use Rattle.member_resources.specs.Events as event
use Rattle.member_resources.specs.Events.{Drive, Ends, Happens}
use Rattle.page_protocol.specs.Moves.{World}
use Rattle.page_world.specs.Numbers.{page_at}
use Rattle.page_world.specs.Holdings.{Holdings}
use Rattle.page_events.specs.Beside.{Beside, Leads}
use Rattle.page_events.specs.Events.{Supplied}
use Rattle.log_tells.specs.Told.{Told, drawn_in}
use Rattle.told_pages.specs.Runs.{AllTell}

-- ---- in bytes

-- The disk tells what it holds: the log of each member spells these records, and behind them bytes that are no record.
pub record DiskTells (d : Drive) (logs : ℕ → List LogRecord) (rests : ℕ → List ℕ) : Type 0 where
  pub contents : Contents
  pub told : d.contents ≡ Some contents
  pub spelled : (m : ℕ) → 1 ≤ m → log_of contents.logs m ≡ log_bytes (logs m) ++ rests m
  pub allowed : (m : ℕ) → 1 ≤ m → AllByRecursion IsAllowed (logs m)
  pub rest : (m : ℕ) → 1 ≤ m → IsRest (rests m)

-- The log buffer of a member spells these records, and its log on disk ends with a whole one.
pub record BufferTells (h : Held) (c : Contents) (records : List LogRecord) (rest : List ℕ) : Type 0 where
  pub has : nat_lt (h.marks.member - 1) (length c.logs) ≡ true
  pub spelled : h.marks.log.pending ≡ log_bytes records
  pub allowed : AllByRecursion IsAllowed records
  pub whole : rest ≡ []

-- beside a world and a disk
pub record TellBeside (w : World) (content : ℕ → ℕ → List ℕ) (d : Drive) (told : List Told) (logs buffers : ℕ → List LogRecord) (rests : ℕ → List ℕ) : Type 0 where
  pub all : AllTell page_at w content told logs buffers
  pub drive : DiskTells d logs rests

-- ---- what an event leads to

-- They go on telling, and those of all other members are as they were.
pub record TellOn (w : World) (content : ℕ → ℕ → List ℕ) (c : Contents) (d : Drive) (k : Held) (m : ℕ) (logs buffers : ℕ → List LogRecord) (rests : ℕ → List ℕ) : Type 0 where
  pub told : List Told
  pub on_disk : ℕ → List LogRecord
  pub waiting : ℕ → List LogRecord
  pub beside : TellBeside w content d told on_disk waiting rests
  pub own : BufferTells k beside.drive.contents (waiting m) (rests m)
  pub count : length beside.drive.contents.logs ≡ length c.logs
  pub other_logs : (j : ℕ) → j ≢ m → on_disk j ≡ logs j
  pub other_buffers : (j : ℕ) → j ≢ m → waiting j ≡ buffers j

-- The record changes the pages whose copies show its number behind it, and makes their bytes of those of the last versions.
pub record ShowsRecord (w : World) (left : Holdings) (content : ℕ → ℕ → List ℕ) (m : ℕ) (r : LogRecord) : Type 0 where
  pub changes : (n : ℕ) → touches (page_at n) r ≡ ((left.copies m n).marked && (lrsn_of (left.copies m n).bytes == r.lrsn))
  pub behind : (n : ℕ) → touches (page_at n) r ≡ true → (left.copies m n).bytes ≡ after_record (page_at n) (content n (w.pages n).last) r

-- any event of a member that is up, where what it puts is so
abbrev pub EventTells : Type 0
EventTells = (w : World) (u v : event.World) (g : Holdings) (content : ℕ → ℕ → List ℕ) (forced : ℕ → ℕ) (h k : Held) (i : Intent) (place : ℕ) (sent : Sent) (a : Answered)
    (told : List Told) (logs buffers : ℕ → List LogRecord) (rests : ℕ → List ℕ)
    → Beside w u g content forced h → (happens : Happens u h i place sent a v k) → Supplied g h happens.ready i happens.plan place a → (l : Leads w v g content forced h k)
    → (t : TellBeside w content u.drive told logs buffers rests) → BufferTells h t.drive.contents (buffers h.marks.member) (rests h.marks.member)
    → ((r : LogRecord) → drawn_in (event_records (begun happens.ready place).marks i happens.plan a) ≡ r ∷ [] → ShowsRecord w l.left content h.marks.member r)
    → TellOn l.world l.versions t.drive.contents v.drive k h.marks.member logs buffers rests

-- so it is where it is told of its restart or its rebuild
abbrev pub ToldTells : Type 0
ToldTells = (w : World) (u : event.World) (g : Holdings) (content : ℕ → ℕ → List ℕ) (forced : ℕ → ℕ) (h k : Held) (place : ℕ) (told : List Told) (logs buffers : ℕ → List LogRecord) (rests : ℕ → List ℕ)
    → Beside w u g content forced h → Ends (begun h place) k → (l : Leads w u g content forced h k)
    → (t : TellBeside w content u.drive told logs buffers rests) → BufferTells h t.drive.contents (buffers h.marks.member) (rests h.marks.member)
    → TellOn l.world l.versions t.drive.contents u.drive k h.marks.member logs buffers rests
