-- An event of a member.
use Rattle.std.specs.Prelude.{ℕ, ◌≡◌, ◌++◌, ◌⊎◌, nat_lt, Bool, true, false, List, length, Option, Some, None, Result, Ok, Err}
use Rattle.std.specs.FinMap as map
use Rattle.std.specs.List.{AllByRecursion}
use Rattle.ds_base.specs.declared.names.PageId.{PageId}
use Rattle.ds_disk.specs.Answers.{Answers, Appended}
use Rattle.ds_disk.specs.Contents.{Contents, Same, log_of, with_log}
use Rattle.ds_disk.specs.Pages as disk
use Rattle.ds_disk.specs.declared.disk.DiskError.{DiskError}
use Rattle.ds_disk.specs.declared.disk.DiskError.TheVariants.{Failed}
use Rattle.ds_model.specs.RecordBytes.{IsAllowed}
use Rattle.list_structure.specs.declared.query.Cell.{Cell}
use Rattle.list_structure.specs.declared.wait.Wait.{Wait}
use Rattle.list_structure.specs.States.{ListsState}
use Rattle.cache_structure.specs.Directory.{Directory, castout_of}
use Rattle.facility.specs.declared.command.Reply.{Reply}
use Rattle.facility.specs.declared.command.Command.{Command}
use Rattle.facility.specs.declared.facility.Facility.{Facility}
use Rattle.facility.specs.States as facility
use Rattle.facility.specs.States.{held}
use Rattle.facility.specs.Commands.{CanExecute, cells_for}
use Rattle.member_intents.specs.declared.intent.Intent.{Intent}
use Rattle.member_intents.specs.declared.intent.Intent.TheVariants as intent
use Rattle.member_intents.specs.declared.outcome.Sent.{Sent}
use Rattle.member_intents.specs.declared.outcome.Sent.TheVariants as sent
use Rattle.member_intents.specs.declared.outcome.Answered.{Answered}
use Rattle.member_intents.specs.declared.outcome.Answered.TheVariants as answered
use Rattle.member_intents.specs.declared.test.Test.{Test}
use Rattle.member_marks.specs.Local.{Reaches}
use Rattle.member_effects.specs.Given.{Cast}
-- given out again: what was planned, and what the policy is told
pub use Rattle.member_effects.specs.Given.{Plan}
pub use Rattle.member_effects.specs.declared.told.Told.{Told}
use Rattle.member_effects.specs.declared.told.Told.TheVariants as told
use Rattle.member_effects.specs.Puts.{event_records}
use Rattle.member_resources.specs.declared.prepared.Prepared.{Prepared}
use Rattle.member_resources.specs.Held.{Held, with_marks, begun}
use Rattle.member_resources.specs.Prepared.{wanted, Reserves}
use Rattle.member_resources.specs.Lending.{Gives, page_at, with_page}
use Rattle.member_resources.specs.Settled.{Settles, SettlesWaits, told_by, unsent, unsent_told, stored, stored_told}

-- whether the disk answers, and what it holds where it tells
pub record Drive : Type 0 where
  pub alive : Bool
  pub contents : Option Contents

pub record World : Type 0 where
  pub facility : facility.Held
  pub drive : Drive

abbrev pub world_of : {C D : Type 0} → (C → Directory) → (D → Bool) → (D → Option Contents) → Facility C → D → World
world_of directory alive contents facility disk =
    record { facility = held directory facility; drive = record { alive = alive disk; contents = contents disk } }

-- ---- a command

abbrev pub waits_in : Intent → Option ℕ
waits_in (intent.Waits slots) = Some slots
waits_in _ = None

abbrev pub SettlesAs : Option ℕ → Held → Intent → Plan → List Wait → List Cell → Reply → ℕ → Told → Held → Type 0
SettlesAs None h i p waits cells answer place said k = (said ≡ told_by h i p answer cells) × Settles h i p answer cells place k
SettlesAs (Some slots) h i p waits cells answer place said k = SettlesWaits h waits slots place said k

-- the reply to the command is settled, where these are the lists behind it
abbrev pub SettlesReply : Held → Intent → Command → Plan → ListsState → Reply → ℕ → Told → Held → Type 0
SettlesReply h i c p lists answer place said k =
    SettlesAs (waits_in i) h i p lists.waits (cells_for lists.cells h.marks.member c) answer place said k

-- the command is given, and its reply settled
pub record RunsCommand (w : facility.Held) (h : Held) (i : Intent) (c : Command) (p : Plan) (place : ℕ) (a : Answered) (said : Told) (v : facility.Held) (k : Held) : Type 0 where
  pub answer : Reply
  pub after : Held
  pub is : a ≡ answered.Reply answer
  pub gives : Gives h w c answer after v
  pub settles : SettlesReply after i c p v.lists answer place said k

-- the facility's condition for the command doesn't hold, and nothing is changed
pub record CannotExecute (w : facility.Held) (h : Held) (c : Command) (v : facility.Held) (k : Held) : Type 0 where
  pub cannot : ¬ CanExecute w h.marks.member c
  pub facility : v ≡ w
  pub same : k ≡ h

-- ---- a disk call

-- the log ends with the pending records
abbrev pub Appends : Drive → Held → Result (Unit {0}) DiskError → Drive → Held → Type 0
Appends w h done v k =
    Answers w.alive v.alive w.contents v.contents done
    (λ _ c d. d ≡ with_log c h.marks.member (log_of c.logs h.marks.member ++ h.marks.log.pending))
    (Appended h.marks.member h.marks.log.pending)
    × (k ≡ h)

-- the page is that of the castout's buffer
abbrev pub WritesPage : Drive → Held → PageId → Result (Unit {0}) DiskError → Drive → Held → Type 0
WritesPage w h page done v k =
    Answers w.alive v.alive w.contents v.contents done
    (λ _ c d. d ≡ record c { pages = map.insert c.pages page h.buffer })
    (λ c d. (d ≡ c) ⊎ (d ≡ record c { pages = map.insert c.pages page h.buffer }))
    × (k ≡ h)

-- the frame has the page's bytes
abbrev pub ReadsInto : Drive → Held → ℕ → PageId → Result (Unit {0}) DiskError → Drive → Held → Type 0
ReadsInto w h at page done v k =
    Answers w.alive v.alive w.contents v.contents done (λ _ c d. (d ≡ c) × (page_at k at ≡ disk.page_at c.pages page)) Same
    × (k ≡ with_page h at (page_at k at))

-- no disk call is made
abbrev pub CallsNothing : Drive → Held → Result (Unit {0}) DiskError → Drive → Held → Type 0
CallsNothing w h done v k = (done ≡ Ok tt) × (v ≡ w) × (k ≡ h)

abbrev pub ReadsFrame : Bool → Drive → Held → ℕ → PageId → Result (Unit {0}) DiskError → Drive → Held → Type 0
ReadsFrame true w h at page done v k = ReadsInto w h at page done v k
ReadsFrame false w h at page done v k = CallsNothing w h done v k

abbrev pub frame_read : Intent → Option ℕ
frame_read (intent.ReadPage at) = Some at
frame_read _ = None

abbrev pub ReadsAs : Option ℕ → Drive → Held → PageId → Result (Unit {0}) DiskError → Drive → Held → Type 0
ReadsAs None w h page done v k = CallsNothing w h done v k
ReadsAs (Some at) w h page done v k = ReadsFrame (nat_lt at (length h.pages)) w h at page done v k

abbrev pub Reads : Drive → Held → Intent → PageId → Result (Unit {0}) DiskError → Drive → Held → Type 0
Reads w h i page done v k = ReadsAs (frame_read i) w h page done v k

abbrev pub Calls : Drive → Held → Intent → Sent → Result (Unit {0}) DiskError → Drive → Held → Type 0
Calls w h i sent.AppendLog done v k = Appends w h done v k
Calls w h i (sent.ReadPage page) done v k = Reads w h i page done v k
Calls w h i (sent.WritePage page) done v k = WritesPage w h page done v k
Calls w h i sent.None done v k = CallsNothing w h done v k
Calls w h i (sent.Command c) done v k = CallsNothing w h done v k

-- what was done is settled; a call that failed changes nothing here
abbrev pub Stores : Held → Intent → Result (Unit {0}) DiskError → Answered → Told → Held → Type 0
Stores h i (Ok x) a said k = (a ≡ answered.Done) × (said ≡ stored_told i) × (k ≡ stored h i)
Stores h i (Err Failed) a said k = (a ≡ answered.Failed) × (said ≡ told.Failed) × (k ≡ h)
Stores h i (Err _) a said k = ⊥

pub record RunsCall (w : Drive) (h : Held) (i : Intent) (s : Sent) (a : Answered) (said : Told) (v : Drive) (k : Held) : Type 0 where
  pub done : Result (Unit {0}) DiskError
  pub after : Held
  pub calls : Calls w h i s done v after
  pub stores : Stores after i done a said k

-- ---- the event

-- nothing is sent, and the event is settled
pub record RunsNothing (w : World) (h : Held) (i : Intent) (a : Answered) (said : Told) (v : World) (k : Held) : Type 0 where
  pub is : a ≡ answered.None
  pub said_is : said ≡ unsent_told i
  pub held : k ≡ unsent h i
  pub world : v ≡ w

abbrev pub OnlyCalls : World → Held → Intent → Sent → Answered → Told → World → Held → Type 0
OnlyCalls w h i s a said v k = RunsCall w.drive h i s a said v.drive k × (v.facility ≡ w.facility)

abbrev pub Runs : World → Held → Intent → Sent → Plan → ℕ → Answered → Told → World → Held → Type 0
Runs w h i sent.None p place a said v k = RunsNothing w h i a said v k
Runs w h i (sent.Command c) p place a said v k = RunsCommand w.facility h i c p place a said v.facility k × (v.drive ≡ w.drive)
Runs w h i sent.AppendLog p place a said v k = OnlyCalls w h i sent.AppendLog a said v k
Runs w h i (sent.ReadPage page) p place a said v k = OnlyCalls w h i (sent.ReadPage page) a said v k
Runs w h i (sent.WritePage page) p place a said v k = OnlyCalls w h i (sent.WritePage page) a said v k

-- the facility's condition for the command doesn't hold, and nothing is changed
abbrev pub IsStopped : World → Held → Sent → World → Held → Type 0
IsStopped w h sent.None v k = ⊥
IsStopped w h (sent.Command c) v k = CannotExecute w.facility h c v.facility k × (v.drive ≡ w.drive)
IsStopped w h sent.AppendLog v k = ⊥
IsStopped w h (sent.ReadPage page) v k = ⊥
IsStopped w h (sent.WritePage page) v k = ⊥

-- who has the castout lock of the page that the member casts out
abbrev pub holder_in : facility.Held → Option Cast → Option ℕ
holder_in w None = None
holder_in w (Some cast) = castout_of w.directory cast.page

abbrev pub asked_for : World → Held → ℕ → Intent → Result Prepared Test
asked_for w h place i = wanted h (holder_in w.facility h.cast) place i

-- by local moves of the policy
abbrev pub Ends : Held → Held → Type 0
Ends h k = Reaches h.marks k.marks × (k ≡ with_marks h k.marks)

-- The intent was lawful, what it needs went out and was answered, the answer was settled in full, and then the policy made
-- local moves. The records that were put are allowed.
pub record Happens (w : World) (h : Held) (i : Intent) (place : ℕ) (s : Sent) (a : Answered) (v : World) (k : Held) : Type 0 where
  pub plan : Plan
  pub ready : Held
  pub said : Told
  pub after : Held
  pub lawful : asked_for w h place i ≡ Ok (record { sent = s; plan = plan })
  pub reserves : Reserves i h ready
  pub runs : Runs w (begun ready place) i s plan place a said v after
  pub ends : Ends after k
  pub allowed : AllByRecursion IsAllowed (event_records (begun ready place).marks i plan a)

-- The intent fails this test, and nothing is changed.
pub record IsUnlawful (w : World) (h : Held) (i : Intent) (place : ℕ) (test : Test) (v : World) (k : Held) : Type 0 where
  pub fails : asked_for w h place i ≡ Err test
  pub held : k ≡ h
  pub world : v ≡ w

-- The intent was lawful, and the facility's condition for its command doesn't hold. Room may have been taken.
pub record IsNotExecutable (w : World) (h : Held) (i : Intent) (place : ℕ) (v : World) : Type 0 where
  pub sent : Sent
  pub plan : Plan
  pub ready : Held
  pub after : Held
  pub lawful : asked_for w h place i ≡ Ok (record { sent = sent; plan = plan })
  pub reserves : Reserves i h ready
  pub stopped : IsStopped w (begun ready place) sent v after
