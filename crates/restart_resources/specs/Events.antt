-- An event of a restarting member.
use Rattle.std.specs.Prelude.{ℕ, ◌≡◌, Bool, Option, Result, Ok, Err}
use Rattle.ds_disk.specs.Contents.{Contents}
use Rattle.cache_structure.specs.Directory.{Directory}
use Rattle.facility.specs.declared.command.Reply.{Reply}
use Rattle.facility.specs.declared.command.Command.{Command}
use Rattle.facility.specs.declared.facility.Facility.{Facility}
use Rattle.facility.specs.States as facility
use Rattle.facility.specs.States.{held}
use Rattle.facility.specs.Commands.{CanExecute, cells_for}
use Rattle.member_intents.specs.declared.outcome.Answered.{Answered}
use Rattle.member_intents.specs.declared.outcome.Answered.TheVariants as answered
use Rattle.restart_marks.specs.declared.intent.RestartIntent.{RestartIntent}
use Rattle.restart_marks.specs.declared.intent.RestartSent.{RestartSent}
use Rattle.restart_marks.specs.declared.intent.RestartSent.TheVariants as sent
use Rattle.restart_marks.specs.declared.intent.RestartTest.{RestartTest}
use Rattle.restart_marks.specs.declared.told.RestartTold.{RestartTold}
use Rattle.restart_marks.specs.declared.told.RestartTold.TheVariants as told
use Rattle.restart_marks.specs.Moves.{Reaches}
use Rattle.restart_marks.specs.Needs.{need_of}
use Rattle.restart_resources.specs.Calls.{Drive, RunsCall}
use Rattle.restart_resources.specs.Held.{Held, with_marks}
use Rattle.restart_resources.specs.Lending.{Gives}
use Rattle.restart_resources.specs.Settled.{told_by, settled}

pub record World : Type 0 where
  pub facility : facility.Held
  pub drive : Drive

abbrev pub world_of : {C D : Type 0} → (C → Directory) → (D → Bool) → (D → Option Contents) → Facility C → D → World
world_of directory alive contents facility disk =
    record { facility = held directory facility; drive = record { alive = alive disk; contents = contents disk } }

-- ---- what goes out

-- the command is given, and its reply settled, with the cells that it asks for
pub record RunsCommand (w : facility.Held) (h : Held) (i : RestartIntent) (c : Command) (a : Answered) (said : RestartTold) (v : facility.Held) (k : Held) : Type 0 where
  pub answer : Reply
  pub after : Held
  pub is : a ≡ answered.Reply answer
  pub gives : Gives h w c answer after v
  pub said_is : said ≡ told_by after i answer (cells_for v.lists.cells after.marks.member c)
  pub settles : k ≡ settled after i answer

-- the facility's condition for the command doesn't hold, and nothing is changed
pub record CannotExecute (w : facility.Held) (h : Held) (c : Command) (v : facility.Held) (k : Held) : Type 0 where
  pub cannot : ¬ CanExecute w h.marks.member c
  pub facility : v ≡ w
  pub same : k ≡ h

-- nothing is sent
pub record RunsNothing (w : World) (h : Held) (a : Answered) (said : RestartTold) (v : World) (k : Held) : Type 0 where
  pub is : a ≡ answered.None
  pub said_is : said ≡ told.Stepped
  pub held : k ≡ h
  pub world : v ≡ w

abbrev pub OnlyCalls : World → Held → RestartSent → Answered → RestartTold → World → Held → Type 0
OnlyCalls w h s a said v k = RunsCall w.drive h s a said v.drive k × (v.facility ≡ w.facility)

abbrev pub Runs : World → Held → RestartIntent → RestartSent → Answered → RestartTold → World → Held → Type 0
Runs w h i sent.None a said v k = RunsNothing w h a said v k
Runs w h i (sent.Command c) a said v k = RunsCommand w.facility h i c a said v.facility k × (v.drive ≡ w.drive)
Runs w h i sent.LogLength a said v k = OnlyCalls w h sent.LogLength a said v k
Runs w h i (sent.ReadLog at count) a said v k = OnlyCalls w h (sent.ReadLog at count) a said v k
Runs w h i (sent.CutLog long) a said v k = OnlyCalls w h (sent.CutLog long) a said v k
Runs w h i sent.AppendLog a said v k = OnlyCalls w h sent.AppendLog a said v k
Runs w h i (sent.ReadPage page) a said v k = OnlyCalls w h (sent.ReadPage page) a said v k

-- the facility's condition for the command doesn't hold, and nothing is changed
abbrev pub IsStopped : World → Held → RestartSent → World → Held → Type 0
IsStopped w h (sent.Command c) v k = CannotExecute w.facility h c v.facility k × (v.drive ≡ w.drive)
IsStopped w h _ v k = ⊥

-- ---- the event

-- by local moves of the policy
abbrev pub Ends : Held → Held → Type 0
Ends h k = Reaches h.marks k.marks × (k ≡ with_marks h k.marks)

-- The policy's intent was lawful, what it needs went out and was answered, the answer was settled in full, and then the policy made
-- local moves.
pub record Happens (w : World) (h : Held) (s : RestartSent) (a : Answered) (v : World) (k : Held) : Type 0 where
  pub intent : RestartIntent
  pub said : RestartTold
  pub after : Held
  pub lawful : need_of h.marks intent ≡ Ok s
  pub runs : Runs w h intent s a said v after
  pub ends : Ends after k

-- The policy's intent fails this test, and nothing is changed.
pub record IsUnlawful (w : World) (h : Held) (test : RestartTest) (v : World) (k : Held) : Type 0 where
  pub intent : RestartIntent
  pub fails : need_of h.marks intent ≡ Err test
  pub held : k ≡ h
  pub world : v ≡ w

-- The policy's intent was lawful, and the facility's condition for its command doesn't hold; nothing is changed.
pub record IsNotExecutable (w : World) (h : Held) (v : World) (k : Held) : Type 0 where
  pub intent : RestartIntent
  pub sent : RestartSent
  pub lawful : need_of h.marks intent ≡ Ok sent
  pub stopped : IsStopped w h sent v k
