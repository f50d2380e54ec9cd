-- An event of a rebuild.
use Rattle.std.specs.Prelude.{◌≡◌, Bool, Option, Ok, Err}
use Rattle.ds_disk.specs.Contents.{Contents}
use Rattle.cache_structure.specs.Directory.{Directory}
use Rattle.facility.specs.declared.command.Reply.{Reply}
use Rattle.facility.specs.declared.command.Command.{Command}
use Rattle.facility.specs.declared.facility.Facility.{Facility}
use Rattle.facility.specs.States as facility
use Rattle.facility.specs.States.{held}
use Rattle.facility.specs.Commands.{CanExecute}
use Rattle.member_intents.specs.declared.outcome.Answered.{Answered}
use Rattle.member_intents.specs.declared.outcome.Answered.TheVariants as answered
use Rattle.rebuild_resources.specs.declared.intent.RebuildIntent.{RebuildIntent}
use Rattle.rebuild_resources.specs.declared.intent.RebuildSent.{RebuildSent}
use Rattle.rebuild_resources.specs.declared.intent.RebuildSent.TheVariants as sent
use Rattle.rebuild_resources.specs.declared.intent.RebuildTest.{RebuildTest}
use Rattle.rebuild_resources.specs.declared.told.RebuildTold.{RebuildTold}
use Rattle.rebuild_resources.specs.declared.told.RebuildTold.TheVariants as told
use Rattle.rebuild_resources.specs.Calls.{Drive, RunsCall}
use Rattle.rebuild_resources.specs.Lending.{Gives}
use Rattle.rebuild_resources.specs.Needs.{need_of}
use Rattle.rebuild_resources.specs.Settled.{Says, Settles}
use Rattle.rebuild_resources.specs.State.{RebuildState}

pub record World : Type 0 where
  pub facility : facility.Held
  pub drive : Drive

abbrev pub world_of : {C D : Type 0} → (C → Directory) → (D → Bool) → (D → Option Contents) → Facility C → D → World
world_of directory alive contents facility disk =
    record { facility = held directory facility; drive = record { alive = alive disk; contents = contents disk } }

-- ---- what goes out

-- the command is given, and its reply settled
pub record RunsCommand (w : facility.Held) (h : RebuildState) (i : RebuildIntent) (c : Command) (a : Answered) (said : RebuildTold) (v : facility.Held) (k : RebuildState) : Type 0 where
  pub answer : Reply
  pub after : RebuildState
  pub is : a ≡ answered.Reply answer
  pub gives : Gives h w c answer after v
  pub settles : Settles after i answer said k

-- the facility's condition for the command doesn't hold, and nothing is changed
pub record CannotExecute (w : facility.Held) (h : RebuildState) (c : Command) (v : facility.Held) (k : RebuildState) : Type 0 where
  pub cannot : ¬ CanExecute w h.member c
  pub facility : v ≡ w
  pub same : k ≡ h

-- nothing is sent
pub record RunsNothing (w : World) (h : RebuildState) (a : Answered) (said : RebuildTold) (v : World) (k : RebuildState) : Type 0 where
  pub is : a ≡ answered.None
  pub says : Says told.Stepped h said k
  pub world : v ≡ w

abbrev pub OnlyCalls : World → RebuildState → RebuildSent → Answered → RebuildTold → World → RebuildState → Type 0
OnlyCalls w h s a said v k = RunsCall w.drive h s a said v.drive k × (v.facility ≡ w.facility)

abbrev pub Runs : World → RebuildState → RebuildIntent → RebuildSent → Answered → RebuildTold → World → RebuildState → Type 0
Runs w h i sent.None a said v k = RunsNothing w h a said v k
Runs w h i (sent.Command c) a said v k = RunsCommand w.facility h i c a said v.facility k × (v.drive ≡ w.drive)
Runs w h i (sent.LogLength member) a said v k = OnlyCalls w h (sent.LogLength member) a said v k
Runs w h i (sent.ReadLog member at count) a said v k = OnlyCalls w h (sent.ReadLog member at count) a said v k
Runs w h i (sent.ReadPage page) a said v k = OnlyCalls w h (sent.ReadPage page) a said v k
Runs w h i (sent.WritePage page) a said v k = OnlyCalls w h (sent.WritePage page) a said v k

-- the facility's condition for the command doesn't hold, and nothing is changed
abbrev pub IsStopped : World → RebuildState → RebuildSent → World → RebuildState → Type 0
IsStopped w h (sent.Command c) v k = CannotExecute w.facility h c v.facility k × (v.drive ≡ w.drive)
IsStopped w h _ v k = ⊥

-- ---- the event

-- The policy's intent was lawful, what it needs went out and was answered, and the answer was settled in full.
pub record Happens (w : World) (h : RebuildState) (s : RebuildSent) (a : Answered) (v : World) (k : RebuildState) : Type 0 where
  pub intent : RebuildIntent
  pub said : RebuildTold
  pub lawful : need_of h intent ≡ Ok s
  pub runs : Runs w h intent s a said v k

-- The policy's intent fails this test, and nothing is changed.
pub record IsUnlawful (w : World) (h : RebuildState) (test : RebuildTest) (v : World) (k : RebuildState) : Type 0 where
  pub intent : RebuildIntent
  pub fails : need_of h intent ≡ Err test
  pub held : k ≡ h
  pub world : v ≡ w

-- The policy's intent was lawful, and the facility's condition for its command doesn't hold; nothing is changed.
pub record IsNotExecutable (w : World) (h : RebuildState) (v : World) (k : RebuildState) : Type 0 where
  pub intent : RebuildIntent
  pub sent : RebuildSent
  pub lawful : need_of h intent ≡ Ok sent
  pub stopped : IsStopped w h sent v k
