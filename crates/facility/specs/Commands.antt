-- The commands of the members: when one may be given, and what it answers and leaves.
use Rattle.std.specs.Prelude.{ℕ, ◌≡◌, ◌+◌, ◌^◌, ◌≤◌, ◌<◌, ◌==◌, ◌||◌, Bool, false, IsTrue, List, [], Option}
use Rattle.std.specs.Option.{ForSome}
use Rattle.ds_base.specs.Ids.{IsLrsn}
use Rattle.lock_names.specs.Given.{Name}
use Rattle.lock_structure.specs.Locks.{Locks, entry_for, has_room}
use Rattle.lock_structure.specs.Records.{area_of}
use Rattle.cache_structure.specs.declared.face.DoneReply.TheVariants as done
use Rattle.cache_structure.specs.Replies.{done_reply}
use Rattle.list_structure.specs.declared.query.Cell.{Cell}
use Rattle.list_structure.specs.declared.wait.Wait.{Wait}
use Rattle.list_structure.specs.Askers.{slot_of}
use Rattle.list_structure.specs.Bells.{CanRing}
use Rattle.list_structure.specs.Cells.{cells_by}
use Rattle.list_structure.specs.States.{ListsState, is_settled}
use Rattle.list_structure.specs.Waits.{wait_for, with_wait, FitsWaits}
use Rattle.facility.specs.declared.command.Command.{Command}
use Rattle.facility.specs.declared.command.Command.TheVariants as command
use Rattle.facility.specs.declared.command.Reply.{Reply}
use Rattle.facility.specs.States.{Held}
use Rattle.facility.specs.LockCommands.{ObtainsLock, GrantsLock, ReleasesLock, PurgesLock, ReadsRetained}
use Rattle.facility.specs.CacheCommands.{ReadsPage, WritesPage, UnregistersFrame, TestsFrame, BeginsCastout, EndsCastout, FindsChanged, LosesCache, HasRebuilt}
use Rattle.facility.specs.ListCommands.{AsksMember, TakesQuery, AnswersQuery, ReadsCells, Waits, WaitsNoMore, ReadsWaits, EndsTran, RaisesFlag, ReadsFlag, SetsStatus, ReadsStatus, ClaimsRebuild, GivesUpRebuild, EndsPhase}
use Rattle.facility.specs.Counting.{AreFrames, DrawsNumber, DrawsUndo}

-- ---- when a command may be given

-- the entry's version may rise, and there is room for a record of a page or page set
pub record CanGrant (locks : Locks) (m : ℕ) (n : Name) : Type 0 where
  pub version : (entry_for locks n).version + 1 < 2 ^ 64
  pub room : IsTrue ((area_of m n == 0) || has_room locks m n)

abbrev pub IsSlot : ℕ → Type 0
IsSlot slot = slot ≤ 16

abbrev pub IsFlag : ℕ → Type 0
IsFlag flag = (1 ≤ flag) × (flag ≤ 64)

-- a wait that is added fits, and all bells may ring
pub record CanWait (lists : ListsState) (wait : Wait) : Type 0 where
  pub flag : wait.flag ≤ 64
  pub room : is_settled lists wait ≡ false → FitsWaits (with_wait lists.waits wait) wait.waiter.member lists.agents
  pub bells : is_settled lists wait ≡ false → CanRing lists.bells

abbrev pub CanExecute : Held → ℕ → Command → Type 0
CanExecute w m (command.Obtain n mode) = CanGrant w.locks m n
CanExecute w m (command.Grant slot n mode) = IsSlot slot × CanGrant w.locks m n
CanExecute w m (command.Release n keeps) = CanRing w.lists.bells
CanExecute w m (command.Purge n) = CanRing w.lists.bells
CanExecute w m (command.Read page index) = index < w.directory.frames
CanExecute w m (command.Write page index) = index < w.directory.frames
CanExecute w m (command.Unregister index) = index < w.directory.frames
CanExecute w m (command.Test index) = index < w.directory.frames
CanExecute w m (command.CastoutDone page) = done_reply w.directory m page ≡ done.Done → CanRing w.lists.bells
CanExecute w m command.Rebuilt = CanRing w.lists.bells
CanExecute w m (command.Ask slot to n mode) = IsSlot slot
CanExecute w m (command.Take after) = ForSome after (λ asker. IsSlot asker.slot)
CanExecute w m (command.Answer asker n mode answer event) = IsSlot asker.slot
CanExecute w m (command.Answers slot) = IsSlot slot
CanExecute w m (command.Wait tran holder flag) = CanWait w.lists (wait_for tran holder flag)
CanExecute w m (command.End tran) = CanRing w.lists.bells
CanExecute w m (command.Raise flag) = IsFlag flag × CanRing w.lists.bells
CanExecute w m (command.Flag flag) = IsFlag flag
CanExecute w m (command.SetStatus status) = CanRing w.lists.bells
CanExecute w m command.Unclaim = CanRing w.lists.bells
CanExecute w m command.PhaseDone = CanRing w.lists.bells
CanExecute w m (command.Draw indexes) = AreFrames w.directory indexes
CanExecute w m (command.DrawUndo indexes) = AreFrames w.directory indexes × IsLrsn (w.counter + 1)
CanExecute w m _ = Unit {0}

-- ---- the cells that a command asks for

-- the slot whose cells the command asks for is one, if it asks for any
abbrev pub AsksSlot : Command → Type 0
AsksSlot (command.Answers slot) = IsSlot slot
AsksSlot _ = Unit {0}

-- those of the slot whose answers the member reads, and none for any other command
unfoldable pub cells_for : List Cell → ℕ → Command → List Cell
cells_for cells m (command.Answers slot) = cells_by cells (slot_of m slot)
cells_for cells m _ = []

-- ---- what a command does

-- What the member's command answers and leaves, where the page has these bytes before and after. Only a read and the
-- begin of a castout change the page.
abbrev pub Executes : Held → ℕ → Command → List ℕ → Reply → Held → List ℕ → Type 0
Executes w m (command.Read id index) page answer v after = ReadsPage w m id index page answer v after
Executes w m (command.CastoutRead id) page answer v after = BeginsCastout w m id page answer v after
Executes w m (command.Obtain n mode) page answer v after = ObtainsLock w m n mode answer v × (after ≡ page)
Executes w m (command.Grant slot n mode) page answer v after = GrantsLock w m slot n mode answer v × (after ≡ page)
Executes w m (command.Release n keeps) page answer v after = ReleasesLock w m n keeps answer v × (after ≡ page)
Executes w m (command.Purge n) page answer v after = PurgesLock w m n answer v × (after ≡ page)
Executes w m (command.RetainedAt n) page answer v after = ReadsRetained w m n answer v × (after ≡ page)
Executes w m (command.Write id index) page answer v after = WritesPage w m id index page answer v × (after ≡ page)
Executes w m (command.Unregister index) page answer v after = UnregistersFrame w m index answer v × (after ≡ page)
Executes w m (command.Test index) page answer v after = TestsFrame w m index answer v × (after ≡ page)
Executes w m (command.CastoutDone id) page answer v after = EndsCastout w m id answer v × (after ≡ page)
Executes w m (command.NextChanged past) page answer v after = FindsChanged w past answer v × (after ≡ page)
Executes w m command.Lose page answer v after = LosesCache w answer v × (after ≡ page)
Executes w m command.Rebuilt page answer v after = HasRebuilt w answer v × (after ≡ page)
Executes w m (command.Ask slot to n mode) page answer v after = AsksMember w m slot to n mode answer v × (after ≡ page)
Executes w m (command.Take past) page answer v after = TakesQuery w m past answer v × (after ≡ page)
Executes w m (command.Answer asker n mode said event) page answer v after = AnswersQuery w m asker n mode said event answer v × (after ≡ page)
Executes w m (command.Answers slot) page answer v after = ReadsCells w answer v × (after ≡ page)
Executes w m (command.Wait tran holder flag) page answer v after = Waits w tran holder flag answer v × (after ≡ page)
Executes w m (command.Unwait tran) page answer v after = WaitsNoMore w tran answer v × (after ≡ page)
Executes w m command.Waits page answer v after = ReadsWaits w answer v × (after ≡ page)
Executes w m (command.End tran) page answer v after = EndsTran w tran answer v × (after ≡ page)
Executes w m (command.Raise flag) page answer v after = RaisesFlag w flag answer v × (after ≡ page)
Executes w m (command.Flag flag) page answer v after = ReadsFlag w flag answer v × (after ≡ page)
Executes w m (command.SetStatus status) page answer v after = SetsStatus w m status answer v × (after ≡ page)
Executes w m (command.Status member) page answer v after = ReadsStatus w member answer v × (after ≡ page)
Executes w m command.Claim page answer v after = ClaimsRebuild w m answer v × (after ≡ page)
Executes w m command.Unclaim page answer v after = GivesUpRebuild w m answer v × (after ≡ page)
Executes w m command.PhaseDone page answer v after = EndsPhase w m answer v × (after ≡ page)
Executes w m (command.Draw indexes) page answer v after = DrawsNumber w m indexes answer v × (after ≡ page)
Executes w m (command.DrawUndo indexes) page answer v after = DrawsUndo w m indexes answer v × (after ≡ page)
