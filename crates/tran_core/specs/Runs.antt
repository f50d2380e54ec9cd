-- What holds of a transaction at each of its steps: the locks that it has, what it has read, and what it undoes.
use Rattle.std.specs.Prelude.{◌≡◌, ℕ, zero, suc, List, [], ◌∷◌, ◌++◌, map, Contains}
use Rattle.ds_model.specs.declared.lock.Name.{Name}
use Rattle.ds_model.specs.declared.lock.Name.TheVariants as name
use Rattle.ds_model.specs.declared.script.Op.{Op}
use Rattle.ds_model.specs.declared.script.Op.TheVariants as op
use Rattle.ds_model.specs.declared.fate.Answer.{Answer}
use Rattle.ds_model.specs.declared.fate.Answer.TheVariants as answer
use Rattle.lock_names.specs.declared.mode.Mode.{Mode}
use Rattle.tran_core.specs.declared.stage.Aim.{Aim}
use Rattle.tran_core.specs.declared.stage.Aim.TheVariants as aim
use Rattle.tran_core.specs.declared.stage.Task.{Task}
use Rattle.tran_core.specs.declared.stage.Update.{Update}
use Rattle.tran_core.specs.declared.stage.Update.TheVariants as update
use Rattle.tran_core.specs.declared.stage.Step.{Step}
use Rattle.tran_core.specs.declared.stage.Step.TheVariants as step
use Rattle.tran_core.specs.declared.stage.Stage.{Stage}
use Rattle.tran_core.specs.declared.stage.Stage.TheVariants as stage
use Rattle.tran_core.specs.declared.want.Met.{Met}
use Rattle.tran_core.specs.declared.want.Met.TheVariants as met
use Rattle.tran_core.specs.Wants.{Wanted, Lock, space_mode, row_mode}
use Rattle.tran_core.specs.Wants as wanted
use Rattle.tran_core.specs.States.{State, want_of, after_done}

-- ---- locks

abbrev pub Locks : Type 0
Locks = List (Name × Mode)

abbrev pub HasLock : Locks → Name → Mode → Type 0
HasLock locks n m = let it : Name × Mode = (n, m) in Contains locks it

abbrev pub with_lock : Locks → Wanted → Locks
with_lock locks (wanted.Lock n m) = let it : Name × Mode = (n, m) in locks ++ it ∷ []
with_lock locks (wanted.ReadPage id) = locks
with_lock locks (wanted.Change it) = locks
with_lock locks wanted.Commit = locks
with_lock locks (wanted.Undo table key place back) = locks
with_lock locks (wanted.Raise flag) = locks
with_lock locks (wanted.Await flag) = locks
with_lock locks wanted.LoseCache = locks
with_lock locks wanted.Ended = locks

-- the locks after an answer: one that was wanted and is done is added, and none is given back
abbrev pub locks_after : Locks → State → Met → Locks
locks_after locks s met.Done = with_lock locks (want_of s)
locks_after locks s (met.Page page) = locks
locks_after locks s (met.Refused cause) = locks

abbrev pub HasRow : Locks → Task → Aim → Type 0
HasRow locks task aim.Get = HasLock locks (name.Row task.table task.key) (row_mode aim.Get)
HasRow locks task aim.Getu = HasLock locks (name.Row task.table task.key) (row_mode aim.Getu)
HasRow locks task (aim.Put value) = HasLock locks (name.Row task.table task.key) (row_mode (aim.Put value))
HasRow locks task aim.Del = HasLock locks (name.Row task.table task.key) (row_mode aim.Del)
HasRow locks task (aim.Scan high) = Unit {0}

abbrev pub HasSpace : Locks → Task → Type 0
HasSpace locks task = HasLock locks (name.Space task.table) (space_mode task.aim)

-- the table space is locked before the row, and both before a page is read or changed; a scan locks no rows
abbrev pub StepIsLocked : Locks → Task → Step → Type 0
StepIsLocked locks task step.Space = Unit {0}
StepIsLocked locks task step.Row = HasSpace locks task
StepIsLocked locks task (step.Read reading) = HasSpace locks task × HasRow locks task task.aim
StepIsLocked locks task (step.Change update) = HasSpace locks task × HasRow locks task task.aim

abbrev pub StageIsLocked : Locks → Stage → Type 0
StageIsLocked locks (stage.Work task step) = StepIsLocked locks task step
StageIsLocked locks (stage.Raise flag) = Unit {0}
StageIsLocked locks (stage.Await flag) = Unit {0}
StageIsLocked locks stage.LoseCache = Unit {0}
StageIsLocked locks stage.Commit = Unit {0}
StageIsLocked locks stage.Undo = Unit {0}
StageIsLocked locks stage.Ended = Unit {0}

abbrev pub IsLocked : Locks → State → Type 0
IsLocked locks s = StageIsLocked locks s.stage

-- ---- what is undone

-- the transaction after so many wants that were done
abbrev pub after_dones : ℕ → State → State
after_dones zero s = s
after_dones (suc n) s = after_dones n (after_done s)

-- ---- reads

-- what an operation reads: one value, or rows
pub data Kind : Type 0 where
  One : Kind
  Many : Kind

abbrev pub kind_of : Answer → Kind
kind_of (answer.Value value) = One
kind_of (answer.Rows rows) = Many

abbrev pub asked : Op → List Kind
asked (op.Get table key) = One ∷ []
asked (op.Getu table key) = One ∷ []
asked (op.Put table key value) = []
asked (op.Del table key) = []
asked (op.Scan table low high) = Many ∷ []
asked (op.Raise flag) = []
asked (op.Await flag) = []
asked op.LoseCache = []
asked op.Abort = []

abbrev pub all_asked : List Op → List Kind
all_asked [] = []
all_asked (o ∷ ops) = asked o ++ all_asked ops

abbrev pub asked_by : Aim → List Kind
asked_by aim.Get = One ∷ []
asked_by aim.Getu = One ∷ []
asked_by (aim.Put value) = []
asked_by aim.Del = []
asked_by (aim.Scan high) = Many ∷ []

abbrev pub asked_at : Stage → List Kind
asked_at (stage.Work task step) = asked_by task.aim
asked_at (stage.Raise flag) = []
asked_at (stage.Await flag) = []
asked_at stage.LoseCache = []
asked_at stage.Commit = []
asked_at stage.Undo = []
asked_at stage.Ended = []

-- what was read, what the operation in hand reads, and what the others will read
abbrev pub course_of_reads : State → List Kind
course_of_reads s = map kind_of s.reads ++ (asked_at s.stage ++ all_asked s.rest)

abbrev pub asked_by_update : Task → Update → List Kind
asked_by_update task update.FormatIndex = []
asked_by_update task update.FormatHeap = []
asked_by_update task (update.GiveSlot leaf) = []
asked_by_update task (update.Split left branch) = []
asked_by_update task (update.BranchEntry branch low child) = []
asked_by_update task (update.RowChange place back) = asked_by task.aim

abbrev pub asked_by_change : Task → Step → List Kind
asked_by_change task step.Space = []
asked_by_change task step.Row = []
asked_by_change task (step.Read reading) = []
asked_by_change task (step.Change update) = asked_by_update task update

abbrev pub asked_with_change : Stage → List Kind
asked_with_change (stage.Work task step) = asked_by_change task step
asked_with_change (stage.Raise flag) = []
asked_with_change (stage.Await flag) = []
asked_with_change stage.LoseCache = []
asked_with_change stage.Commit = []
asked_with_change stage.Undo = []
asked_with_change stage.Ended = []

-- no operation that reads changes a row
abbrev pub IsFitting : State → Type 0
IsFitting s = asked_with_change s.stage ≡ []
