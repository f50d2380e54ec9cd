-- A transaction in hand, and what it goes on with.
use Rattle.std.specs.Prelude.{ℕ, nat_lt, Bool, false, if◌then◌else◌, List, [], ◌∷◌, ◌++◌, drop, Option, None, Some}
use Rattle.ds_base.specs.declared.names.Volume.{Volume}
use Rattle.ds_base.specs.declared.row.Row.{Row}
use Rattle.ds_model.specs.declared.script.Op.{Op}
use Rattle.ds_model.specs.declared.script.Op.TheVariants as op
use Rattle.ds_model.specs.declared.fate.Answer.{Answer}
use Rattle.ds_model.specs.declared.fate.Answer.TheVariants as answer
use Rattle.index_leaf.specs.declared.layout.Entry.{Entry}
use Rattle.tran_core.specs.declared.stage.Aim.{Aim}
use Rattle.tran_core.specs.declared.stage.Aim.TheVariants as aim
use Rattle.tran_core.specs.declared.stage.Level.TheVariants as level
use Rattle.tran_core.specs.declared.stage.Task.{Task}
use Rattle.tran_core.specs.declared.stage.Reading.{Reading}
use Rattle.tran_core.specs.declared.stage.Reading.TheVariants as reading
use Rattle.tran_core.specs.declared.stage.Update.{Update}
use Rattle.tran_core.specs.declared.stage.Update.TheVariants as update
use Rattle.tran_core.specs.declared.stage.Step.{Step}
use Rattle.tran_core.specs.declared.stage.Step.TheVariants as step
use Rattle.tran_core.specs.declared.stage.Stage.{Stage}
use Rattle.tran_core.specs.declared.stage.Stage.TheVariants as stage
use Rattle.tran_core.specs.declared.stage.Undone.{Undone}
use Rattle.tran_core.specs.Wants.{Wanted, Commit, Raise, Await, LoseCache, Ended, want_step, want_undo}

-- the operations that weren't begun, what is done next, what was read, the changes that were made (the last first),
-- of a scan the rows so far and the entries of the leaf in hand, and the first byte that can't stand in its page
pub record State : Type 0 where
  pub rest : List Op
  pub stage : Stage
  pub reads : List Answer
  pub undo : List Undone
  pub rows : List Row
  pub entries : List Entry
  pub damage : Option (Volume × ℕ)

-- ---- wants

abbrev pub newest : List Undone → Option Undone
newest [] = None
newest (u ∷ us) = Some u

abbrev pub want_at : Stage → List Undone → Wanted
want_at (stage.Work task step) undo = want_step task step
want_at (stage.Raise flag) undo = Raise flag
want_at (stage.Await flag) undo = Await flag
want_at stage.LoseCache undo = LoseCache
want_at stage.Commit undo = Commit
want_at stage.Undo undo = want_undo (newest undo)
want_at stage.Ended undo = Ended

abbrev pub want_of : State → Wanted
want_of s = want_at s.stage s.undo

-- ---- operations in their order

abbrev pub task_of : ℕ → ℕ → Aim → Stage
task_of table key a = stage.Work (record { table = table; key = key; aim = a }) step.Space

-- how an operation begins
abbrev pub begin : Op → Stage
begin (op.Get table key) = task_of table key aim.Get
begin (op.Getu table key) = task_of table key aim.Getu
begin (op.Put table key value) = task_of table key (aim.Put value)
begin (op.Del table key) = task_of table key aim.Del
begin (op.Scan table low high) = task_of table low (aim.Scan high)
begin (op.Raise flag) = stage.Raise flag
begin (op.Await flag) = stage.Await flag
begin op.LoseCache = stage.LoseCache
begin op.Abort = stage.Undo

-- the next operation begins, or behind the last one the commit
abbrev pub advanced : State → List Op → State
advanced s [] = record s { stage = stage.Commit }
advanced s (o ∷ ops) = record s { stage = begin o; rest = ops }

abbrev pub next_op : State → State
next_op s = advanced s s.rest

-- a transaction of these operations
abbrev pub opened : List Op → State
opened ops = next_op (record { rest = ops; stage = stage.Commit; reads = []; undo = []; rows = []; entries = []; damage = None })

-- ---- the end of an operation

-- a scan has read its rows
abbrev pub scan_read : State → State
scan_read s = next_op (record s { reads = s.reads ++ answer.Rows s.rows ∷ []; rows = [] })

abbrev pub get_read : State → Option (List ℕ) → State
get_read s value = next_op (record s { reads = s.reads ++ answer.Value value ∷ [] })

-- the operation meets no row, and a scan no more of them
abbrev pub without_row : State → Aim → State
without_row s aim.Get = get_read s None
without_row s aim.Getu = get_read s None
without_row s (aim.Put value) = next_op s
without_row s aim.Del = next_op s
without_row s (aim.Scan high) = scan_read s

-- ---- the way through the index

abbrev pub at_step : State → Task → Step → State
at_step s task it = record s { stage = stage.Work task it }

-- a search begins at the first branch
abbrev pub root : ℕ → Reading
root key = reading.Index level.Branch 1 1 key

abbrev pub search : State → Task → State
search s task = at_step s task (step.Read (root task.key))

-- ---- wants that are met

-- behind the table space comes the row, but a scan locks no rows
abbrev pub space_locked : State → Task → Aim → State
space_locked s task aim.Get = at_step s task step.Row
space_locked s task aim.Getu = at_step s task step.Row
space_locked s task (aim.Put value) = at_step s task step.Row
space_locked s task aim.Del = at_step s task step.Row
space_locked s task (aim.Scan high) = if nat_lt high task.key then scan_read s else search s task

-- a split leads on to the entry of the new leaf, a row change to the next operation, and each other change to a new search
abbrev pub changed : State → Task → Update → State
changed s task update.FormatIndex = search s task
changed s task update.FormatHeap = search s task
changed s task (update.GiveSlot leaf) = search s task
changed s task (update.Split left branch) = at_step s task (step.Read (reading.Halves left branch))
changed s task (update.BranchEntry branch low child) = search s task
changed s task (update.RowChange place back) = next_op (record s { undo = record { table = task.table; key = task.key; place = place; back = back } ∷ s.undo })

abbrev pub step_done : State → Task → Step → State
step_done s task step.Space = space_locked s task task.aim
step_done s task step.Row = search s task
step_done s task (step.Read reading) = s
step_done s task (step.Change update) = changed s task update

abbrev pub done_at : State → Stage → State
done_at s (stage.Work task step) = step_done s task step
done_at s (stage.Raise flag) = next_op s
done_at s (stage.Await flag) = next_op s
done_at s stage.LoseCache = next_op s
done_at s stage.Commit = record s { stage = stage.Ended }
done_at s stage.Undo = record s { undo = drop 1 s.undo }
done_at s stage.Ended = s

abbrev pub after_done : State → State
after_done s = done_at s s.stage

-- ---- a refusal

abbrev pub refused_at : Stage → Stage
refused_at (stage.Work task step) = stage.Undo
refused_at (stage.Raise flag) = stage.Undo
refused_at (stage.Await flag) = stage.Undo
refused_at stage.LoseCache = stage.Undo
refused_at stage.Commit = stage.Undo
refused_at stage.Undo = stage.Undo
refused_at stage.Ended = stage.Ended

-- its changes are undone next
abbrev pub after_refusal : State → State
after_refusal s = record s { stage = refused_at s.stage }
