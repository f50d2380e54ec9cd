-- What a course stands for, and the room that it has.
use Rattle.std.specs.Prelude.{◌≡◌, ◌<◌, true, drop, vec_len, vec_capacity}
use Rattle.std.specs.VecDeque.{deque_len, deque_capacity}
use Rattle.tran_core.specs.declared.course.Course.{Course}
use Rattle.tran_core.specs.States.{State}
use Rattle.tran_core.specs.Stages.{wants_row_change}

abbrev pub state_of : Course → State
state_of c = record {
  rest = drop c.begun c.ops.items;
  stage = c.stage;
  reads = c.reads.items;
  undo = c.undo.items;
  rows = c.rows.items;
  entries = c.entries.items;
  damage = c.damage;
}

-- one more read, row and change need no memory
pub record HasRoom (c : Course) : Type 0 where
  pub reads : vec_len c.reads < vec_capacity c.reads
  pub rows : vec_len c.rows < vec_capacity c.rows
  pub undo : deque_len c.undo < deque_capacity c.undo

-- the room to undo a change was taken before the change is wanted
abbrev pub CanUndo : Course → Type 0
CanUndo c = wants_row_change c.stage ≡ true → deque_len c.undo < deque_capacity c.undo
