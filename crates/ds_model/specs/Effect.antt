-- What a transaction does to rows, and what it reads.
use Rattle.std.specs.Prelude.{Bool, true, false, ◌||◌, cond, List, [], ◌∷◌, ◌++◌}
use Rattle.std.specs.FinMap as finite
use Rattle.ds_model.specs.declared.script.Op.{Op}
use Rattle.ds_model.specs.declared.script.Op.TheVariants as op
use Rattle.ds_model.specs.declared.fate.Answer.{Answer}
use Rattle.ds_model.specs.declared.fate.Answer.TheVariants as answer
use Rattle.ds_model.specs.Rows.{Rows, scanned}

-- the rows after one operation
abbrev pub after_op : Rows → Op → Rows
after_op rows (op.Get table key) = rows
after_op rows (op.Getu table key) = rows
after_op rows (op.Put table key value) = finite.insert rows (table, key) value
after_op rows (op.Del table key) = finite.remove rows (table, key)
after_op rows (op.Scan table low high) = rows
after_op rows (op.Raise flag) = rows
after_op rows (op.Await flag) = rows
after_op rows op.LoseCache = rows
after_op rows op.Abort = rows

-- what one operation reads: a value or none, the rows in order, or nothing
abbrev pub answer_of : Rows → Op → List Answer
answer_of rows (op.Get table key) = answer.Value (finite.get rows (table, key)) ∷ []
answer_of rows (op.Getu table key) = answer.Value (finite.get rows (table, key)) ∷ []
answer_of rows (op.Put table key value) = []
answer_of rows (op.Del table key) = []
answer_of rows (op.Scan table low high) = answer.Rows (scanned rows table low high) ∷ []
answer_of rows (op.Raise flag) = []
answer_of rows (op.Await flag) = []
answer_of rows op.LoseCache = []
answer_of rows op.Abort = []

-- the rows after the operations, each on those that the one before left
abbrev pub after_ops : Rows → List Op → Rows
after_ops rows [] = rows
after_ops rows (o ∷ ops) = after_ops (after_op rows o) ops

-- what they read, in their order
abbrev pub reads_of : Rows → List Op → List Answer
reads_of rows [] = []
reads_of rows (o ∷ ops) = answer_of rows o ++ reads_of (after_op rows o) ops

abbrev pub is_abort : Op → Bool
is_abort (op.Get table key) = false
is_abort (op.Getu table key) = false
is_abort (op.Put table key value) = false
is_abort (op.Del table key) = false
is_abort (op.Scan table low high) = false
is_abort (op.Raise flag) = false
is_abort (op.Await flag) = false
is_abort op.LoseCache = false
is_abort op.Abort = true

abbrev pub aborts : List Op → Bool
aborts [] = false
aborts (o ∷ ops) = is_abort o || aborts ops

-- the rows after a transaction: one that aborts leaves those that it met
abbrev pub after_tran : Rows → List Op → Rows
after_tran rows ops = cond (aborts ops) rows (after_ops rows ops)
