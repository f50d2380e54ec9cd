-- One record more, where none was out of turn before it; from there on nothing changes.
use Rattle.std.specs.Prelude.{ℕ, Bool, true, false, Option, None, Some}
use Rattle.ds_model.specs.declared.log.LogRecord.{LogRecord}
use Rattle.row_turns.specs.declared.held.Held.{Held}
use Rattle.row_turns.specs.declared.told.OutOfTurn.{OutOfTurn}
use Rattle.row_turns.specs.declared.scan.Turns.{Turns}
use Rattle.row_turns.specs.States.{turned, is_let}

abbrev pub out_with : Option OutOfTurn → Bool → ℕ → ℕ → Option OutOfTurn
out_with (Some out) let_be at number = Some out
out_with None true at number = None
out_with None false at number = Some (record { index = at; number = number })

abbrev pub held_with : Option OutOfTurn → Bool → Held → Held → Held
held_with (Some out) let_be next it = it
held_with None true next it = next
held_with None false next it = it

abbrev pub next_out : (ℕ → Bool) → Turns → LogRecord → Option OutOfTurn
next_out has it r = out_with it.out (is_let has it.held r.tran r.body) it.taken r.lrsn

abbrev pub next_held : (ℕ → Bool) → Turns → LogRecord → Held
next_held has it r = held_with it.out (is_let has it.held r.tran r.body) (turned has it.is_early it.held r.tran r.body) it.held
