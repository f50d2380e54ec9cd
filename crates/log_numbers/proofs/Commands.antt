-- The counter behind a command.
use Rattle.std.proofs.Common.{◌≡◌, ℕ, ◌+◌, ◌≤◌, sym, subst, arith, Option, Some, None}
use Rattle.std.specs.Prelude.{nat_lt}
use Rattle.std.proofs.lemmas.Bool.{cond_both}
use Rattle.ds_model.specs.declared.lock.Name.{Name}
use Rattle.lock_names.specs.declared.mode.Mode.{Mode}
use Rattle.list_structure.specs.declared.query.Asker.{Asker}
use Rattle.list_structure.specs.declared.query.CellAnswer.{CellAnswer}
use Rattle.facility.specs.declared.command.Command.TheVariants as command
use Rattle.facility.specs.declared.command.Reply.{Reply}
use Rattle.facility.specs.declared.command.Reply.TheVariants as reply
use Rattle.facility.specs.Counting.{counter_after, drawn_to, first_stale, given, limit}
use Rattle.facility.specs.ListCommands.{AnswersQuery}
use Rattle.facility.specs.States.{Held}
use Rattle.log_numbers.specs.Numbers.{CommandsCount}

same : (f g x : Held) → g ≡ x → f.counter ≤ x.counter → f.counter ≤ g.counter
same f g x e le = subst (λ (z : Held). f.counter ≤ z.counter) (sym e) le

itself : (n : ℕ) → n ≤ n
itself n = omega arith

answered : (f g : Held) (m : ℕ) (asker : Asker) (n : Name) (mode : Mode) (said : CellAnswer) (event : ℕ) (answer : Reply) → AnswersQuery f m asker n mode said event answer g → f.counter ≤ g.counter
answered f g m asker n mode said event reply.Done e = same f g _ e.1.1 (itself f.counter)
answered f g m asker n mode said event reply.Gone e = same f g _ e.1 (itself f.counter)
answered f g m asker n mode said event _ e = absurd e

drawn_rises : (o : Option ℕ) (c : ℕ) → c ≤ drawn_to o c
drawn_rises None c = cond_both (nat_lt c limit) (c + 1) c (λ (z : ℕ). c ≤ z) (λ e. omega arith) (λ e. omega arith)
drawn_rises (Some index) c = itself c

undo_rises : (o : Option ℕ) (c : ℕ) → c ≤ counter_after o c
undo_rises None c = omega arith
undo_rises (Some index) c = itself c

pub commands_count : CommandsCount
commands_count f g m (command.Obtain n mode) page after answer e = same f g _ e.0.1 (itself f.counter)
commands_count f g m (command.Grant slot n mode) page after answer e = same f g _ e.0.2 (itself f.counter)
commands_count f g m (command.Release n keeps) page after answer e = same f g _ e.0.2 (itself f.counter)
commands_count f g m (command.Purge n) page after answer e = same f g _ e.0.2 (itself f.counter)
commands_count f g m (command.RetainedAt n) page after answer e = same f g _ e.0.1 (itself f.counter)
commands_count f g m (command.Read id index) page after answer e = same f g _ e.1 (itself f.counter)
commands_count f g m (command.Write id index) page after answer e = same f g _ e.0.1 (itself f.counter)
commands_count f g m (command.Unregister index) page after answer e = same f g _ e.0.1 (itself f.counter)
commands_count f g m (command.Test index) page after answer e = same f g _ e.0.1 (itself f.counter)
commands_count f g m (command.CastoutRead id) page after answer e = same f g _ e.1 (itself f.counter)
commands_count f g m (command.CastoutDone id) page after answer e = same f g _ e.0.1 (itself f.counter)
commands_count f g m (command.NextChanged past) page after answer e = same f g _ e.0.1 (itself f.counter)
commands_count f g m command.Lose page after answer e = same f g _ e.0.1 (itself f.counter)
commands_count f g m command.Rebuilt page after answer e = same f g _ e.0.1 (itself f.counter)
commands_count f g m (command.Ask slot to n mode) page after answer e = same f g _ e.0.1.1 (itself f.counter)
commands_count f g m (command.Take past) page after answer e = same f g _ e.0.1 (itself f.counter)
commands_count f g m (command.Answer asker n mode said event) page after answer e = answered f g m asker n mode said event answer e.0
commands_count f g m (command.Answers slot) page after answer e = same f g _ e.0.1 (itself f.counter)
commands_count f g m (command.Wait tran holder flag) page after answer e = same f g _ e.0.1 (itself f.counter)
commands_count f g m (command.Unwait tran) page after answer e = same f g _ e.0.1 (itself f.counter)
commands_count f g m command.Waits page after answer e = same f g _ e.0.1 (itself f.counter)
commands_count f g m (command.End tran) page after answer e = same f g _ e.0.1 (itself f.counter)
commands_count f g m (command.Raise flag) page after answer e = same f g _ e.0.1 (itself f.counter)
commands_count f g m (command.Flag flag) page after answer e = same f g _ e.0.1 (itself f.counter)
commands_count f g m (command.SetStatus status) page after answer e = same f g _ e.0.1 (itself f.counter)
commands_count f g m (command.Status member) page after answer e = same f g _ e.0.1 (itself f.counter)
commands_count f g m command.Claim page after answer e = same f g _ e.0.1 (itself f.counter)
commands_count f g m command.Unclaim page after answer e = same f g _ e.0.1 (itself f.counter)
commands_count f g m command.PhaseDone page after answer e = same f g _ e.0.1 (itself f.counter)
commands_count f g m (command.Draw indexes) page after answer e = same f g _ e.0.1 (drawn_rises (first_stale f.directory m (given indexes)) f.counter)
commands_count f g m (command.DrawUndo indexes) page after answer e = same f g _ e.0.1 (undo_rises (first_stale f.directory m (given indexes)) f.counter)
