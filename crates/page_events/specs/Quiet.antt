-- Commands that change nothing that pages know of.
use Rattle.std.specs.Prelude.{◌≡◌, ℕ, Bool, true, false, List}
use Rattle.facility.specs.declared.command.Command.{Command}
use Rattle.facility.specs.declared.command.Command.TheVariants as command
use Rattle.facility.specs.declared.command.Reply.{Reply}
use Rattle.facility.specs.Commands.{Executes}
use Rattle.facility.specs.States.{Held}
use Rattle.page_world.specs.Holdings.{KeepsPages}

abbrev pub leaves_pages : Command → Bool
leaves_pages (command.Obtain n mode) = true
leaves_pages (command.Grant slot n mode) = true
leaves_pages (command.Release n keeps) = true
leaves_pages (command.Purge n) = true
leaves_pages (command.RetainedAt n) = true
leaves_pages (command.Read id index) = false
leaves_pages (command.Write id index) = false
leaves_pages (command.Unregister index) = false
leaves_pages (command.Test index) = true
leaves_pages (command.CastoutRead id) = false
leaves_pages (command.CastoutDone id) = false
leaves_pages (command.NextChanged past) = true
leaves_pages command.Lose = false
leaves_pages command.Rebuilt = false
leaves_pages (command.Ask slot to n mode) = true
leaves_pages (command.Take past) = true
leaves_pages (command.Answer asker n mode said event) = true
leaves_pages (command.Answers slot) = true
leaves_pages (command.Wait tran holder flag) = true
leaves_pages (command.Unwait tran) = true
leaves_pages command.Waits = true
leaves_pages (command.End tran) = true
leaves_pages (command.Raise flag) = true
leaves_pages (command.Flag flag) = true
leaves_pages (command.SetStatus status) = false
leaves_pages (command.Status member) = true
leaves_pages command.Claim = true
leaves_pages command.Unclaim = true
leaves_pages command.PhaseDone = true
leaves_pages (command.Draw indexes) = false
leaves_pages (command.DrawUndo indexes) = false

-- the directory, the counter, and who is up
abbrev pub CommandsLeave : Type 0
CommandsLeave = (f g : Held) (m : ℕ) (c : Command) (page after : List ℕ) (answer : Reply) → leaves_pages c ≡ true → Executes f m c page answer g after → KeepsPages f g
