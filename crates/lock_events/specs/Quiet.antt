-- Commands that change neither locks, queries nor standings.
use Rattle.std.specs.Prelude.{◌≡◌, ℕ, Bool, true, false, List}
use Rattle.list_structure.specs.States.{ListsState}
use Rattle.facility.specs.declared.command.Command.{Command}
use Rattle.facility.specs.declared.command.Command.TheVariants as command
use Rattle.facility.specs.declared.command.Reply.{Reply}
use Rattle.facility.specs.Commands.{Executes}
use Rattle.facility.specs.States.{Held}
use Rattle.member_marks.specs.State.{MarksState}
use Rattle.lock_protocol.specs.Machine.{World}
use Rattle.lock_world.specs.Tied.{Claims}
use Rattle.lock_intents.specs.Stands.{Goes}

pub record SameLists (f g : ListsState) : Type 0 where
  pub cells : g.cells ≡ f.cells
  pub statuses : g.statuses ≡ f.statuses
  pub members : g.members ≡ f.members

pub record Quiet (f g : Held) : Type 0 where
  pub locks : g.locks ≡ f.locks
  pub lists : SameLists f.lists g.lists

abbrev pub is_quiet : Command → Bool
is_quiet (command.Obtain n mode) = false
is_quiet (command.Grant slot n mode) = false
is_quiet (command.Release n keeps) = false
is_quiet (command.Purge n) = false
is_quiet (command.RetainedAt n) = true
is_quiet (command.Read id index) = true
is_quiet (command.Write id index) = true
is_quiet (command.Unregister index) = true
is_quiet (command.Test index) = true
is_quiet (command.CastoutRead id) = true
is_quiet (command.CastoutDone id) = true
is_quiet (command.NextChanged past) = true
is_quiet command.Lose = true
is_quiet command.Rebuilt = true
is_quiet (command.Ask slot to n mode) = false
is_quiet (command.Take past) = true
is_quiet (command.Answer asker n mode said event) = false
is_quiet (command.Answers slot) = true
is_quiet (command.Wait tran holder flag) = true
is_quiet (command.Unwait tran) = true
is_quiet command.Waits = true
is_quiet (command.End tran) = true
is_quiet (command.Raise flag) = true
is_quiet (command.Flag flag) = true
is_quiet (command.SetStatus status) = false
is_quiet (command.Status member) = true
is_quiet command.Claim = true
is_quiet command.Unclaim = true
is_quiet command.PhaseDone = true
is_quiet (command.Draw indexes) = true
is_quiet (command.DrawUndo indexes) = true

abbrev pub CommandsStay : Type 0
CommandsStay = (f g : Held) (m : ℕ) (c : Command) (page after : List ℕ) (answer : Reply) → is_quiet c ≡ true → Executes f m c page answer g after → Quiet f g

-- what is left by moves stays so where nothing else of the facility changes
abbrev pub GoesStay : Type 0
GoesStay = (w : World) (f g now : Held) (left : Claims) (s t : MarksState) → Quiet g now → Goes w f g left s t → Goes w f now left s t
