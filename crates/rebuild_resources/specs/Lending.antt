-- A command that is given to the facility.
use Rattle.std.specs.Prelude.{◌≡◌}
use Rattle.facility.specs.declared.command.Command.{Command}
use Rattle.facility.specs.declared.command.Reply.{Reply}
use Rattle.facility.specs.States as facility
use Rattle.facility.specs.Commands.{CanExecute, Executes}
use Rattle.rebuild_resources.specs.State.{RebuildState, with_page}

-- it was executed over the page at hand, and nothing here but that page may be changed
pub record Gives (h : RebuildState) (w : facility.Held) (c : Command) (answer : Reply) (k : RebuildState) (v : facility.Held) : Type 0 where
  pub can : CanExecute w h.member c
  pub executes : Executes w h.member c h.page answer v k.page
  pub back : k ≡ with_page h k.page
