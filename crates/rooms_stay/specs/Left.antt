-- What the facility may still refuse to a member that has as many frames as the cache structure knows of.
use Rattle.std.specs.Prelude.{◌≡◌, ℕ, ◌+◌, ◌≤◌, Ok}
use Rattle.ds_base.specs.Ids.{IsLrsn}
use Rattle.facility.specs.declared.command.Command.{Command}
use Rattle.facility.specs.declared.command.Command.TheVariants as command
use Rattle.facility.specs.Commands.{CanExecute, CanGrant}
use Rattle.facility.specs.States as facility
use Rattle.list_structure.specs.Bells.{CanRing}
use Rattle.member_intents.specs.declared.intent.Intent.{Intent}
use Rattle.member_intents.specs.declared.outcome.Sent.TheVariants as sent
use Rattle.needs_law.specs.Executing.{HasRoom, IsLeft}
use Rattle.needs_law.specs.Lawful.{Lawful}
use Rattle.member_resources.specs.Events.{World, IsNotExecutable, holder_in}
use Rattle.member_resources.specs.Held.{Held}
use Rattle.member_resources.specs.Prepared.{setting_of}
use Rattle.restart_marks.specs.declared.intent.RestartIntent.{RestartIntent}
use Rattle.restart_marks.specs.declared.intent.RestartSent.TheVariants as restart_sent
use Rattle.restart_marks.specs.Needs.{need_of}
use Rattle.restart_marks.specs.State.{RestartState}

-- A lawful intent sends a command whose condition doesn't hold in what is left of it: of counts, and of what a policy has named itself.
pub record IsRefusedRest (w : facility.Held) (h : Held) (i : Intent) (place : ℕ) : Type 0 where
  pub command : Command
  pub lawful : Lawful h.marks h.pages (setting_of h (holder_in w h.cast) place) i (sent.Command command)
  pub fails : ¬ IsLeft w h.marks.member command

-- where the facility refuses a command of a member that has as many frames as the cache knows, and at most 16 slots, it is for that
abbrev pub RefusalsTell : Type 0
RefusalsTell = (w v : World) (h : Held) (i : Intent) (place : ℕ) → HasRoom w.facility h.marks → IsNotExecutable w h i place v → IsRefusedRest w.facility h i place

-- of a restart's command: a lock's version and the room for its record, the bells, and the number that a compensation finds
abbrev pub IsLeftOfRestart : facility.Held → ℕ → Command → Type 0
IsLeftOfRestart w m (command.Obtain n mode) = CanGrant w.locks m n
IsLeftOfRestart w m (command.Grant slot n mode) = CanGrant w.locks m n
IsLeftOfRestart w m (command.Release n keeps) = CanRing w.lists.bells
IsLeftOfRestart w m (command.Purge n) = CanRing w.lists.bells
IsLeftOfRestart w m (command.SetStatus status) = CanRing w.lists.bells
IsLeftOfRestart w m (command.DrawUndo indexes) = IsLrsn (w.counter + 1)
IsLeftOfRestart w m c = Unit {0}

-- so a lawful intent of a restart sends a command that may be executed exactly where that is left, if the members have a frame
abbrev pub RestartsExecute : Type 0
RestartsExecute = (w : facility.Held) (m : ℕ) (s : RestartState) (i : RestartIntent) (c : Command) → 1 ≤ w.directory.frames → need_of s i ≡ Ok (restart_sent.Command c) → IsLeftOfRestart w m c → CanExecute w m c
