-- What of the facility's conditions may still fail where a member's intent is lawful.
use Rattle.std.specs.Prelude.{◌≡◌, ℕ, ◌+◌, ◌≤◌, List, length}
use Rattle.ds_base.specs.Ids.{IsLrsn}
use Rattle.facility.specs.declared.command.Command.{Command}
use Rattle.facility.specs.declared.command.Command.TheVariants as command
use Rattle.facility.specs.declared.command.Indexes.{Indexes}
use Rattle.facility.specs.Commands.{CanGrant, CanExecute}
use Rattle.facility.specs.States.{Held}
use Rattle.member_intents.specs.declared.intent.Intent.{Intent}
use Rattle.member_intents.specs.declared.outcome.Sent.TheVariants as sent
use Rattle.member_marks.specs.State.{MarksState}
use Rattle.member_needs.specs.declared.needs.Setting.{Setting}
use Rattle.needs_law.specs.Lawful.{Lawful}

-- the member has as many frames as the cache structure knows of each, and at most 16 slots behind slot 0
pub record HasRoom (w : Held) (s : MarksState) : Type 0 where
  pub frames : length s.heads.frames ≡ w.directory.frames
  pub slots : length s.trans.slots ≤ 17

-- so many of three frames
abbrev pub AreThree : Indexes → Type 0
AreThree indexes = (indexes.count ≤ 3) × (length indexes.at ≡ 3)

-- Of a lock that is asked for the entry's version may rise, and a record has room; a draw names three frames at most, and a compensation finds a number.
-- Whatever else a command asks of counts, and of the slots and flags that a policy names, is as it was. Of frames that are read, written, tested or
-- freed nothing is left.
abbrev pub IsLeft : Held → ℕ → Command → Type 0
IsLeft w m (command.Grant slot n mode) = CanGrant w.locks m n
IsLeft w m (command.Read page index) = Unit {0}
IsLeft w m (command.Write page index) = Unit {0}
IsLeft w m (command.Unregister index) = Unit {0}
IsLeft w m (command.Test index) = Unit {0}
IsLeft w m (command.Draw indexes) = AreThree indexes
IsLeft w m (command.DrawUndo indexes) = IsLrsn (w.counter + 1)
IsLeft w m c = CanExecute w m c

-- so the command may be executed exactly where that is left
abbrev pub LawfulExecute : Type 0
LawfulExecute = (w : Held) (m : ℕ) (s : MarksState) (pages : List (List ℕ)) (setting : Setting) (i : Intent) (c : Command)
    → HasRoom w s → Lawful s pages setting i (sent.Command c) → IsLeft w m c → CanExecute w m c
