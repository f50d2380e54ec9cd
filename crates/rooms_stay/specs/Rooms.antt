-- How many frames and slots a member has, and of how many frames of each member the cache structure knows: no event changes these.
use Rattle.std.specs.Prelude.{◌≡◌, ℕ, ◌+◌, List, length}
use Rattle.ds_base.specs.declared.names.Sizes.{Sizes}
use Rattle.ds_model.specs.declared.log.RowChange.{RowChange}
use Rattle.facility.specs.declared.command.Command.{Command}
use Rattle.facility.specs.declared.command.Reply.{Reply}
use Rattle.facility.specs.Commands.{Executes}
use Rattle.facility.specs.States as facility
use Rattle.member_intents.specs.declared.intent.Intent.{Intent}
use Rattle.member_intents.specs.declared.outcome.Answered.{Answered}
use Rattle.member_intents.specs.declared.outcome.Sent.{Sent}
use Rattle.member_trans.specs.declared.fate.Change.{Change}
use Rattle.member_marks.specs.State.{MarksState}
use Rattle.member_marks.specs.Local.{Reaches}
use Rattle.member_marks.specs.Rollbacks.{after_adopt}
use Rattle.member_resources.specs.Held.{Held, IsNew}
use Rattle.member_resources.specs.Events.{World, Happens}

-- as many frames and slots as before
pub record SameRoom (s t : MarksState) : Type 0 where
  pub frames : length t.heads.frames ≡ length s.heads.frames
  pub slots : length t.trans.slots ≡ length s.trans.slots

-- as many as these sizes say: a slot for each agent, and the member's own
pub record HasRooms (sizes : Sizes) (s : MarksState) : Type 0 where
  pub frames : length s.heads.frames ≡ sizes.pool
  pub slots : length s.trans.slots ≡ sizes.agents + 1

abbrev pub RoomsBegin : Type 0
RoomsBegin = (member : ℕ) (sizes : Sizes) (h : Held) → IsNew member sizes h → HasRooms sizes h.marks

abbrev pub EventsKeep : Type 0
EventsKeep = (w v : World) (h k : Held) (i : Intent) (place : ℕ) (sent : Sent) (a : Answered) → Happens w h i place sent a v k → SameRoom h.marks k.marks

abbrev pub LocalsKeep : Type 0
LocalsKeep = (s t : MarksState) → Reaches s t → SameRoom s t

abbrev pub AdoptionsKeep : Type 0
AdoptionsKeep = (s : MarksState) (id by : ℕ) (changes : List Change) (undone : List RowChange) → SameRoom s (after_adopt s id by changes undone)

-- of as many frames as before, whatever the command and the reply
abbrev pub CommandsKeep : Type 0
CommandsKeep = (w v : facility.Held) (m : ℕ) (c : Command) (page after : List ℕ) (answer : Reply) → Executes w m c page answer v after → v.directory.frames ≡ w.directory.frames
