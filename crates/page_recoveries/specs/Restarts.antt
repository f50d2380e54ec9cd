-- The events of a restart, in its group.
use Rattle.std.specs.Prelude.{◌≡◌, ℕ, true, false, List}
use Rattle.facility.specs.declared.command.Command.{Command}
use Rattle.member_intents.specs.declared.outcome.Answered.{Answered}
use Rattle.group_pages.specs.Given.{IsTold, LocksTied, LogIsWhole, Member, Resources, RestartSent, RestartStepsAt, Restarts, RunsCommand}
use Rattle.group_pages.specs.Given.restart_sent as sent
use Rattle.group_core.specs.Given.{CrewState}
use Rattle.lock_protocol.specs.Machine.{World as LockWorld}
use Rattle.page_protocol.specs.Moves.{World}
use Rattle.page_world.specs.Holdings.{Holdings}
use Rattle.group_pages.specs.Events.{PageMoves}
use Rattle.group_pages.specs.Stands.{PagesTied}

-- What the worlds don't say of an event of a restart: while its log is read, that it has each change of the member as soon as it is whole; behind that,
-- what it leads to.
pub record RestartTells (w : World) (g : Holdings) (content : ℕ → ℕ → List ℕ) (forced : ℕ → ℕ) (m : Member) (u : Resources) (place : ℕ) (s : RestartSent) (a : Answered) (v : Resources) (mid : Member) (made : Restarts m u place s a v mid) : Type 0 where
  pub whole : made.makes.before.resources.marks.own.is_read ≡ false → LogIsWhole w content forced made.makes.happens.after
  pub told : made.makes.before.resources.marks.own.is_read ≡ true → (c : Command) → s ≡ sent.Command c
      → (r : RunsCommand u.facility made.makes.before.resources made.makes.happens.intent c a made.makes.happens.said v.facility made.makes.happens.after) → IsTold w g content made.makes.before.resources r.after made.makes.happens.intent r.answer

-- an event of it, in which no call of the disk failed
abbrev pub RestartStepsGo : Type 0
RestartStepsGo = (old new : CrewState) (at : ℕ) (m n : Member) (l : LockWorld) (w : World) → LocksTied old l → (e : RestartStepsAt old new at m n l) → (t : PagesTied e.drive old w)
    → RestartTells w t.holdings t.versions t.forced m (record { facility = old.facility; drive = e.drive }) e.place e.sent e.answered (record { facility = new.facility; drive = e.left }) e.made.mid e.made.makes
    → PageMoves e.left new w
