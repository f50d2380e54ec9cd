-- The events of a member that is up, in its group.
use Rattle.std.specs.Prelude.{◌≡◌, ℕ, true, false, List}
use Rattle.ds_base.specs.declared.names.PageId.{PageId}
use Rattle.facility.specs.declared.command.Command.TheVariants as command
use Rattle.facility.specs.declared.command.Reply.TheVariants as reply
use Rattle.member_intents.specs.declared.outcome.Answered.TheVariants as answered
use Rattle.page_owners.specs.Given.{Makes, Member, Resources, Stepped, is_over}
use Rattle.page_owners.specs.Given.stepped_variants as steps
use Rattle.group_locks.specs.Given.{CrewState}
use Rattle.lock_protocol.specs.Machine.{World as LockWorld}
use Rattle.group_locks.specs.Members.{StepsAt}
use Rattle.group_locks.specs.Stands.{LocksTied}
use Rattle.page_protocol.specs.Moves.{IsRead, World}
use Rattle.page_world.specs.Holdings.{Holdings}
use Rattle.page_world.specs.Numbers.{page_number}
use Rattle.page_numbers.specs.Recorded.{AreWhole, PlanTells}
use Rattle.page_rebuilds.specs.Rebuilds.{IsLedTo}
use Rattle.rebuild_resources.specs.State.{RebuildState}
use Rattle.rebuild_resources.specs.declared.intent.RebuildSent.{RebuildSent}
use Rattle.rebuild_resources.specs.declared.intent.RebuildSent.TheVariants as sent
use Rattle.group_pages.specs.Events.{PageMoves}
use Rattle.group_pages.specs.Stands.{PagesTied}

-- what a rebuild makes of the logs: each page that it writes is what they lead to, and it ends only when each page on disk is
pub record LogsLead (w : World) (g : Holdings) (content : ℕ → ℕ → List ℕ) (h : RebuildState) (s : RebuildSent) : Type 0 where
  pub written : (page : PageId) → s ≡ sent.WritePage page → IsLedTo w g content (page_number page) h.page
  pub rebuilt : s ≡ sent.Command command.Rebuilt → g.facility.directory.lost ≡ true → (n : ℕ) → IsRead w.group (w.pages n) (w.pages n).disk

-- What the worlds don't say of an event that was made, by what it was: where a number was drawn, that versions are pages' bytes, and what is asked of its
-- plan; and what a rebuild writes is what the logs lead to that it has read.
abbrev pub StepTells : World → Holdings → (ℕ → ℕ → List ℕ) → (m : Member) (u : Resources) (place : ℕ) (stepped : Stepped) (v : Resources) (mid : Member) → Makes m u place stepped v mid → Type 0
StepTells w g content m u place (steps.Sent s a) v mid made = (number : ℕ) → a ≡ answered.Reply (reply.Drawn number) → AreWhole w content × PlanTells m.holds made.intent made.happens.plan
StepTells w g content m u place (steps.Restart s a) v mid made = Unit {0}
StepTells w g content m u place (steps.Rebuild s a) v mid made = LogsLead w g content made.makes.before.resources s
StepTells w g content m u place steps.Failed v mid made = Unit {0}

-- an event of a member that is up, in which no call of the disk failed
abbrev pub MemberStepsGo : Type 0
MemberStepsGo = (old new : CrewState) (at : ℕ) (m n : Member) (l : LockWorld) (w : World) → LocksTied old l → (e : StepsAt old new at m n) → is_over e.stepped ≡ false → (t : PagesTied e.drive old w)
    → StepTells w t.holdings t.versions m (record { facility = old.facility; drive = e.drive }) e.place e.stepped (record { facility = new.facility; drive = e.left }) e.steps.mid e.steps.makes
    → PageMoves e.left new w
