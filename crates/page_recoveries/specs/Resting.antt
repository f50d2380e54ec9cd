-- The other events of a member whose restart is in hand, in its group.
use Rattle.std.specs.Prelude.{◌≡◌, ℕ, false, List}
use Rattle.group_pages.specs.Given.{LocksTied, Makes, Member, Resources, RestingStepsAt, Stepped, is_over}
use Rattle.group_pages.specs.Given.stepped_variants as steps
use Rattle.group_core.specs.Given.{CrewState}
use Rattle.lock_protocol.specs.Machine.{World as LockWorld}
use Rattle.page_protocol.specs.Moves.{World}
use Rattle.page_world.specs.Holdings.{Holdings}
use Rattle.group_pages.specs.Events.{PageMoves}
use Rattle.group_pages.specs.Members.{LogsLead}
use Rattle.group_pages.specs.Stands.{PagesTied}

-- What the worlds don't say of such an event: what a rebuild writes is what the logs lead to that it has read.
abbrev pub RestTells : World → Holdings → (ℕ → ℕ → List ℕ) → (m : Member) (u : Resources) (place : ℕ) (stepped : Stepped) (v : Resources) (mid : Member) → Makes m u place stepped v mid → Type 0
RestTells w g content m u place (steps.Sent s a) v mid made = Unit {0}
RestTells w g content m u place (steps.Restart s a) v mid made = Unit {0}
RestTells w g content m u place (steps.Rebuild s a) v mid made = LogsLead w g content made.makes.before.resources s
RestTells w g content m u place steps.Failed v mid made = Unit {0}

-- an event of it that isn't its restart's, in which no call of the disk failed
abbrev pub RestingStepsGo : Type 0
RestingStepsGo = (old new : CrewState) (at : ℕ) (m n : Member) (l : LockWorld) (w : World) → LocksTied old l → (e : RestingStepsAt old new at m n) → is_over e.stepped ≡ false → (t : PagesTied e.drive old w)
    → RestTells w t.holdings t.versions m (record { facility = old.facility; drive = e.drive }) e.place e.stepped (record { facility = new.facility; drive = e.left }) e.made.mid e.made.makes
    → PageMoves e.left new w
