-- The intents that take and give up page locks, of a member that is up, and all that the pages don't know of.
use Rattle.std.specs.Prelude.{◌≡◌, ℕ, false, List, Option, Some, None}
use Rattle.ds_base.specs.declared.names.PageId.{PageId}
use Rattle.ds_model.specs.declared.lock.Name.TheVariants as name
use Rattle.lock_names.specs.declared.mode.Mode.{Mode}
use Rattle.facility.specs.declared.command.Reply.{Reply}
use Rattle.facility.specs.declared.command.Reply.TheVariants as reply
use Rattle.facility.specs.States.{Held}
use Rattle.facility.specs.LockCommands.{ObtainsLock, GrantsLock, ReleasesLock}
use Rattle.lock_manager.specs.Buckets.{AreDistinct}
use Rattle.lock_manager.specs.Managers.{claims_of}
use Rattle.member_intents.specs.declared.outcome.Sent.{Sent}
use Rattle.member_trans.specs.declared.fate.Owner.{Owner}
use Rattle.member_marks.specs.State.{MarksState}
use Rattle.member_marks.specs.Claims.{has_page}
use Rattle.member_effects.specs.Kept.{Kept}
use Rattle.member_effects.specs.Changes.{with_marks}
use Rattle.member_effects.specs.Claims.{Claims as SettlesClaims}
use Rattle.member_effects.specs.Closing.{page_released_after}
use Rattle.needs_law.specs.Lawful.{MayClaim, ReleasesPage}
use Rattle.page_protocol.specs.Page.{put}
use Rattle.page_protocol.specs.Moves.{World}
use Rattle.page_world.specs.Numbers.{page_number}
use Rattle.page_world.specs.Holdings.{Holdings, KeepsPages, with_facility}
use Rattle.page_intents.specs.Stands.{Goes}
use Rattle.page_intents.specs.Frames.{Begins}

abbrev pub owned_by : Holdings → Held → ℕ → Option ℕ → Holdings
owned_by g v n owner = record g { facility = v; owner = put g.owner n owner }

-- ---- a page's lock is granted: where the member hasn't it, nobody has

abbrev pub ObtainGoes : Type 0
ObtainGoes = (w : World) (g : Holdings) (content : ℕ → ℕ → List ℕ) (forced : ℕ → ℕ) (k : Kept) (t : MarksState) (o : Owner) (page : PageId) (mode : Mode) (version place : ℕ) (v : Held)
    → Begins w g content forced k → MayClaim k.marks o (name.Page page) mode → (has_page k.marks page ≡ false → g.owner (page_number page) ≡ None)
    → ObtainsLock g.facility k.marks.member (name.Page page) mode (reply.Granted version) v → SettlesClaims k.marks o (name.Page page) mode (reply.Granted version) place t
    → Goes w content forced (owned_by g v (page_number page) (Some k.marks.member)) k.marks (with_marks k t)

abbrev pub GrantGoes : Type 0
GrantGoes = (w : World) (g : Holdings) (content : ℕ → ℕ → List ℕ) (forced : ℕ → ℕ) (k : Kept) (t : MarksState) (o : Owner) (page : PageId) (mode : Mode) (slot version place : ℕ) (v : Held)
    → Begins w g content forced k → MayClaim k.marks o (name.Page page) mode → (has_page k.marks page ≡ false → g.owner (page_number page) ≡ None)
    → GrantsLock g.facility k.marks.member slot (name.Page page) mode (reply.Granted version) v → SettlesClaims k.marks o (name.Page page) mode (reply.Granted version) place t
    → Goes w content forced (owned_by g v (page_number page) (Some k.marks.member)) k.marks (with_marks k t)

-- ---- it is given up: no two page claims of the member are on one page

abbrev pub ReleaseGoes : Type 0
ReleaseGoes = (w : World) (g : Holdings) (content : ℕ → ℕ → List ℕ) (forced : ℕ → ℕ) (k : Kept) (page : PageId) (out : Sent) (answer : Reply) (v : Held)
    → Begins w g content forced k → AreDistinct (claims_of k.marks.locks 0) → (lawful : ReleasesPage k.marks page out)
    → ReleasesLock g.facility k.marks.member lawful.told.0 lawful.told.1 answer v
    → Goes w content forced (owned_by g v (page_number page) None) k.marks (with_marks k (page_released_after k.marks page answer))

-- ---- an event that leaves the frames, the log and the page claims of the member

pub record LeavesPages (s t : MarksState) : Type 0 where
  pub member : t.member ≡ s.member
  pub heads : t.heads ≡ s.heads
  pub log : t.log ≡ s.log
  pub claims : (page : PageId) → has_page t page ≡ has_page s page

abbrev pub StayGoes : Type 0
StayGoes = (w : World) (g : Holdings) (content : ℕ → ℕ → List ℕ) (forced : ℕ → ℕ) (k : Kept) (t : MarksState) (v : Held)
    → Begins w g content forced k → LeavesPages k.marks t → KeepsPages g.facility v → Goes w content forced (with_facility g v) k.marks (with_marks k t)
