-- The calls of a group restart, as moves.
use Rattle.std.specs.Prelude.{◌≡◌, ℕ, Bool, true, false, List, Ok}
use Rattle.ds_base.specs.declared.names.PageId.{PageId}
use Rattle.page_format.specs.Fields.{lrsn_of}
use Rattle.places_redo.specs.Picked.{brought_at}
use Rattle.group_restart.specs.declared.calls.State.{State}
use Rattle.group_restart.specs.declared.calls.State.TheVariants as state
use Rattle.group_restart.specs.declared.stage.Stage.TheVariants as stage
use Rattle.group_restart.specs.Disk as calls
use Rattle.group_restart.specs.Machine.{Restart}
use Rattle.group_restart.specs.Steps.{Steps}
use Rattle.page_protocol.specs.Moves.{World}
use Rattle.page_world.specs.Groups.{Remains}
use Rattle.page_world.specs.Numbers.{page_number}
use Rattle.page_recoveries.specs.Given.{AreDrawnTo, Drive}
use Rattle.fallen_pages.specs.Stands.{FallenMoves, FallenPages, IsLast, OthersLast, is_counted, is_left}

-- What the world doesn't say of a call: what the logs lead to, and that a page shows the number that is put into it. The restart stands at h before the
-- call, and at k behind it.
pub record CallTells (w : World) (r : Remains) (content : ℕ → ℕ → List ℕ) (h k : Restart) : Type 0 where
  -- once the logs are read, a page that they don't name is its last version
  pub read : h.stage ≡ stage.ReadLog → OthersLast w (is_left k.stage k.plan.pages)
  -- and they lead each that they name from the disk's version to its last one
  pub brought : (page : PageId) (applied : Bool) → h.stage ≡ stage.RedoRead page
      → (brought_at page (r.disk (page_number page)) h.plan.merged h.places).outcome ≡ Ok applied → IsLast w content (page_number page) (brought_at page (r.disk (page_number page)) h.plan.merged h.places).page
  -- no change on disk has a greater number than the greatest one that the restart has found
  pub drawn : is_counted h.stage ≡ false → is_counted k.stage ≡ true → AreDrawnTo w k.counter
  -- a page with a compensation shows its number, and one that is written anew the number that it had
  pub stamped : (member : ℕ) (page : PageId) → k.stage ≡ stage.UndoAppend member page → lrsn_of k.page ≡ k.counter
  pub renewed : (page : PageId) → k.stage ≡ stage.RenewWrite page → lrsn_of k.page ≡ lrsn_of (r.disk (page_number page))

-- what the disk shows
abbrev pub shown : calls.Drive → Drive
shown d = record { alive = d.alive; contents = d.contents }

-- where the restart is done it stands at its end, and tells the counter
abbrev pub EndsAs : State → Restart → Type 0
EndsAs state.Going k = Unit {0}
EndsAs (state.Done counter) k = (k.stage ≡ stage.End) × (k.counter ≡ counter)
EndsAs (state.Damaged volume at) k = Unit {0}
EndsAs state.Failed k = Unit {0}

pub record CallGoes (came : State) (k : Restart) (e : Drive) (w : World) : Type 0 where
  pub goes : FallenMoves k e w
  pub ends : EndsAs came k

-- any call, whatever it came to, also one that has failed, wholly or in part
abbrev pub CallsGo : Type 0
CallsGo = (d e : calls.Drive) (h k : Restart) (came : State) (w : World) → Steps d h (Ok came) e k → (f : FallenPages h (shown d) w) → CallTells w f.remains f.versions h k → CallGoes came k (shown e) w
