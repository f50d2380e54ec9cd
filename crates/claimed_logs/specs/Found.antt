-- The claims of what restarts have left open, in a group that stands beside a world of locks.
use Rattle.std.specs.Prelude.{◌≡◌, ℕ, true, List, IfSome, slice_get}
use Rattle.group_core.specs.Given.{CrewState}
use Rattle.lock_protocol.specs.Machine.{World}
use Rattle.restart_marks.specs.State.{RestartState}
use Rattle.restart_law.specs.Opens.{FewNeeds, OpensStand}
use Rattle.restart_law.specs.Reads.{AreLast}
use Rattle.restart_claims.specs.Claims.{OpensClaimed}
use Rattle.failed_logs.specs.Given.{LocksTied}
use Rattle.failed_logs.specs.Given.{AdoptedClaim}

-- What the restart has read are last records of a log that had these bytes, and what it has left open of it has its claims.
pub record OpensFound (w : World) (s : RestartState) : Type 0 where
  pub bytes : List ℕ
  pub last : AreLast bytes s.own.records
  pub few : FewNeeds s.own.records
  pub claimed : OpensClaimed bytes w s

-- so it is once it has read its log
pub record OpensKnown (w : World) (s : RestartState) : Type 0 where
  pub stands : OpensStand s
  pub found : s.own.is_read ≡ true → OpensFound w s

-- of each restart in hand
abbrev pub AllOpensKnown : CrewState → World → Type 0
AllOpensKnown s w = (at : ℕ) → IfSome (slice_get s.members at) (λ m. IfSome m.restart (λ q. OpensKnown w q.resources.marks))

-- so whatever such a restart hands over has the claims that its member needs for it
abbrev pub AdoptionsFound : Type 0
AdoptionsFound = (old new : CrewState) (w : World) → LocksTied old w → AllOpensKnown old w → AdoptedClaim old new w
