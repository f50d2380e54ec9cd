-- The claims of a member, as the world of locks has them: those of its lock manager, and the page whose lock its restart has.
use Rattle.std.specs.Prelude.{◌≡◌, ◌≢◌, ℕ, ◌==◌, Option, Some, None, if◌then◌else◌}
use Rattle.ds_base.specs.declared.names.PageId.{PageId}
use Rattle.ds_model.specs.declared.lock.Name.TheVariants as name
use Rattle.lock_names.specs.declared.mode.Mode.{Mode}
use Rattle.lock_names.specs.declared.mode.Mode.TheVariants.{X}
use Rattle.group_member.specs.declared.restarting.Restarting.{Restarting}
use Rattle.group_member.specs.Members.{Member}
use Rattle.lock_world.specs.Numbers.{number}
use Rattle.lock_world.specs.Tied.{Claims}
use Rattle.lock_world.specs.Views.{claim_in}

abbrev pub page_claim : Option PageId → ℕ → Option Mode
page_claim None c = None
page_claim (Some p) c = if c == number (name.Page p) then Some X else None

abbrev pub restart_claim : Option Restarting → ℕ → ℕ → Option Mode
restart_claim None o c = None
restart_claim (Some q) o c = if o == 0 then page_claim q.resources.marks.claim c else None

abbrev pub or_else : Option Mode → Option Mode → Option Mode
or_else None x = x
or_else (Some m) x = Some m

abbrev pub known_of : Member → ℕ → ℕ → Option Mode
known_of m o c = or_else (claim_in m.holds.marks.locks o c) (restart_claim m.restart o c)

-- the claims of the member are those that it knows
abbrev pub KnowsOwn : Claims → Member → Type 0
KnowsOwn held m = (o c : ℕ) → held m.id o c ≡ known_of m o c

-- so they are behind an event of it, which changes those of no other member
pub record LeadsTo (held left : Claims) (m n : Member) : Type 0 where
  pub others : (k o c : ℕ) → k ≢ m.id → left k o c ≡ held k o c
  pub own : (o c : ℕ) → left m.id o c ≡ known_of n o c
