-- What a crew is like when it is made.
use Rattle.std.specs.Prelude.{◌≡◌, ℕ, ◌+◌, None, IfSome}
use Rattle.cache_structure.specs.Directory.{Directory}
use Rattle.facility.specs.States.{IsMade, held}
use Rattle.script_fates.specs.Fated.{no_fates}
use Rattle.group_member.specs.Members.{IsDown}
use Rattle.group_crew.specs.declared.crew.Crew.{Crew}
use Rattle.group_crew.specs.Happening.{member_at}

-- The facility is as it is made, no member holds anything, and they are numbered from 1 on in their order; nothing is played, the group has not
-- failed, and no transaction has a fate.
pub record IsNewCrew {C P : Type 0} (directory : C → Directory) (crew : Crew C P) : Type 0 where
  pub facility : IsMade crew.sizes.sizes crew.facility.counter (held directory crew.facility)
  pub members : (k : ℕ) → IfSome (member_at crew.parts.items k) (IsDown crew.sizes.sizes)
  pub numbered : (k : ℕ) → IfSome (member_at crew.parts.items k) (λ m. m.id ≡ k + 1)
  pub unplayed : crew.progress.begun ≡ 0
  pub groupfails : crew.progress.groupfails ≡ 0
  pub unfailed : crew.restart ≡ None
  pub unfated : crew.fates ≡ no_fates
