-- What the event of the member at a place comes to.
use Rattle.std.specs.Prelude.{ℕ, List, Option, Some, None, option_map, slice_get}
use Rattle.ds_base.specs.declared.names.Sizes.{Sizes}
use Rattle.ds_model.specs.declared.script.Script.{Script}
use Rattle.script_fates.specs.Fated.{FatesState}
use Rattle.group_member.specs.Happening.{Comes, World}
use Rattle.group_member.specs.Members.{Member, member_of}
use Rattle.group_member.specs.Refusing.{IsRefused}
-- given out again: a member, its world, and what its event was
pub use Rattle.group_member.specs.declared.part.MemberPart.{MemberPart}
pub use Rattle.group_member.specs.declared.stepped.Stepped.{Stepped}
pub use Rattle.group_member.specs.Happening.{world_of}
pub use Rattle.group_member.specs.Stepping.{has_failed}

abbrev pub member_at : {P : Type 0} → List (MemberPart P) → ℕ → Option Member
member_at {P} parts at = option_map member_of (slice_get parts at)

abbrev pub ComesAt : Script → ℕ → Sizes → ℕ → Option Member → World → FatesState → ℕ → Stepped → Option Member → World → FatesState → Type 0
ComesAt script begun sizes choice None w f place stepped n v g = ⊥
ComesAt script begun sizes choice (Some m) w f place stepped None v g = ⊥
ComesAt script begun sizes choice (Some m) w f place stepped (Some n) v g = Comes script begun sizes choice m w f place stepped n v g

-- there is no member at the place, or its event is refused
abbrev pub IsRefusedAt : Option Member → World → ℕ → World → Type 0
IsRefusedAt None w place v = Unit {0}
IsRefusedAt (Some m) w place v = IsRefused m w place v
