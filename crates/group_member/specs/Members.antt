-- What a member is and holds, beside its policy and what is ready.
use Rattle.std.specs.Prelude.{◌≡◌, ℕ, Option, None}
use Rattle.ds_base.specs.declared.names.Sizes.{Sizes}
use Rattle.member_resources.specs.Held.{Held, IsNew}
use Rattle.group_member.specs.declared.part.MemberPart.{MemberPart}
use Rattle.group_member.specs.declared.rebuilding.Rebuilding.{Rebuilding}
use Rattle.group_member.specs.declared.restarting.Restarting.{Restarting}

pub record Member : Type 0 where
  pub id : ℕ
  pub holds : Held
  pub restart : Option Restarting  -- it has failed, and restarts
  pub rebuild : Option Rebuilding  -- the cache is lost, and it rebuilds it

abbrev pub member_of : {P : Type 0} → MemberPart P → Member
member_of {P} part = record { id = part.id; holds = part.resources; restart = part.restart; rebuild = part.rebuild }

-- the member holds nothing, and has no restart and no rebuild
pub record IsDown (sizes : Sizes) (m : Member) : Type 0 where
  pub holds : IsNew m.id sizes m.holds
  pub rests : m.restart ≡ None
  pub idles : m.rebuild ≡ None
