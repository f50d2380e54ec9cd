-- What a crew is, holds and knows, beside its policies and what is ready.
use Rattle.std.specs.Prelude.{ℕ, List, map, Option}
use Rattle.ds_base.specs.declared.names.Sizes.{Sizes}
use Rattle.ds_model.specs.declared.script.Script.{Script}
use Rattle.cache_structure.specs.Directory.{Directory}
use Rattle.facility.specs.States.{Held, held}
use Rattle.script_fates.specs.Fated.{FatesState}
use Rattle.group_restart.specs.Machine.{Restart}
use Rattle.group_member.specs.declared.part.MemberPart.{MemberPart}
use Rattle.group_member.specs.Members.{Member, member_of}
use Rattle.group_crew.specs.declared.crew.Crew.{Crew}

pub record CrewState : Type 0 where
  pub facility : Held
  pub members : List Member
  pub known : List (List ℕ)  -- up to where each of them knows the logs to be whole records
  pub script : Script
  pub begun : ℕ  -- how many phases have begun
  pub groupfails : ℕ  -- how often the script has let the group fail since then
  pub restart : Option Restart  -- the group has failed, and its restart is in hand
  pub fates : FatesState
  pub sizes : Sizes

-- up to where the member knows the logs to be whole records
abbrev pub known_by : {P : Type 0} → MemberPart P → List ℕ
known_by {P} part = part.known

abbrev pub crew_state : {C P : Type 0} → (C → Directory) → Crew C P → CrewState
crew_state {C} {P} directory crew = record {
  facility = held directory crew.facility;
  members = map member_of crew.parts.items;
  known = map known_by crew.parts.items;
  script = crew.script;
  begun = crew.progress.begun;
  groupfails = crew.progress.groupfails;
  restart = crew.restart;
  fates = crew.fates;
  sizes = crew.sizes.sizes;
}
