-- A group that begins a script over an empty disk in memory, and what is told of its run.
use Rattle.std.specs.Prelude.{◌≡◌, ℕ, Bool, List, [], Option, Some, None}
use Rattle.cache_structure.specs.State.{CacheState, directory_of}
use Rattle.ds_disk.specs.Memory.{Memory, told}
use Rattle.ds_model.specs.declared.report.EventLine.{EventLine}
use Rattle.ds_model.specs.declared.script.Script.{Script}
use Rattle.ds_model.specs.declared.script.Tran.{Tran}
use Rattle.group_core.specs.Starts.{IsFresh}
use Rattle.group_core.specs.declared.group.Group.{Group}
use Rattle.lock_sights.specs.Lines.{sights_text}
use Rattle.lock_sights.specs.Rosters.{number_named, trans_in}
use Rattle.lock_sights.specs.declared.sight.Sight.{Sight}
use Rattle.claim_sights.specs.Quests.{quest_of}
use Rattle.claim_sights.specs.declared.quest.Quest.{Quest}
use Rattle.member_core.specs.declared.member.Member.{Member}
use Rattle.run_replay.specs.Follows.{FollowsAll, PartsAt}
use Rattle.run_replay.specs.Seen.{DatesAll, LooksAll}
use Rattle.run_replay.specs.declared.fault.ReplayFault.{ReplayFault}
use Rattle.run_replay.specs.declared.fault.ReplayFault.TheVariants as faults

-- a group over memory
abbrev pub Stage : Type 0
Stage = Group Memory CacheState Member

abbrev pub alive : Memory → Bool
alive d = d.condition.alive

abbrev pub faults_of : Memory → ℕ
faults_of d = d.condition.faults

-- a group that has just started, with this script
pub record Begins (script : Script) (group : Stage) : Type 0 where
  pub script_is : group.crew.script ≡ script
  pub fresh : IsFresh directory_of group
  pub journal : group.journal.items ≡ []
  pub fault : group.fault ≡ None

-- a run of the script by the events of a trace, each of which was what its line says, leads to this group
pub record IsFollowed (script : Script) (events : List EventLine) (last : Stage) : Type 0 where
  pub start : Stage
  pub begins : Begins script start
  pub follows : FollowsAll directory_of alive told faults_of start events last

-- by the fates to which such a run comes this is to be looked for
pub record AsksFor (script : Script) (events : List EventLine) (number : ℕ) (quest : Option Quest) : Type 0 where
  pub last : Stage
  pub followed : IsFollowed script events last
  pub by_fates : quest ≡ quest_of number last.crew.fates.entries last.crew.fates.causes

-- this is what was seen in such a run
pub record WereSeen (script : Script) (events : List EventLine) (roster : List Tran) (quest : Quest) (sights : List Sight) : Type 0 where
  pub start : Stage
  pub begins : Begins script start
  pub last : Stage
  pub looks : LooksAll directory_of alive told faults_of roster quest start [] events last sights

-- since when claims stood in such a run
pub record AreDated (script : Script) (events : List EventLine) (sights found : List Sight) : Type 0 where
  pub start : Stage
  pub begins : Begins script start
  pub last : Stage
  pub dates : DatesAll directory_of alive told faults_of start sights events last found

-- what was seen in such a run, and since when claims stood
pub record AreFound (script : Script) (events : List EventLine) (roster : List Tran) (quest : Quest) (found : List Sight) : Type 0 where
  pub sights : List Sight
  pub seen : WereSeen script events roster quest sights
  pub dated : AreDated script events sights found

-- it is told in lines
pub record Tells (script : Script) (events : List EventLine) (roster : List Tran) (quest : Quest) (out : List ℕ) : Type 0 where
  pub found : List Sight
  pub are : AreFound script events roster quest found
  pub spelled : out ≡ sights_text roster found

-- the same, of the transaction of a name
pub record Replays (script : Script) (events : List EventLine) (name out : List ℕ) : Type 0 where
  pub number : ℕ
  pub named : number_named (trans_in script) name ≡ Some number
  pub quest : Quest
  pub asks : AsksFor script events number (Some quest)
  pub tells : Tells script events (trans_in script) quest out

-- ---- why nothing is told

-- no transaction has the name, or it has no fate behind all events
abbrev pub IsFateless : Script → List EventLine → Option ℕ → Type 0
IsFateless script events None = Unit {0}
IsFateless script events (Some number) = AsksFor script events number None

-- an event isn't what its line says
pub record Parts (script : Script) (events : List EventLine) (place : ℕ) : Type 0 where
  pub start : Stage
  pub begins : Begins script start
  pub parts : PartsAt directory_of alive told faults_of start events place

abbrev pub IsParted : Script → List EventLine → ReplayFault → Type 0
IsParted script events faults.NoMemory = Unit {0}
IsParted script events faults.NoTransaction = ⊥
IsParted script events (faults.Parted place) = Parts script events place

abbrev pub IsUntold : Script → List EventLine → List ℕ → ReplayFault → Type 0
IsUntold script events name faults.NoMemory = Unit {0}
IsUntold script events name faults.NoTransaction = IsFateless script events (number_named (trans_in script) name)
IsUntold script events name (faults.Parted place) = Parts script events place
