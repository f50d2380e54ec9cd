-- The run to which a journal leads.
use Rattle.std.specs.Prelude.{◌≡◌, ◌⊎◌, ℕ, ◌≤◌, Bool, true, List, [], length, Option, None, IfSome}
use Rattle.ds_disk.specs.Contents.{Contents, Becomes, Same}
use Rattle.cache_structure.specs.Directory.{Directory}
use Rattle.cache_structure.specs.State.{CacheState, directory_of}
use Rattle.ds_model.specs.declared.script.Script.{Script}
use Rattle.ds_model.specs.declared.history.Entry.{Entry}
use Rattle.group_core.specs.declared.group.Group.{Group}
use Rattle.group_core.specs.declared.fault.RunFault.{RunFault}
-- given out again: how a run ends
pub use Rattle.group_core.specs.declared.schedule.RunEnd.{RunEnd}
use Rattle.group_core.specs.Ends.{Ends}
use Rattle.group_core.specs.Runs.{Draws}
use Rattle.group_core.specs.Starts.{AllKnowDisk, IsFresh, IsOpenedTo}
use Rattle.group_core.specs.Fresh.{RunsFresh, RunsFrom}
use Rattle.refusal_causes.specs.Answers.{Answered, AreGiven}
use Rattle.refusal_causes.specs.Laws.{is_lawful}
use Rattle.refusal_causes.specs.Moments.{AllCaused, HeldInRun}
use Rattle.checked_run.specs.declared.account.Account.{Account}
use Rattle.checked_run.specs.declared.ended.Ended.{Ended}
use Rattle.checked_run.specs.declared.ended.Ended.TheVariants as ended
use Rattle.checked_run.specs.Told.{TellsAlways}

-- as many members as the sizes of the group say, of which there may be so many, with so many agents each
pub record IsCounted {C D P : Type 0} (group : Group D C P) : Type 0 where
  pub members : length group.crew.parts.items ≡ group.crew.sizes.sizes.members
  pub few : group.crew.sizes.sizes.members ≤ 32
  pub agents : group.crew.sizes.sizes.agents ≤ 16

-- a group that has just started, with this script, and with all its members
pub record Begins {C D P : Type 0} (directory : C → Directory) (script : Script) (group : Group D C P) : Type 0 where
  pub script_is : group.crew.script ≡ script
  pub fresh : IsFresh directory group
  pub journal : group.journal.items ≡ []
  pub faults : group.faults.items ≡ []
  pub fault : group.fault ≡ None
  pub counted : IsCounted group

-- A group restart was run over this disk, and was done, and left that of the group with the counter of its facility. Where the disk told what it
-- held, each member knows where the logs end.
pub record OpensOver {C D P : Type 0} (alive : D → Bool) (contents : D → Option Contents) (opened : D) (group : Group D C P) : Type 0 where
  pub restarts : IsOpenedTo alive contents opened group.crew.facility.counter group.disk
  pub known : AllKnowDisk (contents opened) (contents group.disk) group.crew.parts.items

-- some events lead from one group to the other; where there is a seed, each was drawn by a generator with it
pub record RunsBy {C D P : Type 0} (directory : C → Directory) (alive : D → Bool) (contents : D → Option Contents) (count : D → ℕ) (old : Group D C P) (seed : Option ℕ) (new : Group D C P) : Type 0 where
  pub from : RunsFrom directory alive contents count old new
  pub drawn : IfSome seed (λ s. (after : ℕ) × Draws directory alive contents count old s from.events new after)

-- From this group on the events of the journal lead to a group whose run has ended so, by this fault if by any, with these entries in the order
-- of their fates, these causes of refusals, and these places at which calls of the disk failed. Where there is a seed, each event was drawn from
-- those that are ready, by a generator with it. Each refused one has a cause that held where it is told, and each cause that is told is that of one,
-- unless the run has ended since what was wanted may not be done. Each answer about a lock that a member may read on the way was given by claims.
pub record LeadsFrom {C D P : Type 0} (directory : C → Directory) (alive : D → Bool) (contents : D → Option Contents) (count : D → ℕ) (start : Group D C P) (seed : Option ℕ) (account : Account) (end : RunEnd) (why : Option RunFault) (entries : List Entry) : Type 0 where
  pub last : Group D C P
  pub runs : RunsFresh directory alive contents count start account.journal last
  pub draws : IfSome seed (λ s. (after : ℕ) × Draws directory alive contents count start s account.journal last after)
  pub ends : Ends end last
  pub fault_is : last.fault ≡ why
  pub entries_are : last.crew.fates.entries ≡ entries
  pub causes_are : last.crew.fates.causes ≡ account.causes
  pub faults_are : last.faults.items ≡ account.faults
  pub caused : is_lawful why ≡ true → AllCaused (HeldInRun directory alive contents count start account.journal last) (record { entries = entries; causes = account.causes })
  pub answers : (events : List ℕ) (group : Group D C P) → RunsFresh directory alive contents count start events group → is_lawful group.fault ≡ true → AreGiven (Answered directory alive contents count start events group) group.crew.facility.lists.cells

-- They do so from a group with members of this type that has just started, with the script, over a disk that told this, where this was told.
pub record Leads {D : Type 0} (P : Type 0) (alive : D → Bool) (contents : D → Option Contents) (count : D → ℕ) (was : Option Contents) (script : Script) (seed : Option ℕ) (account : Account) (end : RunEnd) (why : Option RunFault) (entries : List Entry) : Type 0 where
  pub opened : D
  pub told : Becomes was (contents opened) Same
  pub start : Group D CacheState P
  pub begins : Begins directory_of script start
  pub opens : OpensOver alive contents opened start
  pub leads : LeadsFrom directory_of alive contents count start seed account end why entries

-- What is known of runs over a type of disks: whether each tells at every moment what it holds, and to which ends of a script the journals of
-- accounts lead over a disk that told this, by the seed if there is one.
pub record Kind : Type 1 where
  pub tells : Type 0
  pub leads : Option Contents → Script → Option ℕ → Account → RunEnd → Option RunFault → List Entry → Type 0

-- of groups with members of this type, by whether a disk is alive, what it tells, and how often it has failed
abbrev pub kind_of : {D : Type 0} → (P : Type 0) → (D → Bool) → (D → Option Contents) → (D → ℕ) → Kind
kind_of {D} P alive contents count = record { tells = TellsAlways contents; leads = Leads P alive contents count }

-- how a run has ended to which its journal leads, and what that comes to
pub record Came (Leads : RunEnd → Option RunFault → List Entry → Type 0) (Settles : RunEnd → Option RunFault → List Entry → Ended → Type 0) (ended : Ended) : Type 0 where
  pub end : RunEnd
  pub why : Option RunFault
  pub entries : List Entry
  pub leads : Leads end why entries
  pub settles : Settles end why entries ended

-- or memory was wanting
abbrev pub ComesTo : (RunEnd → Option RunFault → List Entry → Type 0) → (RunEnd → Option RunFault → List Entry → Ended → Type 0) → Ended → Type 0
ComesTo Leads Settles out = (out ≡ ended.NoMemory) ⊎ Came Leads Settles out
