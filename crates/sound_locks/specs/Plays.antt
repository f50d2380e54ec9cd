-- The locks of a run of which a call of the program tells.
use Rattle.std.specs.Prelude.{◌≡◌, ◌≢◌, ℕ, Bool, true, false, List, ◌++◌, Contains, Option, Some, None, is_some}
use Rattle.ds_base.specs.declared.row.Row.{Row}
use Rattle.ds_disk.specs.Contents.{Contents, WhenTold}
use Rattle.ds_model.specs.declared.history.Entry.{Entry}
use Rattle.ds_model.specs.declared.report.Report.{Report}
use Rattle.ds_model.specs.declared.script.Script.{Script}
use Rattle.cache_structure.specs.State.{CacheState, directory_of}
use Rattle.group_words.specs.declared.order.Order.{Order}
use Rattle.group_run.specs.declared.status.Status.{Status}
use Rattle.group_run.specs.declared.status.Status.TheVariants as status
use Rattle.group_run.specs.Ends.{Meets, PlaysNothing}
use Rattle.group_run.specs.Given.{Account, AnyMember, Leads, RunEnd, RunFault, kind_of}
use Rattle.group_run.specs.Outside.{Outside}
use Rattle.rested_logs.specs.Given.{CrewState, Group, IsSoundDisk, LeavesOutClosed, RunsFresh, crew_state}
use Rattle.rested_logs.specs.Given.fault_variants as fault
use Rattle.rested_logs.specs.Runs.{FailsSound}
use Rattle.sound_locks.specs.Claims.{ClaimsAreSound}
use Rattle.sound_locks.specs.Open.{FailedAreRetained}

-- ---- behind each event

-- these contents are told, and by their logs the rows that failed members have left open are retained
abbrev pub TellsRetained : Option Contents → CrewState → Type 0
TellsRetained None s = ⊥
TellsRetained (Some c) s = FailedAreRetained c s

-- The front of a journal leads to this group, and the rest leads on from it. Unless what was wanted in an event may not be done, its claims are sound;
-- and while no group restart is in hand, the disk tells contents by whose logs the rows that failed members have left open are retained.
pub record StandsAt {D P : Type 0} (alive : D → Bool) (contents : D → Option Contents) (count : D → ℕ) (start : Group D CacheState P) (front rest : List ℕ) (last : Group D CacheState P) : Type 0 where
  pub group : Group D CacheState P
  pub here : RunsFresh directory_of alive contents count start front group
  pub on : RunsFresh directory_of alive contents count group rest last
  pub sound : ((at : ℕ) → group.fault ≢ Some (fault.Unlawful at)) → ClaimsAreSound (crew_state directory_of group.crew)
  pub retained : ((at : ℕ) → group.fault ≢ Some (fault.Unlawful at)) → is_some group.crew.restart ≡ false → TellsRetained (contents group.disk) (crew_state directory_of group.crew)

-- so it is of each front
abbrev pub StaysSound : {D P : Type 0} → (D → Bool) → (D → Option Contents) → (D → ℕ) → Group D CacheState P → List ℕ → Group D CacheState P → Type 0
StaysSound {D} {P} alive contents count start journal last = (front rest : List ℕ) → journal ≡ front ++ rest → StandsAt alive contents count start front rest last

-- what is left out of the logs of the disk on which a run ended is closed, if it is sound, and no group restart is in hand
abbrev pub LeavesClosed : {D P : Type 0} → (D → Option Contents) → Group D CacheState P → Type 0
LeavesClosed {D} {P} contents last = is_some last.crew.restart ≡ false → WhenTold (contents last.disk) (λ c. IsSoundDisk c → LeavesOutClosed c)

-- ---- the run to which a journal leads

-- where each failure of the whole group leaves a sound disk
pub record KeepsLocks {D : Type 0} (P : Type 0) (alive : D → Bool) (contents : D → Option Contents) (count : D → ℕ) (start : Group D CacheState P) (journal : List ℕ) (last : Group D CacheState P) : Type 0 where
  pub stays : FailsSound directory_of alive contents count start journal → StaysSound alive contents count start journal last
  pub leaves : FailsSound directory_of alive contents count start journal → ((at : ℕ) → last.fault ≢ Some (fault.Unlawful at)) → LeavesClosed contents last

-- over a sound disk whose logs close what need not be read of them
abbrev pub LedKeepLocks : {D : Type 0} → (P : Type 0) → (D → Bool) → (D → Option Contents) → (D → ℕ) → Type 0
LedKeepLocks {D} P alive contents count = (was : Option Contents) (script : Script) (seed : Option ℕ) (account : Account) (end : RunEnd) (why : Option RunFault) (entries : List Entry) (c : Contents)
    → was ≡ Some c → IsSoundDisk c → LeavesOutClosed c
    → (leads : Leads P alive contents count was script seed account end why entries) → KeepsLocks P alive contents count leads.start account.journal leads.leads.last

-- a journal without a failure of the whole group has none that leaves another disk
abbrev pub UnfailedAreSound : {D : Type 0} → (P : Type 0) → (D → Bool) → (D → Option Contents) → (D → ℕ) → Type 0
UnfailedAreSound {D} P alive contents count = (start : Group D CacheState P) (journal : List ℕ) → (Contains journal 64 → ⊥) → FailsSound directory_of alive contents count start journal

-- ---- the run of which a call tells

pub record TellsLocked {D : Type 0} (alive : D → Bool) (contents : D → Option Contents) (count : D → ℕ) (was : Option Contents) (account : Account) : Type 0 where
  pub script : Script
  pub seed : Option ℕ
  pub end : RunEnd
  pub why : Option RunFault
  pub entries : List Entry
  pub leads : Leads AnyMember alive contents count was script seed account end why entries
  pub keeps : KeepsLocks AnyMember alive contents count leads.start account.journal leads.leads.last

-- a call that played has opened the disk, and memory was not wanting
abbrev pub PlaysKeepLocks : {D : Type 0} → (D → Bool) → (D → Option Contents) → (D → ℕ) → Type 0
PlaysKeepLocks {D} alive contents count = (o : Option Order) (before after : Outside) (met : Status) (text : List ℕ) (opening : List Row) (account : Account) (report : Report)
    → Meets (kind_of AnyMember alive contents count) o before after met text true opening account report → (PlaysNothing o → ⊥) → met ≢ status.NoMemory
    → WhenTold before.contents (λ c. IsSoundDisk c → LeavesOutClosed c → TellsLocked alive contents count before.contents account)
