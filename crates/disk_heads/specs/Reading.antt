-- How the log of a member is read from a disk by blocks.
use Rattle.std.specs.Prelude.{◌≡◌, ℕ, ◌+◌, ◌≤◌, List, length, take, drop, Option, None, Some, Result, Ok, Err, IfOk, IsErrOf}
use Rattle.ds_base.specs.Causes.{Rose}
use Rattle.ds_disk.specs.Contents.{Contents, WhenTold, Becomes, Same}
use Rattle.log_record.specs.Logs.{Parts}
use Rattle.log_volume.specs.declared.fault.LogFault.{LogFault}
use Rattle.log_volume.specs.declared.fault.LogFault.TheVariants.{Failed, Damaged}
use Rattle.log_head.specs.declared.standing.Standing.{Standing}
use Rattle.log_head.specs.declared.standing.Standing.TheVariants as standing
use Rattle.log_head.specs.Heads.{HeadState, IsOf}
use Rattle.log_end.specs.Ends.{end_of}

-- what was read is the disk's, where it tells what it holds; or a log is damaged, or a call failed, as the disk counted; and nothing
-- has changed
pub record Reads {T : Type 0} (before after : Option Contents) (faults faults_now : ℕ) (Is : T → Contents → Type 0) (IsBad : ℕ → Contents → Type 0) (result : Result T LogFault) : Type 0 where
  pub ok : IfOk result (λ x. WhenTold before (Is x))
  pub damaged : (at : ℕ) → IsErrOf result (Damaged at) → WhenTold before (IsBad at)
  pub failed : IsErrOf result Failed → Rose faults faults_now
  pub same : Becomes before after Same
  pub later : faults ≤ faults_now

-- no log is said to be damaged
abbrev pub Never : ℕ → Contents → Type 0
Never at c = ⊥

-- these are the log's bytes from this one on, if it has as many
abbrev pub AreAt : List ℕ → ℕ → List ℕ → Type 0
AreAt log at bytes = at + length bytes ≤ length log → bytes ≡ take (length bytes) (drop at log)

-- the whole records of these parts end here
abbrev pub EndsIn : ℕ → Result Parts ℕ → Type 0
EndsIn n (Ok p) = p.size ≡ n
EndsIn n (Err at) = ⊥

-- which bytes are wanted: from where on, and how many
abbrev pub wanted_of : Standing → Option (ℕ × ℕ)
wanted_of standing.Ready = None
wanted_of (standing.Wants at count) = Some (at, count)
wanted_of (standing.Bad at) = None
wanted_of (standing.Ends at) = None

-- a log that was read up to some place is read further, and ends where it did
abbrev pub KeepsEnd : List ℕ → HeadState → HeadState → Type 0
KeepsEnd log old new = IsOf log old → IsOf log new × (end_of log new ≡ end_of log old)
