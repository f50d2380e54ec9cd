-- How the logs of a disk are read back.
use Rattle.std.specs.Prelude.{◌≡◌, ℕ, ◌+◌, ◌-◌, ◌^◌, ◌≤◌, min, Bool, true, Option, Result, Ok, Err, IfOk, IsErrOf}
use Rattle.ds_base.specs.Causes.{Rose}
use Rattle.ds_disk.specs.Contents.{Contents, Becomes}
use Rattle.opening_rows.specs.declared.fault.LogsFault.{LogsFault}
use Rattle.opening_rows.specs.declared.fault.LogsFault.TheVariants.{Failed, Damaged, NoMemory}
use Rattle.opening_rows.specs.Reading.{HasDamage}

-- nothing has changed, and this holds of the contents
abbrev pub Holds : (Contents → Type 0) → Contents → Contents → Type 0
Holds P c d = (d ≡ c) × P d

-- the count rose by two, or stands at the end of its type
abbrev pub RoseTwice : ℕ → ℕ → Type 0
RoseTwice before now = min (before + 2) (2 ^ 64 - 1) ≤ now

-- a log is said to be damaged only where it is
abbrev pub TellsDamage : {T : Type 0} → Option Contents → Option Contents → Result T LogsFault → Type 0
TellsDamage before after (Ok x) = Unit {0}
TellsDamage before after (Err Failed) = Unit {0}
TellsDamage before after (Err (Damaged member at)) = Becomes before after (Holds (HasDamage member at))
TellsDamage before after (Err NoMemory) = Unit {0}

-- The logs were read, once or twice, and whether a call has failed: from how often the disk had failed before the run on, so that the
-- run's calls are among them. Where the logs were not read, two have failed.
pub record ReadsBack {T : Type 0} (before after : Option Contents) (faults faults_now : ℕ) (failed : Bool) (Is : T → Contents → Type 0) (result : Result T LogsFault) : Type 0 where
  pub ok : IfOk result (λ x. Becomes before after (Holds (Is x)))
  pub one : failed ≡ true → Rose faults faults_now
  pub two : IsErrOf result Failed → RoseTwice faults faults_now × (failed ≡ true)
