-- What the check of a disk comes to.
use Rattle.std.specs.Prelude.{ℕ, ◌≤◌, Option}
use Rattle.ds_base.specs.Causes.{Rose}
use Rattle.ds_disk.specs.Contents.{Contents, WhenTold, Becomes, Same}
use Rattle.disk_orders.specs.declared.checks.Checked.{Checked}
use Rattle.disk_orders.specs.declared.checks.Checked.TheVariants as checked
-- given out again: a clause that doesn't hold, and its spot
pub use Rattle.space_check.specs.declared.verdict.Breach.{Breach}
use Rattle.space_check.specs.declared.verdict.Verdict.TheVariants as verdict
use Rattle.space_check.specs.Verdicts.{IsTold}

-- of what the disk told it is right to say that it is sound, with so many pages and rows; 1,024 pages are read behind the last of a page set
abbrev pub IsSound : Option Contents → ℕ → ℕ → Type 0
IsSound was pages rows = WhenTold was (λ c. IsTold c 1024 (verdict.Sound pages rows))

-- or that this clause is the first that doesn't hold
abbrev pub IsUnsound : Option Contents → Breach → Type 0
IsUnsound was breach = WhenTold was (λ c. IsTold c 1024 (verdict.Unsound breach))

-- what is told holds of what the disk told, and a call failed only where the disk counted it
abbrev pub Holds : Option Contents → ℕ → ℕ → Checked → Type 0
Holds was faults faults_now (checked.Sound pages rows) = IsSound was pages rows
Holds was faults faults_now (checked.Unsound breach) = IsUnsound was breach
Holds was faults faults_now checked.Failed = Rose faults faults_now
Holds was faults faults_now checked.NoMemory = Unit {0}

-- the disk stays as it was, whatever is told
pub record IsChecked (before after : Option Contents) (faults faults_now : ℕ) (told : Checked) : Type 0 where
  pub holds : Holds before faults faults_now told
  pub same : Becomes before after Same
  pub later : faults ≤ faults_now
