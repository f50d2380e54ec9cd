-- How a disk is read, and how a sink is written to, in a copy.
use Rattle.std.specs.Prelude.{◌≡◌, ◌⊎◌, ℕ, ◌≤◌, List, ◌++◌, Option, Result, IfOk, OnOk, OnErr, IsErrOf}
use Rattle.std.specs.Io.KnownBytes.{Appends}
use Rattle.ds_base.specs.Causes.{Rose}
use Rattle.ds_base.specs.declared.names.Volume.{Volume}
use Rattle.ds_disk.specs.Contents.{Contents, WhenTold, Becomes, Same}
use Rattle.table_copy.specs.declared.fault.CopyFault.{CopyFault}
use Rattle.table_copy.specs.declared.fault.CopyFault.TheVariants as fault

-- ---- a disk

-- the answer holds of what the disk told before the call, and so does what is wrong where damage is met; the disk stays as it was. The
-- call failed only where the disk counted a fault.
pub record Looks {T : Type 0} (before after : Option Contents) (faults faults_now : ℕ) (Is : T → Contents → Type 0) (IsWrong : Volume → ℕ → Contents → Type 0) (result : Result T CopyFault) : Type 0 where
  pub ok : IfOk result (λ x. WhenTold before (Is x))
  pub damaged : (volume : Volume) (at : ℕ) → IsErrOf result (fault.Damaged volume at) → WhenTold before (IsWrong volume at)
  pub failed : IsErrOf result fault.Disk → Rose faults faults_now
  pub no_source : IsErrOf result fault.Source → ⊥
  pub no_sink : IsErrOf result fault.Sink → ⊥
  pub no_image : (at : ℕ) → IsErrOf result (fault.Image at) → ⊥
  pub same : Becomes before after Same
  pub later : faults ≤ faults_now

-- ---- a sink

-- a front of the text was taken, which may be empty
pub record TakesFront (taken taken_now : Option (List ℕ)) (text : List ℕ) : Type 0 where
  pub front : List ℕ
  pub rest : List ℕ
  pub split : text ≡ front ++ rest
  pub bytes : Appends taken taken_now front

-- all of the text was taken; or a front of it, and the sink counted a fault, where memory was not wanting
pub record Gives (taken taken_now : Option (List ℕ)) (faults faults_now : ℕ) (text : List ℕ) (result : Result (Unit {0}) CopyFault) : Type 0 where
  pub ok : OnOk result (Appends taken taken_now text)
  pub front : OnErr result (TakesFront taken taken_now text)
  pub failed : IsErrOf result fault.Sink → Rose faults faults_now
  pub only : (f : CopyFault) → IsErrOf result f → (f ≡ fault.Sink) ⊎ (f ≡ fault.NoMemory)
  pub later : faults ≤ faults_now
