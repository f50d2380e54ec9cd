-- Reading a source to its end, or to the first byte past a limit.
use Rattle.std.specs.Prelude.{ℕ, ◌+◌, ◌≤◌, List, length, Option, Result, IfOk, IsErrOf, Vec}
use Rattle.std.specs.declared.alloc.Global.{Global}
use Rattle.std.specs.Io.KnownBytes.{Consumes, IsAtEnd}
use Rattle.ds_base.specs.Causes.{Rose}
use Rattle.whole_streams.specs.declared.input.ReadError.{ReadError}
use Rattle.whole_streams.specs.declared.input.ReadError.TheVariants.{Failed}

-- these bytes were taken: all that was left, or one more than the limit
pub record WasRead (limit : ℕ) (left left_now : Option (List ℕ)) (bytes : List ℕ) : Type 0 where
  pub consumed : Consumes left left_now bytes
  pub short : length bytes ≤ limit + 1
  pub at_end : length bytes ≤ limit → IsAtEnd left_now

-- all was taken that may be; or a read failed, as the source counted
pub record ReadsAll (limit : ℕ) (left left_now : Option (List ℕ)) (faults faults_now : ℕ) (result : Result (Vec ℕ Global) ReadError) : Type 0 where
  pub ok : IfOk result (λ v. WasRead limit left left_now v.items)
  pub failed : IsErrOf result Failed → Rose faults faults_now
  pub later : faults ≤ faults_now
