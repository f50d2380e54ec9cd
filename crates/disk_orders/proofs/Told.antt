-- What one call after another says of a disk.
use Rattle.std.proofs.Common.{◌≡◌, ℕ, ◌≤◌, Option, Some, None, Err, sym, ap, subst, arith}
use Rattle.std.specs.Prelude.{IsErrOf}
use Rattle.ds_base.specs.Causes.{Rose}
use Rattle.ds_disk.specs.Contents.{Contents, WhenTold, Becomes, Same}
use Rattle.table_copy.specs.declared.fault.CopyFault.{CopyFault}

-- what went on in some way, and then stayed as it was, went on in this way
pub stays_on : (a b c : Option Contents) (P : Contents → Contents → Type 0) → Becomes a b P → Becomes b c Same → Becomes a c P
stays_on None b c P h k = tt
stays_on (Some x) None c P h k = absurd h
stays_on (Some x) (Some y) None P h k = absurd k
stays_on (Some x) (Some y) (Some z) P h k = subst (P x) (sym k) h

-- what is told where it went on, of the contents behind
pub told_behind : (a b : Option Contents) (P : Contents → Contents → Type 0) (Q : Contents → Type 0) → Becomes a b P → WhenTold b Q → Becomes a b (λ was c. Q c)
told_behind None b P Q h q = tt
told_behind (Some x) None P Q h q = absurd h
told_behind (Some x) (Some y) P Q h q = q

pub rose_on : (a b c : ℕ) → a ≤ b → Rose b c → Rose a c
rose_on a b c le h = omega arith

-- a fault, as an error
pub err : {T : Type 0} (x y : CopyFault) → x ≡ y → IsErrOf {T = T} {E = CopyFault} (Err x) y
err x y e = ap (λ (z : CopyFault). Err z) e

-- the same error of a call that answers something else
pub as_err : {T U : Type 0} (x y : CopyFault) → IsErrOf {T = T} {E = CopyFault} (Err x) y → IsErrOf {T = U} {E = CopyFault} (Err x) y
as_err x y h = let same : x ≡ y = cc in ap (λ (z : CopyFault). Err z) same
