-- What one call after another says of a disk that stays as it was.
use Rattle.std.proofs.Common.{◌≡◌, ℕ, ◌≤◌, Option, Some, None, Result, Ok, Err, refl, sym, ap, subst, ◌∙◌, arith}
use Rattle.std.specs.Prelude.{IsErrAnd, IsErrOf}
use Rattle.ds_base.specs.Causes.{Rose}
use Rattle.ds_disk.specs.Contents.{Contents, WhenTold, Becomes, Same}
use Rattle.table_copy.specs.declared.fault.CopyFault.{CopyFault}

pub same_self : (a : Option Contents) → Becomes a a Same
same_self None = tt
same_self (Some x) = refl

pub same_on : (a b c : Option Contents) → Becomes a b Same → Becomes b c Same → Becomes a c Same
same_on None b c h k = tt
same_on (Some x) None c h k = absurd h
same_on (Some x) (Some y) None h k = absurd k
same_on (Some x) (Some y) (Some z) h k = k ∙ h

-- what is told now was told then
pub told_before : (start now : Option Contents) (P : Contents → Type 0) → Becomes start now Same → WhenTold now P → WhenTold start P
told_before None now P s k = tt
told_before (Some c) None P s k = absurd s
told_before (Some c) (Some d) P s k = subst P s k

pub told_always : (start : Option Contents) (P : Contents → Type 0) → ((c : Contents) → P c) → WhenTold start P
told_always None P f = tt
told_always (Some c) P f = f c

-- what follows from one fact, and from two
pub told_by : (start : Option Contents) (P Q : Contents → Type 0) → ((c : Contents) → P c → Q c) → WhenTold start P → WhenTold start Q
told_by None P Q f p = tt
told_by (Some c) P Q f p = f c p

pub told_by_both : (start : Option Contents) (P Q R : Contents → Type 0) → ((c : Contents) → P c → Q c → R c) → WhenTold start P → WhenTold start Q → WhenTold start R
told_by_both None P Q R f p q = tt
told_by_both (Some c) P Q R f p q = f c p q

pub rose_from : (f0 f1 f2 : ℕ) → f0 ≤ f1 → Rose f1 f2 → Rose f0 f2
rose_from f0 f1 f2 le h = omega arith

-- an error that is handed on
pub handed_on : {T : Type 0} (P : Result T CopyFault → Type 0) (f : CopyFault) (r : Result T CopyFault) → IsErrAnd r (λ (z : CopyFault). z ≡ f) → P (Err f) → P r
handed_on P f (Ok y) is p = absurd is
handed_on P f (Err z) is p = subst (λ (g : CopyFault). P (Err g)) (sym is) p

-- the same error of a call that answers something else
pub as_err : {T U : Type 0} (e f : CopyFault) → IsErrOf {T = T} {E = CopyFault} (Err e) f → IsErrOf {T = U} {E = CopyFault} (Err e) f
as_err e f h = let same : e ≡ f = cc in ap (λ (x : CopyFault). Err x) same
