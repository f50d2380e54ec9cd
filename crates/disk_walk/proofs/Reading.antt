-- What one reading after another says of a disk.
use Rattle.std.proofs.Common.{◌≡◌, ℕ, Option, Some, None, Result, Ok, Err, refl, subst, ◌∙◌}
use Rattle.std.specs.Prelude.{IfSome}
use Rattle.ds_disk.specs.Contents.{Contents, WhenTold, Becomes, Same}
use Rattle.ds_disk.specs.declared.disk.DiskError.{DiskError}
use Rattle.disk_walk.specs.Reading.{Reads}

pub same_self : (a : Option Contents) → Becomes a a Same
same_self None = tt
same_self (Some x) = refl

pub same_on : (a b c : Option Contents) → Becomes a b Same → Becomes b c Same → Becomes a c Same
same_on None b c h k = tt
same_on (Some x) None c h k = absurd h
same_on (Some x) (Some y) None h k = absurd k
same_on (Some x) (Some y) (Some z) h k = k ∙ h

-- what was told now was told then
pub told_before : (start now : Option Contents) (P : Contents → Type 0) → Becomes start now Same → WhenTold now P → WhenTold start P
told_before None now P s k = tt
told_before (Some c) None P s k = absurd s
told_before (Some c) (Some d) P s k = subst P s k

-- what holds of all contents, and what follows from one fact and from two
pub told_all : (start : Option Contents) (P : Contents → Type 0) → ((c : Contents) → P c) → WhenTold start P
told_all None P f = tt
told_all (Some c) P f = f c

pub told_by : (start : Option Contents) (P Q : Contents → Type 0) → ((c : Contents) → P c → Q c) → WhenTold start P → WhenTold start Q
told_by None P Q f p = tt
told_by (Some c) P Q f p = f c p

pub told_by_both : (start : Option Contents) (P Q R : Contents → Type 0) → ((c : Contents) → P c → Q c → R c) → WhenTold start P → WhenTold start Q → WhenTold start R
told_by_both None P Q R f p q = tt
told_by_both (Some c) P Q R f p q = f c p q

-- what follows from a reading
pub reads_as : {U : Type 0} (start end : Option Contents) (f0 f1 : ℕ) (P Q : U → Contents → Type 0) (result : Result U DiskError) → Reads start end f0 f1 P result → ((c : Contents) (u : U) → P u c → Q u c) → Reads start end f0 f1 Q result
reads_as start end f0 f1 P Q (Ok u) k f = record { ok = told_by start (P u) (Q u) (λ c. f c u) k.ok; failed = k.failed; same = k.same; later = k.later }
reads_as start end f0 f1 P Q (Err e) k f = record { ok = tt; failed = k.failed; same = k.same; later = k.later }

pub if_some_as : {A : Type 0} (o : Option A) (P Q : A → Type 0) → ((x : A) → P x → Q x) → IfSome o P → IfSome o Q
if_some_as None P Q f h = tt
if_some_as (Some x) P Q f h = f x h

pub if_some_is : {A : Type 0} (o : Option A) (x : A) (P : A → Type 0) → o ≡ Some x → IfSome o P → P x
if_some_is {A = A} o x P e h = subst (λ (v : Option A). IfSome v P) e h
