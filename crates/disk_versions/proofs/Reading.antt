-- What one reading after another says of a disk.
use Rattle.std.proofs.Common.{◌≡◌, ℕ, ◌≤◌, Option, Some, None, Result, Ok, Err, refl, subst, ◌∙◌, arith}
use Rattle.ds_base.specs.Causes.{Rose}
use Rattle.ds_disk.specs.declared.disk.DiskError.{DiskError}
use Rattle.ds_disk.specs.Contents.{Contents, WhenTold, Becomes, Same}
use Rattle.disk_versions.specs.Reading.{Reads}

pub same_self : (a : Option Contents) → Becomes a a Same
same_self None = tt
same_self (Some x) = refl

pub same_on : (a b c : Option Contents) → Becomes a b Same → Becomes b c Same → Becomes a c Same
same_on None b c h k = tt
same_on (Some x) None c h k = absurd h
same_on (Some x) (Some y) None h k = absurd k
same_on (Some x) (Some y) (Some z) h k = k ∙ h

-- what is told now was told then
pub told_before : (start now : Option Contents) (P : Contents → Type 0) → Becomes start now Same → WhenTold now P → WhenTold start P
told_before None now P s k = tt
told_before (Some c) None P s k = absurd s
told_before (Some c) (Some d) P s k = subst P s k

-- what holds of all contents, and what follows from one fact, and from two
pub told_all : (start : Option Contents) (P : Contents → Type 0) → ((c : Contents) → P c) → WhenTold start P
told_all None P f = tt
told_all (Some c) P f = f c

pub told_by : (start : Option Contents) (P Q : Contents → Type 0) → ((c : Contents) → P c → Q c) → WhenTold start P → WhenTold start Q
told_by None P Q f p = tt
told_by (Some c) P Q f p = f c p

pub told_by_both : (start : Option Contents) (P Q R : Contents → Type 0) → ((c : Contents) → P c → Q c → R c) → WhenTold start P → WhenTold start Q → WhenTold start R
told_by_both None P Q R f p q = tt
told_by_both (Some c) P Q R f p q = f c p q

rose_before : (a b c : ℕ) → a ≤ b → Rose b c → Rose a c
rose_before a b c le rose = omega (arith, le, rose)

-- ---- answers

-- without a reading
pub no_read : {U : Type 0} (start : Option Contents) (faults : ℕ) (R : U → Contents → Type 0) (u : U) → ((c : Contents) → R u c) → Reads start start faults faults R (Ok u)
no_read start faults R u f = record { ok = told_all start (R u) f; failed = λ e. absurd cc; same = same_self start; later = omega arith }

-- by one reading
pub one_read : {U : Type 0} (start end : Option Contents) (f0 f1 : ℕ) (P : Contents → Type 0) (R : U → Contents → Type 0) (u : U) → WhenTold start P → Becomes start end Same → f0 ≤ f1 → ((c : Contents) → P c → R u c)
    → Reads start end f0 f1 R (Ok u)
one_read start end f0 f1 P R u told same le f = record { ok = told_by start P (R u) f told; failed = λ e. absurd cc; same = same; later = le }

-- and by one that follows it
pub then_read : {U : Type 0} (start now end : Option Contents) (f0 f1 f2 : ℕ) (P : Contents → Type 0) (Q R : U → Contents → Type 0) (result : Result U DiskError) → WhenTold start P → Becomes start now Same → f0 ≤ f1
    → Reads now end f1 f2 Q result → ((c : Contents) (u : U) → P c → Q u c → R u c) → Reads start end f0 f2 R result
then_read start now end f0 f1 f2 P Q R (Ok u) told same le k f = record {
  ok = told_by_both start P (Q u) (R u) (λ c. f c u) told (told_before start now (Q u) same k.ok);
  failed = λ e. absurd cc;
  same = same_on start now end same k.same;
  later = (let later = k.later in omega (arith, le, later));
}
then_read start now end f0 f1 f2 P Q R (Err e) told same le k f = record {
  ok = tt;
  failed = λ is. rose_before f0 f1 f2 le (k.failed is);
  same = same_on start now end same k.same;
  later = (let later = k.later in omega (arith, le, later));
}
