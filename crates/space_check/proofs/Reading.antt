-- What one reading after another says of a disk.
use Rattle.std.proofs.Common.{◌≡◌, ℕ, ◌≤◌, true, Option, Some, None, Result, Ok, Err, refl, sym, subst, ◌∙◌, arith}
use Rattle.std.specs.Prelude.{is_some, IfOk, IfSome, IsErrOf}
use Rattle.ds_base.specs.Causes.{Rose}
use Rattle.ds_disk.specs.declared.disk.DiskError.{DiskError}
use Rattle.ds_disk.specs.declared.disk.DiskError.TheVariants.{Failed}
use Rattle.disk_spots.specs.declared.spot.Spot.{Spot}
use Rattle.disk_walk.specs.Reading.{Reads}
use Rattle.ds_disk.specs.Contents.{Contents, WhenTold, Becomes, Same}
use Rattle.space_check.specs.declared.verdict.Clause.{Clause}
use Rattle.space_check.specs.declared.verdict.Verdict.{Verdict}
use Rattle.space_check.specs.Telling.{unsound}

pub same_self : (a : Option Contents) → Becomes a a Same
same_self None = tt
same_self (Some x) = refl

pub same_on : (a b c : Option Contents) → Becomes a b Same → Becomes b c Same → Becomes a c Same
same_on None b c h k = tt
same_on (Some x) None c h k = absurd h
same_on (Some x) (Some y) None h k = absurd k
same_on (Some x) (Some y) (Some z) h k = k ∙ h

-- what was told now was told then
pub told_before : (start now : Option Contents) (P : Contents → Type 0) → Becomes start now Same → WhenTold now P → WhenTold start P
told_before None now P s k = tt
told_before (Some c) None P s k = absurd s
told_before (Some c) (Some d) P s k = subst P s k

-- what holds of all contents, and what follows from one fact and from two
pub told_all : (start : Option Contents) (P : Contents → Type 0) → ((c : Contents) → P c) → WhenTold start P
told_all None P f = tt
told_all (Some c) P f = f c

pub told_by : (start : Option Contents) (P Q : Contents → Type 0) → ((c : Contents) → P c → Q c) → WhenTold start P → WhenTold start Q
told_by None P Q f p = tt
told_by (Some c) P Q f p = f c p

pub told_by_both : (start : Option Contents) (P Q R : Contents → Type 0) → ((c : Contents) → P c → Q c → R c) → WhenTold start P → WhenTold start Q → WhenTold start R
told_by_both None P Q R f p q = tt
told_by_both (Some c) P Q R f p q = f c p q

rose_before : (a b c : ℕ) → a ≤ b → Rose b c → Rose a c
rose_before a b c le rose = omega (arith, le, rose)

-- ---- answers

-- without a reading
pub no_read : {U : Type 0} (start : Option Contents) (faults : ℕ) (R : U → Contents → Type 0) (u : U) → ((c : Contents) → R u c) → Reads start start faults faults R (Ok u)
no_read start faults R u f = record { ok = told_all start (R u) f; failed = λ e. absurd cc; same = same_self start; later = omega arith }

-- by one reading
pub one_read : {U : Type 0} (start end : Option Contents) (f0 f1 : ℕ) (P : Contents → Type 0) (R : U → Contents → Type 0) (u : U) → WhenTold start P → Becomes start end Same → f0 ≤ f1 → ((c : Contents) → P c → R u c)
    → Reads start end f0 f1 R (Ok u)
one_read start end f0 f1 P R u told same le f = record { ok = told_by start P (R u) f told; failed = λ e. absurd cc; same = same; later = le }

-- and by one that follows it
pub then_read : {U : Type 0} (start now end : Option Contents) (f0 f1 f2 : ℕ) (P : Contents → Type 0) (Q R : U → Contents → Type 0) (result : Result U DiskError) → WhenTold start P → Becomes start now Same → f0 ≤ f1
    → Reads now end f1 f2 Q result → ((c : Contents) (u : U) → P c → Q u c → R u c) → Reads start end f0 f2 R result
then_read start now end f0 f1 f2 P Q R (Ok u) told same le k f = record {
  ok = told_by_both start P (Q u) (R u) (λ c. f c u) told (told_before start now (Q u) same k.ok);
  failed = λ e. absurd cc;
  same = same_on start now end same k.same;
  later = (let later = k.later in omega (arith, le, later));
}
then_read start now end f0 f1 f2 P Q R (Err e) told same le k f = record {
  ok = tt;
  failed = λ is. rose_before f0 f1 f2 le (k.failed is);
  same = same_on start now end same k.same;
  later = (let later = k.later in omega (arith, le, later));
}

-- what follows from a reading
pub reads_as : {U : Type 0} (start end : Option Contents) (f0 f1 : ℕ) (P Q : U → Contents → Type 0) (result : Result U DiskError) → Reads start end f0 f1 P result → ((c : Contents) (u : U) → P u c → Q u c) → Reads start end f0 f1 Q result
reads_as start end f0 f1 P Q (Ok u) k f = record { ok = told_by start (P u) (Q u) (λ c. f c u) k.ok; failed = k.failed; same = k.same; later = k.later }
reads_as start end f0 f1 P Q (Err e) k f = record { ok = tt; failed = k.failed; same = k.same; later = k.later }

-- a verdict at a spot that was looked for, if there is one
pub spot_read : (start end : Option Contents) (f0 f1 : ℕ) (P : Contents → Type 0) (R : Verdict → Contents → Type 0) (found : Option Spot) (name : Clause) (result : Result Verdict DiskError) → WhenTold start P → Becomes start end Same → f0 ≤ f1
    → IfOk result (λ v. is_some found ≡ true) → IfOk result (λ v. IfSome found (λ at. v ≡ unsound name at)) → (IsErrOf result Failed → ⊥) → ((c : Contents) (at : Spot) → found ≡ Some at → P c → R (unsound name at) c) → Reads start end f0 f1 R result
spot_read start end f0 f1 P R found name (Err e) told same le some is unfailed f = record { ok = tt; failed = λ h. absurd (unfailed h); same = same; later = le }
spot_read start end f0 f1 P R None name (Ok v) told same le some is unfailed f = absurd cc
spot_read start end f0 f1 P R (Some at) name (Ok v) told same le some is unfailed f = record {
  ok = told_by start P (R v) (λ c p. subst (λ (w : Verdict). R w c) (sym is) (f c at refl p)) told;
  failed = λ e. absurd cc;
  same = same;
  later = le;
}

-- by two readings
pub two_read : {U : Type 0} (start now end : Option Contents) (f0 f1 f2 : ℕ) (P Q : Contents → Type 0) (R : U → Contents → Type 0) (u : U) → WhenTold start P → Becomes start now Same → f0 ≤ f1 → WhenTold now Q → Becomes now end Same → f1 ≤ f2
    → ((c : Contents) → P c → Q c → R u c) → Reads start end f0 f2 R (Ok u)
two_read start now end f0 f1 f2 P Q R u p same le q same_now le_now f = record {
  ok = told_by_both start P Q (R u) f p (told_before start now Q same q);
  failed = λ e. absurd cc;
  same = same_on start now end same same_now;
  later = omega (arith, le, le_now);
}

-- a reading behind two others
pub then_then_read : {U : Type 0} (start next now end : Option Contents) (f0 f1 f2 f3 : ℕ) (P Q : Contents → Type 0) (S R : U → Contents → Type 0) (result : Result U DiskError) → WhenTold start P → Becomes start next Same → f0 ≤ f1
    → WhenTold next Q → Becomes next now Same → f1 ≤ f2 → Reads now end f2 f3 S result → ((c : Contents) (u : U) → P c → Q c → S u c → R u c) → Reads start end f0 f3 R result
then_then_read start next now end f0 f1 f2 f3 P Q S R result p first le q second le_next k f =
    then_read start now end f0 f2 f3 (λ (c : Contents). P c × Q c) S R result
    (told_by_both start P Q (λ (c : Contents). P c × Q c) (λ c x y. (x, y)) p (told_before start next Q first q))
    (same_on start next now first second) (omega (arith, le, le_next)) k (λ c u both s. f c u both.0 both.1 s)
