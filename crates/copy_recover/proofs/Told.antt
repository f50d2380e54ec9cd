-- What one call after another makes of a disk.
use Rattle.std.proofs.Common.{ℕ, ◌≤◌, Option, Some, None, arith}
use Rattle.ds_base.specs.Causes.{Rose}
use Rattle.ds_disk.specs.Contents.{Contents, Becomes}

pub rose_from : (f0 f1 f2 : ℕ) → f0 ≤ f1 → Rose f1 f2 → Rose f0 f2
rose_from f0 f1 f2 le h = omega arith

pub goes_self : (a : Option Contents) (P : Contents → Contents → Type 0) → ((x : Contents) → P x x) → Becomes a a P
goes_self None P h = tt
goes_self (Some x) P h = h x

pub goes_by : (a b : Option Contents) (P Q : Contents → Contents → Type 0) → ((x y : Contents) → P x y → Q x y) → Becomes a b P → Becomes a b Q
goes_by None b P Q f h = tt
goes_by (Some x) None P Q f h = absurd h
goes_by (Some x) (Some y) P Q f h = f x y h

pub goes_on : (a b c : Option Contents) (P Q R : Contents → Contents → Type 0) → ((x y z : Contents) → P x y → Q y z → R x z) → Becomes a b P → Becomes b c Q → Becomes a c R
goes_on None b c P Q R f h k = tt
goes_on (Some x) None c P Q R f h k = absurd h
goes_on (Some x) (Some y) None P Q R f h k = absurd k
goes_on (Some x) (Some y) (Some z) P Q R f h k = f x y z h k
