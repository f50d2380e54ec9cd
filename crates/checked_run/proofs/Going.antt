-- How the disk has gone on in a run that began without a fault.
use Rattle.std.proofs.Common.{◌≡◌, ◌⊎◌, inl, inr, ℕ, ◌≤◌, List, [], Option, Some, None, sym, ◌∙◌}
use Rattle.ds_base.specs.Causes.{Rose}
use Rattle.group_core.specs.declared.fault.RunFault.{RunFault}
use Rattle.group_core.specs.declared.fault.RunFault.TheVariants as fault
use Rattle.group_core.specs.Goes.{Goes, HasFailed, IsFailed}

called : (n k : ℕ) (fs gs : List ℕ) (a b : Option RunFault) → fs ≡ [] → Goes n fs a k gs b → HasFailed gs → Rose n k
called n k fs gs a b none goes failed = elim (goes.rose failed) [
  | inl was ↦ absurd (was none)
  | inr rose ↦ rose
]

pub risen : (n k : ℕ) (fs gs : List ℕ) (a b : Option RunFault) → fs ≡ [] → a ≡ None → Goes n fs a k gs b → HasFailed gs ⊎ IsFailed b → Rose n k
risen n k fs gs a b whole none goes e = elim e [
  | inl failed ↦ called n k fs gs a b whole goes failed
  | inr stopped ↦ elim (goes.ended stopped) [
    | inl was ↦ (let f : None ≡ Some fault.Failed = sym none ∙ was in cc)
    | inr failed ↦ called n k fs gs a b whole goes failed
  ]
]
