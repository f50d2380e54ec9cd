-- How the disk has gone on from one step of a run to the next.
use Rattle.std.proofs.Common.{◌≡◌, ◌≢◌, ◌⊎◌, inl, inr, ℕ, ◌≤◌, Bool, true, false, List, [], ◌∷◌, ◌++◌, Option, Some, refl, sym, ◌∙◌, arith}
use Rattle.ds_base.specs.Causes.{Rose}
use Rattle.group_core.specs.declared.fault.RunFault.{RunFault}
use Rattle.group_core.specs.declared.fault.RunFault.TheVariants as fault
use Rattle.group_core.specs.Goes.{Goes, IsFailed, noted}

pub stays : (n : ℕ) (faults : List ℕ) (why : Option RunFault) → Goes n faults why n faults why
stays n faults why = record { later = omega arith; kept = λ has. has; rose = λ has. inl has; ended = λ is. inl is }

-- memory was wanting
pub wants : (n k : ℕ) (faults : List ℕ) (why why_now : Option RunFault) → n ≤ k → why_now ≡ Some fault.NoMemory → Goes n faults why k faults why_now
wants n k faults why why_now le is = record {
  later = le;
  kept = λ has. has;
  rose = λ has. inl has;
  ended = λ failed. let never : Some fault.NoMemory ≡ Some fault.Failed = sym is ∙ failed in cc;
}

more : (faults : List ℕ) (place : ℕ) → faults ++ place ∷ [] ≢ []
more [] place e = cc
more (first ∷ faults) place e = cc

-- one event, in which a call of the disk has failed or not
pub notes : (n k place : ℕ) (faults : List ℕ) (failed : Bool) (why why_now : Option RunFault) → n ≤ k → (failed ≡ true → Rose n k) → (IsFailed why_now → IsFailed why ⊎ (failed ≡ true))
    → Goes n faults why k (noted faults place failed) why_now
notes n k place faults true why why_now le rose ended = record {
  later = le;
  kept = λ has. more faults place;
  rose = λ has. inr (rose refl);
  ended = λ is. inr (more faults place);
}
notes n k place faults false why why_now le rose ended = record {
  later = le;
  kept = λ has. has;
  rose = λ has. inl has;
  ended = λ is. elim (ended is) [ inl was ↦ inl was | inr failed ↦ (let never : false ≡ true = failed in cc) ];
}

earlier : (n k m : ℕ) → n ≤ k → Rose k m → Rose n m
earlier n k m le rose = omega arith

later : (n k m : ℕ) → Rose n k → k ≤ m → Rose n m
later n k m rose le = omega arith

pub on : (n k m : ℕ) (f g h : List ℕ) (a b c : Option RunFault) → Goes n f a k g b → Goes k g b m h c → Goes n f a m h c
on n k m f g h a b c one two = record {
  later = (let first = one.later in let second = two.later in omega arith);
  kept = λ has. two.kept (one.kept has);
  rose = λ has. elim (two.rose has) [
    | inl was ↦ elim (one.rose was) [ inl first ↦ inl first | inr rose ↦ inr (later n k m rose two.later) ]
    | inr rose ↦ inr (earlier n k m one.later rose)
  ];
  ended = λ is. elim (two.ended is) [
    | inl was ↦ elim (one.ended was) [ inl first ↦ inl first | inr has ↦ inr (two.kept has) ]
    | inr has ↦ inr has
  ];
}
