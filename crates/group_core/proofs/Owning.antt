-- What an event of the group itself comes to.
use Rattle.std.proofs.Common.{◌≡◌, ◌≢◌, ℕ, Bool, false, List, length, Option, Some, None, IfSome, slice_get, refl, sym, subst}
use Rattle.ds_disk.specs.Contents.{Contents}
use Rattle.cache_structure.specs.Directory.{Directory}
use Rattle.group_restart.specs.Machine.{Restart}
use Rattle.group_crew.specs.declared.crew.Crew.{Crew}
use Rattle.group_crew.specs.Beginning.{BeginsNext, CannotBegin}
use Rattle.group_crew.specs.Failing.{GroupFails, fail_counted}
use Rattle.group_crew.specs.Happening.{MemberPart}
use Rattle.group_crew.specs.States.{CrewState, crew_state}
use Rattle.group_core.specs.declared.fault.RunFault.{RunFault}
use Rattle.group_core.specs.declared.fault.RunFault.TheVariants as fault
use Rattle.group_core.specs.Goes.{ends_failed}
use Rattle.group_core.specs.Restarts.{RestartSteps, StepIsKnown}
use Rattle.group_core.specs.Takes.{BeginsOrNot, TakesOwn}

pub own_begun : {C D P : Type 0} (directory : C → Directory) (alive : D → Bool) (contents : D → Option Contents) (old new : Crew C P) (disk : D) (place : ℕ)
    → BeginsNext (crew_state directory old) (crew_state directory new) → TakesOwn directory alive contents None old disk 0 place false new disk
own_begun directory alive contents old new disk place it = record {
  failure = refl;
  restarts = λ is. cc;
  refused = λ at is. cc;
  begins = λ is. it;
  fails = λ is. cc;
  goes = λ is. cc;
  still = λ other. refl;
}

pub own_unbegun : {C D P : Type 0} (directory : C → Directory) (alive : D → Bool) (contents : D → Option Contents) (old new : Crew C P) (disk : D) (place : ℕ)
    → CannotBegin (slice_get old.script.phases old.progress.begun) old.facility.lists.bells (length old.parts.items) → TakesOwn directory alive contents (Some (fault.Unlawful place)) old disk 0 place false new disk
own_unbegun directory alive contents old new disk place it = record {
  failure = refl;
  restarts = λ is. cc;
  refused = λ at is. record { there = cc; begins = refl; cause = it };
  begins = λ is. record { there = refl; begins = refl; cause = it };
  fails = λ is. cc;
  goes = λ is. cc;
  still = λ other. refl;
}

pub own_failed : {C D P : Type 0} (directory : C → Directory) (alive : D → Bool) (contents : D → Option Contents) (old new : Crew C P) (disk : D) (event place : ℕ)
    → event ≢ 0 → event ≢ 128 → GroupFails (fail_counted (crew_state directory old)) (crew_state directory new) → TakesOwn directory alive contents None old disk event place false new disk
own_failed directory alive contents old new disk event place begins goes it = record {
  failure = refl;
  restarts = λ is. cc;
  refused = λ at is. cc;
  begins = λ is. absurd (begins is);
  fails = λ is. (refl, it);
  goes = λ is. absurd (goes is);
  still = λ other. refl;
}

pub own_stepped : {C D P : Type 0} (directory : C → Directory) (alive : D → Bool) (contents : D → Option Contents) (why : Option RunFault) (old new : Crew C P) (disk left : D) (place : ℕ) (failed : Bool)
    → failed ≡ ends_failed why → ((at : ℕ) → why ≢ Some (fault.Unlawful at))
    → IfSome old.restart (λ restart. RestartSteps alive contents why (crew_state directory old) restart disk (crew_state directory new) left) → TakesOwn directory alive contents why old disk 128 place failed new left
own_stepped directory alive contents why old new disk left place failed failure lawful it = record {
  failure = failure;
  restarts = λ is. refl;
  refused = λ at is. absurd (lawful at is);
  begins = λ is. cc;
  fails = λ is. cc;
  goes = λ is. it;
  still = λ other. absurd (other refl);
}

pub steps_in_hand : {D : Type 0} (alive : D → Bool) (contents : D → Option Contents) (why : Option RunFault) (old : CrewState) (o : Option Restart) (restart : Restart) (disk : D) (new : CrewState) (left : D)
    → o ≡ Some restart → RestartSteps alive contents why old restart disk new left → IfSome o (λ r. RestartSteps alive contents why old r disk new left)
steps_in_hand alive contents why old o restart disk new left is it = subst (λ (p : Option Restart). IfSome p (λ r. RestartSteps alive contents why old r disk new left)) (sym is) it

-- what is known behind the restart in hand
pub known_in_hand : {D P : Type 0} (alive : D → Bool) (contents : D → Option Contents) (o : Option Restart) (restart : Restart) (disk left : D) (old new : List (MemberPart P))
    → o ≡ Some restart → StepIsKnown alive contents restart disk left old new → IfSome o (λ r. StepIsKnown alive contents r disk left old new)
known_in_hand alive contents o restart disk left old new is it = subst (λ (p : Option Restart). IfSome p (λ r. StepIsKnown alive contents r disk left old new)) (sym is) it

-- ---- what is ready was found again

begins_looked : {C P : Type 0} (directory : C → Directory) (why : Option RunFault) (old : Crew C P) (event place : ℕ) (mid new : Crew C P)
    → crew_state directory new ≡ crew_state directory mid → BeginsOrNot directory why old event place mid → BeginsOrNot directory why old event place new
begins_looked directory None old event place mid new same it = subst (λ (s : CrewState). BeginsNext (crew_state directory old) s) (sym same) it
begins_looked directory (Some fault.Failed) old event place mid new same it = it
begins_looked directory (Some (fault.Damaged volume at)) old event place mid new same it = it
begins_looked directory (Some (fault.Unlawful refused)) old event place mid new same it = it
begins_looked directory (Some fault.NoMemory) old event place mid new same it = it

pub own_looked : {C D P : Type 0} (directory : C → Directory) (alive : D → Bool) (contents : D → Option Contents) (why : Option RunFault) (old : Crew C P) (disk : D) (event place : ℕ) (failed : Bool) (mid new : Crew C P) (left : D)
    → crew_state directory new ≡ crew_state directory mid → TakesOwn directory alive contents why old disk event place failed mid left → TakesOwn directory alive contents why old disk event place failed new left
own_looked directory alive contents why old disk event place failed mid new left same it = record {
  failure = it.failure;
  restarts = it.restarts;
  refused = it.refused;
  begins = λ is. begins_looked directory why old event place mid new same (it.begins is);
  fails = λ is. subst (λ (s : CrewState). (why ≡ None) × GroupFails (fail_counted (crew_state directory old)) s) (sym same) (it.fails is);
  goes = λ is. subst (λ (s : CrewState). IfSome old.restart (λ (restart : Restart). RestartSteps alive contents why (crew_state directory old) restart disk s left)) (sym same) (it.goes is);
  still = it.still;
}
