-- What an event that is taken comes to.
use Rattle.std.proofs.Common.{◌≡◌, ◌≢◌, ◌⊎◌, inl, inr, ℕ, zero, suc, ◌-◌, ◌/◌, ◌%◌, ◌≤◌, Bool, true, false, not, ◌&&◌, List, [], ◌∷◌, length, map, Option, Some, None, is_some, refl, sym, ap, subst, ◌∙◌}
use Rattle.std.proofs.lemmas.Bool.{cases_Bool, cases_eq}
use Rattle.ds_disk.specs.Contents.{Contents}
use Rattle.cache_structure.specs.Directory.{Directory}
use Rattle.script_fates.specs.Fated.{FatesState}
use Rattle.group_crew.specs.declared.crew.Crew.{Crew}
use Rattle.group_crew.specs.Crews.{Keeps, Looks, unlooked}
use Rattle.group_crew.specs.Happening.{ComesAt, MemberPart, Stepped, member_at, world_of}
use Rattle.group_crew.specs.States.{known_by}
use Rattle.group_core.specs.declared.fault.RunFault.{RunFault}
use Rattle.group_core.specs.declared.fault.RunFault.TheVariants as fault
use Rattle.group_core.specs.declared.group.Group.{Group}
use Rattle.group_core.specs.Events.{takes}
use Rattle.group_core.specs.Goes.{Goes, IsFailed, ends_failed}
use Rattle.group_core.specs.Moves.{Moves}
use Rattle.group_core.specs.Takes.{IsMade, StepsAt, Takes, TakesMember, is_read}
use Rattle.group_core.proofs.Going.{notes}

pub unended : (why : Option RunFault) (ready : Bool) → (not (is_some why) && ready) ≡ true → why ≡ None
unended None ready holds = refl
unended (Some why) ready holds = cc

-- ---- the event of a member

pub made : {C D P : Type 0} (directory : C → Directory) (alive : D → Bool) (contents : D → Option Contents) (why : Option RunFault) (old : Crew C P) (disk : D) (at choice place : ℕ) (failed : Bool) (new : Crew C P) (left : D)
    → is_read why ≡ true → IsMade directory alive contents old disk at choice place failed new left → TakesMember directory alive contents why old disk at choice place failed new left
made directory alive contents None old disk at choice place failed new left holds it = it
made directory alive contents (Some fault.Failed) old disk at choice place failed new left holds it = cc
made directory alive contents (Some (fault.Damaged volume offset)) old disk at choice place failed new left holds it = it
made directory alive contents (Some (fault.Unlawful refused)) old disk at choice place failed new left holds it = cc
made directory alive contents (Some fault.NoMemory) old disk at choice place failed new left holds it = cc

member_unlooked : {P : Type 0} (parts : List (MemberPart P)) (k : ℕ) → member_at parts k ≡ member_at (map unlooked parts) k
member_unlooked [] k = refl
member_unlooked (part ∷ parts) zero = refl
member_unlooked (part ∷ parts) (suc k) = member_unlooked parts k

-- a look for ready choices leaves each member as it was
pub same_member : {C P : Type 0} (mid new : Crew C P) (k : ℕ) → Looks mid new → member_at new.parts.items k ≡ member_at mid.parts.items k
same_member mid new k looks = member_unlooked new.parts.items k ∙ (ap (λ parts. member_at parts k) looks.parts ∙ sym (member_unlooked mid.parts.items k))

known_unlooked : {P : Type 0} (parts : List (MemberPart P)) → map known_by parts ≡ map known_by (map unlooked parts)
known_unlooked [] = refl
known_unlooked (part ∷ parts) = λ i. known_by part ∷ known_unlooked parts i

-- nor does it change what they know
same_known : {C P : Type 0} (mid new : Crew C P) → Looks mid new → map known_by new.parts.items ≡ map known_by mid.parts.items
same_known mid new looks = known_unlooked new.parts.items ∙ (ap (map known_by) looks.parts ∙ sym (known_unlooked mid.parts.items))

pub stepped_at : {C D P : Type 0} (directory : C → Directory) (alive : D → Bool) (contents : D → Option Contents) (old : Crew C P) (disk : D) (at choice place : ℕ) (stepped : Stepped) (mid : Crew C P) (left : D)
    → ComesAt old.script old.progress.begun old.sizes.sizes choice (member_at old.parts.items at) (world_of directory alive contents old.facility disk) old.fates place stepped (member_at mid.parts.items at) (world_of directory alive contents mid.facility left) mid.fates
    → ((k : ℕ) → k ≢ at → member_at mid.parts.items k ≡ member_at old.parts.items k) → Keeps old mid → map known_by mid.parts.items ≡ map known_by old.parts.items
    → mid ≡ record old { facility = mid.facility; parts = mid.parts; fates = mid.fates; is_own_stale = mid.is_own_stale; was_half = mid.was_half } → StepsAt directory alive contents old disk at choice place stepped mid left
stepped_at {C} {D} {P} directory alive contents old disk at choice place stepped mid left comes others keeps known rest = record {
  comes = comes;
  others = others;
  keeps = keeps;
  known = known;
  groupfails = ap (λ (crew : Crew C P). crew.progress.groupfails) rest;
  sizes = ap (λ (crew : Crew C P). crew.sizes) rest;
}

pub kept : {C P : Type 0} (old mid new : Crew C P) → Keeps old mid → Looks mid new → Keeps old new
kept {C} {P} old mid new keeps looks = record {
  script = ap (λ (crew : Crew C P). crew.script) looks.rest ∙ keeps.script;
  begun = ap (λ (crew : Crew C P). crew.progress.begun) looks.rest ∙ keeps.begun;
  restart = ap (λ (crew : Crew C P). crew.restart) looks.rest ∙ keeps.restart;
}

pub looked : {C D P : Type 0} (directory : C → Directory) (alive : D → Bool) (contents : D → Option Contents) (old : Crew C P) (disk : D) (at choice place : ℕ) (stepped : Stepped) (mid new : Crew C P) (left : D)
    → StepsAt directory alive contents old disk at choice place stepped mid left → Looks mid new → StepsAt directory alive contents old disk at choice place stepped new left
looked {C} {D} {P} directory alive contents old disk at choice place stepped mid new left steps looks =
    let member : member_at mid.parts.items at ≡ member_at new.parts.items at = sym (same_member mid new at looks) in
    let facility = ap (λ (crew : Crew C P). crew.facility) (sym looks.rest) in
    let fates = ap (λ (crew : Crew C P). crew.fates) (sym looks.rest) in
    record {
      comes =
          subst (λ (f : FatesState). ComesAt old.script old.progress.begun old.sizes.sizes choice (member_at old.parts.items at) (world_of directory alive contents old.facility disk) old.fates place stepped (member_at new.parts.items at) (world_of directory alive contents new.facility left) f) fates
          (subst (λ w. ComesAt old.script old.progress.begun old.sizes.sizes choice (member_at old.parts.items at) (world_of directory alive contents old.facility disk) old.fates place stepped (member_at new.parts.items at) (world_of directory alive contents w left) mid.fates) facility
          (subst (λ m. ComesAt old.script old.progress.begun old.sizes.sizes choice (member_at old.parts.items at) (world_of directory alive contents old.facility disk) old.fates place stepped m (world_of directory alive contents mid.facility left) mid.fates) member steps.comes));
      others = λ k other. same_member mid new k looks ∙ steps.others k other;
      keeps = kept old mid new steps.keeps looks;
      known = same_known mid new looks ∙ steps.known;
      groupfails = ap (λ (crew : Crew C P). crew.progress.groupfails) looks.rest ∙ steps.groupfails;
      sizes = ap (λ (crew : Crew C P). crew.sizes) looks.rest ∙ steps.sizes;
    }

pub member_moves : {C P : Type 0} (directory : C → Directory) (event : ℕ) (old new : Crew C P) (why : Option RunFault) → event % 64 ≢ 0 → Keeps old new → Moves directory event old new why
member_moves directory event old new why other keeps = record {
  script = keeps.script;
  begins = λ is. absurd (other (ap (λ e. e % 64) is));
  stays = λ is. keeps.begun;
  fails = λ is. absurd (other (ap (λ e. e % 64) is));
  holds = λ is some. ap is_some keeps.restart ∙ some;
  ends = λ some none. (let both : true ≡ false = sym some ∙ (sym (ap is_some keeps.restart) ∙ none) in cc);
}

-- ---- any event

-- a run ends with a call of the disk that failed only in an event that is noted
ended_by : {C D P : Type 0} (directory : C → Directory) (alive : D → Bool) (contents : D → Option Contents) (count : D → ℕ) (old : Group D C P) (event : ℕ) (new : Group D C P)
    → (taken : Takes directory alive contents count old event new) → IsFailed new.fault → IsFailed old.fault ⊎ (taken.failed ≡ true)
ended_by {C} {D} {P} directory alive contents count old event new taken failed = elim (cases_Bool (takes old event)) [
  | inl holds ↦ elim (cases_eq (event % 64) 0) [
    | inl own ↦ inr ((taken.own holds own).failure ∙ ap ends_failed failed)
    | inr other ↦ (
        let never : ⊥ = subst (λ why. TakesMember directory alive contents why old.crew old.disk (event % 64 - 1) (event / 64) (length new.journal.items) taken.failed new.crew new.disk) failed (taken.member holds other) in
        absurd never
        )
  ]
  | inr fails ↦ inl (ap (λ (group : Group D C P). group.fault) (sym (taken.left fails)) ∙ failed)
]

pub goes_from : {C D P : Type 0} (directory : C → Directory) (alive : D → Bool) (contents : D → Option Contents) (count : D → ℕ) (old : Group D C P) (event : ℕ) (new : Group D C P)
    → Takes directory alive contents count old event new → count old.disk ≤ count new.disk → Goes (count old.disk) old.faults.items old.fault (count new.disk) new.faults.items new.fault
goes_from directory alive contents count old event new taken later =
    subst (λ faults. Goes (count old.disk) old.faults.items old.fault (count new.disk) faults new.fault) (sym taken.faults)
    (notes (count old.disk) (count new.disk) (length new.journal.items) old.faults.items taken.failed old.fault new.fault later taken.rose (ended_by directory alive contents count old event new taken))
