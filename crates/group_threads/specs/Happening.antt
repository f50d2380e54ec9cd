-- One event of one member, beside whose hand no other is seen.
use Rattle.std.specs.Prelude.{◌≡◌, ℕ, ◌/◌, ◌&&◌, Bool, true, false, not, Option, Some, None, is_some}
use Rattle.ds_disk.specs.Contents.{Contents}
use Rattle.cache_structure.specs.Directory.{Directory}
use Rattle.group_core.specs.Takes.{world_of}
use Rattle.group_member.specs.declared.part.MemberPart.{MemberPart}
use Rattle.group_member.specs.declared.stepped.Stepped.{Stepped}
use Rattle.choice_bits.specs.Choices.{has_choice}
use Rattle.group_member.specs.Happening.{Comes}
use Rattle.group_member.specs.Members.{member_of}
use Rattle.group_member.specs.Refusing.{IsRefused}
use Rattle.group_member.specs.Stepping.{has_failed}
use Rattle.group_core.specs.declared.fault.RunFault.{RunFault}
use Rattle.group_core.specs.declared.fault.RunFault.TheVariants as fault
use Rattle.group_threads.specs.declared.shared.Shared.{Shared}

-- what changes where it is noted whom an event concerns: marks for looks, and whether all members are done
pub record Concerns {C D P : Type 0} (old new : Shared D C P) : Type 0 where
  pub rest : new ≡ record old { group = record old.group { crew = record old.group.crew { was_half = new.group.crew.was_half; progress = record old.group.crew.progress { is_idle = new.group.crew.progress.is_idle } } }; stale = new.stale; listening = new.listening }

-- what no event of a member changes, once its number is in the journal
pub record Leaves {C D P : Type 0} (old new : Shared D C P) : Type 0 where
  pub rest : new ≡ record old { group = record old.group { disk = new.group.disk; crew = record old.group.crew { facility = new.group.crew.facility; fates = new.group.crew.fates; was_half = new.group.crew.was_half; progress = record old.group.crew.progress { is_idle = new.group.crew.progress.is_idle } } }; stale = new.stale; listening = new.listening }

-- the member has made a step of the choice, in which a call of the disk has failed or not, and knows of the ends of logs what it knew
pub record MadeAlone {C D P : Type 0} (directory : C → Directory) (alive : D → Bool) (contents : D → Option Contents) (old : Shared D C P) (p : MemberPart P) (choice place : ℕ) (new : Shared D C P) (q : MemberPart P) (failed : Bool) : Type 0 where
  pub stepped : Stepped
  pub failure : failed ≡ has_failed stepped
  pub comes : Comes old.group.crew.script old.group.crew.progress.begun old.group.crew.sizes.sizes choice (member_of p) (world_of directory alive contents old.group.crew.facility old.group.disk) old.group.crew.fates place stepped (member_of q) (world_of directory alive contents new.group.crew.facility new.group.disk) new.group.crew.fates
  pub known : q.known ≡ p.known

-- what was wanted may not be done
pub record RefusedAlone {C D P : Type 0} (directory : C → Directory) (alive : D → Bool) (contents : D → Option Contents) (old : Shared D C P) (p : MemberPart P) (place refused : ℕ) (new : Shared D C P) (failed : Bool) : Type 0 where
  pub there : refused ≡ place
  pub unfailed : failed ≡ false
  pub cause : IsRefused (member_of p) (world_of directory alive contents old.group.crew.facility old.group.disk) place (world_of directory alive contents new.group.crew.facility new.group.disk)

-- by the fault that is left
abbrev pub ByFault : {C D P : Type 0} → (C → Directory) → (D → Bool) → (D → Option Contents) → Option RunFault → Shared D C P → MemberPart P → ℕ → ℕ → Shared D C P → MemberPart P → Bool → Type 0
ByFault {C} {D} {P} directory alive contents None old p choice place new q failed = MadeAlone directory alive contents old p choice place new q failed
ByFault {C} {D} {P} directory alive contents (Some (fault.Damaged volume at)) old p choice place new q failed = MadeAlone directory alive contents old p choice place new q failed
ByFault {C} {D} {P} directory alive contents (Some (fault.Unlawful refused)) old p choice place new q failed = RefusedAlone directory alive contents old p place refused new failed
ByFault {C} {D} {P} directory alive contents (Some fault.Failed) old p choice place new q failed = ⊥
ByFault {C} {D} {P} directory alive contents (Some fault.NoMemory) old p choice place new q failed = ⊥

-- whether the event is taken: the run hasn't ended, and its choice is ready
abbrev pub takes_alone : {C D P : Type 0} → Shared D C P → MemberPart P → ℕ → Bool
takes_alone {C} {D} {P} shared p event = not (is_some shared.group.fault) && (not (is_some shared.group.crew.restart) && has_choice p.ready (event / 64))

-- the event was taken where it was ready, and changed nothing but the lines of the trace where it wasn't
pub record TakesAlone {C D P : Type 0} (directory : C → Directory) (alive : D → Bool) (contents : D → Option Contents) (old : Shared D C P) (p : MemberPart P) (event place : ℕ) (new : Shared D C P) (q : MemberPart P) (failed : Bool) : Type 0 where
  pub left : takes_alone old p event ≡ false → (new ≡ record old { group = record old.group { lines = new.group.lines } }) × (q ≡ p)
  pub missed : takes_alone old p event ≡ false → failed ≡ false
  pub rest : new ≡ record old { group = record old.group { disk = new.group.disk; crew = record old.group.crew { facility = new.group.crew.facility; fates = new.group.crew.fates; was_half = new.group.crew.was_half; progress = record old.group.crew.progress { is_idle = new.group.crew.progress.is_idle } }; lines = new.group.lines; fault = new.group.fault }; stale = new.stale; listening = new.listening }
  pub made : takes_alone old p event ≡ true → ByFault directory alive contents new.group.fault old p (event / 64) place new q failed
