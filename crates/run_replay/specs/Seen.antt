-- What is seen in the course of a run, and since when claims stood.
use Rattle.std.specs.Prelude.{◌≡◌, ℕ, Bool, true, List, [], ◌∷◌, ◌++◌, map, Option}
use Rattle.ds_disk.specs.Contents.{Contents}
use Rattle.cache_structure.specs.Directory.{Directory}
use Rattle.ds_model.specs.declared.report.EventLine.{EventLine}
use Rattle.ds_model.specs.declared.script.Tran.{Tran}
use Rattle.lock_sights.specs.declared.sight.Sight.{Sight}
use Rattle.member_marks.specs.State.{MarksState}
use Rattle.claim_sights.specs.Dates.{sights_after}
use Rattle.claim_sights.specs.Seen.{asks, seen_before, seen_behind}
use Rattle.claim_sights.specs.declared.flag.Flag.{Flag}
use Rattle.claim_sights.specs.declared.quest.Quest.{Quest}
use Rattle.group_core.specs.Takes.{MemberPart}
use Rattle.group_core.specs.declared.group.Group.{Group}
use Rattle.run_replay.specs.Follows.{Follows}

-- what the members hold
abbrev pub marks_of : {P : Type 0} → List (MemberPart P) → List MarksState
marks_of {P} parts = map (λ part. part.resources.marks) parts

abbrev pub marks_in : {C D P : Type 0} → Group D C P → List MarksState
marks_in {C} {D} {P} group = marks_of group.crew.parts.items

-- The event of the line was taken, and what is seen before it and then behind it stands behind what was seen. Whether a wait is for a flag, the
-- policy of the member says.
pub record Looks {C D P : Type 0} (directory : C → Directory) (alive : D → Bool) (contents : D → Option Contents) (count : D → ℕ) (roster : List Tran) (quest : Quest) (old : Group D C P) (sights : List Sight) (event : EventLine) (new : Group D C P) (seen : List Sight) : Type 0 where
  pub follows : Follows directory alive contents count true old event new
  pub flag : Option Flag
  pub more : seen ≡ (sights ++ seen_before (marks_in old) quest event) ++ seen_behind (marks_in new) roster event.place quest (asks (marks_in old) quest.tran event) flag

-- the event of the line was taken, and behind it the sights were followed on
pub record Dates {C D P : Type 0} (directory : C → Directory) (alive : D → Bool) (contents : D → Option Contents) (count : D → ℕ) (old : Group D C P) (sights : List Sight) (event : EventLine) (new : Group D C P) (found : List Sight) : Type 0 where
  pub follows : Follows directory alive contents count true old event new
  pub after : found ≡ sights_after (marks_in new) event.place sights

-- one event after the other, with the sights so far
abbrev pub Runs : {C D P : Type 0} → (Group D C P → List Sight → EventLine → Group D C P → List Sight → Type 0) → Group D C P → List Sight → List EventLine → Group D C P → List Sight → Type 0
Runs {C} {D} {P} Step old sights [] new found = (new ≡ old) × (found ≡ sights)
Runs {C} {D} {P} Step old sights (event ∷ events) new found = (mid : Group D C P) × (more : List Sight) × Step old sights event mid more × Runs Step mid more events new found

abbrev pub LooksAll : {C D P : Type 0} → (C → Directory) → (D → Bool) → (D → Option Contents) → (D → ℕ) → List Tran → Quest → Group D C P → List Sight → List EventLine → Group D C P → List Sight → Type 0
LooksAll directory alive contents count roster quest old sights events new seen = Runs (Looks directory alive contents count roster quest) old sights events new seen

abbrev pub DatesAll : {C D P : Type 0} → (C → Directory) → (D → Bool) → (D → Option Contents) → (D → ℕ) → Group D C P → List Sight → List EventLine → Group D C P → List Sight → Type 0
DatesAll directory alive contents count old sights events new found = Runs (Dates directory alive contents count) old sights events new found
