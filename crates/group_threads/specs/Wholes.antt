-- A group that is taken apart.
use Rattle.std.specs.Prelude.{◌≡◌, ℕ, ◌%◌, ◌≤◌, Bool, List, map, length, vec_len, Option, Some, None}
use Rattle.std.specs.Global.{Vec}
use Rattle.std.specs.Vec.{with_items}
use Rattle.ds_disk.specs.Contents.{Contents}
use Rattle.cache_structure.specs.Directory.{Directory}
use Rattle.group_member.specs.declared.part.MemberPart.{MemberPart}
use Rattle.group_core.specs.declared.group.Group.{Group}
use Rattle.turn_gate.specs.declared.answer.Look.{Look}
use Rattle.turn_gate.specs.declared.answer.Look.TheVariants as looked
use Rattle.turn_story.specs.Chains.{part_of, with_part}
use Rattle.group_threads.specs.declared.hand.Hand.{Hand}
use Rattle.group_threads.specs.declared.shared.Shared.{Shared}
use Rattle.group_core.specs.Fresh.{TakesFresh}

abbrev pub parts_in : {P : Type 0} → List (Hand P) → List (MemberPart P)
parts_in {P} hands = map (λ (h : Hand P). h.part) hands

-- the group that what is shared and these hands stand for, where the base was the list of its members
abbrev pub whole : {C D P : Type 0} → Vec (MemberPart P) → Shared D C P → List (Hand P) → Group D C P
whole {C} {D} {P} base shared hands = record shared.group { crew = record shared.group.crew { parts = with_items base (parts_in hands) } }

-- An event of the member with the hand p: whatever the others are, it is one of the whole group, before which what is ready may have
-- been found again. The disk's count doesn't fall.
pub record StepsHand {C D P : Type 0} (directory : C → Directory) (alive : D → Bool) (contents : D → Option Contents) (count : D → ℕ) (old : Shared D C P) (p : Hand P) (event : ℕ) (new : Shared D C P) (q : Hand P) : Type 0 where
  pub later : count old.group.disk ≤ count new.group.disk
  pub takes : (base : Vec (MemberPart P)) (hands : List (Hand P)) → length hands ≡ vec_len base → part_of hands (event % 64) ≡ Some p
      → TakesFresh directory alive contents count (whole base old hands) event (whole base new (with_part hands (event % 64) q))

-- What a look answers. It is over where the run has a fault, or all live members are done with the phase.
abbrev pub LooksHand : {C D P : Type 0} → Shared D C P → Hand P → ℕ → Look → Type 0
LooksHand {C} {D} {P} shared p from (looked.Ready event) = shared.group.fault ≡ None
LooksHand {C} {D} {P} shared p from looked.NotYet = shared.group.fault ≡ None
LooksHand {C} {D} {P} shared p from looked.Over = Unit {0}
