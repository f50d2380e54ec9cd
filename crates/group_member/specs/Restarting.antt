-- How the restart in hand goes on behind an event of it that was answered.
use Rattle.std.specs.Prelude.{◌≡◌, Bool, false, Option, Some, None, IsSomeAnd}
use Rattle.member_resources.specs.Held.{Held}
use Rattle.restart_marks.specs.Adopt.{adopted_told}
use Rattle.restart_marks.specs.declared.adopt.Adopted.{Adopted}
-- given out again: nothing of a restart is done, and up to where the member's log is known to be whole records
pub use Rattle.member_restart.specs.Held.{IsNew, KnowsTo}
use Rattle.group_member.specs.declared.restarting.Restarting.{Restarting}
use Rattle.group_member.specs.Adopting.{MayNotAdopt}
use Rattle.group_member.specs.Happening.{GoesOn, HandsOver, Takes}

abbrev pub is_up_in : Option Restarting → Bool
is_up_in None = false
is_up_in (Some q) = q.resources.marks.is_up

abbrev pub TakesFrom : Option Restarting → Option Adopted → Option Restarting → Type 0
TakesFrom None left r = (left ≡ None) × (r ≡ None)
TakesFrom (Some q) left r = IsSomeAnd r (Takes q left)

abbrev pub HandsOverFrom : Option Restarting → Held → Option Restarting → Held → Type 0
HandsOverFrom None h r k = (r ≡ None) × (k ≡ h)
HandsOverFrom (Some q) h r k = HandsOver q h r k

abbrev pub GoesOnFrom : Option Restarting → Held → Option Restarting → Held → Type 0
GoesOnFrom None h r k = (r ≡ None) × (k ≡ h)
GoesOnFrom (Some q) h r k = GoesOn q.resources.marks.is_up q h r k

-- a transaction that it leaves open may not be adopted
pub record LeftIsRefused (q : Restarting) (h : Held) : Type 0 where
  pub left : Adopted
  pub leaves : adopted_told q.resources.marks ≡ Some left
  pub fails : MayNotAdopt h left.by left.trans

abbrev pub OpenIsRefused : Option Restarting → Held → Type 0
OpenIsRefused None h = ⊥
OpenIsRefused (Some q) h = LeftIsRefused q h
