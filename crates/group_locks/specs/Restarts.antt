-- The events of a restart, in its group.
use Rattle.std.specs.Prelude.{◌≡◌, ◌≢◌, ◌⊎◌, ℕ, true, false, Some, IfSome, is_some, length, slice_get}
use Rattle.list_structure.specs.declared.standing.MemberStatus.TheVariants.{Restarting}
use Rattle.list_structure.specs.Standings.{status_of}
use Rattle.member_intents.specs.declared.outcome.Answered.{Answered}
use Rattle.member_resources.specs.Events.{Drive}
use Rattle.restart_marks.specs.Adopt.{adopted_told}
use Rattle.restart_marks.specs.declared.intent.RestartSent.{RestartSent}
use Rattle.restart_records.specs.Trans.{opened_among}
use Rattle.group_member.specs.declared.stepped.Stepped.TheVariants as steps
use Rattle.group_member.specs.Happening.{Steps}
use Rattle.group_member.specs.Members.{Member}
use Rattle.group_member.specs.Stepping.{is_failure}
use Rattle.group_core.specs.Given.{CrewState}
use Rattle.lock_protocol.specs.Machine.{World, given_up}
use Rattle.lock_restarts.specs.Changes.{gone_by}
use Rattle.lock_restarts.specs.Courses.{HasHandedOver}
use Rattle.lock_restarts.specs.Stands.{Spares}
use Rattle.group_locks.specs.Adopting.{HaveClaimed}
use Rattle.group_locks.specs.Events.{Moves, OfMember}
use Rattle.group_locks.specs.Stands.{LocksTied}

-- the world without the member's claims on names whose retained records the restart has freed
abbrev pub freed_world : World → ℕ → RestartSent → World
freed_world w m x = given_up w m (λ o c. gone_by x c)

-- The member at this place restarts, and its restart has made an event, in which no call of the disk failed. No other member has changed. Where
-- the restart isn't over, and hands over to its member what it leaves open, each of these transactions has claims in the world on all that it
-- has changed, and none of them on a name whose record the event has freed.
pub record RestartStepsAt (old new : CrewState) (at : ℕ) (m n : Member) (w : World) : Type 0 where
  pub had : slice_get old.members at ≡ Some m
  pub has : slice_get new.members at ≡ Some n
  pub count : length new.members ≡ length old.members
  pub others : (k : ℕ) → k ≢ at → slice_get new.members k ≡ slice_get old.members k
  pub sizes : new.sizes ≡ old.sizes
  pub restarting : status_of old.facility.lists.statuses m.id ≡ Restarting
  pub drive : Drive
  pub left : Drive
  pub place : ℕ
  pub sent : RestartSent
  pub answered : Answered
  pub unfailed : is_failure answered ≡ false
  pub made : Steps m (record { facility = old.facility; drive = drive }) old.fates place (steps.Restart sent answered) n (record { facility = new.facility; drive = left }) new.fates
  pub opened : made.makes.reached.resources.marks.is_up ≡ false → is_some (adopted_told made.makes.reached.resources.marks) ≡ true
      → HaveClaimed (freed_world w m.id sent) m.id (opened_among made.makes.reached.resources.marks.trans.list)

-- As long as its restart goes on, and has handed nothing over, the moves leave the claims of the member's rollbacks, but for those on the name whose
-- record the event has freed.
pub record RestartMoves (old new : CrewState) (w : World) (m n : Member) (x : RestartSent) : Type 0 where
  pub moves : Moves (OfMember m.id) old new w
  pub spares : IfSome n.restart (λ q. Spares w moves.world m.id (gone_by x) ⊎ HasHandedOver q.resources.marks)

abbrev pub RestartStepsMove : Type 0
RestartStepsMove = (old new : CrewState) (at : ℕ) (m n : Member) (w : World) → LocksTied old w → (e : RestartStepsAt old new at m n w) → RestartMoves old new w m n e.sent
