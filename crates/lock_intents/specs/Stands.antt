-- A member that is up, beside the claims of all members and a world of locks.
use Rattle.std.specs.Prelude.{◌≡◌, ◌≢◌, ℕ, ◌≤◌, List, length}
use Rattle.ds_base.specs.Ids.{IsMember}
use Rattle.list_structure.specs.declared.standing.MemberStatus.TheVariants.{Up}
use Rattle.list_structure.specs.Standings.{status_of}
use Rattle.facility.specs.States.{Held}
use Rattle.member_marks.specs.State.{MarksState}
use Rattle.lock_protocol.specs.Machine.{World}
use Rattle.lock_protocol.specs.Moves.{Move}
use Rattle.lock_protocol.specs.Own.{AreOf}
use Rattle.lock_world.specs.Books.{IsBook}
use Rattle.lock_world.specs.Tied.{Claims, Moved}
use Rattle.lock_world.specs.Views.{claim_in}

-- the claims of the member are those of its lock manager
abbrev pub Knows : Claims → MarksState → Type 0
Knows held s = (o c : ℕ) → held s.member o c ≡ claim_in s.locks o c

-- so they are behind an event of it, which changes those of no other member
pub record Leads (held left : Claims) (s t : MarksState) : Type 0 where
  pub others : (k o c : ℕ) → k ≢ s.member → left k o c ≡ held k o c
  pub own : (o c : ℕ) → left s.member o c ≡ claim_in t.locks o c

-- it is up in a group of this facility, whose lock table its lock manager knows
pub record IsUp (f : Held) (s : MarksState) : Type 0 where
  pub member : IsMember s.member
  pub among : s.member ≤ f.lists.members
  pub few : f.lists.members ≤ 32
  pub up : status_of f.lists.statuses s.member ≡ Up
  pub size : s.locks.entries ≡ length f.locks.entries
  pub book : IsBook s.locks

-- moves of the member lead to a world that stands beside what an event of it has left, and the member is still up
pub record Goes (w : World) (f g : Held) (left : Claims) (s t : MarksState) : Type 0 where
  pub moves : List Move
  pub own : AreOf s.member moves
  pub moved : Moved w moves f.locks g.locks g.lists left
  pub same : t.member ≡ s.member
  pub stands : IsUp g t
