-- How a restart goes on: what its events leave of it, and of the standings of members.
use Rattle.std.specs.Prelude.{◌≡◌, ◌⊎◌, ◌-◌, true, slice_set, None, is_some}
use Rattle.list_structure.specs.declared.standing.MemberStatus.TheVariants.{Up}
use Rattle.list_structure.specs.States.{ListsState}
use Rattle.member_intents.specs.declared.outcome.Answered.{Answered}
use Rattle.restart_marks.specs.declared.intent.RestartSent.{RestartSent}
use Rattle.restart_marks.specs.State.{RestartState}
use Rattle.restart_records.specs.Trans.{no_trans}
use Rattle.restart_resources.specs.Events as event
use Rattle.restart_resources.specs.Events.{Happens}
use Rattle.restart_resources.specs.Held.{Held}

-- once the log is read, nothing reads on; and only then retained locks are listed, and a lock is asked for that another member may keep
pub record IsInOrder (s : RestartState) : Type 0 where
  pub reader : s.own.is_read ≡ true → s.own.reader ≡ None
  pub listed : s.is_listed ≡ true → s.own.is_read ≡ true
  pub kept : is_some s.kept ≡ true → s.own.is_read ≡ true

-- what it has left open is the member's, and no lock is left
pub record HasHandedOver (s : RestartState) : Type 0 where
  pub read : s.own.is_read ≡ true
  pub unclaimed : s.claim ≡ None
  pub none_open : s.trans ≡ no_trans

pub record Follows (s t : RestartState) : Type 0 where
  pub member : t.member ≡ s.member
  pub order : IsInOrder s → IsInOrder t
  pub handed : IsInOrder s → HasHandedOver s → HasHandedOver t

abbrev pub RestartsFollow : Type 0
RestartsFollow = (u v : event.World) (h k : Held) (x : RestartSent) (a : Answered) → Happens u h x a v k → Follows h.marks k.marks

-- ---- standings

-- only the end of the restart sets a standing, which is the member's; no page lock is left then
pub record Sets (f g : ListsState) (s t : RestartState) : Type 0 where
  pub members : g.members ≡ f.members
  pub statuses : ((t.is_up ≡ s.is_up) × (g.statuses ≡ f.statuses)) ⊎ ((t.is_up ≡ true) × (t.claim ≡ None) × (g.statuses ≡ slice_set f.statuses (s.member - 1) Up))

abbrev pub StandingsFollow : Type 0
StandingsFollow = (u v : event.World) (h k : Held) (x : RestartSent) (a : Answered) → Happens u h x a v k → Sets u.facility.lists v.facility.lists h.marks k.marks
