-- What the event of a member comes to.
use Rattle.std.specs.Prelude.{◌≡◌, ◌⊎◌, ℕ, Bool, true, false, Option, Some, None, is_some}
use Rattle.ds_base.specs.declared.names.Sizes.{Sizes}
use Rattle.ds_model.specs.declared.script.Script.{Script}
use Rattle.facility.specs.States.{MemberFailed}
use Rattle.list_structure.specs.Standings.{status_of, is_live}
use Rattle.member_intents.specs.declared.intent.Intent.{Intent}
use Rattle.member_intents.specs.declared.outcome.Answered.{Answered}
use Rattle.member_intents.specs.declared.outcome.Sent.{Sent}
use Rattle.member_resources.specs.Held.{begun}
use Rattle.member_resources.specs.Events.{Happens, Ends}
-- given out again: what a member holds, the world of its event, and what a restart and a rebuild send
pub use Rattle.member_resources.specs.Held.{Held}
pub use Rattle.member_resources.specs.Events.{World, world_of}
pub use Rattle.restart_marks.specs.declared.intent.RestartSent.{RestartSent}
pub use Rattle.restart_marks.specs.declared.intent.RestartSent.TheVariants as restart_sent
pub use Rattle.rebuild_resources.specs.declared.intent.RebuildSent.{RebuildSent}
pub use Rattle.rebuild_resources.specs.declared.intent.RebuildSent.TheVariants as rebuild_sent
use Rattle.rebuild_resources.specs.Events as rebuilding
use Rattle.rebuild_resources.specs.State.{IsNewRebuild}
use Rattle.restart_marks.specs.Adopt.{adopted_told, adopted_after}
use Rattle.restart_marks.specs.declared.adopt.Adopted.{Adopted}
use Rattle.member_restart.specs.Events as restarting
use Rattle.member_restart.specs.Held.{with_marks}
use Rattle.script_fates.specs.Fated.{FatesState, StopsOnly}
use Rattle.group_member.specs.declared.rebuilding.Rebuilding.{Rebuilding}
use Rattle.group_member.specs.declared.restarting.Restarting.{Restarting}
use Rattle.group_member.specs.declared.stepped.Stepped.{Stepped}
use Rattle.group_member.specs.declared.stepped.Stepped.TheVariants as steps
use Rattle.group_member.specs.Adopting.{AdoptsAll}
use Rattle.group_member.specs.Entering.{Enters}
use Rattle.group_member.specs.Failing.{is_in_hand}
use Rattle.group_member.specs.Members.{Member, IsDown}
use Rattle.group_member.specs.Queries.{answers_held}
use Rattle.group_member.specs.Resting.{RestsIdle, changes_locks, frees_claimed, touches_pages}
use Rattle.group_member.specs.Stepping.{has_failed, is_fail, is_failure, is_of, is_over, kind_for}

-- the facility and the disk, as a restart and a rebuild see them
abbrev pub as_restarting : World → restarting.World
as_restarting w = record { facility = w.facility; drive = record { alive = w.drive.alive; contents = w.drive.contents } }

abbrev pub as_rebuilding : World → rebuilding.World
as_rebuilding w = record { facility = w.facility; drive = record { alive = w.drive.alive; contents = w.drive.contents } }

-- ---- the member's own event

-- an intent of the member was lawful, went out and was settled; it answers no query about a page whose lock its restart has, and while that is in
-- hand it changes no locks and leaves pages in frames, the log and the cache
pub record Acts (m : Member) (w : World) (place : ℕ) (sent : Sent) (answered : Answered) (v : World) (n : Member) : Type 0 where
  pub intent : Intent
  pub after : Held
  pub keeps : answers_held m.restart intent ≡ false
  pub rests : is_some m.restart ≡ true → changes_locks intent ≡ false
  pub leaves : is_some m.restart ≡ true → touches_pages intent ≡ false
  pub happens : Happens w m.holds intent place sent answered v after
  pub member : n ≡ record m { holds = after }

-- the member is told of what befell its restart or rebuild: a new event begins, in which nothing is sent, and its policy makes local moves
abbrev pub Tells : Held → ℕ → Held → Type 0
Tells h place k = Ends (begun h place) k

-- ---- the event of its restart

-- the restart without what it has left open, which the member takes over
abbrev pub handed_over : Restarting → Restarting
handed_over q = record q { resources = with_marks q.resources (adopted_after q.resources.marks) }

-- the restart goes on; or it waits for another member's restart, and what it has left open is taken out of it
abbrev pub Takes : Restarting → Option Adopted → Restarting → Type 0
Takes q left r = ((left ≡ None) × (r ≡ q)) ⊎ ((left ≡ adopted_told q.resources.marks) × (r ≡ handed_over q))

abbrev pub AdoptsLeft : Option Adopted → Held → Held → Type 0
AdoptsLeft None h k = k ≡ h
AdoptsLeft (Some left) h k = AdoptsAll h left.by left.trans k

-- what is taken out of the restart is adopted exactly
pub record HandsOver (q : Restarting) (h : Held) (r : Option Restarting) (k : Held) : Type 0 where
  pub left : Option Adopted
  pub rest : Restarting
  pub takes : Takes q left rest
  pub restart : r ≡ Some rest
  pub adopts : AdoptsLeft left h k

-- once the member is up by it, the restart is over
abbrev pub GoesOn : Bool → Restarting → Held → Option Restarting → Held → Type 0
GoesOn true q h r k = (r ≡ None) × (k ≡ h)
GoesOn false q h r k = HandsOver q h r k

-- behind a call that was answered the restart goes on, and the member is told
pub record RestartGoesOn (q : Restarting) (m : Member) (place : ℕ) (n : Member) : Type 0 where
  pub left : Held
  pub after : Held
  pub goes_on : GoesOn q.resources.marks.is_up q m.holds n.restart left
  pub tells : Tells left place after
  pub member : n ≡ record m { holds = after; restart = n.restart }

abbrev pub RestartEnds : Bool → Restarting → Member → ℕ → Member → Type 0
RestartEnds true q m place n = n ≡ record m { restart = Some q }
RestartEnds false q m place n = RestartGoesOn q m place n

-- the restart in hand has made its event
pub record RestartMakes (m : Member) (w : World) (sent : RestartSent) (answered : Answered) (v : World) (q : Restarting) : Type 0 where
  pub before : Restarting
  pub had : m.restart ≡ Some before
  pub happens : restarting.Happens (as_restarting w) before.resources sent answered (as_restarting v) q.resources

-- it frees no record whose name the member claims
pub record Restarts (m : Member) (w : World) (place : ℕ) (sent : RestartSent) (answered : Answered) (v : World) (n : Member) : Type 0 where
  pub keeps : frees_claimed m.holds.marks sent ≡ false
  pub reached : Restarting
  pub makes : RestartMakes m w sent answered v reached
  pub ends : RestartEnds (is_failure answered) reached m place n

-- ---- the event of its rebuild

-- the rebuild in hand, or one that begins
abbrev pub IsInHand : ℕ → Option Rebuilding → Rebuilding → Type 0
IsInHand member None r = IsNewRebuild member r.resources
IsInHand member (Some q) r = r ≡ q

-- behind a call that was answered it is let go where it is done, and the member is told
pub record RebuildGoesOn (q : Rebuilding) (m : Member) (place : ℕ) (n : Member) : Type 0 where
  pub after : Held
  pub goes_on : (n.rebuild ≡ Some q) ⊎ (n.rebuild ≡ None)
  pub tells : Tells m.holds place after
  pub member : n ≡ record m { holds = after; rebuild = n.rebuild }

abbrev pub RebuildEnds : Bool → Rebuilding → Member → ℕ → Member → Type 0
RebuildEnds true q m place n = n ≡ record m { rebuild = Some q }
RebuildEnds false q m place n = RebuildGoesOn q m place n

-- the rebuild in hand has made its event
pub record RebuildMakes (m : Member) (w : World) (sent : RebuildSent) (answered : Answered) (v : World) (q : Rebuilding) : Type 0 where
  pub before : Rebuilding
  pub had : IsInHand m.id m.rebuild before
  pub happens : rebuilding.Happens (as_rebuilding w) before.resources sent answered (as_rebuilding v) q.resources

pub record Rebuilds (m : Member) (w : World) (place : ℕ) (sent : RebuildSent) (answered : Answered) (v : World) (n : Member) : Type 0 where
  pub reached : Rebuilding
  pub makes : RebuildMakes m w sent answered v reached
  pub ends : RebuildEnds (is_failure answered) reached m place n

-- ---- an event, by what it was

-- before the fates of its transactions are entered
abbrev pub Makes : Member → World → ℕ → Stepped → World → Member → Type 0
Makes m w place (steps.Sent sent answered) v n = Acts m w place sent answered v n
Makes m w place (steps.Restart sent answered) v n = Restarts m w place sent answered v n
Makes m w place (steps.Rebuild sent answered) v n = Rebuilds m w place sent answered v n
Makes m w place steps.Failed v n = ⊥

-- The event was made and answered, and the fates of its transactions are entered. While a restart is in hand no slot has a transaction.
pub record Steps (m : Member) (w : World) (f : FatesState) (place : ℕ) (stepped : Stepped) (n : Member) (v : World) (g : FatesState) : Type 0 where
  pub mid : Member
  pub makes : Makes m w place stepped v mid
  pub idle : RestsIdle mid
  pub enters : Enters mid f n g

-- a call of the disk was made in the event, and has failed
pub record Breaks (m : Member) (w : World) (place : ℕ) (stepped : Stepped) (v : World) : Type 0 where
  pub mid : Member
  pub makes : Makes m w place stepped v mid

-- ---- all that an event of a live member comes to, in a phase of a script, where the group has these sizes; it keeps its number

pub record Comes (script : Script) (begun : ℕ) (sizes : Sizes) (choice : ℕ) (m : Member) (w : World) (f : FatesState) (place : ℕ) (stepped : Stepped) (n : Member) (v : World) (g : FatesState) : Type 0 where
  pub live : is_live (status_of w.facility.lists.statuses m.id) ≡ true
  pub same : n.id ≡ m.id
  pub kind : is_fail stepped ≡ false → is_of (kind_for choice (is_some m.restart)) stepped ≡ true
  pub steps : is_over stepped ≡ false → Steps m w f place stepped n v g
  pub breaks : has_failed stepped ≡ true → Breaks m w place stepped (record v { facility = w.facility })  -- the call changed nothing of the facility
  pub silent : is_fail stepped ≡ true → v.drive ≡ w.drive
  -- where the member was to fail, or a call has failed
  pub fails : is_over stepped ≡ true → MemberFailed w.facility m.id v.facility
  pub down : is_over stepped ≡ true → IsDown sizes n
  pub stops : is_over stepped ≡ true → StopsOnly (is_in_hand script begun m.id) f g
