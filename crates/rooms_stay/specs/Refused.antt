-- For what an event may still be refused in a run.
use Rattle.std.specs.Prelude.{◌≡◌, ◌⊎◌, ℕ, ◌-◌, ◌≤◌, ◌%◌, Bool, true, false, List, Option, Some, Ok, is_some, length, slice_get}
use Rattle.ds_disk.specs.Contents.{Contents}
use Rattle.cache_structure.specs.Directory.{Directory}
use Rattle.list_structure.specs.Bells.{CanRing}
use Rattle.facility.specs.declared.command.Command.{Command}
use Rattle.facility.specs.States as facility
use Rattle.member_intents.specs.declared.intent.Intent.{Intent}
use Rattle.member_intents.specs.declared.test.Test.{Test}
use Rattle.member_resources.specs.Events.{World, IsUnlawful, world_of}
use Rattle.member_resources.specs.Held.{Held}
use Rattle.restart_marks.specs.declared.intent.RestartIntent.{RestartIntent}
use Rattle.restart_marks.specs.declared.intent.RestartSent.TheVariants as restart_sent
use Rattle.restart_marks.specs.declared.intent.RestartTest.{RestartTest}
use Rattle.restart_marks.specs.Needs.{need_of}
use Rattle.restart_resources.specs.Events as restarting
use Rattle.restart_resources.specs.Held as restart
use Rattle.rebuild_resources.specs.declared.intent.RebuildTest.{RebuildTest}
use Rattle.rebuild_resources.specs.Events as rebuilding
use Rattle.rebuild_resources.specs.State.{RebuildState}
use Rattle.group_member.specs.declared.rebuilding.Rebuilding.{Rebuilding}
use Rattle.group_member.specs.declared.restarting.Restarting.{Restarting}
use Rattle.group_member.specs.Happening.{IsInHand, as_rebuilding, as_restarting}
use Rattle.group_member.specs.Members.{Member}
use Rattle.group_member.specs.Queries.{answers_held}
use Rattle.group_member.specs.Refusing.{Adoption, Begin, Bells, Cause, IsBecause, Own, Purge, Rebuild, Restart, Standing}
use Rattle.group_core.specs.Given.{Crew, crew_state}
use Rattle.group_core.specs.declared.fault.RunFault.TheVariants as fault
use Rattle.group_core.specs.declared.group.Group.{Group}
use Rattle.group_core.specs.Fresh.{RunsFresh}
use Rattle.group_core.specs.Starts.{IsFresh}
use Rattle.group_core.specs.Takes.{IsUnbegun, Takes}
use Rattle.rooms_stay.specs.Left.{IsLeftOfRestart, IsRefusedRest}
use Rattle.rooms_stay.specs.Runs.{IsUnrefused}

-- ---- an event of a member

-- an intent of its own failed a named test, or what is left of the facility's condition doesn't hold
pub record OwnStillRefused (m : Member) (w : World) (place : ℕ) (v : World) : Type 0 where
  pub intent : Intent
  pub keeps : answers_held m.restart intent ≡ false
  pub why : ((test : Test) × (k : Held) × IsUnlawful w m.holds intent place test v k) ⊎ IsRefusedRest w.facility m.holds intent place

-- a restart's command, of which what is left doesn't hold
pub record RestartIsRefusedRest (w : facility.Held) (h : restart.Held) : Type 0 where
  pub intent : RestartIntent
  pub command : Command
  pub lawful : need_of h.marks intent ≡ Ok (restart_sent.Command command)
  pub fails : ¬ IsLeftOfRestart w h.marks.member command

-- so it was with an intent of its restart
pub record RestartStillRefused (m : Member) (w v : World) : Type 0 where
  pub before : Restarting
  pub had : m.restart ≡ Some before
  pub why : ((test : RestartTest) × (after : restart.Held) × restarting.IsUnlawful (as_restarting w) before.resources test (as_restarting v) after) ⊎ RestartIsRefusedRest w.facility before.resources

-- one of its rebuild failed a named test, or the bells are at their end
pub record RebuildStillRefused (m : Member) (w v : World) : Type 0 where
  pub before : Rebuilding
  pub had : IsInHand m.id m.rebuild before
  pub why : ((test : RebuildTest) × (after : RebuildState) × rebuilding.IsUnlawful (as_rebuilding w) before.resources test (as_rebuilding v) after) ⊎ (¬ CanRing w.facility.lists.bells)

-- the other causes are as they were
abbrev pub IsStillBecause : Cause → Member → World → ℕ → World → Type 0
IsStillBecause Own m w place v = OwnStillRefused m w place v
IsStillBecause Restart m w place v = RestartStillRefused m w v
IsStillBecause Rebuild m w place v = RebuildStillRefused m w v
IsStillBecause Adoption m w place v = IsBecause Adoption m w place v
IsStillBecause Purge m w place v = IsBecause Purge m w place v
IsStillBecause Begin m w place v = IsBecause Begin m w place v
IsStillBecause Standing m w place v = IsBecause Standing m w place v
IsStillBecause Bells m w place v = IsBecause Bells m w place v

-- the member is there
pub record MemberStillRefused {C D P : Type 0} (directory : C → Directory) (alive : D → Bool) (contents : D → Option Contents) (old : Crew C P) (disk : D) (at place : ℕ) (new : Crew C P) (left : D) : Type 0 where
  pub member : Member
  pub there : slice_get (crew_state directory old).members at ≡ Some member
  pub cause : Cause
  pub because : IsStillBecause cause member (world_of directory alive contents old.facility disk) place (world_of directory alive contents new.facility left)

-- ---- any event

-- there is a next phase, and the bells can't ring for each restart of a member and once more
pub record PhaseStillRefused {C P : Type 0} (old : Crew C P) (event place at : ℕ) : Type 0 where
  pub phase : is_some (slice_get old.script.phases old.progress.begun) ≡ true
  pub unbegun : IsUnbegun old event place at

-- it was the begin of a phase, or a member's
abbrev pub StillRefused : {C D P : Type 0} → (C → Directory) → (D → Bool) → (D → Option Contents) → Group D C P → ℕ → ℕ → Group D C P → Type 0
StillRefused {C} {D} {P} directory alive contents old event at new =
    PhaseStillRefused old.crew event (length new.journal.items) at ⊎ MemberStillRefused directory alive contents old.crew old.disk (event % 64 - 1) (length new.journal.items) new.crew new.disk

-- The event that is refused in a run, with which it ends, is refused for one of these, if there is a frame, and at most 16 agents.
abbrev pub RefusalsLeave : {C D : Type 0} → (P : Type 0) → (C → Directory) → (D → Bool) → (D → Option Contents) → (D → ℕ) → Type 0
RefusalsLeave {C} {D} P directory alive contents count = (first : Group D C P) (events : List ℕ) (last : Group D C P) (event at : ℕ) (next : Group D C P)
    → IsFresh directory first → first.crew.sizes.sizes.agents ≤ 16 → 1 ≤ first.crew.sizes.sizes.pool → RunsFresh directory alive contents count first events last → IsUnrefused last
    → Takes directory alive contents count last event next → next.fault ≡ Some (fault.Unlawful at) → StillRefused directory alive contents last event at next
