-- The rebuild of the cache structure from the logs, beside the pages of the group.
use Rattle.std.specs.Prelude.{◌≡◌, ◌≢◌, ℕ, true, List}
use Rattle.ds_base.specs.declared.names.PageId.{PageId}
use Rattle.facility.specs.declared.command.Command.TheVariants as command
use Rattle.member_intents.specs.declared.outcome.Answered.{Answered}
use Rattle.member_intents.specs.declared.outcome.Answered.TheVariants as answered
use Rattle.member_resources.specs.Events.{World as Outside}
use Rattle.rebuild_resources.specs.declared.intent.RebuildSent.{RebuildSent}
use Rattle.rebuild_resources.specs.declared.intent.RebuildSent.TheVariants as sent
use Rattle.rebuild_resources.specs.Events as rebuilding
use Rattle.rebuild_resources.specs.Events.{Happens}
use Rattle.rebuild_resources.specs.State.{RebuildState}
use Rattle.page_protocol.specs.Moves.{World, IsRead}
use Rattle.page_world.specs.Numbers.{page_number}
use Rattle.page_world.specs.Holdings.{Holdings}
use Rattle.page_members.specs.Members.{Group, GroupGoes, Shows}

-- the facility and the disk, as a rebuild sees them
abbrev pub as_rebuilding : Outside → rebuilding.World
as_rebuilding u = record { facility = u.facility; drive = record { alive = u.drive.alive; contents = u.drive.contents } }

-- the cache is lost, and these are the bytes of the page's version to which the logs lead that were read since
pub record IsLedTo (w : World) (g : Holdings) (content : ℕ → ℕ → List ℕ) (n : ℕ) (bytes : List ℕ) : Type 0 where
  pub lost : g.facility.directory.lost ≡ true
  pub version : ℕ
  pub read : IsRead w.group (w.pages n) version
  pub same : bytes ≡ content n version

-- what a rebuild makes of the logs: each page that it writes is what they lead to, and it ends only when each page on disk is; and the disk
-- does what it is asked
pub record FollowsLogs (w : World) (g : Holdings) (content : ℕ → ℕ → List ℕ) (h : RebuildState) (s : RebuildSent) (a : Answered) : Type 0 where
  pub written : (page : PageId) → s ≡ sent.WritePage page → IsLedTo w g content (page_number page) h.page
  pub rebuilt : s ≡ sent.Command command.Rebuilt → g.facility.directory.lost ≡ true → (n : ℕ) → IsRead w.group (w.pages n) (w.pages n).disk
  pub works : a ≢ answered.Failed

-- moves lead to a good world beside what an event of a rebuild has left, and the group holds of all its members what it held: there is no
-- member 0
pub record RebuildGoes (w : World) (v : Outside) (g : Holdings) (content : ℕ → ℕ → List ℕ) (forced : ℕ → ℕ) : Type 0 where
  pub left : Holdings
  pub goes : GroupGoes w g left content forced 0
  pub facility : left.facility ≡ v.facility
  pub drive : Shows v.drive left.disk
  pub owner : left.owner ≡ g.owner

-- any event of a rebuild, whatever was wanted and whatever the answer
abbrev pub EventsGo : Type 0
EventsGo = (w : World) (u v : Outside) (g : Holdings) (content : ℕ → ℕ → List ℕ) (forced : ℕ → ℕ) (h k : RebuildState) (s : RebuildSent) (a : Answered)
    → Group w g content forced → g.facility ≡ u.facility → Shows u.drive g.disk → Happens (as_rebuilding u) h s a (as_rebuilding v) k → FollowsLogs w g content h s a → RebuildGoes w v g content forced
