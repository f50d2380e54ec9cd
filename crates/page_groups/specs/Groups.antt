-- A group whose members are up, or hold nothing, beside its good world of pages; and events of its members.
use Rattle.std.specs.Prelude.{◌≡◌, ℕ, ◌≤◌, ◌&&◌, nat_le, Bool, true, false, List, None}
use Rattle.ds_base.specs.declared.names.Sizes.{Sizes}
use Rattle.facility.specs.States.{Held as Facility, IsMade, MemberFailed}
use Rattle.member_intents.specs.declared.intent.Intent.{Intent}
use Rattle.member_intents.specs.declared.outcome.Answered.{Answered}
use Rattle.member_intents.specs.declared.outcome.Sent.{Sent}
use Rattle.member_resources.specs.Held.{Held, IsNew, begun}
use Rattle.member_resources.specs.Settled.{kept_of}
use Rattle.member_resources.specs.Events as event
use Rattle.member_resources.specs.Events.{Ends, Happens}
use Rattle.page_protocol.specs.Page.{put}
use Rattle.page_protocol.specs.Moves.{World, Move, Run, start}
use Rattle.page_world.specs.Numbers.{set_of}
use Rattle.page_world.specs.Holdings.{Holdings, no_cast, no_copy, with_facility}
use Rattle.page_world.specs.Failing.{without}
use Rattle.page_intents.specs.Stands.{IsUp}
use Rattle.page_intents.specs.Castouts.{HasCast}
-- given out again: a member beside its group, any event of it, and the failure of a member
pub use Rattle.page_members.specs.Members.{Beside, EventGoes, FailuresGo, Group, GroupGoes, IsRecorded, Leads, SameOthers, Shows, Supplied, ToldGoes, page_named, page_taken}

-- by member: whether it is up, and what it holds
pub record GroupStands (w : World) (u : event.World) (g : Holdings) (content : ℕ → ℕ → List ℕ) (forced : ℕ → ℕ) (up : ℕ → Bool) (hs : ℕ → Held) : Type 0 where
  pub group : Group w g content forced
  pub facility : g.facility ≡ u.facility
  pub drive : Shows u.drive g.disk
  -- of those that are up
  pub named : (m : ℕ) → up m ≡ true → (hs m).marks.member ≡ m
  pub each : (m : ℕ) → up m ≡ true → IsUp g forced (kept_of (hs m))
  pub casts : (m : ℕ) → up m ≡ true → HasCast g (hs m).marks.member (hs m).cast (hs m).buffer

-- so each member that is up stands beside the group
abbrev pub EachIsBeside : Type 0
EachIsBeside = (w : World) (u : event.World) (g : Holdings) (content : ℕ → ℕ → List ℕ) (forced : ℕ → ℕ) (up : ℕ → Bool) (hs : ℕ → Held) (m : ℕ)
    → GroupStands w u g content forced up hs → up m ≡ true → Beside w u g content forced (hs m)

-- where an event of one of them leads, the whole group stands
abbrev pub LeadsStand : Type 0
LeadsStand = (w : World) (u v : event.World) (g : Holdings) (content : ℕ → ℕ → List ℕ) (forced : ℕ → ℕ) (up : ℕ → Bool) (hs : ℕ → Held) (m : ℕ) (k : Held)
    → GroupStands w u g content forced up hs → up m ≡ true → (a : Leads w v g content forced (hs m) k) → GroupStands a.world v a.left a.versions a.force up (put hs m k)

-- and where the failure of a member does
abbrev pub FailsStand : Type 0
FailsStand = (w : World) (u v : event.World) (g : Holdings) (content : ℕ → ℕ → List ℕ) (forced : ℕ → ℕ) (up : ℕ → Bool) (hs : ℕ → Held) (m : ℕ)
    → GroupStands w u g content forced up hs → v.drive ≡ u.drive → (a : GroupGoes w g (with_facility (without g m) v.facility) content forced m)
    → GroupStands a.world v (with_facility (without g m) v.facility) content forced (put up m false) hs

-- moves lead to a good world beside what is left
pub record GroupLeads (w : World) (v : event.World) (up : ℕ → Bool) (hs : ℕ → Held) : Type 0 where
  pub moves : List Move
  pub world : World
  pub run : Run set_of w moves world
  pub left : Holdings
  pub versions : ℕ → ℕ → List ℕ
  pub force : ℕ → ℕ
  pub stands : GroupStands world v left versions force up hs

-- any event of any member that is up, whatever its policy
abbrev pub MembersGo : Type 0
MembersGo = (w : World) (u v : event.World) (g : Holdings) (content : ℕ → ℕ → List ℕ) (forced : ℕ → ℕ) (up : ℕ → Bool) (hs : ℕ → Held) (m : ℕ) (k : Held) (i : Intent) (place : ℕ) (sent : Sent) (a : Answered)
    → GroupStands w u g content forced up hs → up m ≡ true → (happens : Happens u (hs m) i place sent a v k) → Supplied g (hs m) happens.ready i happens.plan place a → GroupLeads w v up (put hs m k)

-- it is told of its restart or its rebuild
abbrev pub ToldGo : Type 0
ToldGo = (w : World) (u : event.World) (g : Holdings) (content : ℕ → ℕ → List ℕ) (forced : ℕ → ℕ) (up : ℕ → Bool) (hs : ℕ → Held) (m : ℕ) (k : Held) (place : ℕ)
    → GroupStands w u g content forced up hs → up m ≡ true → Ends (begun (hs m) place) k → GroupLeads w u up (put hs m k)

-- a member fails, whatever its standing: it isn't up any more
abbrev pub MembersFail : Type 0
MembersFail = (w : World) (u v : event.World) (g : Holdings) (content : ℕ → ℕ → List ℕ) (forced : ℕ → ℕ) (up : ℕ → Bool) (hs : ℕ → Held) (m : ℕ)
    → GroupStands w u g content forced up hs → 1 ≤ m → MemberFailed u.facility m v.facility → v.drive ≡ u.drive → GroupLeads w v (put up m false) hs

-- ---- the start

abbrev pub among : ℕ → ℕ → Bool
among members m = nat_le 1 m && nat_le m members

-- what a group holds as it is made, over a disk with these pages, where so many records stand in the logs
abbrev pub made_over : Facility → (ℕ → List ℕ) → (ℕ → ℕ) → Holdings
made_over f pages stable = record {
  facility = f;
  disk = pages;
  stable = stable;
  written = stable;
  copies = λ m n. no_copy;
  casts = λ m n. no_cast;
  owner = λ n. None;
}

abbrev pub made : Facility → (ℕ → List ℕ) → Holdings
made f pages = made_over f pages (λ m. 0)

-- each of its members is up, and casts out nothing
abbrev pub MembersBegin : Type 0
MembersBegin = (f : Facility) (pages : ℕ → List ℕ) (stable : ℕ → ℕ) (counter : ℕ) (sizes : Sizes) (m : ℕ) (h : Held)
    → IsMade sizes counter f → sizes.members ≤ 32 → among sizes.members m ≡ true → IsNew m sizes h
    → IsUp (made_over f pages stable) (λ k. 0) (kept_of h) × HasCast (made_over f pages stable) h.marks.member h.cast h.buffer

-- over a disk with these pages, and empty logs: no number was drawn yet
abbrev pub GroupsStart : Type 0
GroupsStart = (u : event.World) (pages : ℕ → List ℕ) (sizes : Sizes) (hs : ℕ → Held)
    → IsMade sizes 0 u.facility → Shows u.drive pages → sizes.members ≤ 32 → ((m : ℕ) → among sizes.members m ≡ true → IsNew m sizes (hs m))
    → GroupStands start u (made u.facility pages) (λ n v. pages n) (λ m. 0) (among sizes.members) hs
