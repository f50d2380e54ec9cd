-- A restart that reads its member's log yet: it has no page in hand, no page lock and no record to write, and its events leave the pages.
use Rattle.std.specs.Prelude.{◌≡◌, ◌≢◌, ◌⊎◌, ℕ, ◌≤◌, true, false, List, [], Option, None}
use Rattle.list_structure.specs.declared.standing.MemberStatus.TheVariants.{Restarting}
use Rattle.list_structure.specs.Standings.{status_of}
use Rattle.member_intents.specs.declared.outcome.Answered.{Answered}
use Rattle.member_intents.specs.declared.outcome.Answered.TheVariants as answered
use Rattle.member_log.specs.Buffers.{empty_buffer}
use Rattle.member_resources.specs.Events.{World as Outside}
use Rattle.restart_marks.specs.declared.intent.RestartSent.{RestartSent}
use Rattle.restart_marks.specs.State.{RestartState, log_size, no_hand}
use Rattle.restart_records.specs.Names.{no_names}
use Rattle.restart_records.specs.Own.{OwnState}
use Rattle.restart_records.specs.Trans.{no_trans}
use Rattle.restart_resources.specs.Events as restarting
use Rattle.restart_resources.specs.Events.{Happens}
use Rattle.restart_resources.specs.Held.{Held, IsNew}
use Rattle.page_protocol.specs.Page.{put}
use Rattle.page_protocol.specs.Moves.{World, Move, Run}
use Rattle.page_intents.specs.Numbers.{AreNumbered}
use Rattle.page_world.specs.Holdings.{Holdings, no_copy}
use Rattle.page_world.specs.Numbers.{set_of}
use Rattle.page_members.specs.Members.{SameOthers, Shows}
-- given out again: a group beside its good world of pages
pub use Rattle.page_members.specs.Members.{Group}
use Rattle.page_restarts.specs.Beside.{Beside, as_restarting}
use Rattle.page_restarts.specs.Events.{Owns}
use Rattle.page_restarts.specs.Stands.{Begins}

-- but for the reader of its log it is as it began
abbrev pub reading : ℕ → OwnState → RestartState
reading member own = record {
  member = member;
  own = own;
  log = empty_buffer log_size;
  counter = 0;
  listed = 0;
  is_listed = false;
  pages = [];
  names = no_names;
  trans = no_trans;
  hand = no_hand;
  claim = None;
  kept = None;
  is_up = false;
}

-- it knows no number of its log yet, and so stands beside its good world of pages as a restart does that has forced none
pub record IsReading (w : World) (u : Outside) (g : Holdings) (content : ℕ → ℕ → List ℕ) (forced : ℕ → ℕ) (h : Held) : Type 0 where
  pub begins : Begins w g content forced h
  pub facility : g.facility ≡ u.facility
  pub drive : Shows u.drive g.disk
  pub level : g.written h.marks.member ≡ g.stable h.marks.member
  pub unread : h.marks.own.is_read ≡ false
  pub rest : h.marks ≡ reading h.marks.member h.marks.own

-- ---- it begins, as soon as its failed member restarts, of which the group holds nothing but what is on disk

pub record IsLeft (g : Holdings) (m : ℕ) : Type 0 where
  pub least : 1 ≤ m
  pub among : m ≤ g.facility.lists.members
  pub restarts : status_of g.facility.lists.statuses m ≡ Restarting
  pub level : g.written m ≡ g.stable m
  pub copies : (n : ℕ) → g.copies m n ≡ no_copy

abbrev pub ReadingBegins : Type 0
ReadingBegins = (w : World) (u : Outside) (g : Holdings) (content : ℕ → ℕ → List ℕ) (forced : ℕ → ℕ) (m : ℕ) (h : Held)
    → Group w g content forced → IsLeft g m → g.facility ≡ u.facility → Shows u.drive g.disk → IsNew m h → IsReading w u g content (put forced m 0) h

-- ---- any event: it reads on, or its log is whole, and the restart goes on with that. What the log tells is then that each change of the
-- member's with a number up to its last is on disk

abbrev pub LogIsWhole : World → (ℕ → ℕ → List ℕ) → (ℕ → ℕ) → Held → Type 0
LogIsWhole w content forced after = after.marks.own.is_read ≡ true → AreNumbered w content (put forced after.marks.member after.marks.log.stable)

pub record ReadingLeads (w : World) (v : Outside) (g : Holdings) (content : ℕ → ℕ → List ℕ) (forced : ℕ → ℕ) (h k : Held) : Type 0 where
  pub moves : List Move
  pub world : World
  pub run : Run set_of w moves world
  pub left : Holdings
  pub force : ℕ → ℕ
  pub stands : IsReading world v left content force k ⊎ Beside world v left content force k
  pub same : k.marks.member ≡ h.marks.member
  pub others : SameOthers g left forced force h.marks.member
  pub owner : left.owner ≡ g.owner
  pub casts : left.casts ≡ g.casts
  pub level : left.written h.marks.member ≡ left.stable h.marks.member

abbrev pub ReadingGoes : Type 0
ReadingGoes = (w : World) (u v : Outside) (g : Holdings) (content : ℕ → ℕ → List ℕ) (forced : ℕ → ℕ) (h k : Held) (s : RestartSent) (a : Answered)
    → IsReading w u g content forced h → (happens : Happens (as_restarting u) h s a (as_restarting v) k) → a ≢ answered.Failed → LogIsWhole w content forced happens.after → ReadingLeads w v g content forced h k

-- it asks for no page's lock, and gives none up
abbrev pub ReadingOwns : Type 0
ReadingOwns = (u v : restarting.World) (h k : Held) (s : RestartSent) (a : Answered) (owner : ℕ → Option ℕ)
    → h.marks ≡ reading h.marks.member h.marks.own → h.marks.own.is_read ≡ false → Happens u h s a v k → Owns owner owner h.marks.member s a
