-- Any event of a restart, whether it reads its log yet or has read it, beside both worlds.
use Rattle.std.specs.Prelude.{◌≡◌, ◌≢◌, ◌⊎◌, ℕ, ◌≤◌, true, false, List, None}
use Rattle.member_intents.specs.declared.outcome.Answered.{Answered}
use Rattle.member_intents.specs.declared.outcome.Answered.TheVariants as answered
use Rattle.member_resources.specs.Events.{World as Outside}
use Rattle.restart_marks.specs.declared.intent.RestartIntent.TheVariants as intent
use Rattle.restart_marks.specs.declared.intent.RestartSent.{RestartSent}
use Rattle.restart_marks.specs.Moves.{is_recovered}
use Rattle.restart_marks.specs.State.{RestartState}
use Rattle.restart_records.specs.Trans.{page_undone}
use Rattle.restart_resources.specs.Events.{Happens}
use Rattle.restart_resources.specs.Held.{Held, IsNew}
use Rattle.lock_protocol.specs.Machine.{World as LockWorld}
use Rattle.lock_protocol.specs.Sound.{Sound}
use Rattle.lock_world.specs.Tied.{Claims, Tied}
use Rattle.lock_world.specs.Views.{entry_in}
use Rattle.lock_restarts.specs.Changes.{gone_by}
use Rattle.lock_restarts.specs.Events.{FreesSent}
use Rattle.lock_restarts.specs.Stands.{Goes, IsRestarting, Knows, Leads, OwnClaims}
use Rattle.page_protocol.specs.Page.{put}
use Rattle.page_protocol.specs.Moves.{World, Move, Run}
use Rattle.page_world.specs.Holdings.{Holdings, KeepsPages, with_facility}
use Rattle.page_world.specs.Numbers.{set_of}
use Rattle.page_restarts.specs.Beside.{Beside, GroupGoes, LeavesMember, SameOthers, Shows, as_restarting}
use Rattle.page_restarts.specs.Events.{IsOver, Owns}
use Rattle.page_restarts.specs.Reading.{Group, IsLeft, IsReading, LogIsWhole}
use Rattle.restart_owners.specs.Events.{LogTells}
use Rattle.restart_owners.specs.Listing.{IsListing}
use Rattle.restart_owners.specs.Owners.{HasFailed, OwnersStand, OwnsRestarting}

-- it stands beside its good world of pages
abbrev pub InPages : World → Outside → Holdings → (ℕ → ℕ → List ℕ) → (ℕ → ℕ) → Held → Type 0
InPages w u g content forced h = IsReading w u g content forced h ⊎ Beside w u g content forced h

-- and beside its sound world of locks
pub record InBoth (w : World) (l : LockWorld) (u : Outside) (g : Holdings) (content : ℕ → ℕ → List ℕ) (forced : ℕ → ℕ) (held : Claims) (own : OwnClaims) (h : Held) : Type 0 where
  pub pages : InPages w u g content forced h
  pub sound : Sound (entry_in u.facility.locks) l
  pub tied : Tied l u.facility.locks u.facility.lists held
  pub restarts : IsRestarting u.facility own h.marks
  pub knows : Knows held own h.marks
  pub owners : OwnersStand l u.facility g.owner
  pub owns : OwnsRestarting u.facility g.owner h.marks

-- ---- it begins, as soon as its failed member restarts
abbrev pub StageBegins : Type 0
StageBegins = (w : World) (l : LockWorld) (u : Outside) (g : Holdings) (content : ℕ → ℕ → List ℕ) (forced : ℕ → ℕ) (held : Claims) (own : OwnClaims) (m : ℕ) (h : Held)
    → Group w g content forced → IsLeft g m → g.facility ≡ u.facility → Shows u.drive g.disk → IsNew m h
    → Sound (entry_in u.facility.locks) l → Tied l u.facility.locks u.facility.lists held → IsRestarting u.facility own h.marks → Knows held own h.marks
    → HasFailed l u.facility g.owner m → InBoth w l u g content (put forced m 0) held own h

-- ---- what the worlds don't say of an event: while the log is read, that it has each change of the member as soon as it is whole; behind that, what it
-- leads to; and that the disk does what it is asked

pub record ReadsWhole (w : World) (content : ℕ → ℕ → List ℕ) (forced : ℕ → ℕ) (after : Held) (a : Answered) : Type 0 where
  pub whole : LogIsWhole w content forced after
  pub works : a ≢ answered.Failed

pub record StageTells (w : World) (u v : Outside) (g : Holdings) (content : ℕ → ℕ → List ℕ) (forced : ℕ → ℕ) (h k : Held) (s : RestartSent) (a : Answered) (happens : Happens (as_restarting u) h s a (as_restarting v) k) : Type 0 where
  pub reading : h.marks.own.is_read ≡ false → ReadsWhole w content forced happens.after a
  pub read : h.marks.own.is_read ≡ true → LogTells w u v g content h k s a happens

-- ---- any event, but for the end, is moves of both worlds, behind which it stands beside both again

-- where the member has taken over what the restart has left open, that has no page lock and no change to take back
abbrev pub HasLeft : OwnClaims → RestartState → Type 0
HasLeft own s = ((o c : ℕ) → own o c ≡ None) ⊎ ((s.claim ≡ None) × ((id : ℕ) → page_undone s.trans id ≡ None))

-- with the page locks that it had and has not given up, and the one that it was granted; it casts nothing out, and draws no number before all retained pages are
-- recovered
pub record StageLeads (w : World) (v : Outside) (g : Holdings) (content : ℕ → ℕ → List ℕ) (forced : ℕ → ℕ) (h k : Held) (s : RestartSent) (a : Answered) : Type 0 where
  pub moves : List Move
  pub world : World
  pub run : Run set_of w moves world
  pub left : Holdings
  pub versions : ℕ → ℕ → List ℕ
  pub force : ℕ → ℕ
  pub pages : InPages world v left versions force k
  pub same : k.marks.member ≡ h.marks.member
  pub others : SameOthers g left forced force h.marks.member
  pub owns : Owns g.owner left.owner h.marks.member s a
  pub kept : (n i : ℕ) → i ≤ (w.pages n).last → versions n i ≡ content n i
  pub casts : left.casts ≡ g.casts
  pub level : is_recovered h.marks ≡ false → g.stable h.marks.member ≡ g.written h.marks.member → left.stable h.marks.member ≡ left.written h.marks.member

pub record StageGoes (w : World) (l : LockWorld) (u v : Outside) (g : Holdings) (content : ℕ → ℕ → List ℕ) (forced : ℕ → ℕ) (left : Claims) (own : OwnClaims) (h k : Held) (s : RestartSent) (a : Answered) : Type 0 where
  pub pages : StageLeads w v g content forced h k s a
  pub locks : Goes l u.facility v.facility left h.marks.member (gone_by s)
  pub owners : OwnersStand locks.moved.world v.facility pages.left.owner
  pub again : HasLeft own k.marks → InBoth pages.world locks.moved.world v pages.left pages.versions pages.force left own k

abbrev pub StagesGo : Type 0
StagesGo = (w : World) (l : LockWorld) (u v : Outside) (g : Holdings) (content : ℕ → ℕ → List ℕ) (forced : ℕ → ℕ) (held left : Claims) (own : OwnClaims) (h k : Held) (s : RestartSent) (a : Answered)
    → InBoth w l u g content forced held own h → (happens : Happens (as_restarting u) h s a (as_restarting v) k) → happens.intent ≢ intent.Up → StageTells w u v g content forced h k s a happens
    → FreesSent own s → Leads held left own h.marks k.marks → StageGoes w l u v g content forced left own h k s a

-- ---- an event that changes nothing of the pages, as each of its own member's but those of a castout, leaves it beside them

pub record PagesStay (w : World) (v : Outside) (g : Holdings) (content : ℕ → ℕ → List ℕ) (forced : ℕ → ℕ) (h : Held) : Type 0 where
  pub moves : List Move
  pub world : World
  pub run : Run set_of w moves world
  pub pages : InPages world v (with_facility g v.facility) content forced h
  pub others : SameOthers g (with_facility g v.facility) forced forced h.marks.member

abbrev pub StageStays : Type 0
StageStays = (w : World) (u v : Outside) (g : Holdings) (content : ℕ → ℕ → List ℕ) (forced : ℕ → ℕ) (h : Held) → InPages w u g content forced h → KeepsPages u.facility v.facility → v.drive ≡ u.drive → PagesStay w v g content forced h

-- and so does a castout of its own member, which leaves all else that the group holds of that
abbrev pub StageCasts : Type 0
StageCasts = (w : World) (u v : Outside) (g left : Holdings) (content : ℕ → ℕ → List ℕ) (forced : ℕ → ℕ) (h : Held)
    → InPages w u g content forced h → (goes : GroupGoes w g left content forced h.marks.member) → LeavesMember g left h.marks.member → left.facility ≡ v.facility → Shows v.drive left.disk → InPages goes.world v left content forced h

-- ---- its end is one move of pages. It has read its log then, and its member owns no page
abbrev pub StageEnds : Type 0
StageEnds = (w : World) (l : LockWorld) (u v : Outside) (g : Holdings) (content : ℕ → ℕ → List ℕ) (forced : ℕ → ℕ) (held : Claims) (own : OwnClaims) (h k : Held) (s : RestartSent) (a : Answered)
    → InBoth w l u g content forced held own h → IsListing u.facility h.marks → (happens : Happens (as_restarting u) h s a (as_restarting v) k) → happens.intent ≡ intent.Up → IsOver w v g content forced h.marks.member
