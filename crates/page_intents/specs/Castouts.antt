-- The intents of a castout, of a member that is up, and of one whose restart is in hand.
use Rattle.std.specs.Prelude.{◌≡◌, ◌≢◌, ◌⊎◌, ℕ, ◌==◌, Bool, true, false, if◌then◌else◌, List, Option, Some, None}
use Rattle.ds_base.specs.declared.names.PageId.{PageId}
use Rattle.list_structure.specs.Standings.{status_of}
use Rattle.facility.specs.declared.command.Reply.{Reply}
use Rattle.facility.specs.declared.command.Reply.TheVariants as reply
use Rattle.facility.specs.States.{Held, castout_member}
use Rattle.facility.specs.CacheCommands.{BeginsCastout, EndsCastout}
use Rattle.member_needs.specs.declared.castout.Cast.{Cast as InHand}
use Rattle.member_effects.specs.Kept.{Kept}
use Rattle.page_protocol.specs.Page.{put}
use Rattle.page_protocol.specs.Moves.{World, Move}
use Rattle.page_protocol.specs.Always.{Good}
use Rattle.page_world.specs.Numbers.{page_number}
use Rattle.page_world.specs.Holdings.{Cast, no_cast, Holdings}
use Rattle.page_world.specs.Tied.{Moved, Tied}
use Rattle.page_intents.specs.Numbers.{AreNumbered}
use Rattle.page_intents.specs.Plain.{ArePlain}
use Rattle.page_intents.specs.Stands.{Goes}
use Rattle.page_intents.specs.Frames.{Begins}

-- the page that the member has read to be cast out, with the bytes in its buffer
abbrev pub cast_of : Option InHand → List ℕ → ℕ → Cast
cast_of None buffer n = no_cast
cast_of (Some c) buffer n = if n == page_number c.page then record { taken = true; sent = c.is_written; bytes = buffer } else no_cast

abbrev pub HasCast : Holdings → ℕ → Option InHand → List ℕ → Type 0
HasCast g m cast buffer = (n : ℕ) → g.casts m n ≡ cast_of cast buffer n

-- what the group holds behind an event that leaves this of the facility, and this in the member's hand
abbrev pub cast_behind : Holdings → Held → ℕ → Option InHand → List ℕ → Holdings
cast_behind g v m cast buffer = record g { facility = v; casts = λ k n. if k == m then cast_of cast buffer n else g.casts k n }

-- ---- the page is read under its castout lock

abbrev pub taken_cast : Option InHand → PageId → Reply → Option InHand
taken_cast cast page reply.Taken = Some (record { page = page; is_written = false })
taken_cast cast page _ = cast

-- whatever the reply
abbrev pub CastReadGoes : Type 0
CastReadGoes = (w : World) (g : Holdings) (content : ℕ → ℕ → List ℕ) (forced : ℕ → ℕ) (k : Kept) (cast : Option InHand) (buffer bytes : List ℕ) (page : PageId) (answer : Reply) (v : Held)
    → Begins w g content forced k → HasCast g k.marks.member cast buffer → BeginsCastout g.facility k.marks.member page buffer answer v bytes
    → Goes w content forced (cast_behind g v k.marks.member (taken_cast cast page answer) bytes) k.marks k

-- ---- it is written to disk, by a member that has the lock as it looks in this event

abbrev pub CastWriteGoes : Type 0
CastWriteGoes = (w : World) (g : Holdings) (content : ℕ → ℕ → List ℕ) (forced : ℕ → ℕ) (k : Kept) (cast : InHand) (buffer : List ℕ)
    → Begins w g content forced k → HasCast g k.marks.member (Some cast) buffer → castout_member g.facility cast.page ≡ Some k.marks.member
    → Goes w content forced (record (cast_behind g g.facility k.marks.member (Some (record cast { is_written = true })) buffer) { disk = put g.disk (page_number cast.page) buffer }) k.marks k

-- ---- the castout is done: the page was written, or the member hasn't the lock any more

abbrev pub CastDoneGoes : Type 0
CastDoneGoes = (w : World) (g : Holdings) (content : ℕ → ℕ → List ℕ) (forced : ℕ → ℕ) (k : Kept) (cast : InHand) (buffer : List ℕ) (answer : Reply) (v : Held)
    → Begins w g content forced k → HasCast g k.marks.member (Some cast) buffer → (cast.is_written ≡ true) ⊎ (castout_member g.facility cast.page ≢ Some k.marks.member)
    → EndsCastout g.facility k.marks.member cast.page answer v
    → Goes w content forced (cast_behind g v k.marks.member None buffer) k.marks k

-- ---- each of them is so of any member, whatever its standing: moves lead to a world that stands beside what is left, whose versions still show
-- their numbers; none of the moves is a failure, and none an append

pub record CastGoes (w : World) (content : ℕ → ℕ → List ℕ) (forced : ℕ → ℕ) (left : Holdings) : Type 0 where
  pub moves : List Move
  pub moved : Moved w moves left content
  pub plain : (appends : Bool) → ArePlain appends moves
  pub numbered : AreNumbered moved.world content forced

abbrev pub AnyReadGoes : Type 0
AnyReadGoes = (w : World) (g : Holdings) (content : ℕ → ℕ → List ℕ) (forced : ℕ → ℕ) (m : ℕ) (cast : Option InHand) (buffer bytes : List ℕ) (page : PageId) (answer : Reply) (v : Held)
    → Tied w g content → AreNumbered w content forced → HasCast g m cast buffer → BeginsCastout g.facility m page buffer answer v bytes
    → CastGoes w content forced (cast_behind g v m (taken_cast cast page answer) bytes)

abbrev pub AnyWriteGoes : Type 0
AnyWriteGoes = (w : World) (g : Holdings) (content : ℕ → ℕ → List ℕ) (forced : ℕ → ℕ) (m : ℕ) (cast : InHand) (buffer : List ℕ)
    → Tied w g content → AreNumbered w content forced → HasCast g m (Some cast) buffer → castout_member g.facility cast.page ≡ Some m
    → CastGoes w content forced (record (cast_behind g g.facility m (Some (record cast { is_written = true })) buffer) { disk = put g.disk (page_number cast.page) buffer })

abbrev pub AnyDoneGoes : Type 0
AnyDoneGoes = (w : World) (g : Holdings) (content : ℕ → ℕ → List ℕ) (forced : ℕ → ℕ) (m : ℕ) (cast : InHand) (buffer : List ℕ) (answer : Reply) (v : Held)
    → Good w → Tied w g content → AreNumbered w content forced → HasCast g m (Some cast) buffer → (cast.is_written ≡ true) ⊎ (castout_member g.facility cast.page ≢ Some m)
    → EndsCastout g.facility m cast.page answer v → CastGoes w content forced (cast_behind g v m None buffer)

-- what the group holds of the member, but for what it casts out, is as it was, and so are the owners of pages
pub record LeavesMember (g left : Holdings) (m : ℕ) : Type 0 where
  pub standing : status_of left.facility.lists.statuses m ≡ status_of g.facility.lists.statuses m
  pub stable : left.stable m ≡ g.stable m
  pub written : left.written m ≡ g.written m
  pub copies : (n : ℕ) → left.copies m n ≡ g.copies m n
  pub owner : left.owner ≡ g.owner
