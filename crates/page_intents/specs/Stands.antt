-- A member that is up, beside the pages of the group: what it has of them is in its frames.
use Rattle.std.specs.Prelude.{◌≡◌, ◌≢◌, ℕ, ◌+◌, ◌≤◌, ◌==◌, ◌||◌, true, false, if◌then◌else◌, List, length, Option, Some, None}
use Rattle.std.specs.List.{flat_map, count_by}
use Rattle.ds_model.specs.declared.log.LogRecord.{LogRecord}
use Rattle.ds_model.specs.RecordBytes.{record_bytes}
use Rattle.log_record.specs.Changes.{is_drawn}
use Rattle.list_structure.specs.declared.standing.MemberStatus.TheVariants.{Up}
use Rattle.list_structure.specs.Standings.{status_of}
use Rattle.facility.specs.States.{Held}
use Rattle.page_index.specs.Places.{AreApart}
use Rattle.member_pool.specs.Frames.{find_page, page_of}
use Rattle.member_pool.specs.Heads.{HeadState}
use Rattle.member_marks.specs.State.{MarksState}
use Rattle.member_marks.specs.Claims.{has_page}
use Rattle.member_marks.specs.Frames.{frame_in}
use Rattle.member_effects.specs.Kept.{Kept}
use Rattle.member_effects.specs.Changes.{bytes_at}
use Rattle.page_protocol.specs.Moves.{World, Move}
use Rattle.page_world.specs.Numbers.{page_at}
use Rattle.page_world.specs.Holdings.{Copy, no_copy, Holdings}
use Rattle.page_world.specs.Tied.{Moved}
use Rattle.page_intents.specs.Numbers.{AreNumbered}
use Rattle.page_intents.specs.Plain.{ArePlain, none_waits}

-- ---- frames as copies of pages

-- the page in this frame: the read that fills the frame, or finds that the disk has to, registers it for its page
abbrev pub copy_at : HeadState → List (List ℕ) → ℕ → Copy
copy_at heads pages at = record {
  placed = true;
  index = at;
  filled = (frame_in heads at).filled;
  marked = (frame_in heads at).changed;
  noted = (frame_in heads at).registered || (frame_in heads at).filled;
  bytes = bytes_at pages at;
}

abbrev pub copy_in : HeadState → List (List ℕ) → Option ℕ → Copy
copy_in heads pages None = no_copy
copy_in heads pages (Some at) = copy_at heads pages at

-- the page of this number
abbrev pub copy_of : HeadState → List (List ℕ) → ℕ → Copy
copy_of heads pages n = copy_in heads pages (find_page heads.frames (page_at n))

-- ---- the member

-- these bytes are records that stand behind so many drawn ones, with which they are so many
pub record AreBehind (stable written : ℕ) (bytes : List ℕ) : Type 0 where
  pub records : List LogRecord
  pub spelled : bytes ≡ flat_map record_bytes records
  pub counted : written ≡ stable + count_by (λ (r : LogRecord). is_drawn r.body) records

-- it is up; its log stands on disk up to the number that its marks know, and behind that its log buffer has the rest of what was
-- written; no page stands in two of its frames, each frame has bytes, and its copies are what is in its frames; and its page locks are
-- those that its lock manager claims
pub record IsUp (g : Holdings) (forced : ℕ → ℕ) (k : Kept) : Type 0 where
  pub least : 1 ≤ k.marks.member
  pub among : k.marks.member ≤ g.facility.lists.members
  pub up : status_of g.facility.lists.statuses k.marks.member ≡ Up
  pub log : forced k.marks.member ≡ k.marks.log.stable
  pub last : k.marks.log.last ≤ g.facility.counter
  pub pending : AreBehind (g.stable k.marks.member) (g.written k.marks.member) k.marks.log.pending
  pub apart : AreApart page_of k.marks.heads.frames
  pub each : length k.pages ≡ length k.marks.heads.frames
  pub copies : (n : ℕ) → g.copies k.marks.member n ≡ copy_of k.marks.heads k.pages n
  pub owns : (n : ℕ) → has_page k.marks (page_at n) ≡ true → g.owner n ≡ Some k.marks.member
  pub no_more : (n : ℕ) → has_page k.marks (page_at n) ≡ false → g.owner n ≢ Some k.marks.member

-- what the group holds behind an event of the member that leaves this of the facility, and this in its frames
abbrev pub behind : Holdings → Held → ℕ → Kept → Holdings
behind g v m t = record g {
  facility = v;
  copies = λ k n. if k == m then copy_of t.marks.heads t.pages n else g.copies k n;
}

-- moves lead to a world that stands beside what an event of it has left, whose versions still show their numbers; and the member is
-- still up. The log of each member stands on disk up to this number. No move is a failure, and none is an append but where nothing waits in
-- the member's log buffer behind it
pub record Goes (w : World) (content : ℕ → ℕ → List ℕ) (forced : ℕ → ℕ) (left : Holdings) (s : MarksState) (t : Kept) : Type 0 where
  pub moves : List Move
  pub moved : Moved w moves left content
  pub plain : ArePlain (none_waits t.marks.log.pending) moves
  pub numbered : AreNumbered moved.world content forced
  pub same : t.marks.member ≡ s.member
  pub stands : IsUp left forced t
