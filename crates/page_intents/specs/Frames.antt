-- The intents about frames, of a member that is up: each is lawful, its command or its disk call was done, and the answer is settled.
use Rattle.std.specs.Prelude.{◌≡◌, ℕ, true, false, if◌then◌else◌, List, slice_set, Option}
use Rattle.cache_structure.specs.Sound.{IsSound}
use Rattle.facility.specs.declared.command.Reply.{Reply}
use Rattle.facility.specs.declared.command.Reply.TheVariants as reply
use Rattle.facility.specs.States.{Held}
use Rattle.facility.specs.CacheCommands.{ReadsPage, WritesPage, UnregistersFrame, TestsFrame as TestsIndex}
use Rattle.member_intents.specs.declared.outcome.Sent.{Sent}
use Rattle.member_marks.specs.Frames.{frame_in, after_filled}
use Rattle.member_effects.specs.Kept.{Kept}
use Rattle.member_effects.specs.Changes.{bytes_at, with_marks}
use Rattle.member_effects.specs.Frames.{read_after, tested_after, written_after, unregistered_after}
use Rattle.needs_law.specs.Lawful.{ReadsFrame, FillsFrame, TestsFrame, WritesFrame, FreesFrame}
use Rattle.page_protocol.specs.Moves.{World}
use Rattle.page_protocol.specs.Always.{Good}
use Rattle.page_world.specs.Numbers.{page_number}
use Rattle.page_world.specs.Holdings.{Holdings}
use Rattle.page_world.specs.Newest.{group_bytes}
use Rattle.page_world.specs.Tied.{Tied}
use Rattle.page_intents.specs.Numbers.{AreNumbered}
use Rattle.page_intents.specs.Stands.{IsUp, behind, Goes}

-- a good world stands beside a group with this member
pub record Begins (w : World) (g : Holdings) (content : ℕ → ℕ → List ℕ) (forced : ℕ → ℕ) (k : Kept) : Type 0 where
  pub good : Good w
  pub tied : Tied w g content
  pub numbered : AreNumbered w content forced
  pub sound : IsSound g.facility.directory
  pub up : IsUp g forced k

-- ---- a page is read

-- the bytes that were lent for the page are those of the frame, unless that is changed: then it keeps its own
abbrev pub read_pages : Kept → ℕ → List ℕ → List (List ℕ)
read_pages k at bytes = if (frame_in k.marks.heads at).changed then k.pages else slice_set k.pages at bytes

abbrev pub read_kept : Kept → ℕ → Reply → List ℕ → Kept
read_kept k at answer bytes = record { marks = read_after k.marks at answer; pages = read_pages k at bytes }

-- whatever the reply
abbrev pub ReadGoes : Type 0
ReadGoes = (w : World) (g : Holdings) (content : ℕ → ℕ → List ℕ) (forced : ℕ → ℕ) (k : Kept) (at : ℕ) (out : Sent) (page bytes : List ℕ) (answer : Reply) (v : Held)
    → Begins w g content forced k → (lawful : ReadsFrame k.marks at out) → ((frame_in k.marks.heads at).changed ≡ false → page ≡ bytes_at k.pages at)
    → ReadsPage g.facility k.marks.member lawful.page at page answer v bytes
    → Goes w content forced (behind g v k.marks.member (read_kept k at answer bytes)) k.marks (read_kept k at answer bytes)

-- the frame is filled with the disk's page
abbrev pub filled_kept : Kept → ℕ → List ℕ → Kept
filled_kept k at bytes = record { marks = after_filled k.marks at true; pages = slice_set k.pages at bytes }

abbrev pub FillGoes : Type 0
FillGoes = (w : World) (g : Holdings) (content : ℕ → ℕ → List ℕ) (forced : ℕ → ℕ) (k : Kept) (at : ℕ) (out : Sent)
    → Begins w g content forced k → (lawful : FillsFrame k.marks at out)
    → Goes w content forced (behind g g.facility k.marks.member (filled_kept k at (g.disk (page_number lawful.page)))) k.marks (filled_kept k at (g.disk (page_number lawful.page)))

-- ---- a page is tested

abbrev pub tested_kept : Kept → ℕ → ℕ → Option ℕ → ℕ → Reply → ℕ → Kept
tested_kept k at slot gives limit answer place = with_marks k (tested_after k.marks k.pages at slot gives limit answer place)

abbrev pub TestGoes : Type 0
TestGoes = (w : World) (g : Holdings) (content : ℕ → ℕ → List ℕ) (forced : ℕ → ℕ) (k : Kept) (at slot : ℕ) (gives : Option ℕ) (limit place : ℕ) (out : Sent) (answer : Reply) (v : Held)
    → Begins w g content forced k → TestsFrame k.marks at slot gives out → TestsIndex g.facility k.marks.member at answer v
    → Goes w content forced (behind g v k.marks.member (tested_kept k at slot gives limit answer place)) k.marks (tested_kept k at slot gives limit answer place)

-- where the answer is that it is valid, a frame that isn't changed has the bytes of the group's copy
abbrev pub TestTells : Type 0
TestTells = (w : World) (g : Holdings) (content : ℕ → ℕ → List ℕ) (forced : ℕ → ℕ) (k : Kept) (at slot : ℕ) (gives : Option ℕ) (out : Sent) (v : Held)
    → Begins w g content forced k → (lawful : TestsFrame k.marks at slot gives out) → TestsIndex g.facility k.marks.member at reply.Valid v
    → (frame_in k.marks.heads at).changed ≡ false → bytes_at k.pages at ≡ group_bytes g (page_number lawful.page)

-- ---- a page is written

abbrev pub written_kept : Kept → ℕ → Reply → Kept
written_kept k at answer = with_marks k (written_after k.marks at answer)

abbrev pub WriteGoes : Type 0
WriteGoes = (w : World) (g : Holdings) (content : ℕ → ℕ → List ℕ) (forced : ℕ → ℕ) (k : Kept) (at : ℕ) (out : Sent) (answer : Reply) (v : Held)
    → Begins w g content forced k → (lawful : WritesFrame k.marks k.pages at out)
    → WritesPage g.facility k.marks.member lawful.page at (bytes_at k.pages at) answer v
    → Goes w content forced (behind g v k.marks.member (written_kept k at answer)) k.marks (written_kept k at answer)

-- ---- a frame is made free

abbrev pub freed_kept : Kept → ℕ → Reply → Kept
freed_kept k at answer = with_marks k (unregistered_after k.marks at answer)

abbrev pub FreeGoes : Type 0
FreeGoes = (w : World) (g : Holdings) (content : ℕ → ℕ → List ℕ) (forced : ℕ → ℕ) (k : Kept) (at : ℕ) (out : Sent) (answer : Reply) (v : Held)
    → Begins w g content forced k → FreesFrame k.marks at out → UnregistersFrame g.facility k.marks.member at answer v
    → Goes w content forced (behind g v k.marks.member (freed_kept k at answer)) k.marks (freed_kept k at answer)
