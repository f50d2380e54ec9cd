-- What the frames of a group's members are worth, in words of the members, the facility and the disk alone.
use Rattle.std.specs.Prelude.{◌≡◌, ◌≢◌, ℕ, ◌+◌, true, false, List, Some, None, unwrap_or, slice_get}
use Rattle.ds_base.specs.declared.names.PageId.{PageId}
use Rattle.ds_disk.specs.Contents.{Contents}
use Rattle.ds_disk.specs.Pages as disk
use Rattle.cache_structure.specs.Directory.{bit, bytes_of, is_changed}
use Rattle.list_structure.specs.declared.standing.MemberStatus.TheVariants.{Up}
use Rattle.list_structure.specs.Standings.{status_of}
use Rattle.facility.specs.States.{Held as Facility}
use Rattle.member_pool.specs.Frames.{find_page}
use Rattle.member_marks.specs.Claims.{has_page}
use Rattle.member_marks.specs.Frames.{frame_in}
use Rattle.member_effects.specs.Changes.{bytes_at}
use Rattle.page_owners.specs.Given.{Drive, Held, Member}
use Rattle.group_locks.specs.Given.{CrewState}
use Rattle.page_protocol.specs.Moves.{World}
use Rattle.group_pages.specs.Stands.{PagesTied}

-- ---- plain words

-- the group's copy of a page: the cache structure's bytes, or else the disk's page
abbrev pub copy_of : Contents → Facility → PageId → List ℕ
copy_of c f id = unwrap_or (bytes_of f.directory id) (disk.page_at c.pages id)

-- the member of this place is up
pub record IsUpAt (s : CrewState) (at : ℕ) (m : Member) : Type 0 where
  pub there : slice_get s.members at ≡ Some m
  pub up : status_of s.facility.lists.statuses (at + 1) ≡ Up

-- its frame of this number has the page, with bytes of it
pub record HasCopy (h : Held) (index : ℕ) (id : PageId) : Type 0 where
  pub page : find_page h.marks.heads.frames id ≡ Some index
  pub filled : (frame_in h.marks.heads index).filled ≡ true

-- and its bit is set, so that the member may read and change the page in it
pub record MayUse (f : Facility) (h : Held) (index : ℕ) (id : PageId) : Type 0 where
  pub has : HasCopy h index id
  pub valid : bit f.directory h.marks.member index ≡ true

-- ---- what holds of them

-- A copy that may be used is the group's, if its member hasn't changed it since it was written.
abbrev pub ReadsNewest : Contents → CrewState → Type 0
ReadsNewest c s = (at index : ℕ) (m : Member) (id : PageId) → IsUpAt s at m → MayUse s.facility m.holds index id → (frame_in m.holds.marks.heads index).changed ≡ false → bytes_at m.holds.pages index ≡ copy_of c s.facility id

-- One that was changed is of a page whose lock its member has.
abbrev pub ChangesOwn : CrewState → Type 0
ChangesOwn s = (at index : ℕ) (m : Member) (id : PageId) → IsUpAt s at m → find_page m.holds.marks.heads.frames id ≡ Some index → (frame_in m.holds.marks.heads index).changed ≡ true → has_page m.holds.marks id ≡ true

-- No two members have a page's lock.
abbrev pub OwnAlone : CrewState → Type 0
OwnAlone s = (a b : ℕ) (m n : Member) (id : PageId) → IsUpAt s a m → IsUpAt s b n → has_page m.holds.marks id ≡ true → has_page n.holds.marks id ≡ true → m.holds.marks.member ≡ n.holds.marks.member

-- What isn't changed in the cache structure is on disk.
abbrev pub CleanIsWritten : Contents → CrewState → Type 0
CleanIsWritten c s = (id : PageId) → is_changed s.facility.directory id ≡ false → copy_of c s.facility id ≡ disk.page_at c.pages id

-- While the cache structure is lost, no copy may be used.
abbrev pub LostUsesNone : CrewState → Type 0
LostUsesNone s = (at index : ℕ) (m : Member) (id : PageId) → s.facility.directory.lost ≡ true → IsUpAt s at m → MayUse s.facility m.holds index id → ⊥

pub record PagesAreSound (c : Contents) (s : CrewState) : Type 0 where
  pub newest : ReadsNewest c s
  pub own : ChangesOwn s
  pub alone : OwnAlone s
  pub clean : CleanIsWritten c s
  pub lost : LostUsesNone s

-- So it is wherever a group stands beside a good world of pages.
abbrev pub TiedIsSound : Type 0
TiedIsSound = (d : Drive) (s : CrewState) (w : World) (c : Contents) → d.contents ≡ Some c → PagesTied d s w → PagesAreSound c s
