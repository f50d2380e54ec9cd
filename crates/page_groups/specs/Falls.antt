-- The failure of the whole group, the steps of its restart over the disk alone, and its begin behind that.
use Rattle.std.specs.Prelude.{◌≡◌, ℕ, ◌+◌, ◌<◌, ◌≤◌, true, List, Some}
use Rattle.std.specs.FinMap.{insert}
use Rattle.ds_base.specs.declared.names.PageId.{PageId}
use Rattle.ds_base.specs.declared.names.Sizes.{Sizes}
use Rattle.ds_disk.specs.Contents.{Contents}
use Rattle.page_format.specs.Fields.{lrsn_of}
use Rattle.facility.specs.States.{IsMade}
use Rattle.member_resources.specs.Held.{Held, IsNew}
use Rattle.member_resources.specs.Events as event
use Rattle.member_resources.specs.Events.{Drive}
use Rattle.page_protocol.specs.Page.{put}
use Rattle.page_protocol.specs.Moves.{World, Move, Run}
use Rattle.page_protocol.specs.Always.{Good}
use Rattle.page_world.specs.Groups.{DownTied, Remains, content_with}
use Rattle.page_world.specs.Holdings.{Holdings}
use Rattle.page_world.specs.Numbers.{page_number, set_of}
use Rattle.page_members.specs.Members.{Group, Shows}
use Rattle.page_groups.specs.Groups.{GroupStands, among, made_over}

-- what is left of the group stands beside a good world, whose versions show their numbers
pub record Fallen (w : World) (r : Remains) (content : ℕ → ℕ → List ℕ) : Type 0 where
  pub good : Good w
  pub tied : DownTied w r content
  pub shown : (n i : ℕ) → i < (w.pages n).last → lrsn_of (content n (i + 1)) ≡ (w.pages n).lrsn i

-- moves lead to where that is so
pub record FallsTo (w : World) (r : Remains) (content : ℕ → ℕ → List ℕ) : Type 0 where
  pub moves : List Move
  pub world : World
  pub run : Run set_of w moves world
  pub fallen : Fallen world r content

-- ---- the group fails

abbrev pub remains : Holdings → ℕ → Remains
remains g counter = record { disk = g.disk; stable = g.stable; counter = counter }

-- no change of a page that a log has on disk has a greater number than this one
abbrev pub AreDrawnTo : World → ℕ → Type 0
AreDrawnTo w counter = (n i : ℕ) → i < (w.pages n).last → (w.pages n).place i < w.group.stable ((w.pages n).author i) → (w.pages n).lrsn i ≤ counter

-- all members and the cache
abbrev pub GroupsFall : Type 0
GroupsFall = (w : World) (g : Holdings) (content : ℕ → ℕ → List ℕ) (forced : ℕ → ℕ) (counter : ℕ) → Group w g content forced → AreDrawnTo w counter → FallsTo w (remains g counter) content

-- and once more, while its restart is in hand
abbrev pub GroupsFallAgain : Type 0
GroupsFallAgain = (w : World) (r : Remains) (content : ℕ → ℕ → List ℕ) (counter : ℕ) → Fallen w r content → AreDrawnTo w counter → FallsTo w (record r { counter = counter }) content

-- ---- its restart

-- these are the bytes of a version of the page, no earlier than the disk's
pub record PageLeads (w : World) (content : ℕ → ℕ → List ℕ) (id : PageId) (bytes : List ℕ) : Type 0 where
  pub version : ℕ
  pub later : (w.pages (page_number id)).disk ≤ version
  pub there : version ≤ (w.pages (page_number id)).last
  pub same : bytes ≡ content (page_number id) version

-- so it is behind the write of the page, which the disk tells
pub record PageGoes (w : World) (e : Drive) (r : Remains) (content : ℕ → ℕ → List ℕ) : Type 0 where
  pub falls : FallsTo w r content
  pub drive : Shows e r.disk

abbrev pub PagesGo : Type 0
PagesGo = (d e : Drive) (w : World) (r : Remains) (content : ℕ → ℕ → List ℕ) (id : PageId) (bytes : List ℕ) (x : Contents)
    → Fallen w r content → (s : Shows d r.disk) → e.contents ≡ Some x → x.pages ≡ insert s.contents.pages id bytes → PageLeads w content id bytes → PageGoes w e (record r { disk = put r.disk (page_number id) bytes }) content

-- a page of an older format is written anew: the bytes of its version are these from then on, and show the same number
abbrev pub RenewalsGo : Type 0
RenewalsGo = (d e : Drive) (w : World) (r : Remains) (content : ℕ → ℕ → List ℕ) (id : PageId) (bytes : List ℕ) (x : Contents)
    → Fallen w r content → (s : Shows d r.disk) → e.contents ≡ Some x → x.pages ≡ insert s.contents.pages id bytes → lrsn_of bytes ≡ lrsn_of (r.disk (page_number id))
    → PageGoes w e (record r { disk = put r.disk (page_number id) bytes }) (content_with content (page_number id) (w.pages (page_number id)).disk bytes)

-- it appends a record that changes no page to a log, and one that takes a change back on this page, whose next version these bytes are
abbrev pub appended : Remains → ℕ → Remains
appended r m = record r { stable = put r.stable m (r.stable m + 1); counter = r.counter + 1 }

abbrev pub RecordsGo : Type 0
RecordsGo = (w : World) (r : Remains) (content : ℕ → ℕ → List ℕ) (m : ℕ) → Fallen w r content → FallsTo w (appended r m) content

abbrev pub CompensationsGo : Type 0
CompensationsGo = (w : World) (r : Remains) (content : ℕ → ℕ → List ℕ) (n m : ℕ) (bytes : List ℕ)
    → Fallen w r content → lrsn_of bytes ≡ r.counter + 1 → FallsTo w (appended r m) (content_with content n ((w.pages n).last + 1) bytes)

-- ---- the group begins again

-- each page on disk is its last version, and the group is as it is made
pub record RisesTo (w : World) (r : Remains) (content : ℕ → ℕ → List ℕ) (u : event.World) (sizes : Sizes) (hs : ℕ → Held) : Type 0 where
  pub moves : List Move
  pub world : World
  pub run : Run set_of w moves world
  pub stands : GroupStands world u (made_over u.facility r.disk r.stable) content (λ m. 0) (among sizes.members) hs

abbrev pub GroupsRise : Type 0
GroupsRise = (w : World) (r : Remains) (content : ℕ → ℕ → List ℕ) (u : event.World) (sizes : Sizes) (hs : ℕ → Held)
    → Fallen w r content → ((n : ℕ) → (w.pages n).disk ≡ (w.pages n).last) → IsMade sizes r.counter u.facility → Shows u.drive r.disk → sizes.members ≤ 32 → ((m : ℕ) → among sizes.members m ≡ true → IsNew m sizes (hs m))
    → RisesTo w r content u sizes hs
