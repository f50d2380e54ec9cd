-- The commands of the cache structure, as moves.
use Rattle.std.specs.Prelude.{◌≡◌, ℕ, ◌≤◌, true, false, ◌||◌, if◌then◌else◌, List, [], ◌∷◌, ◌++◌, Option, Some, None, is_some}
use Rattle.ds_base.specs.declared.names.PageId.{PageId}
use Rattle.list_structure.specs.Standings.{status_of, is_live}
use Rattle.cache_structure.specs.Entries.{Entry, entry_of}
use Rattle.cache_structure.specs.Directory.{Directory, has_free_place, reclaimable}
use Rattle.cache_structure.specs.Sound.{IsSound}
use Rattle.facility.specs.declared.command.Reply.TheVariants as reply
use Rattle.facility.specs.States.{Held}
use Rattle.facility.specs.CacheCommands.{ReadsPage, WritesPage}
use Rattle.page_protocol.specs.Page.{AllStable}
use Rattle.page_protocol.specs.Moves.{World, Move, At, Reclaim, Read, Write}
use Rattle.page_protocol.specs.Always.{Good}
use Rattle.page_world.specs.Numbers.{page_number}
use Rattle.page_world.specs.Holdings.{Copy, Holdings, with_copy, with_facility}
use Rattle.page_world.specs.Tied.{Tied, Moved}

-- ---- who gives a command, and where

pub record IsLive (g : Holdings) (m : ℕ) : Type 0 where
  pub least : 1 ≤ m
  pub among : m ≤ g.facility.lists.members
  pub live : is_live (status_of g.facility.lists.statuses m) ≡ true

-- the member has the page in the frame of this index
pub record HasFrame (g : Holdings) (m n index : ℕ) : Type 0 where
  pub placed : (g.copies m n).placed ≡ true
  pub at : (g.copies m n).index ≡ index

-- ---- an entry is found or made

abbrev pub reclaim_of : Option Entry → List Move
reclaim_of None = []
reclaim_of (Some e) = At (page_number e.page) Reclaim ∷ []

-- an entry for the page: where there is none and no place is free, one is made by the reclaim of another page's
abbrev pub entry_moves : Directory → PageId → List Move
entry_moves d id = if is_some (entry_of d.entries id) || has_free_place d then [] else reclaim_of (reclaimable d)

-- ---- read

-- the copy has the bytes that were found, unless it is changed
abbrev pub found_copy : Copy → List ℕ → Copy
found_copy c bytes = record c { filled = true; noted = true; bytes = if c.marked then c.bytes else bytes }

-- the cache structure has no bytes: only a changed copy stays
abbrev pub empty_copy : Copy → Copy
empty_copy c = record c { filled = c.marked; noted = true }

abbrev pub FindsMoves : Type 0
FindsMoves = (w : World) (g : Holdings) (content : ℕ → ℕ → List ℕ) (m index : ℕ) (id : PageId) (page bytes : List ℕ) (v : Held)
    → Good w → Tied w g content → IsSound g.facility.directory → IsLive g m → HasFrame g m (page_number id) index → ReadsPage g.facility m id index page reply.Found v bytes
    → Moved w (entry_moves g.facility.directory id ++ At (page_number id) (Read m false) ∷ []) (with_facility (with_copy g m (page_number id) (found_copy (g.copies m (page_number id)) bytes)) v) content

abbrev pub RegistersMoves : Type 0
RegistersMoves = (w : World) (g : Holdings) (content : ℕ → ℕ → List ℕ) (m index : ℕ) (id : PageId) (page bytes : List ℕ) (v : Held)
    → Good w → Tied w g content → IsSound g.facility.directory → IsLive g m → HasFrame g m (page_number id) index → ReadsPage g.facility m id index page reply.NoData v bytes
    → Moved w (entry_moves g.facility.directory id ++ At (page_number id) (Read m false) ∷ []) (with_facility (with_copy g m (page_number id) (empty_copy (g.copies m (page_number id)))) v) content

-- ---- write

abbrev pub written_copy : Copy → Copy
written_copy c = record c { marked = false; noted = true }

-- a changed copy whose changes are all stable
abbrev pub WritesMoves : Type 0
WritesMoves = (w : World) (g : Holdings) (content : ℕ → ℕ → List ℕ) (m index : ℕ) (id : PageId) (page : List ℕ) (v : Held)
    → Good w → Tied w g content → IsSound g.facility.directory → IsLive g m → HasFrame g m (page_number id) index
    → (g.copies m (page_number id)).marked ≡ true → (g.copies m (page_number id)).bytes ≡ page → AllStable w.group (w.pages (page_number id)) (w.pages (page_number id)).last
    → WritesPage g.facility m id index page reply.Written v
    → Moved w (entry_moves g.facility.directory id ++ At (page_number id) (Write m) ∷ []) (with_facility (with_copy g m (page_number id) (written_copy (g.copies m (page_number id)))) v) content
