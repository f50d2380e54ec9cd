-- A version of a page in bytes, and what redo by the logs makes of it.
use Rattle.std.specs.Prelude.{◌≡◌, ℕ, zero, suc, ◌<◌, true, List, [], ◌∷◌, Some, if◌then◌else◌, nat_lt, filter}
use Rattle.page_protocol.specs.Page.{Page, Group}
use Rattle.page_protocol.specs.Moves.{IsRead}
use Rattle.page_protocol.specs.Coherent.{Coherent}
use Rattle.page_protocol.specs.Down.{Grounded}
use Rattle.page_protocol.specs.Always.{Numbered}
use Rattle.page_protocol.specs.Redo.{Patch, Change, Bytes, page_after, redone, is_of, zeros}

-- d changes from the i-th on
abbrev pub changes : (ℕ → Change) → ℕ → ℕ → List Change
changes c i zero = []
changes c i (suc d) = c i ∷ changes c (suc i) d

abbrev pub version_bytes : Patch → (ℕ → Change) → ℕ → Bytes
version_bytes patch c v = page_after patch zeros (changes c 0 v)

-- the records of the chain's changes: the author's log has them, and they bear the chain's numbers
pub record AreRecordsOf (p : Page) (c : ℕ → Change) : Type 0 where
  pub member : (i : ℕ) → i < p.last → (c i).member ≡ p.author i
  pub number : (i : ℕ) → i < p.last → (c i).lrsn ≡ p.lrsn i

-- the page's records in the merged logs of these lengths
abbrev pub merged : Page → (ℕ → Change) → (ℕ → ℕ) → ℕ → ℕ → List Change
merged p c lengths i zero = []
merged p c lengths i (suc d) = if nat_lt (p.place i) (lengths (p.author i)) then c i ∷ merged p c lengths (suc i) d else merged p c lengths (suc i) d

-- a restarting owner comes from the shared version to the last by its own log
abbrev pub RestartReachesLast : Type 0
RestartReachesLast = (patch : Patch) (g : Group) (p : Page) (c : ℕ → Change) (m : ℕ) → Coherent g p → Numbered g p → AreRecordsOf p c → p.owner ≡ Some m
    → redone patch (version_bytes patch c p.shared) (filter (is_of m) (changes c 0 p.last)) ≡ version_bytes patch c p.last

-- a rebuild comes from the disk's version to the one that it has read
abbrev pub RebuildReachesRead : Type 0
RebuildReachesRead = (patch : Patch) (g : Group) (p : Page) (c : ℕ → Change) (n : ℕ) → Coherent g p → Numbered g p → AreRecordsOf p c → g.lost ≡ true → IsRead g p n
    → redone patch (version_bytes patch c p.disk) (merged p c g.read 0 p.last) ≡ version_bytes patch c n

-- group restart comes from the disk's version to the last
abbrev pub GroupRestartReachesLast : Type 0
GroupRestartReachesLast = (patch : Patch) (g : Group) (p : Page) (c : ℕ → Change) → Grounded g p → Numbered g p → AreRecordsOf p c
    → redone patch (version_bytes patch c p.disk) (merged p c g.stable 0 p.last) ≡ version_bytes patch c p.last
