-- A search through copies that may be old, and what it meets.
use Rattle.std.specs.Prelude.{◌≡◌, ◌≢◌, ℕ, zero, suc, ◌<◌, ◌≤◌, false, Option, Some, None, if◌then◌else◌}
use Rattle.index_protocol.specs.Index.{Rest, Page, Link, World, Move, Step, Fail, Give, Split, BranchEntry, Write, End, GroupRestart, Kind, Unmade, Leaf, Branch, beyond, IsOpen, IsThere}
use Rattle.index_protocol.specs.Whole.{WholeIndex}

pub data Go : Type 0 where
  Right : ℕ → Go
  Down : ℕ → Go
  Here : Go
  Nowhere : Go

abbrev pub or_else : Option ℕ → Option ℕ → Option ℕ
or_else (Some c) d = Some c
or_else None d = d

-- the entry of the greatest key up to k
unfoldable pub greatest : (ℕ → Option ℕ) → ℕ → Option ℕ
greatest e zero = e zero
greatest e (suc k) = or_else (e (suc k)) (greatest e k)

abbrev pub down : Option ℕ → Go
down (Some c) = Down c
down None = Nowhere

abbrev pub inside : Kind → (ℕ → Option ℕ) → ℕ → Go
inside Leaf e k = Here
inside Branch e k = down (greatest e k)
inside Unmade e k = Nowhere

abbrev pub past : Option Link → Go
past (Some l) = Right l.right
past None = Nowhere

-- one copy of a page, read for a key
abbrev pub look : Kind → Option Link → (ℕ → Option ℕ) → ℕ → Go
look kind link e k = if beyond link k then past link else inside kind e k

-- a copy that a member may have: the group's, and the last version of a page whose unshown changes are its own
pub record IsCopy (g : Rest) (m n : ℕ) (p : Page) (v : ℕ) : Type 0 where
  pub from : g.shown n ≤ v
  pub within : v ≤ p.last
  pub later : g.shown n < v → g.writer n ≡ m
  pub own : g.writer n ≡ m → v ≡ p.last

-- a page that a member's search for the key may stand at: not below its low key, and there for this member
pub record Reached (g : Rest) (m k n : ℕ) : Type 0 where
  pub made : g.kind n ≢ Unmade
  pub low : g.low n ≤ k
  pub there : g.shown n ≡ 0 → g.writer n ≡ m
  pub opens : IsOpen g m n

abbrev pub Leads : Rest → Page → ℕ → ℕ → ℕ → ℕ → Go → Type 0
Leads g p m k n v (Right r) = Reached g m k r × (g.kind r ≡ g.kind n) × (g.low n < g.low r)
Leads g p m k n v (Down c) = Reached g m k c × (g.kind n ≡ Branch) × (g.kind c ≡ Leaf)
Leads g p m k n v Here = (g.kind n ≡ Leaf) × (1 ≤ v) × (beyond (p.link v) k ≡ false)
Leads g p m k n v Nowhere = ⊥

-- a search begins at page 1; where that is not there, it meets zeros, and no key is known
abbrev pub SearchBegins : Type 0
SearchBegins = (w : World) (m k : ℕ) → WholeIndex w → IsThere w.rest m 1 → Reached w.rest m k 1

-- each copy leads on to a page that the search may stand at, or is the leaf that it seeks; so a writer that came by
-- copies may change what it reached
abbrev pub SearchLeads : Type 0
SearchLeads = (w : World) (m k n v : ℕ) → WholeIndex w → Reached w.rest m k n → IsCopy w.rest m n (w.pages n) v
    → Leads w.rest (w.pages n) m k n v (look (w.rest.kind n) ((w.pages n).link v) ((w.pages n).entry v) k)

-- the key has its place, and no other member that gave it still keeps it from others
pub record IsKnown (g : Rest) (m k x : ℕ) : Type 0 where
  pub given : g.given k ≡ Some x
  pub free : (o : ℕ) → g.giver k ≡ Some o → o ≡ m

abbrev pub KnownBegins : Type 0
KnownBegins = (w : World) (m k x : ℕ) → WholeIndex w → IsKnown w.rest m k x → IsThere w.rest m 1

-- each copy of a leaf that covers a key names no place but the key's, and names it wherever it is known
pub record Answers (g : Rest) (m k : ℕ) (e : Option ℕ) : Type 0 where
  pub place : (x : ℕ) → e ≡ Some x → g.given k ≡ Some x
  pub finds : (x : ℕ) → IsKnown g m k x → e ≡ Some x

abbrev pub CopyAnswers : Type 0
CopyAnswers = (w : World) (m k n v : ℕ) → WholeIndex w → w.rest.kind n ≡ Leaf → w.rest.low n ≤ k → 1 ≤ v → IsCopy w.rest m n (w.pages n) v
    → beyond ((w.pages n).link v) k ≡ false → Answers w.rest m k ((w.pages n).entry v k)

-- ---- what each move, another member's failure too, leaves to a member's search
pub record Later (m : ℕ) (w v : World) : Type 0 where
  pub reached : (k n : ℕ) → Reached w.rest m k n → Reached v.rest m k n
  pub kind : (k n : ℕ) → Reached w.rest m k n → v.rest.kind n ≡ w.rest.kind n
  pub low : (k n : ℕ) → Reached w.rest m k n → v.rest.low n ≡ w.rest.low n
  pub known : (k x : ℕ) → IsKnown w.rest m k x → IsKnown v.rest m k x

abbrev pub Survives : ℕ → Move → Type 0
Survives m (Fail f c) = f ≢ m
Survives m (Give _ _ _ _) = Unit {0}
Survives m (Split _ _ _ _) = Unit {0}
Survives m (BranchEntry _ _ _ _) = Unit {0}
Survives m (Write _ _) = Unit {0}
Survives m (End _ _) = Unit {0}
Survives m GroupRestart = ⊥

abbrev pub MovesKeep : Type 0
MovesKeep = (m : ℕ) (w v : World) (e : Move) → WholeIndex w → Step w e v → Survives m e → Later m w v
