-- What holds of each page, in each of its versions, after every move.
use Rattle.std.specs.Prelude.{◌≡◌, ◌≢◌, ℕ, ◌<◌, ◌≤◌, true, false, List, [], ◌∷◌, Some, None}
use Rattle.index_protocol.specs.Index.{Rest, Page, Link, World, Move, Step, start, Unmade, Leaf, Branch, beyond}

pub record Roots (g : Rest) : Type 0 where
  pub root_kind : g.kind 1 ≡ Branch
  pub root_low : g.low 1 ≡ 0
  pub root_open : (q : ℕ) → g.parted_at 1 q ≡ 0
  pub leaf_kind : g.kind 2 ≡ Leaf
  pub leaf_low : g.low 2 ≡ 0
  pub leaf_open : (q : ℕ) → g.parted_at 2 q ≡ 0
  -- until the format is shown, its writer alone gives keys
  pub formed : (k x : ℕ) → g.given k ≡ Some x → g.shown 1 ≡ 0 → g.giver k ≡ Some (g.writer 1)

-- the versions in which pages gave up the keys of others are there
pub record Paths (g : Rest) (last : ℕ → ℕ) : Type 0 where
  pub made : (n q : ℕ) → g.kind n ≢ Unmade → g.parted_at n q ≤ last q
  pub self : (n : ℕ) → g.kind n ≢ Unmade → g.parted_at n n ≡ 0
  pub kinds : (n q : ℕ) → g.kind n ≢ Unmade → 1 ≤ g.parted_at n q → g.kind q ≡ g.kind n
  -- a page's keys left its left page in the split that made it, and the others where the left page's did
  pub first : (n q : ℕ) → g.kind n ≢ Unmade → g.parted_at n (g.split_of n) ≡ 0 → g.parted_at n q ≡ 0
  pub roots : (n : ℕ) → g.kind n ≢ Unmade → g.parted_at n (g.split_of n) ≡ 0 → n ≢ 1 → n ≡ 2
  pub chain : (n q : ℕ) → g.kind n ≢ Unmade → 1 ≤ g.parted_at n (g.split_of n) → q ≢ g.split_of n → g.parted_at n q ≡ g.parted_at (g.split_of n) q
  pub left_low : (n : ℕ) → g.kind n ≢ Unmade → 1 ≤ g.parted_at n (g.split_of n) → g.low (g.split_of n) < g.low n

-- the links and the entries of branches, in each version
pub record Shape (g : Rest) (n : ℕ) (p : Page) : Type 0 where
  pub unmade : g.kind n ≡ Unmade → p.last ≡ 0
  pub made : g.kind n ≢ Unmade → 1 ≤ p.last
  pub seen : g.shown n ≤ p.last
  pub above : (v : ℕ) (l : Link) → 1 ≤ v → v ≤ p.last → p.link v ≡ Some l → g.low n < l.high
  pub right_low : (v : ℕ) (l : Link) → 1 ≤ v → v ≤ p.last → p.link v ≡ Some l → g.low l.right ≡ l.high
  pub right_kind : (v : ℕ) (l : Link) → 1 ≤ v → v ≤ p.last → p.link v ≡ Some l → g.kind l.right ≡ g.kind n
  pub right_own : (v : ℕ) (l : Link) → 1 ≤ v → v ≤ p.last → p.link v ≡ Some l → g.parted_at l.right n ≤ v
  pub right_other : (v q : ℕ) (l : Link) → 1 ≤ v → v ≤ p.last → p.link v ≡ Some l → q ≢ n → g.parted_at l.right q ≤ g.parted_at n q
  pub right_shown : (v : ℕ) (l : Link) → 1 ≤ v → v ≤ p.last → p.link v ≡ Some l → g.shown l.right ≡ 0 → g.shown n < v
  pub right_writer : (v : ℕ) (l : Link) → 1 ≤ v → v ≤ p.last → p.link v ≡ Some l → g.shown l.right ≡ 0 → g.writer l.right ≡ g.writer n
  pub falls : (v w k : ℕ) → 1 ≤ v → v ≤ w → w ≤ p.last → beyond (p.link v) k ≡ true → beyond (p.link w) k ≡ true
  pub child : (v k c : ℕ) → g.kind n ≡ Branch → 1 ≤ v → v ≤ p.last → p.entry v k ≡ Some c → g.kind c ≡ Leaf
  pub child_low : (v k c : ℕ) → g.kind n ≡ Branch → 1 ≤ v → v ≤ p.last → p.entry v k ≡ Some c → g.low c ≡ k
  pub child_shown : (v k c : ℕ) → g.kind n ≡ Branch → 1 ≤ v → v ≤ p.last → p.entry v k ≡ Some c → g.shown c ≡ 0 → g.shown n < v
  pub child_writer : (v k c : ℕ) → g.kind n ≡ Branch → 1 ≤ v → v ≤ p.last → p.entry v k ≡ Some c → g.shown c ≡ 0 → g.writer c ≡ g.writer n
  pub child_open : (v k c q : ℕ) → g.kind n ≡ Branch → 1 ≤ v → v ≤ p.last → p.entry v k ≡ Some c → g.shown q < g.parted_at c q → g.shown n < v
  pub child_opener : (v k c q : ℕ) → g.kind n ≡ Branch → 1 ≤ v → v ≤ p.last → p.entry v k ≡ Some c → g.shown q < g.parted_at c q → g.writer q ≡ g.writer n
  pub first : (v : ℕ) → g.kind n ≡ Branch → 1 ≤ v → v ≤ p.last → p.entry v (g.low n) ≢ None

-- the keys of a leaf, in each version
pub record Leaves (g : Rest) (n : ℕ) (p : Page) : Type 0 where
  -- the leaf that took a key covered it
  pub given_leaf : (k x : ℕ) → g.given k ≡ Some x → g.given_in k ≡ n → g.kind n ≡ Leaf
  pub given_from : (k x : ℕ) → g.given k ≡ Some x → g.given_in k ≡ n → 1 ≤ g.given_at k
  pub given_last : (k x : ℕ) → g.given k ≡ Some x → g.given_in k ≡ n → g.given_at k ≤ p.last
  pub given_low : (k x : ℕ) → g.given k ≡ Some x → g.given_in k ≡ n → g.low n ≤ k
  pub given_covered : (k x : ℕ) → g.given k ≡ Some x → g.given_in k ≡ n → beyond (p.link (g.given_at k)) k ≡ false
  -- a version has the keys that it covers and that were given before it, and these alone
  pub place : (v k x : ℕ) → g.kind n ≡ Leaf → 1 ≤ v → v ≤ p.last → p.entry v k ≡ Some x → g.given k ≡ Some x
  pub out_low : (v k : ℕ) → g.kind n ≡ Leaf → 1 ≤ v → v ≤ p.last → k < g.low n → p.entry v k ≡ None
  pub out_high : (v k : ℕ) → g.kind n ≡ Leaf → 1 ≤ v → v ≤ p.last → beyond (p.link v) k ≡ true → p.entry v k ≡ None
  pub has : (v k x : ℕ) → g.kind n ≡ Leaf → 1 ≤ v → v ≤ p.last → g.given k ≡ Some x → g.low n ≤ k → beyond (p.link v) k ≡ false
      → (n ≡ g.given_in k → g.given_at k ≤ v) → (n ≢ g.given_in k → g.given_at k < g.parted_at n (g.given_in k)) → p.entry v k ≡ Some x
  pub not_yet : (v k x : ℕ) → g.kind n ≡ Leaf → 1 ≤ v → v ≤ p.last → g.given k ≡ Some x → n ≡ g.given_in k → v < g.given_at k → p.entry v k ≡ None
  pub not_here : (v k x : ℕ) → g.kind n ≡ Leaf → 1 ≤ v → v ≤ p.last → g.given k ≡ Some x → n ≢ g.given_in k → g.parted_at n (g.given_in k) ≤ g.given_at k → p.entry v k ≡ None
  -- a version that readers may have and that covers a given key has it, but for a page that the key's giver has yet to write
  pub finds : (v k x : ℕ) → g.kind n ≡ Leaf → 1 ≤ v → g.shown n ≤ v → v ≤ p.last → g.given k ≡ Some x → g.low n ≤ k → beyond (p.link v) k ≡ false
      → g.giver k ≢ Some (g.writer n) → p.entry v k ≡ Some x
  pub unshown : (k x : ℕ) → g.given k ≡ Some x → g.given_in k ≡ n → g.shown n < g.given_at k → g.giver k ≡ Some (g.writer n)

-- two leaves cover a key only in versions that the split between them keeps apart
abbrev pub Apart : Rest → ℕ → ℕ → Page → Page → Type 0
Apart g n q p r = (v u k : ℕ) → g.kind n ≡ Leaf → g.kind q ≡ Leaf → 1 ≤ v → v ≤ p.last → 1 ≤ u → u ≤ r.last → g.low n ≤ k → g.low q ≤ k
    → beyond (p.link v) k ≡ false → beyond (r.link u) k ≡ false → g.parted_at n q ≤ u → g.parted_at q n ≤ v → n ≡ q

pub record WholeIndex (w : World) : Type 0 where
  pub roots : Roots w.rest
  pub paths : Paths w.rest (λ q. (w.pages q).last)
  pub shape : (n : ℕ) → Shape w.rest n (w.pages n)
  pub leaves : (n : ℕ) → Leaves w.rest n (w.pages n)
  pub apart : (n q : ℕ) → Apart w.rest n q (w.pages n) (w.pages q)

abbrev pub KeepsWhole : Type 0
KeepsWhole = (w v : World) (e : Move) → WholeIndex w → Step w e v → WholeIndex v

abbrev pub StartsWhole : Type 0
StartsWhole = (m : ℕ) → WholeIndex (start m)

abbrev pub Run : World → List Move → World → Type 0
Run w [] v = v ≡ w
Run w (e ∷ es) v = (mid : World) × Step w e mid × Run mid es v

abbrev pub AlwaysWhole : Type 0
AlwaysWhole = (m : ℕ) (moves : List Move) (w : World) → Run (start m) moves w → WholeIndex w
