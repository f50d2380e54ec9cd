-- An index that stands on a disk from earlier runs: of each page its last version alone.
use Rattle.std.specs.Prelude.{◌≡◌, ◌≢◌, ℕ, ◌+◌, ◌<◌, ◌≤◌, false, List, Option, Some, None, if◌then◌else◌, ◌==◌}
use Rattle.index_protocol.specs.Index.{Kind, Unmade, Leaf, Branch, Link, World, Move, beyond}
use Rattle.index_protocol.specs.Whole.{WholeIndex, Run}
use Rattle.index_protocol.specs.Partition.{last_link, last_entry, walk}

pub record Disk : Type 0 where
  pub kind : ℕ → Kind  -- by page
  pub low : ℕ → ℕ
  pub last : ℕ → ℕ  -- by page: the number of its changes
  pub link : ℕ → Option Link
  pub entry : ℕ → ℕ → Option ℕ  -- by page and key
  pub home : ℕ → ℕ  -- by key: the leaf that covers it

pub record IsSound (d : Disk) : Type 0 where
  pub root_kind : d.kind 1 ≡ Branch
  pub root_low : d.low 1 ≡ 0
  pub leaf_kind : d.kind 2 ≡ Leaf
  pub leaf_low : d.low 2 ≡ 0
  pub unmade : (n : ℕ) → d.kind n ≡ Unmade → d.last n ≡ 0
  pub made : (n : ℕ) → d.kind n ≢ Unmade → 1 ≤ d.last n
  -- all other pages begin at later keys
  pub above_root : (n : ℕ) → d.kind n ≡ Branch → n ≢ 1 → 0 < d.low n
  pub above_leaf : (n : ℕ) → d.kind n ≡ Leaf → n ≢ 2 → 0 < d.low n
  -- links lead to a page of the same kind that begins where the page ends
  pub above : (n : ℕ) (l : Link) → 1 ≤ d.last n → d.link n ≡ Some l → d.low n < l.high
  pub right_low : (n : ℕ) (l : Link) → 1 ≤ d.last n → d.link n ≡ Some l → d.low l.right ≡ l.high
  pub right_kind : (n : ℕ) (l : Link) → 1 ≤ d.last n → d.link n ≡ Some l → d.kind l.right ≡ d.kind n
  -- a branch has leaves by their low keys, and one at its own
  pub child : (n k c : ℕ) → d.kind n ≡ Branch → 1 ≤ d.last n → d.entry n k ≡ Some c → d.kind c ≡ Leaf
  pub child_low : (n k c : ℕ) → d.kind n ≡ Branch → 1 ≤ d.last n → d.entry n k ≡ Some c → d.low c ≡ k
  pub first : (n : ℕ) → d.kind n ≡ Branch → 1 ≤ d.last n → d.entry n (d.low n) ≢ None
  -- each key has one leaf that covers it, and no other has a place for it
  pub home_leaf : (k : ℕ) → d.kind (d.home k) ≡ Leaf
  pub home_low : (k : ℕ) → d.low (d.home k) ≤ k
  pub home_covers : (k : ℕ) → beyond (d.link (d.home k)) k ≡ false
  pub home_one : (k n : ℕ) → d.kind n ≡ Leaf → d.low n ≤ k → beyond (d.link n) k ≡ false → n ≡ d.home k
  pub no_other : (k n x : ℕ) → d.kind n ≡ Leaf → d.entry n k ≡ Some x → n ≡ d.home k

-- Of the splits that made the pages nothing is left, and everything is shown: each leaf but the first is taken to have left
-- the first one in its first change, and each branch the first branch.
abbrev pub first_of : Kind → ℕ
first_of Unmade = 0
first_of Branch = 1
first_of Leaf = 2

abbrev pub parted_from_first : Kind → ℕ → ℕ → ℕ
parted_from_first Unmade n q = 0
parted_from_first Branch n q = if n == 1 then 0 else if q == 1 then 1 else 0
parted_from_first Leaf n q = if n == 2 then 0 else if q == 2 then 1 else 0

abbrev pub opening : Disk → World
opening d = record {
  rest = record {
    kind = d.kind;
    low = d.low;
    shown = d.last;
    writer = λ n. 0;
    split_of = λ n. first_of (d.kind n);
    parted_at = λ n q. parted_from_first (d.kind n) n q;
    given = λ k. d.entry (d.home k) k;
    given_in = d.home;
    given_at = λ k. 1;
    giver = λ k. None;
  };
  pages = λ n. record { last = d.last n; link = λ v. d.link n; entry = λ v. d.entry n };
}

abbrev pub OpensWhole : Type 0
OpensWhole = (d : Disk) → IsSound d → WholeIndex (opening d)

abbrev pub AlwaysFromOpening : Type 0
AlwaysFromOpening = (d : Disk) (moves : List Move) (w : World) → IsSound d → Run (opening d) moves w → WholeIndex w

-- ---- what a run leaves is sound, so the next run may open with it; and it has each key's place
abbrev pub left_by : World → Disk
left_by w = record {
  kind = w.rest.kind;
  low = w.rest.low;
  last = λ n. (w.pages n).last;
  link = last_link w;
  entry = last_entry w;
  home = λ k. walk w (k + 1) 2 k;
}

pub record MayOpen (w : World) : Type 0 where
  pub sound : IsSound (left_by w)
  pub places : (k : ℕ) → (opening (left_by w)).rest.given k ≡ w.rest.given k

abbrev pub LeavesSound : Type 0
LeavesSound = (w : World) → WholeIndex w → MayOpen w
