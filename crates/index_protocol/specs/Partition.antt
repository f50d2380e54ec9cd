-- The leaves in their last versions, as the links lead from the first leaf.
use Rattle.std.specs.Prelude.{◌≡◌, ℕ, zero, suc, ◌+◌, ◌≤◌, false, Option, Some, None, if◌then◌else◌}
use Rattle.index_protocol.specs.Index.{Link, World, Leaf, beyond}
use Rattle.index_protocol.specs.Whole.{WholeIndex}

abbrev pub right_of : Option Link → ℕ → ℕ
right_of (Some l) n = l.right
right_of None n = n

abbrev pub last_link : World → ℕ → Option Link
last_link w n = (w.pages n).link (w.pages n).last

abbrev pub last_entry : World → ℕ → ℕ → Option ℕ
last_entry w n = (w.pages n).entry (w.pages n).last

-- along the links until a page covers the key
unfoldable pub walk : World → ℕ → ℕ → ℕ → ℕ
walk w zero n k = n
walk w (suc f) n k = if beyond (last_link w n) k then walk w f (right_of (last_link w n) n) k else n

-- a leaf whose last version covers the key
pub record IsHome (w : World) (k n : ℕ) : Type 0 where
  pub leaf : w.rest.kind n ≡ Leaf
  pub low : w.rest.low n ≤ k
  pub covers : beyond (last_link w n) k ≡ false

pub record Partition (w : World) : Type 0 where
  -- each key has one leaf that covers it, and the links lead there
  pub leads : (k : ℕ) → IsHome w k (walk w (k + 1) 2 k)
  pub one : (k n : ℕ) → IsHome w k n → walk w (k + 1) 2 k ≡ n
  -- it has the key's one place, and no other leaf has a place for the key
  pub place : (k n : ℕ) → IsHome w k n → last_entry w n k ≡ w.rest.given k
  pub no_other : (k n x : ℕ) → w.rest.kind n ≡ Leaf → last_entry w n k ≡ Some x → IsHome w k n
  -- each leaf is on the way
  pub reached : (n : ℕ) → w.rest.kind n ≡ Leaf → walk w (w.rest.low n + 1) 2 (w.rest.low n) ≡ n

abbrev pub Partitions : Type 0
Partitions = (w : World) → WholeIndex w → Partition w
