-- The numbers of changes, in the bytes of pages and in the logs.
use Rattle.std.specs.Prelude.{◌≡◌, ℕ, ◌+◌, ◌<◌, ◌≤◌, List}
use Rattle.page_format.specs.Fields.{lrsn_of}
use Rattle.page_protocol.specs.Moves.{World}

-- by member: the number up to which its log stands on disk
pub record AreNumbered (w : World) (content : ℕ → ℕ → List ℕ) (forced : ℕ → ℕ) : Type 0 where
  -- a version shows the number of its last change
  pub shown : (n i : ℕ) → i < (w.pages n).last → lrsn_of (content n (i + 1)) ≡ (w.pages n).lrsn i
  -- a change that its log has up to that number is on disk
  pub stable : (n i : ℕ) → i < (w.pages n).last → (w.pages n).lrsn i ≤ forced ((w.pages n).author i) → (w.pages n).place i < w.group.stable ((w.pages n).author i)
  -- and that number was drawn
  pub drawn : (m : ℕ) → forced m ≤ w.group.counter
