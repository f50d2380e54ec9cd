-- The mask of the page sets that have a changed frame, beside their counts.
use Rattle.std.specs.Prelude.{ℕ, ◌≡◌, nat_lt, ◌&&◌, List, length, slice_index}
use Rattle.member_pool.specs.declared.sets.SetMask.{SetMask}
use Rattle.member_pool.specs.Marks.{is_page_set}
use Rattle.member_pool.specs.Sets.{has_set}

pub record AreCounted (counts : List ℕ) (sets : SetMask) : Type 0 where
  pub all : length counts ≡ 129
  pub some : (set : ℕ) → has_set sets set ≡ (is_page_set set && nat_lt 0 (slice_index counts set))
