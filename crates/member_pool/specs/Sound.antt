-- What the heads of a pool keep through every call.
use Rattle.std.specs.Prelude.{ℕ, ◌≡◌, Bool, true, not, if◌then◌else◌, List, [], ◌∷◌}
use Rattle.std.specs.List.{list_all}
use Rattle.page_index.specs.Places.{AreApart}
use Rattle.member_pool.specs.Frames.{is_free, page_of}
use Rattle.member_pool.specs.Heads.{HeadState, head_of}

-- whether those that pass come before all others
abbrev pub come_first : (ℕ → Bool) → List ℕ → Bool
come_first p [] = true
come_first p (f ∷ fs) = if p f then come_first p fs else list_all (λ g. not (p g)) fs

-- no page stands in two frames, and free frames come first in the order of use
pub record IsSound (heads : HeadState) : Type 0 where
  pub apart : AreApart page_of heads.frames
  pub free_first : come_first (λ f. is_free (head_of heads f)) heads.order ≡ true
