-- What a member holds, as plain values.
use Rattle.std.specs.Prelude.{◌≡◌, ℕ, List, Option, None, replicate}
use Rattle.ds_base.specs.declared.names.Sizes.{Sizes}
use Rattle.page_format.specs.Fields.{page_size}
use Rattle.member_trans.specs.Trans.{after_event}
use Rattle.member_marks.specs.State.{MarksState, IsFresh, with_trans}
use Rattle.member_effects.specs.Given.{Cast}

pub record Held : Type 0 where
  pub marks : MarksState
  pub pages : List (List ℕ)  -- the bytes of each frame
  pub cast : Option Cast  -- the page that was read to be cast out
  pub buffer : List ℕ  -- its bytes
  pub spare : List ℕ  -- takes bytes that nobody needs
  pub limit : ℕ  -- how many pages of rows a table may have

abbrev pub with_marks : Held → MarksState → Held
with_marks h s = record h { marks = s }

abbrev pub with_cast : Held → Option Cast → Held
with_cast h cast = record h { cast = cast }

abbrev pub zeros : List ℕ
zeros = replicate page_size 0

-- nothing is held
pub record IsNew (member : ℕ) (sizes : Sizes) (h : Held) : Type 0 where
  pub marks : IsFresh member sizes.agents sizes.locks sizes.pool h.marks
  pub pages : h.pages ≡ replicate sizes.pool zeros
  pub cast : h.cast ≡ None
  pub buffer : h.buffer ≡ zeros
  pub spare : h.spare ≡ zeros
  pub limit : h.limit ≡ sizes.pages

-- a new event begins: nothing is decided, refused or answered in it yet
abbrev pub begun : Held → ℕ → Held
begun h place = with_marks h (with_trans h.marks (after_event h.marks.trans place))

-- ---- room

-- the same, with room for so many more claims of agents
abbrev pub with_spare : Held → ℕ → Held
with_spare h n = with_marks h (record h.marks { locks = record h.marks.locks { spare = n } })
