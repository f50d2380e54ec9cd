-- What a restarting member holds, as plain values.
use Rattle.std.specs.Prelude.{◌≡◌, ℕ, List, replicate}
use Rattle.page_format.specs.Fields.{page_size}
use Rattle.restart_marks.specs.State.{RestartState, IsFresh}
use Rattle.restart_marks.specs.Given.own_module as own

pub record Held : Type 0 where
  pub marks : RestartState
  pub page : List ℕ  -- the bytes of the page in hand
  pub spare : List ℕ  -- takes bytes that nobody needs

abbrev pub with_marks : Held → RestartState → Held
with_marks h s = record h { marks = s }

abbrev pub with_page : Held → List ℕ → Held
with_page h page = record h { page = page }

abbrev pub zeros : List ℕ
zeros = replicate page_size 0

-- up to this byte the member's log is known to be whole records, and it isn't read yet
abbrev pub KnowsTo : ℕ → Held → Type 0
KnowsTo known h = own.KnowsTo known h.marks.own.reader

-- nothing is read, known or held yet
pub record IsNew (member : ℕ) (h : Held) : Type 0 where
  pub marks : IsFresh member h.marks
  pub page : h.page ≡ zeros
  pub spare : h.spare ≡ zeros
