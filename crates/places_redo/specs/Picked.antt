-- A page brought forward by the records at some places of a list.
use Rattle.std.specs.Prelude.{ℕ, Bool, List, [], ◌∷◌, slice_get, Option, None, Some, Ok, false}
use Rattle.ds_base.specs.declared.names.PageId.{PageId}
use Rattle.ds_model.specs.declared.log.LogRecord.{LogRecord}
use Rattle.page_redo.specs.Forward.{Forward, after_one, go_on, brought_forward}

abbrev pub before : Option LogRecord → List LogRecord → List LogRecord
before None rs = rs
before (Some r) rs = r ∷ rs

-- the records at these places
abbrev pub picked : List LogRecord → List ℕ → List LogRecord
picked records [] = []
picked records (n ∷ ns) = before (slice_get records n) (picked records ns)

-- the page of this name, brought forward by them
unfoldable pub brought_at : PageId → List ℕ → List LogRecord → List ℕ → Forward
brought_at id page records places = brought_forward id page (picked records places)

-- ---- place by place

-- what the record at a place makes of the page, where there is one
abbrev pub one_of : PageId → List ℕ → Option LogRecord → Forward
one_of id page None = record { page = page; outcome = Ok false }
one_of id page (Some r) = after_one id page r

-- the same for several places, in their order
abbrev pub forward_at : PageId → List LogRecord → List ℕ → Bool → List ℕ → Forward
forward_at id records page applied [] = record { page = page; outcome = Ok applied }
forward_at id records page applied (n ∷ ns) =
    go_on (λ p b. forward_at id records p b ns) applied (one_of id page (slice_get records n)).page (one_of id page (slice_get records n)).outcome
