-- The page in hand, brought forward by the own log.
use Rattle.std.specs.Prelude.{ℕ, List}
use Rattle.ds_base.specs.declared.names.PageId.{PageId}
use Rattle.page_records.specs.Places.{places_in}
use Rattle.page_redo.specs.Forward.{Forward}
use Rattle.places_redo.specs.Picked.{brought_at}
use Rattle.restart_marks.specs.Given.{places_at}
use Rattle.restart_marks.specs.State.{RestartState}

-- by those of its records that change the page
abbrev pub own_forward : PageId → List ℕ → RestartState → Forward
own_forward id page s = brought_at id page s.own.records (places_in (places_at s.own.places id))
