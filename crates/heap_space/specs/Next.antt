-- Which slot is given next.
use Rattle.std.specs.Prelude.{ℕ, ◌+◌, ◌-◌, ◌^◌, ◌==◌, Bool, nat_le, nat_lt, ◌&&◌, if◌then◌else◌, List, Result, Ok, Err}
use Rattle.ds_base.specs.declared.names.Place.{Place}
use Rattle.page_format.specs.Fields.{number_in}
use Rattle.page_format.specs.Header.{slots_per_page}
use Rattle.heap_space.specs.Layout.{last_page_at, given_at}
use Rattle.heap_space.specs.declared.next.SpaceFull.{SpaceFull}

abbrev pub last_page_of : List ℕ → ℕ
last_page_of header = number_in header last_page_at 4

abbrev pub given_of : List ℕ → ℕ
given_of header = number_in header given_at 2

abbrev pub header_allowed : ℕ → ℕ → Bool
header_allowed last given = nat_lt last (2 ^ 32 - 1) && nat_le given slots_per_page

-- the place behind the last one that was given
abbrev pub place_after : ℕ → ℕ → Place
place_after last given =
    if last == 0 then record { page = 1; slot = 0 }
    else if nat_lt given slots_per_page then record { page = last; slot = given }
    else record { page = last + 1; slot = 0 }

-- the heap is full where its last page is, and no page may follow
abbrev pub next_place : ℕ → ℕ → ℕ → Result Place SpaceFull
next_place last given limit =
    if nat_le limit last && given == slots_per_page then Err (record { pages = last })
    else Ok (place_after last given)
