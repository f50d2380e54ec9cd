-- The order of pages by page set and number.
use Rattle.std.specs.Prelude.{◌≡◌, ◌==◌, ◌&&◌, ◌||◌, nat_lt, Bool, true, false, Option, Some, None}
use Rattle.std.specs.Option.{option_map_or}
use Rattle.ds_base.specs.declared.names.PageId.{PageId}

abbrev pub comes_before : PageId → PageId → Bool
comes_before a b = nat_lt a.set b.set || ((a.set == b.set) && nat_lt a.number b.number)

-- without a page to begin after, each page is past it
abbrev pub is_past : Option PageId → PageId → Bool
is_past after id = option_map_or (λ a. comes_before a id) after true

-- the first of these pages past the given one: None where there is none
abbrev pub IsNextAmong : (PageId → Bool) → Option PageId → Option PageId → Type 0
IsNextAmong among after None = (id : PageId) → among id ≡ true → is_past after id ≡ false
IsNextAmong among after (Some next) =
    (among next ≡ true)
    × (is_past after next ≡ true)
    × ((id : PageId) → among id ≡ true → is_past after id ≡ true → comes_before id next ≡ false)
