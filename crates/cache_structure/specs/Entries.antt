-- The entries of the directory, in the order of their last read or write, the oldest first.
use Rattle.std.specs.Prelude.{ℕ, ◌==◌, Bool, true, false, not, ◌&&◌, ◌||◌, List, ◌∷◌, [], ◌++◌, map, filter, find, Option, Some, None, is_some, cond}
use Rattle.std.specs.Option.{option_map_or}
use Rattle.ds_base.specs.declared.names.PageId.{PageId}
use Rattle.ds_base.specs.Pages.{same_page}

-- a page, its bytes if any, whether they were changed since the page was last cast out, the member that holds
-- the castout lock, and whether the page was written since that lock was taken
pub record Entry : Type 0 where
  pub page : PageId
  pub bytes : Option (List ℕ)
  pub changed : Bool
  pub castout : Option ℕ
  pub written : Bool

-- an entry that was just made
abbrev pub fresh : PageId → Entry
fresh id = record { page = id; bytes = None; changed = false; castout = None; written = false }

-- whether it is the entry of the page
abbrev pub is_of : PageId → Entry → Bool
is_of id e = same_page id e.page

-- whether it may be reclaimed: it is neither changed nor under castout
abbrev pub is_idle : Entry → Bool
is_idle e = not (e.changed || is_some e.castout)

abbrev pub entry_of : List Entry → PageId → Option Entry
entry_of entries id = find (is_of id) entries

abbrev pub without : PageId → List Entry → List Entry
without id entries = filter (λ e. not (is_of id e)) entries

-- the entry is now the newest
abbrev pub newest : Entry → List Entry → List Entry
newest e entries = without e.page entries ++ e ∷ []

-- the page's entry, if there is one, is changed so
abbrev pub at_entry : PageId → (Entry → Entry) → List Entry → List Entry
at_entry id change entries = map (λ e. cond (is_of id e) (change e) e) entries

-- the page's bytes are replaced
abbrev pub written_with : List ℕ → Entry → Entry
written_with bytes e = record e { bytes = Some bytes; changed = true; written = true }

-- the member holds the castout lock, and nothing was written since
abbrev pub locked_by : ℕ → Entry → Entry
locked_by member e = record e { castout = Some member; written = false }

-- the castout lock is freed, and the entry stays changed only where it was written since
abbrev pub cast_out : Entry → Entry
cast_out e = record e { castout = None; changed = e.changed && e.written }

-- whether the member holds the castout lock
abbrev pub is_locked_by : ℕ → Entry → Bool
is_locked_by member e = option_map_or (λ by. by == member) e.castout false

-- the member's castout lock is freed, and nothing else changes
abbrev pub freed_of : ℕ → Entry → Entry
freed_of member e = cond (is_locked_by member e) (record e { castout = None }) e
