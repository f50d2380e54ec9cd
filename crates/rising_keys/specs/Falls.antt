-- Where the keys of a page of the index don't rise.
use Rattle.std.specs.Prelude.{ℕ, ◌+◌, nat_lt, if◌then◌else◌, List, [], ◌∷◌, Option, None, Some}
use Rattle.index_leaf.specs.declared.layout.Entry.{Entry}
use Rattle.index_leaf.specs.Entries.{first_entry_at, entry_width}

-- the keys from this offset on don't rise above this one
abbrev pub fall_from : ℕ → ℕ → List Entry → Option ℕ
fall_from offset key [] = None
fall_from offset key (e ∷ es) = if nat_lt key e.key then fall_from (offset + entry_width) e.key es else Some offset

-- the offset of the first key that isn't above the one before it
abbrev pub fall_of : List Entry → Option ℕ
fall_of [] = None
fall_of (e ∷ es) = fall_from (first_entry_at + entry_width) e.key es
