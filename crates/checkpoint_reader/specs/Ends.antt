-- Up to where logs are known to be whole records.
use Rattle.std.specs.Prelude.{ℕ, ◌-◌, List, get_or, replicate, slice_set}

-- nothing is known of the logs of 32 members
abbrev pub nothing_known : List ℕ
nothing_known = replicate 32 0

-- of the member's log
abbrev pub end_of : List ℕ → ℕ → ℕ
end_of ends member = get_or ends (member - 1) 0

abbrev pub with_end : List ℕ → ℕ → ℕ → List ℕ
with_end ends member end = slice_set ends (member - 1) end
