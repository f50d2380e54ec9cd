-- Where logs end.
use Rattle.std.specs.Prelude.{ℕ, ◌+◌, ◌-◌, List, map, get_or, slice_set}
use Rattle.log_record.specs.declared.log.Log.{Log}

-- how many bytes the whole records of each have
abbrev pub ends_of : List Log → List ℕ
ends_of logs = map (λ (l : Log). l.length) logs

-- the next record of the member's log begins there; the logs are those of the members 1, 2 and so on
abbrev pub end_of : List ℕ → ℕ → ℕ
end_of ends member = get_or ends (member - 1) 0

-- so many bytes were appended to the member's log
abbrev pub raised : List ℕ → ℕ → ℕ → List ℕ
raised ends member count = slice_set ends (member - 1) (end_of ends member + count)
