-- The names of the files.
use Rattle.std.specs.Prelude.{ℕ, ◌-◌, List, ◌++◌, length, replicate, codes, decimal}

-- with zeros at the front, so that it has at least so many digits
abbrev pub padded : ℕ → ℕ → List ℕ
padded digits n = replicate (digits - length (decimal n)) 48 ++ decimal n

abbrev pub page_name : ℕ → List ℕ
page_name set = codes "space-" ++ padded 3 set ++ codes ".pages"

abbrev pub log_name : ℕ → List ℕ
log_name member = codes "log-" ++ padded 2 member ++ codes ".log"
