-- The entry of the lock table that a name falls on.
use Rattle.std.specs.Prelude.{ℕ, ◌+◌, ◌*◌, ◌%◌}
use Rattle.ds_model.specs.declared.lock.Name.{Name}
use Rattle.ds_model.specs.declared.lock.Name.TheVariants as name

-- the kind of a name and its two numbers in one, over all natural numbers
abbrev pub mixed : ℕ → ℕ → ℕ → ℕ
mixed kind first second = (kind * 65599 + first) * 65599 + second

unfoldable pub number_of : Name → ℕ
number_of (name.Space table) = mixed 1 table 0
number_of (name.Row table key) = mixed 2 table key
number_of (name.Page page) = mixed 3 page.set page.number
number_of (name.Set set) = mixed 4 set 0

abbrev pub entry_number : Name → ℕ → ℕ
entry_number n entries = number_of n % entries
