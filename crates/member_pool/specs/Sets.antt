-- Page sets of the tables 1 to 64, as one number.
use Rattle.std.specs.Prelude.{ℕ, ◌-◌, ◌==◌, Bool, ◌&&◌}
use Rattle.std.specs.Int.{bit_at}
use Rattle.std.specs.List.{list_any, range_with_len}
use Rattle.member_pool.specs.declared.sets.SetMask.{SetMask}
use Rattle.member_pool.specs.Marks.{is_page_set}

-- bit s - 1 stands for the page set s, 1 to 128
abbrev pub has_set : SetMask → ℕ → Bool
has_set sets set = is_page_set set && (bit_at sets.bits (set - 1) == 1)

abbrev pub no_sets : SetMask
no_sets = record { bits = 0 }

-- whether the test holds of some page set
unfoldable pub any_set : (ℕ → Bool) → Bool
any_set p = list_any p (range_with_len 1 128)
