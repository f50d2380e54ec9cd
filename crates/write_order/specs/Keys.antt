-- The order of changed pages, those of one table together.
use Rattle.std.specs.Prelude.{ℕ, ◌+◌, ◌/◌, nat_lt, Bool}
use Rattle.ds_base.specs.declared.names.PageId.{PageId}
use Rattle.write_order.specs.declared.key.WriteKey.{WriteKey}
use Rattle.write_order.specs.Ranks.{turn_of, low_key_of, then_by}

-- the table of a page set: its heap has an odd number, and its index the number behind that
abbrev pub table_of_set : ℕ → ℕ
table_of_set set = (set + 1) / 2

abbrev pub table_of : WriteKey → ℕ
table_of key = table_of_set key.page.set

-- by table, then by rank, and pages of one rank by page set and number
abbrev pub is_before : WriteKey → WriteKey → Bool
is_before a b =
    then_by (table_of a) (table_of b)
    (then_by (turn_of a.rank) (turn_of b.rank)
    (then_by (low_key_of b.rank) (low_key_of a.rank)
    (then_by a.page.set b.page.set
    (nat_lt a.page.number b.page.number))))
