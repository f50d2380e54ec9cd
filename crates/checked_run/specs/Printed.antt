-- The order in which the transactions of a run are printed.
use Rattle.std.specs.Prelude.{ℕ, List}
use Rattle.std.specs.List.Sorted.{IsPermutation, IsSortedByKey, IsStableByKey}
use Rattle.std.specs.Ordering.{nat_cmp}
use Rattle.ds_model.specs.declared.script.Tran.{Tran}
use Rattle.ds_model.specs.declared.fate.Fate.{Fate}
use Rattle.ds_model.specs.declared.fate.Fate.TheVariants as fate
use Rattle.ds_model.specs.declared.history.Entry.{Entry}

-- committed ones come first, and all others by their numbers, which are counted from 1
abbrev pub print_key_of : Fate → ℕ → ℕ
print_key_of (fate.Committed answered reads) number = 0
print_key_of (fate.Refused refusal) number = number
print_key_of fate.Stopped number = number

abbrev pub print_key : Entry → ℕ
print_key e = print_key_of e.fate e.tran.number

-- these are the transactions in the order of their fates, and those the same as they are printed: the committed ones in the order of
-- their commits
pub record IsPrinted (entries printed : List Entry) : Type 0 where
  pub same : IsPermutation entries printed
  pub sorted : IsSortedByKey print_key nat_cmp printed
  pub stable : IsStableByKey print_key nat_cmp entries printed
