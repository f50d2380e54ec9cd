-- The flags of a phase.
use Rattle.std.specs.Prelude.{ℕ, ◌-◌, ◌==◌, Bool, true, false, ◌&&◌, ◌||◌, List, map, slice_index_or, slice_set, Option, Some, None, is_none}
use Rattle.std.specs.Option.{option_map_or}
use Rattle.ds_base.specs.declared.names.TranId.{TranId}
use Rattle.list_structure.specs.declared.flags.Flag.{Flag}

abbrev pub same_tran : TranId → TranId → Bool
same_tran a b = (a.member == b.member) && (a.number == b.number)

abbrev pub no_flag : Flag
no_flag = record { raised = false; raiser = None }

-- the flag of this number, from 1
abbrev pub flag_of : List Flag → ℕ → Flag
flag_of flags f = slice_index_or flags (f - 1) no_flag

-- one flag is raised
abbrev pub with_raised : List Flag → ℕ → List Flag
with_raised flags f = slice_set flags (f - 1) (record (flag_of flags f) { raised = true })

-- the flag as the phase begins: what nobody is to raise counts as raised
abbrev pub flag_for : Option TranId → Flag
flag_for raiser = record { raised = is_none raiser; raiser = raiser }

-- the flag is raised if the transaction was to raise it
abbrev pub raised_by : TranId → Flag → Flag
raised_by tran flag = record flag { raised = flag.raised || option_map_or (same_tran tran) flag.raiser false }

-- the flag is raised if a transaction of the member was to raise it
abbrev pub raised_for : ℕ → Flag → Flag
raised_for member flag = record flag { raised = flag.raised || option_map_or (λ tran. member == tran.member) flag.raiser false }
