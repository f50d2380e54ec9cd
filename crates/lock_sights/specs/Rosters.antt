-- The transactions of a script in a list, by their numbers from 1.
use Rattle.std.specs.Prelude.{ℕ, zero, suc, ◌+◌, ◌-◌, Bool, true, false, nat_le, if◌then◌else◌, List, length, min, Option, Some, None, slice_get}
use Rattle.std.specs.Str.{bytes_eq}
use Rattle.std.specs.List.{flat_map}
use Rattle.ds_model.specs.declared.script.Tran.{Tran}
use Rattle.ds_model.specs.declared.script.Part.{Part}
use Rattle.ds_model.specs.declared.script.Phase.{Phase}
use Rattle.ds_model.specs.declared.script.Script.{Script}

abbrev pub trans_in_part : Part → List Tran
trans_in_part p = p.trans

abbrev pub trans_in_phase : Phase → List Tran
trans_in_phase p = flat_map trans_in_part p.parts

-- the transactions in the order of the script
abbrev pub trans_in : Script → List Tran
trans_in s = flat_map trans_in_phase s.phases

-- the transaction with this number
abbrev pub tran_at : List Tran → ℕ → Option Tran
tran_at all number = if nat_le 1 number then slice_get all (number - 1) else None

abbrev pub has_name : List ℕ → Option Tran → Bool
has_name name None = false
has_name name (Some it) = bytes_eq it.name name

abbrev pub is_named : List Tran → List ℕ → ℕ → Bool
is_named all name number = has_name name (tran_at all number)

-- the first of these; another one, where there is none
abbrev pub or_number : Option ℕ → Bool → ℕ → Option ℕ
or_number (Some number) is_here other = Some number
or_number None true other = Some other
or_number None false other = None

-- the first of so many numbers whose transaction has the name
unfoldable pub named_within : List Tran → List ℕ → ℕ → Option ℕ
named_within all name zero = None
named_within all name (suc n) = or_number (named_within all name n) (is_named all name (n + 1)) (n + 1)

-- the number of the first transaction of this name; none is greater than 2 ^ 32 - 1
abbrev pub number_named : List Tran → List ℕ → Option ℕ
number_named all name = named_within all name (min (length all) 4294967295)
