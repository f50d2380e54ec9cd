-- The transactions of a script.
use Rattle.std.specs.Prelude.{ℕ, zero, suc, ◌-◌, List, [], ◌∷◌, map}
use Rattle.std.specs.List.{flat_map}
use Rattle.ds_model.specs.declared.script.Tran.{Tran}
use Rattle.ds_model.specs.declared.script.Part.{Part}
use Rattle.ds_model.specs.declared.script.Phase.{Phase}
use Rattle.ds_model.specs.declared.script.Script.{Script}

-- a transaction and the member that plays it
abbrev pub Placed : Type 0
Placed = ℕ × Tran

abbrev pub placed_part : Part → List Placed
placed_part p = map (λ (t : Tran). let it : Placed = (p.member, t) in it) p.trans

abbrev pub placed_phase : Phase → List Placed
placed_phase p = flat_map placed_part p.parts

-- the transactions of a script with their members, in the order of the script
abbrev pub placed : Script → List Placed
placed s = flat_map placed_phase s.phases

abbrev pub name_at : List Placed → ℕ → List ℕ
name_at [] n = []
name_at (p ∷ ps) zero = p.1.name
name_at (p ∷ ps) (suc n) = name_at ps n

-- the name of the transaction of this number, counted from 1
abbrev pub name_of : Script → ℕ → List ℕ
name_of s number = name_at (placed s) (number - 1)
