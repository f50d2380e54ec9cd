-- The names of a script's transactions, in its order.
use Rattle.std.specs.Prelude.{ℕ, List, map}
use Rattle.std.specs.List.{flat_map}
use Rattle.ds_model.specs.declared.script.Tran.{Tran}
use Rattle.ds_model.specs.declared.script.Part.{Part}
use Rattle.ds_model.specs.declared.script.Phase.{Phase}
use Rattle.ds_model.specs.declared.script.Script.{Script}

abbrev pub names_in_part : Part → List (List ℕ)
names_in_part p = map (λ (t : Tran). t.name) p.trans

abbrev pub names_in_phase : Phase → List (List ℕ)
names_in_phase p = flat_map names_in_part p.parts

abbrev pub names_in : Script → List (List ℕ)
names_in s = flat_map names_in_phase s.phases
