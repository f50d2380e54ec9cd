-- The name of a transaction is that at its place.
use Rattle.std.proofs.Common.{◌≡◌, ℕ, zero, suc, ◌-◌, List, [], ◌∷◌, ◌++◌, map, get_or, refl, sym, ap, ◌∙◌}
use Rattle.std.proofs.lemmas.List.{map-append}
use Rattle.std.specs.List.{flat_map}
use Rattle.ds_model.specs.declared.script.Tran.{Tran}
use Rattle.ds_model.specs.declared.script.Part.{Part}
use Rattle.ds_model.specs.declared.script.Phase.{Phase}
use Rattle.ds_model.specs.declared.script.Script.{Script}
use Rattle.ds_model.specs.Transactions.{Placed, placed_part, placed_phase, placed, name_at, name_of}
use Rattle.report_told.specs.Names.{names_in_part, names_in_phase, names_in}

abbrev its_name : Placed → List ℕ
its_name p = p.1.name

in_trans : (member : ℕ) (ts : List Tran) → map its_name (map (λ (t : Tran). let it : Placed = (member, t) in it) ts) ≡ map (λ (t : Tran). t.name) ts
in_trans member [] = refl
in_trans member (t ∷ ts) = ap (λ (ns : List (List ℕ)). t.name ∷ ns) (in_trans member ts)

in_parts : (ps : List Part) → map its_name (flat_map placed_part ps) ≡ flat_map names_in_part ps
in_parts [] = refl
in_parts (p ∷ ps) =
    map-append its_name (placed_part p) (flat_map placed_part ps)
    ∙ ap (λ (ns : List (List ℕ)). ns ++ map its_name (flat_map placed_part ps)) (in_trans p.member p.trans)
    ∙ ap (λ (ns : List (List ℕ)). names_in_part p ++ ns) (in_parts ps)

in_phases : (ps : List Phase) → map its_name (flat_map placed_phase ps) ≡ flat_map names_in_phase ps
in_phases [] = refl
in_phases (p ∷ ps) =
    map-append its_name (placed_phase p) (flat_map placed_phase ps)
    ∙ ap (λ (ns : List (List ℕ)). ns ++ map its_name (flat_map placed_phase ps)) (in_parts p.parts)
    ∙ ap (λ (ns : List (List ℕ)). names_in_phase p ++ ns) (in_phases ps)

at_place : (ps : List Placed) (n : ℕ) → name_at ps n ≡ get_or (map its_name ps) n []
at_place [] n = refl
at_place (p ∷ ps) zero = refl
at_place (p ∷ ps) (suc n) = at_place ps n

pub named : (s : Script) (n : ℕ) → name_of s n ≡ get_or (names_in s) (n - 1) []
named s n = at_place (placed s) (n - 1) ∙ ap (λ (ns : List (List ℕ)). get_or ns (n - 1) []) (in_phases s.phases)
