-- The script of a number. Whatever is drawn begins at a state of the generator, and gives what was made and the state
-- behind its draws.
use Rattle.std.specs.Prelude.{ℕ, zero, suc, ◌+◌, ◌-◌, ◌*◌, ◌%◌, ◌==◌, nat_lt, Bool, true, ◌&&◌, if◌then◌else◌, List, [], ◌∷◌, ◌++◌, Option, Some, None, codes, decimal}
use Rattle.draw_generator.specs.Draws.{next_state, drawn}
use Rattle.ds_model.specs.declared.script.Op.{Op}
use Rattle.ds_model.specs.declared.script.Op.TheVariants as op
use Rattle.ds_model.specs.declared.script.FailAt.{FailAt}
use Rattle.ds_model.specs.declared.script.FailAt.TheVariants as fail_at
use Rattle.ds_model.specs.declared.script.Tran.{Tran}
use Rattle.ds_model.specs.declared.script.Part.{Part}
use Rattle.ds_model.specs.declared.script.Phase.{Phase}
use Rattle.ds_model.specs.declared.script.Script.{Script}

-- so many things, numbered from this number on, each drawn behind the one before
unfoldable pub series : {X : Type 0} → (ℕ → ℕ → X × ℕ) → ℕ → ℕ → ℕ → List X × ℕ
series make zero number x = ([], x)
series {X} make (suc count) number x =
    let first : X × ℕ = make number x in
    let rest : List X × ℕ = series make count (number + 1) first.1 in
    (first.0 ∷ rest.0, rest.1)

-- ---- operations

abbrev pub value_of : ℕ → List ℕ
value_of n = codes "v" ++ decimal n

-- a get for 0 and 1, a put for 2, which draws its value, and a del for 3
abbrev pub op_of : ℕ → ℕ → ℕ → ℕ → Op × ℕ
op_of kind table key x =
    if nat_lt kind 2 then (op.Get table key, x)
    else if kind == 2 then (op.Put table key (value_of (drawn x % 1000000)), next_state x)
    else (op.Del table key, x)

-- its kind, its table and its key
unfoldable pub op_from : ℕ → Op × ℕ
op_from x =
    let to_table = next_state x in
    let to_key = next_state to_table in
    op_of (drawn x % 4) (1 + drawn to_table % 4) (drawn to_key % 1000) (next_state to_key)

-- ---- transactions

abbrev pub trans_per_part : ℕ
trans_per_part = 50

abbrev pub members : ℕ
members = 4

-- in the order of the script, from 1
abbrev pub number_of : ℕ → ℕ → ℕ → ℕ
number_of phase member place = (members * (phase - 1) + (member - 1)) * trans_per_part + place

abbrev pub loses_cache : ℕ → ℕ → ℕ → Bool
loses_cache phase member place = phase == 8 && member == 3 && place == 1

abbrev pub cache_loss : Bool → List Op
cache_loss b = if b then op.LoseCache ∷ [] else []

-- how many operations it has, and they
unfoldable pub tran_from : ℕ → ℕ → ℕ → ℕ → Tran × ℕ
tran_from phase member place x =
    let ops : List Op × ℕ = series (λ _. op_from) (1 + drawn x % 4) 1 (next_state x) in
    let number = number_of phase member place in
    (record { name = codes "t" ++ decimal number; number = number; wait = true; ops = cache_loss (loses_cache phase member place) ++ ops.0 }, ops.1)

-- ---- parts, phases and the script

abbrev pub restarts : ℕ → ℕ → Bool
restarts phase member = phase == 6 && member == 2

abbrev pub failure : ℕ → ℕ → Option FailAt
failure phase member = if phase == 4 && member == 2 then Some (fail_at.Commit 20) else None

unfoldable pub part_from : ℕ → ℕ → ℕ → Part × ℕ
part_from phase member x =
    let trans : List Tran × ℕ = series (tran_from phase member) trans_per_part 1 x in
    (record { member = member; restart = restarts phase member; fail = failure phase member; trans = trans.0 }, trans.1)

unfoldable pub phase_from : ℕ → ℕ → Phase × ℕ
phase_from phase x =
    let parts : List Part × ℕ = series (part_from phase) members 1 x in
    (record { groupfails = 0; parts = parts.0 }, parts.1)

unfoldable pub made : ℕ → Script
made n = record { phases = (series phase_from 10 1 n).0; groupfails = 0 }
