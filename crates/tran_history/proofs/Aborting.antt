-- A search for an abort.
use Rattle.std.proofs.Common.{◌≡◌, List, [], ◌∷◌, refl, ap}
use Rattle.std.specs.Prelude.{◌||◌}
use Rattle.std.specs.List.{list_any}
use Rattle.ds_model.specs.declared.script.Op.{Op}
use Rattle.ds_model.specs.Effect.{is_abort, aborts}

pub any_aborts : (ops : List Op) → list_any is_abort ops ≡ aborts ops
any_aborts [] = refl
any_aborts (o ∷ ops) = ap (λ b. is_abort o || b) (any_aborts ops)
