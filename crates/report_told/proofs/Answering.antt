-- Reads are told with what was asked.
use Rattle.std.proofs.Common.{◌≡◌, List, [], ◌∷◌, refl}
use Rattle.ds_model.specs.declared.script.Op.{Op}
use Rattle.ds_model.specs.declared.script.Op.TheVariants as op
use Rattle.ds_model.specs.Told.{told_reads}

-- without answers nothing is told
pub none_told : (ops : List Op) → told_reads ops [] ≡ []
none_told [] = refl
none_told (op.Get table key ∷ ops) = refl
none_told (op.Getu table key ∷ ops) = refl
none_told (op.Put table key value ∷ ops) = none_told ops
none_told (op.Del table key ∷ ops) = none_told ops
none_told (op.Scan table low high ∷ ops) = refl
none_told (op.Raise flag ∷ ops) = none_told ops
none_told (op.Await flag ∷ ops) = none_told ops
none_told (op.LoseCache ∷ ops) = none_told ops
none_told (op.Abort ∷ ops) = none_told ops
