use Rattle.std.proofs.Common.{refl, None}
use Rattle.row_turns.proofs.Ranging.{none_told}
use Rattle.row_turns.proofs.told.Told.none.Goals as goal

pub returns : goal.returns
returns c = none_told (record { out = None; «open» = 0; rows = 0 }) refl refl refl
