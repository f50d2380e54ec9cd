-- The first row change that is out of turn.
use Rattle.std.specs.Prelude.{ℕ, if◌then◌else◌, List, [], ◌∷◌, ◌++◌, Option, None, Some}
use Rattle.ds_model.specs.declared.log.LogRecord.{LogRecord}
use Rattle.sound_disk.specs.Turns.{is_in_turn}

-- its number, behind these records
abbrev pub out_of_turn : List LogRecord → List LogRecord → Option ℕ
out_of_turn earlier [] = None
out_of_turn earlier (r ∷ rs) = if is_in_turn earlier r.tran r.body then out_of_turn (earlier ++ r ∷ []) rs else Some r.lrsn
