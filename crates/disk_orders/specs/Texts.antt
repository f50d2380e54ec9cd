-- What is written of a check, and of a recovery.
use Rattle.std.specs.Prelude.{ℕ, List, ◌++◌, codes, decimal}
use Rattle.ds_model.specs.ScriptText.{line}
use Rattle.disk_spots.specs.declared.spot.Spot.{Spot}
use Rattle.disk_spots.specs.declared.spot.Spot.TheVariants as spot
use Rattle.space_check.specs.declared.verdict.Breach.{Breach}
use Rattle.space_check.specs.Clauses.{number_of}

-- how many pages aren't all zeros, and for how many rows the logs stand
unfoldable pub sound_text : ℕ → ℕ → List ℕ
sound_text pages rows = line (codes "sound pages " ++ decimal pages ++ codes " rows " ++ decimal rows)

-- the byte of a log, or the page
unfoldable pub spot_text : Spot → List ℕ
spot_text (spot.Log member at) = codes " log M" ++ decimal member ++ codes " at " ++ decimal at
spot_text (spot.Page id) = codes " page " ++ decimal id.set ++ codes " " ++ decimal id.number

-- the clause that doesn't hold, and where
unfoldable pub breach_text : Breach → List ℕ
breach_text b = line (codes "unsound " ++ decimal (number_of b.clause) ++ spot_text b.at)

-- the byte of the image
unfoldable pub image_text : ℕ → List ℕ
image_text at = line (codes "image refused at " ++ decimal at)

-- the table, and how many pages were written that aren't all zeros
unfoldable pub recovered_text : ℕ → ℕ → List ℕ
recovered_text table pages = line (codes "recovered " ++ decimal table ++ codes " pages " ++ decimal pages)
