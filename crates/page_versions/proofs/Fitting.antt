-- A record that a log may hold has a length.
use Rattle.std.proofs.Common.{◌≡◌, ℕ, List, [], ◌∷◌, subst}
use Rattle.std.specs.Prelude.{zero, suc, Some, slice_get}
use Rattle.std.specs.List.{AllByRecursion}
use Rattle.ds_model.specs.declared.log.LogRecord.{LogRecord}
use Rattle.ds_model.specs.declared.log.Version.{Version}
use Rattle.ds_model.specs.declared.log.Body.{Body}
use Rattle.ds_model.specs.declared.log.Body.TheVariants as body
use Rattle.ds_model.specs.RecordBytes.{IsAllowed, BodyIsAllowed, BodyFits}

body_fits : (v : Version) (b : Body) → BodyIsAllowed v b → BodyFits v b
body_fits v (body.RowChange c) h = (h.page_some, h.slot_in)
body_fits v (body.Compensation c undone) h = (h.0.page_some, h.0.slot_in)
body_fits v (body.System ps) h = h
body_fits v body.Commit h = tt
body_fits v body.Ended h = tt
body_fits v (body.Checkpoint offset) h = tt
body_fits v body.RestartEnd h = tt

pub fits_of : (r : LogRecord) → IsAllowed r → BodyFits r.version r.body
fits_of r h = body_fits r.version r.body h.body_is

pub fits_at : (rs : List LogRecord) (k : ℕ) (r : LogRecord) → AllByRecursion IsAllowed rs → slice_get rs k ≡ Some r → BodyFits r.version r.body
fits_at [] k r h e = absurd cc
fits_at (x ∷ rs) zero r h e = let same : x ≡ r = cc in subst (λ (y : LogRecord). BodyFits y.version y.body) same (fits_of x h.0)
fits_at (x ∷ rs) (suc k) r h e = fits_at rs k r h.1 e
