-- A record that a log may hold has a length.
use Rattle.ds_model.specs.declared.log.LogRecord.{LogRecord}
use Rattle.ds_model.specs.declared.log.Version.{Version}
use Rattle.ds_model.specs.declared.log.Body.{Body}
use Rattle.ds_model.specs.declared.log.Body.TheVariants as body
use Rattle.ds_model.specs.RecordBytes.{IsAllowed, BodyIsAllowed, BodyFits}

body_fits : (v : Version) (b : Body) → BodyIsAllowed v b → BodyFits v b
body_fits v (body.RowChange c) h = (h.page_some, h.slot_in)
body_fits v (body.Compensation c undone) h = (h.0.page_some, h.0.slot_in)
body_fits v (body.System ps) h = h
body_fits v body.Commit h = tt
body_fits v body.Ended h = tt
body_fits v (body.Checkpoint offset) h = tt
body_fits v body.RestartEnd h = tt

pub fits_of : (r : LogRecord) → IsAllowed r → BodyFits r.version r.body
fits_of r h = body_fits r.version r.body h.body_is
