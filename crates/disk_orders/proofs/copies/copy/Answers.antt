use Rattle.disk_orders.proofs.Written.{not_begun, whole, broken}
use Rattle.disk_orders.proofs.copies.copy.Goals as goal

pub returns-in-Err : goal.returns-in-Err
returns-in-Err g c = not_begun c.args.table _ _ _ _ _ _ c.in-Err.fault c.in-Err.ensures

pub returns-in-Ok-write_image : goal.returns-in-Ok-write_image
returns-in-Ok-write_image g c = whole c.args.table c.in-Ok.lrsn c.in-Ok-write_image.pages _ _ _ _ _ _ _ _ _ _ c.in-Ok.ensures c.in-Ok-write_image.ensures

pub returns-in-Err-write_image : goal.returns-in-Err-write_image
returns-in-Err-write_image g c = broken c.args.table c.in-Ok.lrsn c.in-Err-write_image.fault _ _ _ _ _ _ _ _ _ _ c.in-Ok.ensures c.in-Err-write_image.ensures
