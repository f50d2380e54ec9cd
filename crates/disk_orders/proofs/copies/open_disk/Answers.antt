use Rattle.disk_orders.proofs.Opening.{not_opened, opened}
use Rattle.disk_orders.proofs.copies.open_disk.Goals as goal

pub returns-in-Err : goal.returns-in-Err
returns-in-Err g c = not_opened _ _ _ _ c.in-Err.fault c.in-Err.ensures

pub returns-in-Ok : goal.returns-in-Ok
returns-in-Ok g c = opened _ _ _ _ _ _ c.greatest_number.result c.in-Ok.ensures c.greatest_number.ensures
