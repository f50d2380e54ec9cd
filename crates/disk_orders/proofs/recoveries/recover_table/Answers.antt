use Rattle.std.proofs.Common.{Ok, Err, refl}
use Rattle.disk_orders.proofs.Recovered.{not_recovered, recovered}
use Rattle.disk_orders.proofs.recoveries.recover_table.Goals as goal

pub returns-in-Err : goal.returns-in-Err
returns-in-Err g c = not_recovered c.args.table _ _ c.in-Err.fault c.in-Err.ensures

pub returns-in-Err-restart : goal.returns-in-Err-restart
returns-in-Err-restart g c = recovered c.args.table c.in-Ok.pages _ _ _ _ _ _ _ (Err c.in-Err-restart.fault) (Err c.in-Err-restart.fault) c.in-Ok.ensures c.in-Err-restart.ensures refl

pub returns-in-Ok-restart : goal.returns-in-Ok-restart
returns-in-Ok-restart g c = recovered c.args.table c.in-Ok.pages _ _ _ _ _ _ _ (Ok tt) (Ok c.in-Ok.pages) c.in-Ok.ensures c.in-Ok-restart.ensures refl
