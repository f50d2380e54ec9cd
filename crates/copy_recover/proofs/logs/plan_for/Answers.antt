use Rattle.std.proofs.Common.{Result}
use Rattle.restart_plan.specs.declared.plan.Plan.{Plan}
use Rattle.table_copy.specs.declared.fault.CopyFault.{CopyFault}
use Rattle.table_copy.specs.declared.fault.CopyFault.TheVariants as fault
use Rattle.table_copy.proofs.Told.{handed_on}
use Rattle.copy_recover.specs.Reading.{PlansBy}
use Rattle.copy_recover.proofs.Log_steps.{not_planned}
use Rattle.copy_recover.proofs.logs.plan_for.Goals as goal

pub returns-in_err-found : goal.returns-in_err-found
returns-in_err-found c =
    handed_on (λ (r : Result Plan CopyFault). PlansBy c.args.logs.now r) fault.NoMemory c.from_residual.result c.from_residual.ensures.1 (not_planned c.args.logs.now)

pub returns-in_err-plan_of : goal.returns-in_err-plan_of
returns-in_err-plan_of c =
    handed_on (λ (r : Result Plan CopyFault). PlansBy c.args.logs.now r) fault.NoMemory c.from_residual-in_err-plan_of.result c.from_residual-in_err-plan_of.ensures.1 (not_planned c.args.logs.now)
