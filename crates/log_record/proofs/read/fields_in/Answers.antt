use Rattle.std.proofs.Common.{◌≡◌, Ok, Err, sym, ap, ◌∙◌, arith}
use Rattle.log_record.specs.declared.fault.RecordFault.{RecordFault}
use Rattle.log_record.specs.declared.fault.RecordFault.TheVariants.{NoMemory}
use Rattle.log_record.specs.declared.kind.Kind.{Kind}
use Rattle.log_record.specs.declared.kind.Kind.TheVariants as kinds
use Rattle.log_record.proofs.Steps.{fault_is}
use Rattle.log_record.proofs.Memory.{kind_byte}
use Rattle.log_record.proofs.read.fields_in.Goals as goal

pub returns-in_err-body-clause-memory : goal.returns-in_err-body-clause-memory
returns-in_err-body-clause-memory c = λ h.
    let wants : c.in_err-body.field-0.0 ≡ NoMemory = fault_is c.from_residual-in_err-body.result _ NoMemory c.from_residual-in_err-body.ensures.1 h in
    let is : c.in_ok-kind.kind ≡ kinds.System = c.in_err-body.ensures.memory (ap (λ (e : RecordFault). Err e) wants) in
    kind_byte c.args.fields.now c.in_ok-kind.at (λ i. omega (arith, c.type_inv.fields i)) (sym c.in_ok-kind.ensures ∙ ap (λ (k : Kind). Ok (k, c.in_ok-kind.at)) is)
