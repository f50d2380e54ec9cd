use Rattle.std.proofs.Common.{◌≡◌, ℕ, List, sym, ap, subst, ◌∙◌}
use Rattle.std.proofs.lemmas.Bool.{eqb-true, eq-eqb}
use Rattle.log_record.specs.Reading.{record_in, Found, Answers}
use Rattle.log_record.specs.declared.fault.RecordFault.TheVariants as fault
use Rattle.torn_records.proofs.Completing.{whole, read_told, fault_told}
use Rattle.torn_records.proofs.complete.completes.Goals as goal

pub returns-in-Ok : goal.returns-in-Ok
returns-in-Ok c =
    let bytes = c.args.bytes.now in
    let text = c.args.template.now in
    let filled : c.as_slice.result.now ≡ whole bytes text = c.as_slice.ensures ∙ c.in_ok-filled.ensures in
    let size = c.in-Ok.length in
    read_told bytes text c.in-Ok.field-0-0 size _ c.reading_laws.ensures.again c.if-template-bytes.false
    (ap record_in (sym filled) ∙ c.in-Ok.ensures.exact)
    (subst (λ (l : List ℕ). Found l c.in-Ok.field-0-0 size) filled c.in-Ok.ensures.found)
    (λ e. eqb-true _ _ e)
    (λ e is. let same = eq-eqb _ _ is in cc)

pub returns-in-Err-NotWhole : goal.returns-in-Err-NotWhole
returns-in-Err-NotWhole c =
    let filled : c.as_slice.result.now ≡ whole c.args.bytes.now c.args.template.now = c.as_slice.ensures ∙ c.in_ok-filled.ensures in
    fault_told c.args.bytes.now c.args.template.now c.read_record.result fault.NotWhole c.reading_laws.ensures.again
    (subst (λ (l : List ℕ). Answers c.read_record.result (record_in l)) filled c.read_record.ensures.exact) (cc) (λ e. cc)

pub returns : goal.returns
returns c =
    let filled : c.as_slice.result.now ≡ whole c.args.bytes.now c.args.template.now = c.as_slice.ensures ∙ c.in_ok-filled.ensures in
    fault_told c.args.bytes.now c.args.template.now c.read_record.result (fault.Bad c.in-Err-Bad.field-0-0) c.reading_laws.ensures.again
    (subst (λ (l : List ℕ). Answers c.read_record.result (record_in l)) filled c.read_record.ensures.exact) (cc) (λ e. cc)
