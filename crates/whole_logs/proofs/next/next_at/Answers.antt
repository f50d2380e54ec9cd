use Rattle.std.proofs.Common.{drop, sym, ap, ◌∙◌}
use Rattle.std.proofs.lemmas.List.{take_rest}
use Rattle.log_record.specs.Reading.{record_in}
use Rattle.whole_logs.proofs.Walking.{none_allowed, bad_read}
use Rattle.whole_logs.proofs.next.next_at.Goals as goal

pub returns-in-Err-Bad : goal.returns-in-Err-Bad
returns-in-Err-Bad c =
    let bytes = c.args.bytes.now in
    let bad = bad_read c.read_record.result _ c.in-Err-Bad.field-0-0 c.read_record.ensures.exact (cc) in
    none_allowed c.reading_laws.ensures.again c.reading_laws.ensures.cut c.args.low (drop c.args.at bytes) c.in-Err-Bad.field-0-0
    (ap record_in (sym (take_rest bytes c.args.at)) ∙ bad)
