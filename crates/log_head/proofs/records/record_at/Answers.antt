use Rattle.std.proofs.Common.{◌≡◌, ℕ, ◌-◌, List, length, take, drop, sym, ap, ◌∙◌, arith}
use Rattle.std.proofs.lemmas.List.{length-drop, take_all}
use Rattle.log_record.specs.Reading.{record_in}
use Rattle.log_head.proofs.Kept.{no_record}
use Rattle.log_head.proofs.records.record_at.Goals as goal

-- the bytes from a place on are all that are left
rest_is : (bytes : List ℕ) (from : ℕ) → take (length bytes - from) (drop from bytes) ≡ drop from bytes
rest_is bytes from = take_all (length bytes - from) (drop from bytes) (omega (arith, length-drop from bytes))

pub returns-in-Err-NotWhole : goal.returns-in-Err-NotWhole
returns-in-Err-NotWhole c = record {
  found = tt;
  within = tt;
  none = no_record (record_in (drop c.args.from c.args.bytes.now)) c.in-Err-NotWhole.field-0 (ap record_in (sym (rest_is c.args.bytes.now c.args.from)) ∙ c.in-Err-NotWhole.ensures.exact (λ e. cc));
}

pub returns-in-Err-Bad : goal.returns-in-Err-Bad
returns-in-Err-Bad c = record {
  found = tt;
  within = tt;
  none = no_record (record_in (drop c.args.from c.args.bytes.now)) c.in-Err-Bad.field-0 (ap record_in (sym (rest_is c.args.bytes.now c.args.from)) ∙ c.in-Err-Bad.ensures.exact (λ e. cc));
}
