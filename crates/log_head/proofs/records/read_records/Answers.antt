use Rattle.std.proofs.Common.{◌≡◌, ℕ, ◌+◌, ◌-◌, List, [], length, take, drop, subst, arith}
use Rattle.std.proofs.lemmas.List.{append-nil, length-drop, take_all}
use Rattle.log_record.specs.Given.{LogRecord}
use Rattle.log_head.specs.Heads.{AreRead}
use Rattle.log_head.proofs.records.read_records.Goals as goal

pub returns : goal.returns
returns c = subst (λ (rs : List (LogRecord × ℕ)). AreRead c.args.bytes.now c.args.at rs c.in_ok-bad.bad) (append-nil c.loop-record.into.items) (c.loop-record.invariant.1 [] c.in_ok-bad.bad
    (subst (λ (t : List ℕ). AreRead t (c.args.at + c.loop-record.from) [] c.in_ok-bad.bad) (take_all (length c.args.bytes.now - c.loop-record.from) (drop c.loop-record.from c.args.bytes.now) (omega (arith, length-drop c.loop-record.from c.args.bytes.now))) c.in_ok-bad.ensures))
