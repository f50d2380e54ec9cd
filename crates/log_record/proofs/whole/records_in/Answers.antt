use Rattle.std.proofs.Common.{arith}
use Rattle.log_record.proofs.Walks.{whole_at, damaged_at, further}
use Rattle.log_record.proofs.whole.records_in.Goals as goal

pub returns-in_err-found-clause-bad : goal.returns-in_err-found-clause-bad
returns-in_err-found-clause-bad c = λ n e.
    let i = c.loop-records.invariant in
    let h = c.in_err-found.ensures.bad n (grind (arith, e, c.from_residual.ensures)) in
    damaged_at c.reading_laws.ensures.again c.args.bytes.now c.loop-records.at c.loop-records.records i.0 i.1 i.2 n h.0 h.1

pub loop-records-preserved : goal.loop-records-preserved
loop-records-preserved c =
    let i = c.loop-records.invariant in
    let f = rw c.in-Some.is at c.in_ok-found.ensures.found in
    let t = further c.args.bytes.now c.loop-records.at c.loop-records.records c.in-Some.found c.in-Some.length i.0 i.1 i.2 f in
    rw c.in_ok-push.ensures.ok t

pub returns-clause-read : goal.returns-clause-read
returns-clause-read c =
    let i = c.loop-records.invariant in
    let tail = c.in_ok-found.ensures.tail in
    whole_at c.reading_laws.ensures.again c.args.bytes.now c.loop-records.at c.loop-records.records i.0 i.1 i.2 (grind (arith, tail, c.in_default.not-Some))
