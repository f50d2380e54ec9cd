use Rattle.std.proofs.Common.{◌≡◌, ◌≤◌, ap, arith}
use Rattle.page_chain.specs.Chains.{images_of}
use Rattle.redone_pages.specs.declared.range.TableRange.{TableRange}
use Rattle.index_places.proofs.Told.{first_unwhole, whole, tables_more}
use Rattle.index_places.proofs.tables.find_unwhole.Goals as goal

pub returns-in-Some-2 : goal.returns-in-Some-2
returns-in-Some-2 c =
    let first : c.range-range.result.first ≡ c.args.records.now.range.first = ap (λ (r : TableRange). r.first) c.range-range.ensures in
    let last : c.range-range.result.last ≡ c.args.records.now.range.last = ap (λ (r : TableRange). r.last) c.range-range.ensures in
    let from : c.args.records.now.range.first ≤ c.loop-number.number = omega arith in
    let to : c.loop-number.number ≤ c.args.records.now.range.last = omega arith in
    first_unwhole (images_of c.args.records.now.records) c.args.records.now.records c.args.records.now.range c.in-Some.table c.loop-number.number c.in_ok-id.field-0 c.in-Some-2.id c.in-Some.ensures.0 (from, to) c.in-Some.ensures.1
    c.in-Some-2.is c.in_ok-id.ensures c.loop-number.invariant

pub loop-number-preserved : goal.loop-number-preserved
loop-number-preserved c =
    tables_more (images_of c.args.records.now.records) c.args.records.now.records c.args.records.now.range c.in-Some.table c.loop-number.number c.in-Some.ensures.1
    (whole (images_of c.args.records.now.records) c.args.records.now.records c.in-Some.table c.in_ok-id.field-0 c.in_default-2.is c.in_ok-id.ensures) c.loop-number.invariant

pub returns : goal.returns
returns c = λ table has.
    let last : c.range-range.result.last ≡ c.args.records.now.range.last = ap (λ (r : TableRange). r.last) c.range-range.ensures in
    let to = has.1 in
    c.loop-number.invariant table has.0 (omega (arith, to))
