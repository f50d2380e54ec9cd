use Rattle.std.proofs.Common.{◌<◌, ◌^◌, ℕ, ap, ◌∙◌, sym, subst, arith}
use Rattle.redone_pages.specs.Lasts.{last_in_records}
use Rattle.table_images.proofs.Heaps.{end_past, rest_stands}
use Rattle.table_images.proofs.heap.heap_end.Goals as goal

pub returns-clause-past : goal.returns-clause-past
returns-clause-past c =
    let last : c.args.last < 2 ^ 32 = omega arith in
    let behind : c.last.result < 2 ^ 32 = omega arith in
    subst (λ (m : ℕ). c.args.last < m) (sym c.end_of.ensures.exact) (end_past c.args.last c.last.result last behind)

pub returns-clause-rest : goal.returns-clause-rest
returns-clause-rest c =
    let last : c.args.last < 2 ^ 32 = omega arith in
    let behind : c.last.result < 2 ^ 32 = omega arith in
    rest_stands (record { others = c.chain_laws.ensures.others; blank = c.header_laws.ensures.zeros.0 }) c.args.records.now.records c.args.table c.args.last c.last.result c.end_of.result
    (c.last.ensures ∙ ap (λ (s : ℕ). last_in_records s 0 c.args.records.now.records) c.heap_set.ensures) c.end_of.ensures.exact last behind
