use Rattle.std.proofs.Common.{ℕ, ◌<◌, ◌^◌, ap, ◌∙◌, sym, subst, arith}
use Rattle.redone_pages.specs.Lasts.{last_in_records}
use Rattle.disk_versions.specs.Ends.{end_of}
use Rattle.table_images.specs.Nodes.{last_node}
use Rattle.table_images.proofs.Heaps.{end_past}
use Rattle.table_images.proofs.Indexes.{rest_stands}
use Rattle.table_images.proofs.index.index_end.Goals as goal

pub returns-clause-past : goal.returns-clause-past
returns-clause-past c =
    let last : c.last_node.result < 2 ^ 32 = omega arith in
    let behind : c.last.result < 2 ^ 32 = omega arith in
    subst (λ (m : ℕ). last_node c.args.next < m) (sym c.end_of.ensures.exact)
    (subst (λ (m : ℕ). m < end_of c.last_node.result c.last.result 0) c.last_node.ensures (end_past c.last_node.result c.last.result last behind))

pub returns-clause-rest : goal.returns-clause-rest
returns-clause-rest c =
    let last : c.last_node.result < 2 ^ 32 = omega arith in
    let behind : c.last.result < 2 ^ 32 = omega arith in
    rest_stands (record { others = c.chain_laws.ensures.others; blank = c.header_laws.ensures.zeros.0 }) c.args.records.now.records c.args.table c.args.next c.last.result c.end_of.result
    (c.last.ensures ∙ ap (λ (s : ℕ). last_in_records s 0 c.args.records.now.records) c.index_set.ensures) (c.end_of.ensures.exact ∙ ap (λ (m : ℕ). end_of m c.last.result 0) c.last_node.ensures)
    (subst (λ (m : ℕ). m < 2 ^ 32) c.last_node.ensures last) behind
