use Rattle.std.proofs.Common.{◌≡◌, ◌∙◌, sym, ap, subst, ℕ, ◌+◌, ◌*◌, ◌<◌, ◌==◌, ◌&&◌, List, length, slice_index, slice_set, if◌then◌else◌, arith}
use Rattle.std.proofs.lemmas.List.{get_or_read}
use Rattle.list_structure.specs.declared.query.Cell.{Cell}
use Rattle.list_structure.specs.declared.query.Cell.TheVariants.{Empty}
use Rattle.list_structure.specs.Cells.{cell_at, is_asked}
use Rattle.list_structure.specs.Counts.{one_if}
use Rattle.list_structure.proofs.Counting.{cell_at-set, IsCounted-set, asked_count-most, asked_count-least, counted_at, read_cell}
use Rattle.list_structure.proofs.Marking.{IsMarked-set}
use Rattle.list_structure.proofs.cells.Cells.put.Goals as goal

pub recount-requires-clause-range : goal.recount-requires-clause-range
recount-requires-clause-range c =
    let e = counted_at c.self.inside.cells.items c.self.inside.asked.items c.args.to c.index-2.result.now c.self.invariant.0 c.requires.to c.index-2.ensures in
    omega (arith, asked_count-most c.self.inside.cells.items c.args.to 544, e)

pub recount-requires-clause-there : goal.recount-requires-clause-there
recount-requires-clause-there c =
    let e = counted_at c.self.inside.cells.items c.self.inside.asked.items c.args.to c.index-2.result.now c.self.invariant.0 c.requires.to c.index-2.ensures in
    let r : c.is_asked-before.result ≡ is_asked (cell_at c.self.inside.cells.items c.args.asker c.args.to) =
    c.is_asked-before.ensures ∙ ap is_asked (read_cell c.self.inside.cells.items c.self.inside.asked.items c.args.asker c.args.to c.index.result.now c.self.invariant.0 c.requires.asker c.requires.to c.index.ensures) in
    let l = asked_count-least c.self.inside.cells.items c.args.to 544 c.args.asker c.requires.asker in
    omega (arith, ap one_if r, e, l)

pub invariant_of-self : goal.invariant_of-self
invariant_of-self c =
    let r : c.is_asked-before.result ≡ is_asked (cell_at c.self.inside.cells.items c.args.asker c.args.to) =
    c.is_asked-before.ensures ∙ ap is_asked (read_cell c.self.inside.cells.items c.self.inside.asked.items c.args.asker c.args.to c.index.result.now c.self.invariant.0 c.requires.asker c.requires.to c.index.ensures) in
    let k : c.index-2.result.now ≡ slice_index c.self.inside.asked.items c.args.to =
    get_or_read c.self.inside.asked.items c.args.to c.index-2.result.now (omega (arith, c.self.invariant.0.counts_length)) c.index-2.ensures 0 in (
      IsCounted-set c.self.inside.cells.items c.self.inside.asked.items c.args.asker c.args.to c.args.cell c.recount.result c.self.invariant.0 c.requires.asker c.requires.to
          (omega (arith, c.recount.ensures, ap one_if r, k, ap one_if c.is_asked-after.ensures)),
      IsMarked-set c.self.inside.cells.items c.self.inside.marks.items c.args.asker c.args.to c.args.cell c.is_asked-after.result c.self.invariant.1 c.requires.asker c.requires.to c.self.invariant.0.cells_length c.is_asked-after.ensures,
    )

pub returns : goal.returns
returns c = λ i t l.
    let s = cell_at-set c.self.inside.cells.items c.args.asker c.args.to i t c.args.cell (omega (arith, c.self.invariant.0.cells_length)) c.requires.to l in
    subst (λ (cells : List Cell). cell_at (slice_set c.self.inside.cells.items (c.args.asker * 32 + c.args.to) c.args.cell) i t ≡ (if (i == c.args.asker) && (t == c.args.to) then c.args.cell else cell_at cells i t)) c.self.view_is s
