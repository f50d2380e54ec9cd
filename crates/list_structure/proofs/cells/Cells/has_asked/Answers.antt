use Rattle.std.proofs.Common.{◌≡◌, ◌∙◌, sym, ap, subst, ℕ, ◌<◌, List, false, nat_lt, arith}
use Rattle.std.proofs.lemmas.Bool.Decides.{nat_tests}
use Rattle.list_structure.specs.declared.query.Cell.{Cell}
use Rattle.list_structure.specs.Cells.{cell_at, is_asked}
use Rattle.list_structure.specs.Counts.{asked_count}
use Rattle.list_structure.proofs.Counting.{counted_at, none_from_count, count_from_none}
use Rattle.list_structure.proofs.cells.Cells.has_asked.Goals as goal

pub returns : goal.returns
returns c =
    let e = counted_at c.self.inside.cells.items c.self.inside.asked.items c.args.to c.index.result.now c.self.invariant.0 c.requires c.index.ensures in (
      λ z i l.
          let n : asked_count c.self.inside.cells.items c.args.to 544 ≡ 0 = grind (arith, nat_tests) in
          subst (λ (cells : List Cell). is_asked (cell_at cells i c.args.to) ≡ false) c.self.view_is (none_from_count c.self.inside.cells.items c.args.to 544 i l n),
      λ h.
          let n : asked_count c.self.inside.cells.items c.args.to 544 ≡ 0 = count_from_none c.self.inside.cells.items c.args.to 544 (λ i l. subst (λ (cells : List Cell). is_asked (cell_at cells i c.args.to) ≡ false) (sym c.self.view_is) (h i l)) in
          grind (arith, nat_tests),
    )
