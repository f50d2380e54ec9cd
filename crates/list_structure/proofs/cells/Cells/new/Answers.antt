use Rattle.std.proofs.Common.{◌+◌, ◌*◌}
use Rattle.list_structure.proofs.Marking.{IsMarked-empty}
use Rattle.list_structure.proofs.Counting.{IsCounted-empty}
use Rattle.list_structure.proofs.cells.Cells.new.Goals as goal

pub invariant_of-result : goal.invariant_of-result
invariant_of-result c = (
  IsCounted-empty c.in_ok-copies.field-0.items c.in_ok-copies-2.field-0.items c.in_ok-copies.ensures.length c.in_ok-copies.ensures.same c.in_ok-copies-2.ensures.length c.in_ok-copies-2.ensures.same,
  IsMarked-empty c.in_ok-copies.field-0.items c.in_ok-copies-3.field-0.items c.in_ok-copies.ensures.same c.in_ok-copies-3.ensures.length c.in_ok-copies-3.ensures.same,
)

pub returns : goal.returns
returns c = λ i t. c.in_ok-copies.ensures.same (i * 32 + t)
