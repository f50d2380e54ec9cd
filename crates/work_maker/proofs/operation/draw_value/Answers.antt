use Rattle.std.proofs.Common.{refl, ◌≡◌, subst, sym, arith}
use Rattle.ds_base.specs.Values.{IsValue}
use Rattle.work_maker.specs.Made.{value_of}
use Rattle.work_maker.proofs.Texts.{value_allowed}
use Rattle.work_maker.proofs.operation.draw_value.Goals as goal

pub unreachable-requires : goal.unreachable-requires
unreachable-requires c =
    let none = rw c.in_default.is at c.in_ok-value.ensures.found in
    let text-is : c.as_slice.result.now ≡ value_of c.draw_below-number.result = rw (c.as_slice.ensures, c.in_ok-extend_number.ensures.ok, c.in_ok-extend.ensures.ok, c.new-text.ensures) refl in
    none (subst IsValue (sym text-is) (value_allowed c.draw_below-number.result (omega arith)))
