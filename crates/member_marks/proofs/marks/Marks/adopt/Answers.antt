use Rattle.std.proofs.Common.{◌≡◌, true, arith, length}
use Rattle.std.specs.Prelude.{nat_lt, not}
use Rattle.member_marks.specs.Names.{with_spots}
use Rattle.member_marks.specs.Rollbacks.{spots_of, may_adopt}
use Rattle.member_marks.proofs.Rooms.{adopted_when}
use Rattle.member_marks.proofs.marks.Marks.adopt.Goals as goal

pub returns-clause-after : goal.returns-clause-after
returns-clause-after c =
    let may : may_adopt c.args.self.now c.args.id c.args.changes.items ≡ true = grind (arith, c.may_adopt.ensures, c.if-not-may_adopt.false, c.as_slice.ensures) in
    let undone : not c.is_empty-has_undone.result ≡ nat_lt 0 (length c.args.undone.now) = grind (arith, c.is_empty-has_undone.ensures) in
    let spots : c.as_slice-4.result.now ≡ spots_of c.args.changes.items c.args.undone.now = grind (arith, c.as_slice-4.ensures, c.in_ok-spots.ensures, c.as_slice-2.ensures) in
    let kept : c.in_ok-kept.kept ≡ with_spots c.args.self.now.kept c.as_slice-4.result.now = grind (arith, c.in_ok-kept.ensures, c.as_slice-3.ensures, c.as_slice-4.ensures, c.self.view_is) in
    adopted_when c.args.self.now c.reserve_rollback.new.self c.enter_rollback.new.self c.args.id c.args.by c.args.changes.items c.args.undone.now _ c.as_slice-4.result.now c.in_ok-kept.kept may c.reserve_rollback.ensures.rest c.enter_rollback.ensures undone spots kept
