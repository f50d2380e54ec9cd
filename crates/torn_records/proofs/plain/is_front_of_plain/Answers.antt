use Rattle.std.proofs.Common.{true, false, []}
use Rattle.torn_records.specs.Fronts.{HasText}
use Rattle.torn_records.proofs.Sorts.{plain_told}
use Rattle.torn_records.proofs.Telling.{none_was}
use Rattle.torn_records.proofs.plain.is_front_of_plain.Goals as goal

pub returns : goal.returns
returns c =
    let bytes = c.args.bytes.now in
    let v = c.args.version in
    plain_told v bytes c.is_front_with-4.result
    (none_was bytes (HasText v 4 true []) c.is_front_with.result c.in_ok-is_commit.is_commit (cc) c.if-is_commit.false c.is_front_with.ensures)
    (none_was bytes (HasText v 5 true []) c.is_front_with-2.result c.in_ok-is_ended.is_ended (cc) c.if-is_ended.false c.is_front_with-2.ensures)
    (none_was bytes (HasText v 7 false []) c.is_front_with-3.result c.in_ok-is_restart_end.is_restart_end (cc) c.if-is_restart_end.false c.is_front_with-3.ensures)
    c.is_front_with-4.ensures
