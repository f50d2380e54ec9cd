use Rattle.torn_records.specs.Fronts.{IsPlainIn, ChangesRow}
use Rattle.torn_records.proofs.Sorts.{told_in}
use Rattle.torn_records.proofs.Telling.{none_was}
use Rattle.torn_records.proofs.torn.is_front_in.Goals as goal

pub returns : goal.returns
returns c =
    let bytes = c.args.bytes.now in
    let v = c.args.version in
    told_in v bytes c.is_front_of_system.result
    (none_was bytes (IsPlainIn v) c.is_front_of_plain.result c.in_ok-is_plain.is_plain (cc) c.if-is_plain.false c.is_front_of_plain.ensures)
    (none_was bytes (ChangesRow v) c.is_front_of_changes.result c.in_ok-is_change.is_change (cc) c.if-is_change.false c.is_front_of_changes.ensures)
    c.is_front_of_system.ensures
