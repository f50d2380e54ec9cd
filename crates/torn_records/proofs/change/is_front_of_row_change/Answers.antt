use Rattle.std.proofs.Common.{true, ◌∙◌}
use Rattle.torn_records.specs.Fronts.{HasText, IsRowChangeIn}
use Rattle.torn_records.proofs.Texts.{row_change_means}
use Rattle.torn_records.proofs.Telling.{told_as}
use Rattle.torn_records.proofs.change.is_front_of_row_change.Goals as goal

pub returns : goal.returns
returns c =
    let text = c.as_slice.result.now in
    told_as c.args.bytes.now (HasText c.args.version 1 true text) (IsRowChangeIn c.args.version c.args.before c.args.after) c.is_front_with.result
    (row_change_means c.args.version c.args.before c.args.after text (c.as_slice.ensures ∙ c.in_ok-text.ensures.text)) c.is_front_with.ensures
