use Rattle.std.proofs.Common.{true, ◌∙◌}
use Rattle.torn_records.specs.Fronts.{HasText, IsCompensationIn}
use Rattle.torn_records.proofs.Texts.{compensation_means}
use Rattle.torn_records.proofs.Telling.{told_as}
use Rattle.torn_records.proofs.change.is_front_of_compensation.Goals as goal

pub returns : goal.returns
returns c =
    let text = c.as_slice.result.now in
    told_as c.args.bytes.now (HasText c.args.version 2 true text) (IsCompensationIn c.args.version c.args.before c.args.after) c.is_front_with.result
    (compensation_means c.args.version c.args.before c.args.after c.in_ok-text.text text c.in_ok-text.ensures.text (c.as_slice.ensures ∙ c.in_ok-put_number.ensures)) c.is_front_with.ensures
