use Rattle.std.proofs.Common.{◌∙◌}
use Rattle.torn_records.specs.Fronts.{HasText}
use Rattle.torn_records.specs.Mixes.{Completes}
use Rattle.torn_records.proofs.Frames.{text_completes}
use Rattle.torn_records.proofs.Telling.{told_as}
use Rattle.torn_records.proofs.frame.is_front_of_text.Goals as goal

pub returns : goal.returns
returns c =
    let template = c.as_slice.result.now in
    told_as c.args.bytes.now (λ r. Completes r template) (HasText c.args.version c.args.kind c.args.has_tran c.args.text.now) c.completes.result
    (text_completes c.args.version c.args.kind c.args.has_tran c.args.text.now template (c.as_slice.ensures ∙ c.in_ok-template.ensures)) c.completes.ensures
