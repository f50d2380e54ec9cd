use Rattle.std.proofs.Common.{◌∙◌, ap, map}
use Rattle.std.proofs.lemmas.List.{take_all}
use Rattle.std.proofs.lemmas.Result.{IfOk-weaker}
use Rattle.report_check.proofs.Onces.{sorted_are, numbered_entry}
use Rattle.report_check.proofs.once.sorted.Goals as goal

pub returns : goal.returns
returns c =
    IfOk-weaker c.by_number.result _ _
    (λ sorted is. sorted_are c.loop-entry.items.items sorted.items c.args.entries.now (c.loop-entry.invariant ∙ ap (map numbered_entry) (take_all c.loop-entry.entry-index c.args.entries.now c.loop-entry-test.false)) is)
    c.by_number.ensures
