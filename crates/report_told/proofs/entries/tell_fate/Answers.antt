use Rattle.std.proofs.Common.{◌≡◌, sym, ap, ◌∙◌}
use Rattle.ds_model.specs.Told.{told_of}
use Rattle.report_told.proofs.entries.tell_fate.Goals as goal

pub returns-in_ok-tell_commit-in-Committed : goal.returns-in_ok-tell_commit-in-Committed
returns-in_ok-tell_commit-in-Committed c = λ s e. c.in_ok-tell_commit-in-Committed.ensures s ∙ ap (told_of s c.args.ops.now) (sym c.in-Committed.is)
