use Rattle.std.proofs.Common.{drop, ap, ◌∙◌}
use Rattle.std.proofs.lemmas.List.{drop-drop}
use Rattle.report_line.specs.Reading.{words_of}
use Rattle.report_line.proofs.words.rest_from.Goals as goal

pub loop-preserved : goal.loop-preserved
loop-preserved c = c.skip_word-rest.ensures ∙ ap (drop 1) c.loop.invariant ∙ drop-drop 1 c.loop.counter (words_of c.args.line.now)
