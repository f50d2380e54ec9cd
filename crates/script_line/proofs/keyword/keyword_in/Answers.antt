-- What the first word says.
use Rattle.std.proofs.Common.{ap, sym, ◌∙◌}
use Rattle.script_line.specs.Lines.{keyword_in, keyword_of_words}
use Rattle.script_line.proofs.keyword.keyword_in.Goals as goal

pub returns-in_err-word : goal.returns-in_err-word
unfolding keyword_in
returns-in_err-word c = c.from_residual.ensures ∙ sym (ap keyword_of_words c.in_err-word.ensures)

pub returns : goal.returns
unfolding keyword_in
returns c = c.keyword_of.ensures ∙ sym (ap keyword_of_words c.in_ok-word.ensures.0)
