-- A line is read by its first word.
use Rattle.std.proofs.Common.{sym, subst, Result}
use Rattle.ds_model.specs.declared.script.FaultKind.{FaultKind}
use Rattle.script_line.specs.Lines.{Gives}
use Rattle.script_line.specs.declared.line.Line.{Line}
use Rattle.script_line.proofs.LineOfWords.{not_ascii, no_line, behind_first}
use Rattle.script_line.proofs.read.line_in.Goals as goal

pub returns-then-not-is_ascii : goal.returns-then-not-is_ascii
returns-then-not-is_ascii c = not_ascii _ _ (sym c.if-not-is_ascii.ensures)

pub returns-in-None : goal.returns-in-None
returns-in-None c = no_line _ _ (sym c.if-not-is_ascii.ensures) c.in-None.ensures

pub returns-in-Some : goal.returns-in-Some
returns-in-Some c = subst (λ (said : Result Line FaultKind). Gives said c.line_behind.result) (sym (behind_first _ _ _ _ (sym c.if-not-is_ascii.ensures) c.in-Some.ensures.0)) c.line_behind.ensures
