-- A value is found exactly where the bytes are one.
use Rattle.std.proofs.Common.{◌∙◌}
use Rattle.script_line.proofs.Ranges.{value_found}
use Rattle.script_line.proofs.values.value_of.Goals as goal

pub returns : goal.returns
returns c = c.ok_or.ensures.value ∙ value_found _ _ c.in-Ok.ensures.found
