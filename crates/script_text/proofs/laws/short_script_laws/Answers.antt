use Rattle.script_text.proofs.Short.{short}
use Rattle.script_text.proofs.laws.short_script_laws.Goals as goal

pub returns : goal.returns
returns c = short
