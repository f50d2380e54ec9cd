use Rattle.script_text.proofs.Blank.{blank}
use Rattle.script_text.proofs.marks.Marks.new.Goals as goal

pub returns : goal.returns
returns c = λ n. blank 256 n
