use Rattle.std.proofs.Common.{sym, arith}
use Rattle.std.proofs.lemmas.List.{take_all}
use Rattle.group_core.proofs.schedule.named.Goals as goal

pub returns-then-parts-lt-NAMED-clause-value : goal.returns-then-parts-lt-NAMED-clause-value
returns-then-parts-lt-NAMED-clause-value g c = sym (take_all 63 c.args.parts.now (omega arith))
