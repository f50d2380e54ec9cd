use Rattle.std.proofs.Common.{arith, sym}
use Rattle.script_text.proofs.Pieces.{cut_found, cut_none}
use Rattle.script_text.proofs.lines.first_length.Goals as goal

pub overflow_add-result : goal.overflow_add-result
overflow_add-result c = omega (arith, (cut_found c.args.text.now c.in-Some.at (sym c.in-Some.ensures)).1)

pub returns-in-Some-clause-within : goal.returns-in-Some-clause-within
returns-in-Some-clause-within c = omega (arith, (cut_found c.args.text.now c.in-Some.at (sym c.in-Some.ensures)).1)

pub returns-in-Some-clause-pieces : goal.returns-in-Some-clause-pieces
returns-in-Some-clause-pieces c = (cut_found c.args.text.now c.in-Some.at (sym c.in-Some.ensures)).0

pub returns-in-None-clause-pieces : goal.returns-in-None-clause-pieces
returns-in-None-clause-pieces c = cut_none c.args.text.now c.requires (sym c.in-None.ensures)
