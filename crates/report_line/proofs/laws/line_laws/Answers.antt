use Rattle.report_line.proofs.Again.{by_words}
use Rattle.report_line.proofs.Said.{read_again}
use Rattle.report_line.proofs.Whole.{body_inner}
use Rattle.report_line.proofs.laws.line_laws.Goals as goal

pub returns-clause-whole : goal.returns-clause-whole
returns-clause-whole c = by_words

pub returns-clause-inner : goal.returns-clause-inner
returns-clause-inner c = body_inner

pub returns-clause-again : goal.returns-clause-again
returns-clause-again c = read_again
