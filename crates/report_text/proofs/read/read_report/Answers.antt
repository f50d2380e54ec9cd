use Rattle.report_text.proofs.Complete.{spelling_is_read, only_of}
use Rattle.report_text.proofs.Reach.{found_of}
use Rattle.report_text.proofs.read.read_report.Goals as goal

pub returns-clause-found : goal.returns-clause-found
returns-clause-found c = found_of c.reading.result c.args.bytes.now c.reading.ensures

pub returns-clause-only : goal.returns-clause-only
returns-clause-only c = λ report h e. only_of c.reading.result c.args.bytes.now report c.reading.ensures (spelling_is_read c.line_laws.ensures.whole c.line_laws.ensures.inner c.line_laws.ensures.again c.args.bytes.now report h e)
