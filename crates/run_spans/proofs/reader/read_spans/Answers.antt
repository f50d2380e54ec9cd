use Rattle.std.proofs.Common.{subst}
use Rattle.run_spans.specs.Reaches.{IsRead}
use Rattle.run_spans.proofs.Reached.{read_reaches}
use Rattle.run_spans.proofs.reader.read_spans.Goals as goal

pub returns-clause-reaches : goal.returns-clause-reaches
returns-clause-reaches c = read_reaches c.into_spans.result c.args.events.now (subst (λ k. IsRead c.into_spans.result k) c.in_ok-read_all.ensures c.into_spans.ensures)
