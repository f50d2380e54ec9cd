use Rattle.std.proofs.Common.{◌∙◌, ap, subst, arith}
use Rattle.log_record.specs.Reading.{Answers, record_in}
use Rattle.log_record.proofs.Records.{is_found, record_again, is_cut}
use Rattle.log_record.proofs.read.read_record.Goals as goal

pub returns-clause-found : goal.returns-clause-found
returns-clause-found c = is_found c.args.bytes.now c.record_in.result (λ i. omega (arith, c.type_inv.bytes i)) c.record_in.ensures.exact

pub returns-clause-again : goal.returns-clause-again
returns-clause-again c = λ r rest h e. subst (Answers c.record_in.result) (ap record_in e ∙ record_again r rest h) c.record_in.ensures.exact

pub returns-clause-cut : goal.returns-clause-cut
returns-clause-cut c = λ r n h lt e. is_cut c.args.bytes.now c.record_in.result r n h lt e c.record_in.ensures.exact c.record_in.ensures.memory
