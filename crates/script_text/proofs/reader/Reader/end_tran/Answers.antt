use Rattle.script_text.specs.declared.draft.Draft.{Draft}
use Rattle.script_text.specs.Drafts.{step_end}
use Rattle.script_text.proofs.SoFar.{tran_ended_says}
use Rattle.script_text.proofs.Indexed.{SaysEnded, at_step, ended_indexed}
use Rattle.script_text.proofs.reader.Reader.end_tran.Goals as goal

pub returns-clause-indexed : goal.returns-clause-indexed
returns-clause-indexed c =
    let d = c.args.self.now.draft in
    let says = at_step (step_end c.args.self.now.draft) c.end_tran.new.self (λ (e : Draft). SaysEnded e c.args.self.now.draft) c.in_ok-end_tran.ensures (tran_ended_says d.phases d.groupfails d.count d.place) in
    ended_indexed c.args.self.now c.end_tran.new.self c.mark_all.new.self c.new-self.result c.requires says c.mark_all.ensures c.new-self.ensures
