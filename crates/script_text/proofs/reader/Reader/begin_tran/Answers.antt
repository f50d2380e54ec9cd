use Rattle.std.proofs.Common.{◌≡◌, ℕ, List, ◌||◌, bytes_eq, ap, ◌∙◌}
use Rattle.std.proofs.lemmas.Result.{IfOk-weaker}
use Rattle.script_text.specs.Indexes.{is_kept, IsIndexed}
use Rattle.script_text.specs.declared.draft.Draft.{Draft}
use Rattle.script_text.specs.Drafts.{tran_begun}
use Rattle.script_text.proofs.SoFar.{tran_begun_says}
use Rattle.script_text.proofs.Indexed.{SaysNamed, on_step, named_indexed}
use Rattle.script_text.proofs.reader.Reader.begin_tran.Goals as goal

pub returns-clause-indexed : goal.returns-clause-indexed
returns-clause-indexed c =
    let r = c.args.self.now in
    let d = c.args.self.now.draft in
    let kept = λ (q : List ℕ). c.in_ok-add.ensures q ∙ ap (λ xs. is_kept c.args.self.now.names q || bytes_eq q xs) c.as_slice-2.ensures in
    on_step (tran_begun c.args.self.now.draft c.args.self.now.draft.place c.args.name c.args.wait) c.begin_tran.new.self c.begin_tran.result
    (λ (e : Draft). IsIndexed (record c.args.self.now { draft = e; names = c.add.new.self })) c.begin_tran.ensures
    (IfOk-weaker (tran_begun c.args.self.now.draft c.args.self.now.draft.place c.args.name c.args.wait) (λ (e : Draft). SaysNamed e c.args.self.now.draft c.args.name) (λ (e : Draft). IsIndexed (record c.args.self.now { draft = e; names = c.add.new.self }))
    (λ e s. named_indexed c.args.self.now e c.add.new.self c.args.name c.requires.indexed s kept)
    (tran_begun_says d.phases d.groupfails d.count d.place c.args.name c.args.wait))
