use Rattle.std.proofs.lemmas.Result.{IfOk-weaker}
use Rattle.turn_story.proofs.Telling.{ran_more}
use Rattle.turn_story.proofs.told.ToldMachine.run.Goals as goal

pub returns-clause-one : goal.returns-clause-one
returns-clause-one g c =
    let x = c.note.ensures.history in
    (x.0, x.1, x.4)

pub returns-clause-ok : goal.returns-clause-ok
returns-clause-ok g c =
    let M = g.M.Stepping in
    let t = c.args.self.now in
    let x = c.note.ensures.history in
    IfOk-weaker c.run-ran.result _ _ (λ _ step.
    ran_more M.caller M.steps t.start c.note.new.self.start t.history.items c.note.new.self.history.items t.value c.run-ran.new.self c.note.new.self.value c.args.part.now c.run-ran.new.part c.args.event x.0
    c.note.ensures.same.1 x.4 x.1 x.2 x.3 c.note.ensures.same.0 c.requires.0 c.requires.1 step) c.run-ran.ensures.steps
