use Rattle.std.proofs.Common.{◌≡◌, ℕ, ◌||◌, eqb, ap, ◌∙◌, sym}
use Rattle.script_text.specs.Indexes.{is_marked}
use Rattle.script_text.specs.declared.draft.Draft.{Draft}
use Rattle.script_text.specs.Drafts.{step_fail}
use Rattle.script_text.proofs.SoFar.{SaysFails, fail_says}
use Rattle.script_text.proofs.Indexed.{at_step, fails_indexed}
use Rattle.script_text.proofs.reader.Reader.fail.Goals as goal

pub returns-in_ok-fail-in-Some-clause-indexed : goal.returns-in_ok-fail-in-Some-clause-indexed
returns-in_ok-fail-in-Some-clause-indexed c =
    let d = c.args.self.now.draft in
    let says = at_step (step_fail c.args.self.now.draft c.args.at) c.fail.new.self (λ (e : Draft). SaysFails e c.args.self.now.draft c.in-Some.member) c.in_ok-fail-in-Some.ensures
    (fail_says d.phases d.groupfails d.count d.place c.args.at c.in-Some.member (sym c.in-Some.ensures)) in
    fails_indexed c.args.self.now c.fail.new.self c.mark.new.self c.in-Some.member c.requires says
    (λ n. c.mark.ensures n ∙ ap (λ m. is_marked c.args.self.now.failing n || eqb m n) c.number.ensures.value)
