use Rattle.std.proofs.Common.{◌≡◌, ◌∙◌, Option, Some, sym, subst}
use Rattle.std.specs.Prelude.{IfSome}
use Rattle.log_checkpoint.specs.declared.found.Found.{Found}
use Rattle.log_checkpoint.specs.Backwards.{told_of}
use Rattle.log_checkpoint.specs.Passed.{IsOf}
use Rattle.log_checkpoint.proofs.Passes.{pass_more}
use Rattle.log_checkpoint.proofs.Searched.{search_on, search_ends}
use Rattle.log_checkpoint.proofs.Steps.{told_again}
use Rattle.log_checkpoint.proofs.search.CheckpointSearch.search.Goals as goal

pub loop-told-init : goal.loop-told-init
loop-told-init c = (
  told_again c.args.self.now c.step.new.self c.in_ok-told.told c.in_ok-told.ensures.told c.in_ok-told.ensures.after,
  λ log end is. subst (IsOf log end) (sym c.in_ok-told.ensures.after) (c.search_laws.ensures.step log end c.args.self.now is),
  c.in_ok-told.ensures.passed,
  search_on c.whole_laws.ensures.size c.args.self.now c.step.new.self c.in_ok-told.ensures.after,
)

pub loop-told-preserved : goal.loop-told-preserved
loop-told-preserved c = (
  told_again c.loop-told.self c.step-in-loop-told.new.self c.in_ok-told-2.told c.in_ok-told-2.ensures.told c.in_ok-told-2.ensures.after,
  λ log end is. subst (IsOf log end) (sym c.in_ok-told-2.ensures.after) (c.search_laws.ensures.step log end c.loop-told.self (c.loop-told.invariant.1 log end is)),
  pass_more c.args.self.now c.loop-told.self c.step-in-loop-told.new.self c.loop-told.invariant.2 c.in_ok-told-2.ensures.passed,
  search_on c.whole_laws.ensures.size c.loop-told.self c.step-in-loop-told.new.self c.in_ok-told-2.ensures.after ∙ c.loop-told.invariant.3,
)

pub returns-clause-exact : goal.returns-clause-exact
returns-clause-exact c =
    let told : told_of c.loop-told.self ≡ Some c.in-Some.found = subst (λ (o : Option Found). IfSome o (λ found. told_of c.loop-told.self ≡ Some found)) c.in-Some.is c.loop-told.invariant.0 in
    sym (search_ends c.loop-told.self c.in-Some.found told) ∙ c.loop-told.invariant.3

pub returns-clause-log : goal.returns-clause-log
returns-clause-log c = λ log end is.
    let at = c.loop-told.invariant.1 log end is in
    let told : told_of c.loop-told.self ≡ Some c.in-Some.found = subst (λ (o : Option Found). IfSome o (λ found. told_of c.loop-told.self ≡ Some found)) c.in-Some.is c.loop-told.invariant.0 in
    (at, c.search_laws.ensures.told log end c.loop-told.self c.in-Some.found at told)
