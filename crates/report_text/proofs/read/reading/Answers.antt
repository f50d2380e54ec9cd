use Rattle.std.proofs.Common.{◌≡◌, ap, sym, subst, ◌∙◌}
use Rattle.report_text.specs.Steps.{Gives, report_from, report_of, lines_in}
use Rattle.report_text.proofs.Walk.{refuses, goes_on, ends}
use Rattle.report_text.proofs.read.reading.Goals as goal

pub loop-text-init : goal.loop-text-init
unfolding report_of
loop-text-init c = ap (λ d. report_from 1 d (lines_in c.args.bytes.now)) c.new-draft.ensures

pub returns-in-None : goal.returns-in-None
returns-in-None c =
    sym c.loop-text.invariant ∙ refuses c.loop-text.number c.loop-text.draft c.loop-text.rest.now c.in-Some.text.now c.in-Some.after.now c.in-Some.ensures.0 (sym c.in-None.is ∙ c.in_ok-next.ensures)

pub loop-text-preserved : goal.loop-text-preserved
loop-text-preserved c =
    ap (λ n. report_from n c.in-Some-2.next (lines_in c.in-Some.after.now)) c.saturating_add-number.ensures
    ∙ (sym (goes_on c.loop-text.number c.loop-text.draft c.in-Some-2.next c.loop-text.rest.now c.in-Some.text.now c.in-Some.after.now c.in-Some.ensures.0 (sym c.in-Some-2.is ∙ c.in_ok-next.ensures))
    ∙ c.loop-text.invariant)

pub returns : goal.returns
returns c =
    subst (Gives c.finished.result) (sym (ends c.loop-text.number c.loop-text.draft c.loop-text.rest.now c.in_default.ensures) ∙ c.loop-text.invariant) c.finished.ensures
