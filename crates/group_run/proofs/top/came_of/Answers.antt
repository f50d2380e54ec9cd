use Rattle.std.proofs.Common.{◌≡◌, IfOk, false, true, refl, sym, subst}
use Rattle.checked_run.specs.Outcomes.{IsLeft}
use Rattle.group_run.specs.Tellings.{short_telling, telling_of, fault_status, TellsOutcome}
use Rattle.group_run.proofs.top.came_of.Goals as goal

pub returns-in-Unopened-clause-tells : goal.returns-in-Unopened-clause-tells
returns-in-Unopened-clause-tells g c =
    let made = subst (λ s. IfOk c.short_telling-telling.result (λ t. t ≡ short_telling s)) c.fault_status.ensures c.short_telling-telling.ensures in
    let told = c.or_wanting.ensures (short_telling (fault_status c.in-Unopened.why)) made in
    subst (λ o. TellsOutcome c.args.work o false c.new.result c.or_wanting.result) (sym c.in-Unopened.is) (refl, c.new.ensures, told)

pub returns-in-Opened-clause-tells : goal.returns-in-Opened-clause-tells
returns-in-Opened-clause-tells g c =
    let told = c.or_wanting-in-Opened.ensures (telling_of c.args.work c.in-Opened.ended) c.telling_of-telling.ensures in
    subst (λ o. TellsOutcome c.args.work o true c.in-Opened.opening c.or_wanting-in-Opened.result) (sym c.in-Opened.is) (refl, refl, told)

pub returns-in-Unopened-clause-left : goal.returns-in-Unopened-clause-left
returns-in-Unopened-clause-left g c = λ before after left closed. subst (λ o. IsLeft o before after) c.in-Unopened.is left

pub returns-in-Opened-clause-left : goal.returns-in-Opened-clause-left
returns-in-Opened-clause-left g c = λ before after left closed. let f : true ≡ false = closed in cc
