use Rattle.std.proofs.Common.{◌≡◌, IfOk, sym, subst}
use Rattle.group_words.specs.Orders.{texts}
use Rattle.group_run.specs.Prepares.{IsPrepared, ReadsNothing, LeavesSource}
use Rattle.group_run.proofs.prepare.prepare.Goals as goal

pub prepare_order-requires : goal.prepare_order-requires
prepare_order-requires g c = c.size_laws.ensures (texts c.args.words.now) c.in-Ok.order c.in-Ok.ensures.order

pub returns-in-Ok-clause-prepared : goal.returns-in-Ok-clause-prepared
returns-in-Ok-clause-prepared g c =
    let left = g.S.Source.left c.args.source.now in
    let left_now = g.S.Source.left c.prepare_order.new.source in
    let faults = g.S.Source.faults c.args.source.now in
    let faults_now = g.S.Source.faults c.prepare_order.new.source in
    subst (λ o. IfOk c.prepare_order.result (λ p. IsPrepared o p left left_now faults faults_now)) (sym c.in-Ok.ensures.order) c.prepare_order.ensures.prepared

pub returns-in-Ok-clause-unread : goal.returns-in-Ok-clause-unread
returns-in-Ok-clause-unread g c = subst (λ o. ReadsNothing o → g.S.Source.left c.prepare_order.new.source ≡ g.S.Source.left c.args.source.now) (sym c.in-Ok.ensures.order) c.prepare_order.ensures.unread

pub returns-in-Ok-clause-unmoved : goal.returns-in-Ok-clause-unmoved
returns-in-Ok-clause-unmoved g c =
    let left = g.S.Source.left c.args.source.now in
    let left_now = g.S.Source.left c.prepare_order.new.source in
    let faults = g.S.Source.faults c.args.source.now in
    let faults_now = g.S.Source.faults c.prepare_order.new.source in
    subst (λ o. LeavesSource o left left_now faults faults_now) (sym c.in-Ok.ensures.order) c.prepare_order.ensures.unmoved
