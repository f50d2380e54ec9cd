use Rattle.std.proofs.Common.{◌∙◌, ap, drop, sym, subst}
use Rattle.std.proofs.lemmas.List.{take_rest}
use Rattle.report_check.specs.Order.{AreOthers}
use Rattle.report_check.proofs.Ordered.{in_order_yes, in_order_needs}
use Rattle.report_check.proofs.order.is_in_order.Goals as goal

pub returns : goal.returns
returns c =
    let entries = c.args.entries.now in
    let rest = take_rest entries c.front.result ∙ ap (λ m. drop m entries) c.front.ensures.count in
    (λ r. in_order_yes entries (subst (AreOthers 0) rest (c.are_others.ensures.0 r)), λ h. c.are_others.ensures.1 (subst (AreOthers 0) (sym rest) (in_order_needs entries h)))
