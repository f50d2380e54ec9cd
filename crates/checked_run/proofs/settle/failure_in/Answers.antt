use Rattle.std.proofs.Common.{◌≡◌, ℕ, List, ◌+◌, [], length, true, false, sym, subst, ◌∙◌}
use Rattle.group_core.specs.Goes.{HasFailed}
use Rattle.checked_run.proofs.Settling.{can_settle}
use Rattle.checked_run.proofs.settle.failure_in.Goals as goal

pub returns : goal.returns
returns c before now rose =
    let failed = c.has_failed-failed.result in
    let faults = subst (λ (xs : List ℕ). (failed ≡ true → HasFailed xs) × (failed ≡ false → xs ≡ [])) c.deref.ensures.value (c.has_failed-failed.ensures.failed, c.has_failed-failed.ensures.whole) in
    let next = subst (λ (xs : List ℕ). c.next_place-next.result ≡ length xs + 1) c.deref-2.ensures.value c.next_place-next.ensures in
    can_settle before now c.args.played.now.faults.items (length c.args.played.now.journal.items) c.args.end c.args.played.now.fault c.args.closed failed c.failure_of.result faults.0 faults.1 rose
    c.failure_of.ensures.whole c.failure_of.ensures.cause c.failure_of.ensures.played (c.failure_of.ensures.refused (length c.args.played.now.journal.items) next)
