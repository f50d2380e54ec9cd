-- All that a plan closes and undoes is appended.
use Rattle.std.proofs.Common.{◌≡◌, ℕ, ◌+◌, ◌<◌, ◌^◌, List, [], ◌∷◌, ◌++◌, length, refl, sym, subst, arith}
use Rattle.log_record.specs.declared.log.Log.{Log}
use Rattle.log_trans.specs.Numbers.{greatest}
use Rattle.log_merge.specs.Merging.{all_records}
use Rattle.restart_plan.specs.declared.opened.Closing.{Closing}
use Rattle.restart_plan.specs.declared.opened.Undo.{Undo}
use Rattle.restart_plan.specs.Plans.{plan_of}
use Rattle.group_restart.specs.Records.{ended}
use Rattle.sound_appends.specs.Appends.{AppendsAll}
use Rattle.sound_plans.specs.Queues.{Writes, closing_writes, undo_writes, ClosingsFit, QueueFits, QueueAppends}
use Rattle.sound_plans.specs.Plans.{ClosingsOfPlanFit, QueueOfPlanFits, PlanAppends}
use Rattle.sound_plans.proofs.Logs.{put_record, greatest_put}
use Rattle.sound_plans.proofs.Closings.{last_of_member, closes, all_close_still}
use Rattle.sound_plans.proofs.Queues.{fits_ended}

Appended : List Log → Writes → Type 0
Appended logs ws = (after : List Log) × AppendsAll logs ws after

-- the closings first, and then the queue, whose greatest number is the same
both_append : QueueAppends → (logs : List Log) (cs : List Closing) (us : List Undo) (n : ℕ) → ClosingsFit logs cs → QueueFits logs us → n ≡ greatest (all_records logs) → n + length us < 2 ^ 80 → Appended logs (closing_writes cs ++ undo_writes n us)
unfolding Appended
both_append law logs [] us n c q e small = subst (λ (k : ℕ). Appended logs (undo_writes k us)) (sym e) (law logs us q (subst (λ (k : ℕ). k + length us < 2 ^ 80) e small))
both_append law logs (c ∷ cs) us n h q e small =
    let mid = put_record logs c.member (ended c.lrsn c.tran) in
    let p = closes logs c h.0 in
    let last = last_of_member logs c.member (ended c.lrsn c.tran) h.0.has in
    let number = h.0.number in
    let top = greatest_put logs c.member (ended c.lrsn c.tran) h.0.has in
    let rest = both_append law mid cs us n (all_close_still logs c cs h.0 h.1) (fits_ended logs c.member c.lrsn c.tran us h.0.has q) (omega (arith, e, last, number, top)) small in
    (rest.0, (mid, p.appends, p.member_is, rest.1))

pub plan_appends : ClosingsOfPlanFit → QueueOfPlanFits → QueueAppends → PlanAppends
unfolding Appended
plan_appends closings queue law bytes logs w t small = both_append law logs (plan_of logs).closings (plan_of logs).undo (greatest (all_records logs)) (closings bytes logs w t) (queue bytes logs w t) refl small
