-- The queue of a plan fits the logs.
use Rattle.std.proofs.Common.{◌≡◌, ℕ, List, [], reverse, inl, inr, sym, ap, subst, ◌∙◌}
use Rattle.std.specs.Prelude.{◌⊎◌, filter}
use Rattle.std.specs.FinMap.{entries, empty}
use Rattle.log_record.specs.declared.log.Log.{Log}
use Rattle.restart_plan.specs.declared.opened.Undo.{Undo}
use Rattle.restart_plan.specs.Opened.{Changes, nothing_open, with_logs}
use Rattle.restart_plan.specs.Plans.{plan_of}
use Rattle.sound_plans.specs.Opens.{OpensTell}
use Rattle.sound_plans.specs.Queues.{IsQueueOf, IsSettled, is_of}
use Rattle.sound_plans.specs.Plans.{QueueOfPlanFits}
use Rattle.sound_plans.proofs.Inserted.{undos_in, put_all, in_order, turned}
use Rattle.sound_plans.proofs.Members.{each_sound, all_numbers, each_home}
use Rattle.sound_plans.proofs.Planned_queue.{put_logs, logs_put, logs_differ, PassesIn, logs_pass, passes_rise, put_tran_is, queue_of}
use Rattle.sound_plans.proofs.Settled.{nothing_settled}

passes_fit : (all : List Log) (m t : ℕ) (us : List Undo) → (us ≡ [] → IsSettled all m t) → PassesIn all m t us → ((reverse us ≡ []) × IsSettled all m t) ⊎ IsQueueOf all m t (reverse us)
passes_fit all m t us settled (inl e) = inl (ap reverse e, settled e)
passes_fit all m t us settled (inr f) = elim (put_tran_is m f.found.tran f.found.is_open_tran.numbered) [
  | inl e ↦ (let nothing : us ≡ [] = f.found.is ∙ e in inl (ap reverse nothing, settled nothing))
  | inr e ↦ inr (queue_of all m t us f (f.found.is ∙ e))
]

pub queue_fits : OpensTell → QueueOfPlanFits
unfolding plan_of
queue_fits tell bytes logs w t = λ m n.
    let s = each_sound bytes logs w t in
    let passes : PassesIn logs m n (filter (is_of m n) (put_logs logs)) = logs_pass tell logs m n 1 bytes logs w s (each_home bytes logs w) in
    let put : (with_logs nothing_open logs).undo ≡ put_all empty (put_logs logs) = logs_put nothing_open logs in
    let same : filter (is_of m n) (plan_of logs).undo ≡ reverse (filter (is_of m n) (put_logs logs)) =
    turned (is_of m n) (entries (with_logs nothing_open logs).undo)
    ∙ ap (λ (c : Changes). reverse (filter (is_of m n) (undos_in (entries c)))) put
    ∙ ap reverse (in_order (is_of m n) (put_logs logs) (logs_differ tell logs s (all_numbers logs t)) (passes_rise logs m n (filter (is_of m n) (put_logs logs)) passes)) in
    subst (λ (us : List Undo). ((us ≡ []) × IsSettled logs m n) ⊎ IsQueueOf logs m n us) (sym same)
    (passes_fit logs m n (filter (is_of m n) (put_logs logs)) (λ e. nothing_settled tell m n logs s e) passes)
