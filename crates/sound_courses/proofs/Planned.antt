-- The plan of all records of sound logs fits them, so a group restart that has read them whole begins with it.
use Rattle.std.proofs.Common.{◌≡◌, ℕ, true, cond, List, [], ◌∷◌, ◌++◌, length, Option, Some, None, refl, sym, subst, ◌∙◌}
use Rattle.std.specs.Prelude.{◌==◌, ◌-◌, slice_get}
use Rattle.std.specs.List.{AllByRecursion}
use Rattle.std.proofs.lemmas.Bool.{cond_both}
use Rattle.ds_model.specs.declared.log.LogRecord.{LogRecord}
use Rattle.log_record.specs.declared.log.Log.{Log}
use Rattle.log_trans.specs.declared.opened.OpenTran.{OpenTran}
use Rattle.log_trans.specs.Courses.{open_trans}
use Rattle.restart_plan.specs.declared.opened.Opened.{Opened}
use Rattle.restart_plan.specs.Opened.{nothing_open, closing, closed, with_undo, with_changes, with_tran, with_trans, with_ending, needs_end, with_last, with_log, with_logs}
use Rattle.restart_plan.specs.Ends.{ends_of}
use Rattle.restart_plan.specs.Plans.{plan_of}
use Rattle.restart_plan.specs.Tails.{tails_of}
use Rattle.group_restart.specs.Machine.{Restart}
use Rattle.group_restart.specs.Course.{Next}
use Rattle.sound_plans.specs.Plans.{ClosingsOfPlanFit, QueueOfPlanFits, NumbersSuffice}
use Rattle.sound_plans.specs.Queues.{has_log}
use Rattle.sound_plans.proofs.Members.{IsHome, each_home}
use Rattle.sound_restarts.specs.Damage.{GoesToTails}
use Rattle.sound_restarts.specs.Redo.{PlanOfAllSuits}
use Rattle.sound_courses.specs.Bringing.{BringLeads, CutsBegin, PlanOfAllFits, ReadsBegin}

-- ---- which logs are ended

tran_leaves : (member lrsn : ℕ) (o : Opened) (t : OpenTran) → (with_tran member lrsn o t).endings ≡ o.endings
tran_leaves member lrsn o t =
    let undone = with_undo o (with_changes member t.id true o.undo t.undo) in
    let closes = cond (length t.undo == 0) (closed o (closing member t.id lrsn)) undone in
    cond_both (t.id == 0) o closes (λ (x : Opened). x.endings ≡ o.endings) (λ _. refl)
    (λ _. cond_both (length t.undo == 0) (closed o (closing member t.id lrsn)) undone (λ (x : Opened). x.endings ≡ o.endings) (λ _. refl) (λ _. refl))

trans_leave : (member lrsn : ℕ) (o : Opened) (ts : List OpenTran) → (with_trans member lrsn o ts).endings ≡ o.endings
trans_leave member lrsn o [] = refl
trans_leave member lrsn o (t ∷ ts) = trans_leave member lrsn (with_tran member lrsn o t) ts ∙ tran_leaves member lrsn o t

all_more : (P : ℕ → Type 0) (ms : List ℕ) (m : ℕ) → AllByRecursion P ms → P m → AllByRecursion P (ms ++ m ∷ [])
all_more P [] m h one = (one, tt)
all_more P (x ∷ ms) m h one = (h.0, all_more P ms m h.1 one)

last_ends : (P : ℕ → Type 0) (o : Opened) (member : ℕ) (ts : List OpenTran) (last : Option LogRecord) → AllByRecursion P o.endings → P member → AllByRecursion P (with_last o member ts last).endings
last_ends P o member ts None h one = h
last_ends P o member ts (Some last) h one =
    let begun = cond (needs_end last ts) (with_ending o member) o in
    let all : AllByRecursion P begun.endings = cond_both (needs_end last ts) (with_ending o member) o (λ (x : Opened). AllByRecursion P x.endings) (λ _. all_more P o.endings member h one) (λ _. h) in
    subst (AllByRecursion P) (sym (trans_leave member last.lrsn begun ts)) all

logs_end : (P : ℕ → Type 0) (logs : List Log) (o : Opened) → AllByRecursion P o.endings → AllByRecursion (λ (l : Log). P l.member) logs → AllByRecursion P (with_logs o logs).endings
logs_end P [] o h each = h
logs_end P (l ∷ logs) o h each = logs_end P logs (with_log o l) (last_ends P o l.member (open_trans l.records) (slice_get l.records (length l.records - 1)) h each.0) each.1

home_has : (all logs : List Log) → AllByRecursion (λ (l : Log). IsHome all l) logs → AllByRecursion (λ (l : Log). has_log all l.member ≡ true) logs
home_has all [] h = tt
home_has all (l ∷ logs) h = (h.0.has, home_has all logs h.1)

-- what is proved of plans
pub record PlanLaws : Type 0 where
  pub closings : ClosingsOfPlanFit
  pub queue : QueueOfPlanFits
  pub numbers : NumbersSuffice

-- ---- the plan

ends_there : (logs : List Log) → AllByRecursion (λ (l : Log). has_log logs l.member ≡ true) logs → AllByRecursion (λ (m : ℕ). has_log logs m ≡ true) (plan_of logs).endings
unfolding plan_of
ends_there logs each = logs_end (λ (m : ℕ). has_log logs m ≡ true) logs nothing_open tt each

plan_ends : (logs : List Log) → (plan_of logs).ends ≡ ends_of logs
unfolding plan_of
plan_ends logs = refl

plan_tails : (logs : List Log) → (plan_of logs).tails ≡ tails_of logs
unfolding plan_of
plan_tails logs = refl

pub plan_fits : PlanLaws → PlanOfAllFits
plan_fits l ts c logs s takes = record {
  closings = l.closings c.logs logs s.whole_logs s.transactions;
  queue = l.queue c.logs logs s.whole_logs s.transactions;
  numbers = l.numbers c.logs logs s.whole_logs s.transactions s.numbers;
  ends = plan_ends logs;
  endings = ends_there logs (home_has logs logs (each_home c.logs logs s.whole_logs));
  takes = takes;
}

-- ---- the begin

pub reads_begin : PlanLaws → GoesToTails → PlanOfAllSuits → CutsBegin → ReadsBegin
reads_begin l tails suits begins ts c h now asks takes =
    let p = plan_of h.logs in
    let k : Restart = record h { plan = plan_of h.logs; logs = [] } in
    subst (λ (n : Next). BringLeads ts n p c h.logs) (sym (tails c h now.sound))
    (begins ts p k c h.logs (record {
      now = now;
      tails_are = plan_tails h.logs;
      suits = suits c h.logs now;
      fits = plan_fits l ts c h.logs now.sound takes;
      rest = record { ends = refl; closings = refl; undo = refl; endings = refl; renews = refl; greatest = refl };
      merged_is = refl;
      pages_are = refl;
      asks = asks;
    }))
