-- A group restart goes on by the plan of what was read of the logs of a sound disk.
use Rattle.std.proofs.Common.{◌≡◌, ℕ, ◌+◌, ◌<◌, ◌^◌, List, [], length, inl, refl, sym, subst}
use Rattle.std.proofs.lemmas.Bool.{or_cases}
use Rattle.std.proofs.lemmas.List.{append-nil}
use Rattle.ds_disk.specs.Contents.{Contents}
use Rattle.log_record.specs.declared.log.Log.{Log}
use Rattle.log_trans.specs.Numbers.{greatest}
use Rattle.log_merge.specs.Merging.{all_records}
use Rattle.restart_plan.specs.Plans.{plan_of}
use Rattle.group_restart.specs.declared.calls.State.{State}
use Rattle.group_restart.specs.Machine.{Restart}
use Rattle.group_restart.specs.Course.{Next, plan_read}
use Rattle.read_plans.specs.Fits.{ClosingsReadFit, QueueReadFits, TailsAreRead, EndsAreRead, EndingsReadFit}
use Rattle.restart_reads.specs.Reading.{AllAreRead}
use Rattle.sound_disk.specs.Sound.{IsSoundWith}
use Rattle.sound_plans.specs.Ends.{takes, has_end, ToEnd, EndAll}
use Rattle.sound_plans.specs.Queues.{records_for}
use Rattle.sound_plans.specs.Plans.{QueueOfPlanFits, NumbersSuffice}
use Rattle.sound_reads.specs.Laws.{PlanReadSuits}
use Rattle.sound_reads.specs.Reads.{AreReadOf}
use Rattle.sound_restarts.specs.Redo.{IsSoundNow}
use Rattle.sound_steps.specs.Given.{PlanFits}
use Rattle.sound_steps.specs.Whole.{SoundLeads, CourseBegins}
use Rattle.restart_soundness.specs.Soundness.{to_end}
use Rattle.restart_soundness.proofs.Counting.{as_long}

-- what is proved of plans
pub record PlanLaws : Type 0 where
  pub closings : ClosingsReadFit
  pub queue : QueueReadFits
  pub tails : TailsAreRead
  pub ends : EndsAreRead
  pub endings : EndingsReadFit
  pub suits : PlanReadSuits
  pub whole : QueueOfPlanFits
  pub numbers : NumbersSuffice
  pub begins : CourseBegins

-- what is to be undone by it is as much as by the plan of all records
enough : PlanLaws → (c : Contents) (logs reads : List Log) → IsSoundWith c logs → AreReadOf logs reads → greatest (all_records logs) + length (plan_read reads).undo < 2 ^ 80
enough l c logs reads s are =
    let same : length (plan_of logs).undo ≡ length (plan_read reads).undo =
    as_long logs (plan_of logs).undo (plan_read reads).undo (l.whole c.logs logs s.whole_logs s.transactions) (l.queue c logs reads s are) in
    subst (λ (n : ℕ). greatest (all_records logs) + n < 2 ^ 80) same (l.numbers c.logs logs s.whole_logs s.transactions s.numbers)

read_fits : PlanLaws → (ts : ToEnd) (c : Contents) (logs reads : List Log) → IsSoundWith c logs → AreReadOf logs reads → EndAll ts (plan_read reads).closings (plan_read reads).undo logs → PlanFits ts (plan_read reads) logs
read_fits l ts c logs reads s are takes = record {
  closings = l.closings c logs reads s are;
  queue = l.queue c logs reads s are;
  numbers = enough l c logs reads s are;
  ends = l.ends logs reads are;
  endings = (l.endings c logs reads s are).has;
  takes = takes;
}

-- of those that have an Ended, or that the plan takes, each does
all_end : (logs reads : List Log) → EndAll (to_end logs reads) (plan_read reads).closings (plan_read reads).undo logs
all_end logs reads = record {
  each = λ m t is. or_cases (has_end logs m t) (takes (plan_read reads).closings (plan_read reads).undo m t) is;
  grown = λ m. record { more = []; are = sym (append-nil (records_for logs m)); until = inl refl };
}

pub read_leads : PlanLaws → (c : Contents) (logs : List Log) (s : State) (k : Restart) → IsSoundNow c logs → (r : AllAreRead logs s k) → SoundLeads (to_end logs r.behind.logs) (k, s) (plan_read r.behind.logs) c logs
read_leads l c logs s k now r =
    let reads = r.behind.logs in
    let ts : ToEnd = to_end logs reads in
    let h : Restart = record r.behind { plan = plan_read r.behind.logs; logs = [] } in
    subst (λ (n : Next). SoundLeads ts n (plan_read r.behind.logs) c logs) r.goes
    (l.begins ts (plan_read r.behind.logs) h c logs (record {
      now = now;
      tails_are = l.tails logs reads r.are_read;
      suits = l.suits c logs reads now r.are_read;
      fits = read_fits l ts c logs reads now.sound r.are_read (all_end logs reads);
      rest = record { ends = refl; closings = refl; undo = refl; endings = refl; renews = refl; greatest = refl };
      merged_is = refl;
      pages_are = refl;
      asks = r.renews;
    }))
