use Rattle.restart_soundness.proofs.Steps.{CallLaws, restart_begins, step_leaves_sound, run_leaves_sound}
use Rattle.restart_soundness.proofs.soundness_laws.Goals as goal

pub returns : goal.returns
returns c =
    let l : CallLaws = record {
      plans = record {
        closings = c.fit_laws.ensures.closings;
        queue = c.fit_laws.ensures.queue;
        tails = c.end_laws.ensures.tails;
        ends = c.end_laws.ensures.ends;
        endings = c.end_laws.ensures.endings;
        suits = c.suit_laws.ensures.suits;
        whole = c.plan_laws.ensures.queue;
        numbers = c.plan_laws.ensures.numbers;
        begins = c.step_laws.ensures.begins;
      };
      begins = c.restart_laws.ensures.begins;
      reads = c.restart_laws.ensures.goes;
      leaves = c.step_laws.ensures.leaves;
      answer = c.step_laws.ensures.answer;
      grows = c.step_laws.ensures.grows;
    } in
    record { begins = restart_begins l; step = step_leaves_sound l; run = run_leaves_sound l }
