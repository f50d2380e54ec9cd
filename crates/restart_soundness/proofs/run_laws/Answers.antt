use Rattle.restart_soundness.proofs.Runs.{StepLaws, runs_leave_sound, restarts_leave_sound}
use Rattle.restart_soundness.proofs.run_laws.Goals as goal

pub returns : goal.returns
returns c =
    let l : StepLaws = record {
      begins = c.soundness_laws.ensures.begins;
      step = c.soundness_laws.ensures.step;
      reads = c.log_laws.ensures.sound;
      reader = record { nothing = c.reader_laws.ensures.nothing; keeping = c.reader_laws.ensures.keeping; grown = c.reader_laws.ensures.grown; last = c.reader_laws.ensures.last };
      stand = c.page_laws.ensures.rows;
      settles = c.queue_laws.ensures.empty;
      ended = c.open_laws.ensures.ended;
      opens = c.fit_laws.ensures.opens;
      before = c.step_laws.ensures.before;
      logs = record { reads = c.log_laws.ensures.sound; spell = c.appends_tell.ensures.spell; allowed = c.rests_tell.ensures.allowed; both = c.both_tell.ensures };
    } in
    record { run = runs_leave_sound l; restart = restarts_leave_sound l }
