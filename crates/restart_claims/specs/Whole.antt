-- That what a restart has taken back is closed in the log, where the log is read truthfully.
use Rattle.std.specs.Prelude.{◌≡◌, ◌≢◌, ℕ, false, List, ◌++◌}
use Rattle.ds_model.specs.declared.log.LogRecord.{LogRecord}
use Rattle.member_intents.specs.declared.outcome.Answered.{Answered}
use Rattle.member_intents.specs.declared.outcome.Answered.TheVariants as answered
use Rattle.restart_marks.specs.declared.intent.RestartSent.{RestartSent}
use Rattle.restart_resources.specs.Events.{Happens, World}
use Rattle.restart_resources.specs.Held.{Held}
use Rattle.restart_law.specs.Opens.{OpensStand}
use Rattle.restart_law.specs.Reads.{StillReads}
use Rattle.restart_closing.specs.Closing.{HasLog, RestartCloses, StillCloses}

abbrev pub ClosesTruly : Type 0
ClosesTruly = (log rest : List ℕ) (pend : List LogRecord) (u v : World) (h k : Held) (x : RestartSent) (a : Answered)
    → Happens u h x a v k → a ≢ answered.Failed → OpensStand h.marks → (h.marks.own.is_read ≡ false → StillReads (log ++ rest) u.drive h.marks)
    → HasLog u.drive h.marks.member (log ++ rest) → RestartCloses log rest pend h.marks → StillCloses log rest pend v.drive k.marks
