-- A restart that has handed over all that it has left open, or has left nothing open: it puts no record, and leaves the log's whole records.
use Rattle.std.specs.Prelude.{◌≡◌, ◌≢◌, ◌⊎◌, ℕ, true, List, [], ◌++◌, length, Some}
use Rattle.ds_model.specs.declared.log.LogRecord.{LogRecord}
use Rattle.member_intents.specs.declared.outcome.Answered.{Answered}
use Rattle.member_intents.specs.declared.outcome.Answered.TheVariants as answered
use Rattle.restart_records.specs.Trans.{no_trans}
use Rattle.restart_marks.specs.declared.adopt.Adopted.{Adopted}
use Rattle.restart_marks.specs.declared.intent.RestartSent.{RestartSent}
use Rattle.restart_marks.specs.Adopt.{adopted_after, adopted_told}
use Rattle.restart_marks.specs.State.{RestartState}
use Rattle.restart_resources.specs.Calls.{Drive}
use Rattle.restart_resources.specs.Events.{Happens, World}
use Rattle.restart_resources.specs.Held.{Held}
use Rattle.restart_closing.specs.Closing.{HasLog, LeavesOpen, RestartCloses}

-- its log is read, nothing is open, and no record waits
pub record Rests (log rest : List ℕ) (s : RestartState) : Type 0 where
  pub read : s.own.is_read ≡ true
  pub none : s.trans ≡ no_trans
  pub idle : s.log.pending ≡ []
  pub tail : s.own.tail ≡ length rest
  pub long : s.own.tail ≢ 0 → s.own.long ≡ length log

-- ---- so it is where it has handed over, and that is all that the log leaves open

pub record HandedOver (log rest : List ℕ) (s : RestartState) (adopted : Adopted) : Type 0 where
  pub opens : LeavesOpen log adopted.trans
  pub rests : Rests log rest (adopted_after s)

abbrev pub HandsOver : Type 0
HandsOver = (log rest : List ℕ) (pend : List LogRecord) (s : RestartState) (adopted : Adopted)
    → s.own.is_read ≡ true → RestartCloses log rest pend s → adopted_told s ≡ Some adopted → HandedOver log rest s adopted

-- ---- and behind events

-- the rest was cut off, or not
pub record StillRests (log rest : List ℕ) (drive : Drive) (s : RestartState) : Type 0 where
  pub behind : List ℕ
  pub cut : (behind ≡ rest) ⊎ (behind ≡ [])
  pub tells : HasLog drive s.member (log ++ behind)
  pub rests : Rests log behind s

abbrev pub RestsStay : Type 0
RestsStay = (log rest : List ℕ) (u v : World) (h k : Held) (x : RestartSent) (a : Answered)
    → Happens u h x a v k → a ≢ answered.Failed → HasLog u.drive h.marks.member (log ++ rest) → Rests log rest h.marks → StillRests log rest v.drive k.marks
