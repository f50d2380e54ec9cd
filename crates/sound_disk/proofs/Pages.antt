-- The pages and the rows of a sound disk.
use Rattle.std.proofs.Common.{◌≡◌, ℕ, ◌+◌, List, [], ◌∷◌, ◌++◌, refl, sym, ap, subst, ◌∙◌}
use Rattle.std.specs.List.{AllByRecursion}
use Rattle.ds_base.specs.declared.names.PageId.{PageId}
use Rattle.ds_model.specs.declared.log.LogRecord.{LogRecord}
use Rattle.ds_model.specs.Logs.{AreLogs}
use Rattle.log_record.specs.declared.log.Log.{Log}
use Rattle.restart_plan.specs.Given.{RisesFrom}
use Rattle.page_redo.specs.Given.{AreRecords, IsVersion, RedoReaches, version_of, redo}
use Rattle.sound_disk.specs.Whole_logs.{AreWholeLogs}
use Rattle.sound_disk.specs.Laws.{records_of}

pub redo_last : RedoReaches → (records : List LogRecord) → AreRecords records → (id : PageId) (page : List ℕ) → IsVersion id records page → redo id page records ≡ version_of id records
redo_last reaches records are id page v =
    let e : records ≡ v.first ++ v.rest = v.whole in
    let both : AreRecords (v.first ++ v.rest) = subst AreRecords e are in
    ap (λ (p : List ℕ). redo id p records) v.bytes
    ∙ ap (λ (rs : List LogRecord). redo id (version_of id v.first) rs) e
    ∙ reaches v.first v.rest id both
    ∙ sym (ap (λ (rs : List LogRecord). version_of id rs) e)

pub are_logs : (member : ℕ) (bytes : List (List ℕ)) (logs : List Log) → AreWholeLogs member bytes logs → AreLogs bytes (records_of logs)
are_logs member [] [] h = tt
are_logs member [] (log ∷ logs) h = absurd h
are_logs member (bs ∷ rest) [] h = absurd h
are_logs member (bs ∷ rest) (log ∷ logs) h = (h.0.records_are, are_logs (member + 1) rest logs h.1)

pub all_rise : (member : ℕ) (bytes : List (List ℕ)) (logs : List Log) → AreWholeLogs member bytes logs → AllByRecursion (λ (l : Log). RisesFrom 0 l.records) logs
all_rise member [] [] h = tt
all_rise member [] (log ∷ logs) h = absurd h
all_rise member (bs ∷ rest) [] h = absurd h
all_rise member (bs ∷ rest) (log ∷ logs) h = (h.0.rising, all_rise (member + 1) rest logs h.1)
