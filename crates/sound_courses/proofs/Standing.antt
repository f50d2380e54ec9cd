-- A sound disk behind what a group restart appends, or a stop left of it.
use Rattle.std.proofs.Common.{◌≡◌, ℕ, Bool, true, false, List, [], ◌∷◌, ◌++◌, length, take, sym, ap, subst, ◌∙◌}
use Rattle.std.specs.List.{AllByRecursion}
use Rattle.ds_base.specs.declared.names.PageId.{PageId}
use Rattle.ds_disk.specs.Contents.{Contents, log_of, with_log}
use Rattle.ds_disk.specs.Pages.{page_at}
use Rattle.ds_model.specs.declared.log.LogRecord.{LogRecord}
use Rattle.ds_model.specs.declared.log.Body.{Body}
use Rattle.ds_model.specs.declared.log.Body.TheVariants as body
use Rattle.ds_model.specs.RecordBytes.{log_bytes}
use Rattle.log_record.specs.declared.log.Log.{Log}
use Rattle.log_merge.specs.Merging.{is_merged}
use Rattle.page_images.specs.Images.{Images}
use Rattle.restart_plan.specs.Ends.{raised}
use Rattle.group_restart.specs.Machine.{Restart}
use Rattle.group_restart.specs.Course.{appended}
use Rattle.sound_appends.specs.Appends.{AppendsAll}
use Rattle.sound_appends.specs.Laws.{KeepsWhole}
use Rattle.sound_disk.specs.Versions.{last_images}
use Rattle.sound_disk.specs.Whole_logs.{AreWholeLogs}
use Rattle.sound_plans.specs.Courses.{writes_of}
use Rattle.sound_plans.specs.Queues.{has_log}
use Rattle.sound_restarts.specs.Redo.{IsSoundNow}
use Rattle.sound_restarts.specs.Undo.{AreLast, OthersLeavePages}
use Rattle.sound_tables.specs.Keeping.{AreSoundOn, IsSettledBefore, AreSettledBefore, AllKeepSound, StopKeepsSound}
use Rattle.sound_courses.specs.Standing.{IsSoundBehind, Stands, Rests, with_appended, IsLeftSound}
use Rattle.sound_courses.proofs.Appending.{Behind, all_behind, all_have}

-- what is proved of appends
pub record AppendLaws : Type 0 where
  pub whole : KeepsWhole
  pub all : AllKeepSound
  pub stop : StopKeepsSound

-- ---- the disk

sound_on : (c : Contents) (logs : List Log) → IsSoundBehind c logs → AreSoundOn (page_at c.pages) logs
sound_on c logs h = record {
  records = record { transactions = h.now.sound.transactions; turns = h.now.sound.turns; numbers = h.now.sound.numbers };
  versions = h.now.sound.versions;
  tables = h.now.sound.tables;
  checkpoints = h.now.sound.checkpoints;
}

-- with its pages, and other logs
now_on : (c : Contents) (member : ℕ) (bytes : List ℕ) (before logs : List Log) → IsSoundNow c before → AreWholeLogs 1 (with_log c member bytes).logs logs → AreSoundOn (page_at c.pages) logs → IsSoundNow (with_log c member bytes) logs
now_on c member bytes before logs now whole on = record {
  sound = record {
    whole_logs = whole;
    transactions = on.records.transactions;
    versions = on.versions;
    tables = on.tables;
    turns = on.records.turns;
    numbers = on.records.numbers;
    checkpoints = on.checkpoints;
  };
  numbered = now.numbered;
}

pub record IsAppended (c : Contents) (member : ℕ) (records : List LogRecord) (logs after : List Log) : Type 0 where
  pub sound : IsSoundBehind (with_log c member (log_of c.logs member ++ log_bytes records)) after
  pub behind : Behind c member records logs after
  pub stops : (n : ℕ) → IsLeftSound (with_log c member (log_of c.logs member ++ take n (log_bytes records)))

pub all_appended : AppendLaws → (c : Contents) (logs after : List Log) (member : ℕ) (records : List LogRecord) (h : AppendsAll logs (writes_of member records) after)
    → AreSettledBefore (page_at c.pages) logs (writes_of member records) after h → IsSoundBehind c logs → IsAppended c member records logs after
all_appended l c logs after member records h settled s =
    let on = sound_on c logs s in
    let whole : AreWholeLogs 1 c.logs logs = s.now.sound.whole_logs in
    let b = all_behind l.whole records c logs after member h whole s.tails in
    let kept : AreSoundOn (page_at c.pages) after = l.all (page_at c.pages) c logs after member records h settled whole s.tails on in
    record {
      sound = record { now = now_on c member (log_of c.logs member ++ log_bytes records) logs after s.now b.whole kept; tails = b.tails };
      behind = b;
      stops = λ n.
          let left = l.stop (page_at c.pages) c logs after member records n h settled whole s.tails on in
          record { logs = left.0; now = now_on c member (log_of c.logs member ++ take n (log_bytes records)) logs left.0 s.now left.1 left.2 };
    }

-- ---- the restart

pub stands_as : (h k : Restart) (c : Contents) (logs : List Log) → h.plan.ends ≡ k.plan.ends → h.plan.endings ≡ k.plan.endings → h.renews ≡ k.renews → Stands h c logs → Stands k c logs
stands_as h k c logs e f g s = record {
  sound = s.sound;
  ends = sym e ∙ s.ends;
  endings = subst (AllByRecursion (λ (m : ℕ). has_log logs m ≡ true)) f s.endings;
  renews = λ none. s.renews (g ∙ none);
}

pub rests_as : (h k : Restart) (c : Contents) (logs : List Log) → h.plan.ends ≡ k.plan.ends → h.plan.endings ≡ k.plan.endings → h.renews ≡ k.renews → Rests h c logs → Rests k c logs
rests_as h k c logs e f g r = record { stands = stands_as h k c logs e f g r.stands; last = r.last }

-- behind the records at hand
pub stands_behind : (h : Restart) (member : ℕ) (c : Contents) (logs after : List Log) → Stands h c logs → IsAppended c member h.added logs after → Stands (appended h member) (with_appended h member c) after
stands_behind h member c logs after s a = record {
  sound = a.sound;
  ends = ap (λ (es : List ℕ). raised es member (length (log_bytes h.added))) s.ends ∙ a.behind.ends;
  endings = all_have logs after h.plan.endings a.behind.members s.endings;
  renews = s.renews;
}

-- ---- records that ask for nothing, and those that leave all pages

abbrev pub asks_nothing : Body → Bool
asks_nothing (body.RowChange change) = true
asks_nothing (body.Compensation change undone) = true
asks_nothing (body.System patches) = true
asks_nothing body.Commit = true
asks_nothing body.Ended = true
asks_nothing (body.Checkpoint offset) = false
asks_nothing body.RestartEnd = false

settled_one : (at : Images) (log : Log) (b : Body) → asks_nothing b ≡ true → IsSettledBefore at log b
settled_one at log (body.RowChange change) e = (tt, tt)
settled_one at log (body.Compensation change undone) e = (tt, tt)
settled_one at log (body.System patches) e = (tt, tt)
settled_one at log body.Commit e = (tt, tt)
settled_one at log body.Ended e = (tt, tt)
settled_one at log (body.Checkpoint offset) e = absurd cc
settled_one at log body.RestartEnd e = absurd cc

abbrev pub AskNothing : List LogRecord → Type 0
AskNothing records = AllByRecursion (λ (r : LogRecord). asks_nothing r.body ≡ true) records

pub all_settled : (at : Images) (records : List LogRecord) (logs after : List Log) (member : ℕ) (h : AppendsAll logs (writes_of member records) after) → AskNothing records → AreSettledBefore at logs (writes_of member records) after h
all_settled at [] logs after member h a = tt
all_settled at (r ∷ rs) logs after member h a = (settled_one at h.1.log r.body a.0, all_settled at rs h.0 after member h.3 a.1)

abbrev pub LeavePages : List LogRecord → Type 0
LeavePages records = AllByRecursion (λ (r : LogRecord). is_merged r.body ≡ false) records

pub all_leave : OthersLeavePages → (records : List LogRecord) (logs after : List Log) (member : ℕ) (id : PageId) → AppendsAll logs (writes_of member records) after → LeavePages records → last_images after id ≡ last_images logs id
all_leave law [] logs after member id h u = ap (λ (ls : List Log). last_images ls id) h
all_leave law (r ∷ rs) logs after member id h u = all_leave law rs h.0 after member id h.3 u.1 ∙ law logs h.0 r id h.1 u.0

-- pages that stay so are still as all records leave them
pub last_still : (c : Contents) (member : ℕ) (bytes : List ℕ) (logs after : List Log) → ((id : PageId) → last_images after id ≡ last_images logs id) → AreLast c logs → AreLast (with_log c member bytes) after
last_still c member bytes logs after same last = λ id. last id ∙ sym (same id)
