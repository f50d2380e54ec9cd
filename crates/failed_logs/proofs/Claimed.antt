-- The claims of what a log leaves open, behind a failure.
use Rattle.std.proofs.Common.{◌≡◌, ℕ, sym, subst, List, [], ◌∷◌, ◌++◌, take, Option}
use Rattle.std.specs.List.{AllByRecursion}
use Rattle.std.proofs.lemmas.List.{append-nil}
use Rattle.ds_model.specs.Rows.{Spot}
use Rattle.ds_model.specs.declared.log.LogRecord.{LogRecord}
use Rattle.lock_names.specs.declared.mode.Mode.{Mode}
use Rattle.lock_names.specs.declared.mode.Mode.TheVariants.{IX, X}
use Rattle.log_trans.specs.Courses.{open_trans}
use Rattle.log_trans.specs.declared.opened.OpenTran.{OpenTran}
use Rattle.restart_law.specs.Reads.{AreLast}
use Rattle.restart_claims.specs.Claims.{HasRow, HasRows}
use Rattle.lock_protocol.specs.Machine.{Covers, World}
use Rattle.lock_world.specs.Rollbacks.{row_of, space_of}
use Rattle.lock_world.specs.Views.{rollback_owner}
use Rattle.log_appends.specs.Appends.{AreLastFrom}
use Rattle.left_open.specs.Logs.{HasAllLocked, LeftIsLocked}
use Rattle.group_locks.specs.Events.{MovesSpare}
use Rattle.failed_logs.specs.Failures.{ClaimsKept, DownHandsOver, RowsClaimed, UpHandsOver}
use Rattle.failed_logs.specs.Logs.{FailsClaimed, FailsLocked, FailsUnread, LogClaimed, MovesLeaveClaimed}

each : {A : Type 0} → (P Q : A → Type 0) → ((x : A) → P x → Q x) → (xs : List A) → AllByRecursion P xs → AllByRecursion Q xs
each P Q go [] h = tt
each P Q go (x ∷ xs) h = (go x h.0, each P Q go xs h.1)

last_from : (bytes : List ℕ) (records : List LogRecord) → (l : AreLast bytes records) → AreLastFrom bytes l.start records
last_from bytes records l = record { whole = l.whole; begins = l.begins; parts = l.parts; told = l.told; are = l.are }

pub fails_claimed : UpHandsOver → LeftIsLocked → FailsClaimed
fails_claimed hands locked old new at counter m n w log pend t f is_up counted l = record { moves = over.moves; claimed = claimed }
  where
    over : RowsClaimed old new w m
    over = hands old new at counter m n w t f is_up counted

    has : (x : OpenTran) → HasAllLocked m.holds.marks x → HasRows over.moves.world m.id x
    has x h spot touched = over.rows x.id spot h.named (h.rows spot touched)

    claimed : (k : ℕ) → LogClaimed (log ++ take k m.holds.marks.log.pending) over.moves.world m.id
    claimed k records last = each (HasAllLocked m.holds.marks) (HasRows over.moves.world m.id) has (open_trans records)
        (locked log pend m.holds.marks k last.start records l (last_from (log ++ take k m.holds.marks.log.pending) records last))

pub fails_unread : DownHandsOver → FailsUnread
fails_unread keeps old new at m n w bytes t f not_up claimed = record { moves = kept.claimed.moves; claimed = still }
  where
    kept : ClaimsKept old new w m
    kept = keeps old new at m n w t f not_up

    still : LogClaimed bytes kept.claimed.moves.world m.id
    still records last = each (HasRows w m.id) (HasRows kept.claimed.moves.world m.id) (λ x h spot touched. kept.kept (rollback_owner x.id) spot (h spot touched)) (open_trans records) (claimed records last)

pub fails_locked : DownHandsOver → LeftIsLocked → FailsLocked
fails_locked keeps locked old new at m n w log t f not_up l = record { moves = over.moves; claimed = claimed }
  where
    over : RowsClaimed old new w m
    over = (keeps old new at m n w t f not_up).claimed

    has : (x : OpenTran) → HasAllLocked m.holds.marks x → HasRows over.moves.world m.id x
    has x h spot touched = over.rows x.id spot h.named (h.rows spot touched)

    claimed : LogClaimed log over.moves.world m.id
    claimed records last = each (HasAllLocked m.holds.marks) (HasRows over.moves.world m.id) has (open_trans records)
        (locked log [] m.holds.marks 0 last.start records l (subst (λ (z : List ℕ). AreLastFrom z last.start records) (sym (append-nil log)) (last_from log records last)))

-- ---- other moves
same_row : (w v : World) (m owner : ℕ) (spot : Spot) → ((o c : ℕ) → v.claims m o c ≡ w.claims m o c) → HasRow w m owner spot → HasRow v m owner spot
same_row w v m owner spot same h = (
  subst (λ (z : Option Mode). Covers z IX) (sym (same owner (space_of spot))) h.0,
  subst (λ (z : Option Mode). Covers z X) (sym (same owner (row_of spot))) h.1,
)

pub moves_leave : MovesSpare → MovesLeaveClaimed
moves_leave law by old new w m bytes moves spares claimed records last =
    each (HasRows w m) (HasRows moves.world m) (λ x h spot touched. same_row w moves.world m (rollback_owner x.id) spot (λ o c. law by old new w moves m o c spares) (h spot touched)) (open_trans records) (claimed records last)
