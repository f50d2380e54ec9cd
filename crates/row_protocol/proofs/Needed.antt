-- The states that show the guards' need.
use Rattle.std.proofs.Common.{arith, refl, Some}
use Rattle.row_protocol.specs.Rows.{replay}
use Rattle.row_protocol.specs.Machine.{World, X, decided, changed, stopped}
use Rattle.row_protocol.specs.Moves.{IsAlone, KeepsClaims}
use Rattle.row_protocol.specs.Legal.{Legal}
use Rattle.row_protocol.specs.Needed.{at_home, empty_rows, only_claim, both_run, changed_7, change_on_disk, UndoBeforeReleaseIsNeeded, StableBeforeReleaseIsNeeded, CommitRecordIsNeeded, UndoBeforeReopenIsNeeded, half_undone, first_commit, second_commit, UndoOnDiskIsNeeded, AllLogsAreNeeded}
use Rattle.row_protocol.proofs.Kept.{kept_put, kept_decide, kept_stop, kept_force, kept_undo, kept_commit, kept_claims}
use Rattle.row_protocol.proofs.Failures.{kept_group_failed}

both_alone : IsAlone both_run.claim
both_alone t u r ne h = grind arith

both_legal : Legal at_home empty_rows both_run
unfolding replay
both_legal = grind arith

changed_legal : Legal at_home empty_rows changed_7
changed_legal = kept_put at_home empty_rows both_run 1 7 (Some 5) both_legal both_alone refl refl refl refl

pub undo_before_release : UndoBeforeReleaseIsNeeded
unfolding replay
undo_before_release = record { legal = kept_stop at_home empty_rows changed_7 1 changed_legal refl refl; alone = both_alone; breaks = λ h. let e = h.0 in cc }

pub stable_before_release : StableBeforeReleaseIsNeeded
unfolding replay
stable_before_release = record { legal = kept_decide at_home empty_rows changed_7 1 changed_legal refl refl; alone = both_alone; breaks = λ h. let e = h.0 in cc }

forced_legal : Legal at_home empty_rows change_on_disk
forced_legal = kept_force at_home empty_rows changed_7 1 1 changed_legal (omega arith) (omega arith) (λ u k e c. cc)

pub commit_record : CommitRecordIsNeeded
unfolding replay
commit_record = record { legal = forced_legal; breaks = λ e. cc }

pub undo_before_reopen : UndoBeforeReopenIsNeeded
unfolding replay
undo_before_reopen = record { legal = kept_group_failed at_home empty_rows change_on_disk 1 forced_legal (grind arith); breaks = λ h. let e = h.0 in cc }

half_legal : Legal at_home empty_rows half_undone
half_legal = kept_undo at_home empty_rows (stopped change_on_disk 1) 1 7 (kept_stop at_home empty_rows change_on_disk 1 forced_legal refl refl) refl

pub undo_on_disk : UndoOnDiskIsNeeded
unfolding replay
undo_on_disk = record { legal = half_legal; breaks = λ e. cc }

second_alone : IsAlone (only_claim 2 X)
second_alone t u r ne h = grind arith

first_legal : Legal at_home empty_rows first_commit
first_legal = kept_commit at_home empty_rows (decided changed_7 1) 1 2 (kept_decide at_home empty_rows changed_7 1 changed_legal refl refl) both_alone refl (omega arith) (λ u k ne h e c. grind (arith, ne, e))

abbrev handed : World
handed = record first_commit { claim = only_claim 2 X }

handed_keeps : KeepsClaims at_home first_commit (only_claim 2 X)
handed_keeps = ((λ t r h. grind (arith, h)), (λ t r h d. grind (arith, h, d)))

handed_legal : Legal at_home empty_rows handed
handed_legal = kept_claims at_home empty_rows first_commit (only_claim 2 X) first_legal handed_keeps

abbrev written : World
written = changed empty_rows handed 2 7 (Some 6)

second_legal : Legal at_home empty_rows second_commit
second_legal = kept_commit at_home empty_rows (decided written 2) 2 4 (kept_decide at_home empty_rows written 2 (kept_put at_home empty_rows handed 2 7 (Some 6) handed_legal second_alone refl refl refl refl) refl refl) second_alone refl (omega arith) (λ u k ne h e c. grind (arith, ne, h, e))

pub all_logs : AllLogsAreNeeded
unfolding replay
all_logs = record { legal = second_legal; breaks = λ e. cc }
