use Rattle.row_protocol.proofs.guards_are_needed.Goals as goal
use Rattle.row_protocol.proofs.Needed.{undo_before_release, stable_before_release, commit_record, undo_before_reopen, undo_on_disk, all_logs}

pub returns : goal.returns
returns c = record { undo_before_release = undo_before_release; stable_before_release = stable_before_release; commit_record = commit_record; undo_before_reopen = undo_before_reopen; undo_on_disk = undo_on_disk; all_logs = all_logs }
