-- The page's lock, as it is asked for and given up.
use Rattle.std.specs.Prelude.{ℕ, true, Option, None, Some}
use Rattle.facility.specs.declared.command.Reply.{Reply}
use Rattle.facility.specs.declared.command.Reply.TheVariants as reply
use Rattle.restart_marks.specs.declared.told.RestartTold.{RestartTold}
use Rattle.restart_marks.specs.declared.told.RestartTold.TheVariants as told
use Rattle.restart_records.specs.Trans.{page_undone}
use Rattle.restart_marks.specs.State.{RestartState}

-- ---- obtain, grant

abbrev pub claim_told : Reply → RestartTold
claim_told (reply.Granted version) = told.Granted
claim_told (reply.Retained by) = told.Retained by
claim_told (reply.RecordsFull limit) = told.RecordsFull
claim_told (reply.Contention share exclusive version) = told.Contention share exclusive
claim_told (reply.Moved version) = told.Moved
claim_told _ = told.Stepped

-- a granted lock is claimed; who retains the page is kept until a lock is asked for again
abbrev pub claim_after : RestartState → ℕ → Reply → RestartState
claim_after s id (reply.Granted version) = record s { claim = page_undone s.trans id; kept = None }
claim_after s id (reply.Retained by) = record s { kept = Some (record { id = id; by = by }) }
claim_after s id _ = record s { kept = None }

-- ---- status, release, set-status

abbrev pub status_told : Reply → RestartTold
status_told (reply.Status status) = told.Status status
status_told _ = told.Stepped

abbrev pub released_told : Reply → RestartTold
released_told reply.Done = told.Released
released_told _ = told.Stepped

abbrev pub released_after : RestartState → Reply → RestartState
released_after s reply.Done = record s { claim = None }
released_after s _ = s

abbrev pub up_told : Reply → RestartTold
up_told reply.Done = told.Up
up_told _ = told.Stepped

abbrev pub up_after : RestartState → Reply → RestartState
up_after s reply.Done = record s { is_up = true }
up_after s _ = s
