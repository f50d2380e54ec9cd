-- Retained locks, as they become known and are freed.
use Rattle.std.specs.Prelude.{ℕ, ◌+◌, ◌-◌, ◌^◌, min, true, Option, None, Some}
use Rattle.ds_model.specs.declared.lock.Name.{Name}
use Rattle.ds_model.specs.declared.lock.Name.TheVariants as name
use Rattle.facility.specs.declared.command.Reply.{Reply}
use Rattle.facility.specs.declared.command.Reply.TheVariants as reply
use Rattle.restart_marks.specs.declared.told.RestartTold.{RestartTold}
use Rattle.restart_marks.specs.declared.told.RestartTold.TheVariants as told
use Rattle.restart_records.specs.declared.queue.TurnKey.{TurnKey}
use Rattle.restart_records.specs.Names.{retained_now, purged_now}
use Rattle.restart_records.specs.Queue.{key_by_name, put_in, taken_out}
use Rattle.restart_marks.specs.State.{RestartState, with_pages, with_names}

-- ---- retained-at

abbrev pub entered_name : RestartState → Name → RestartState
entered_name s (name.Space t) = with_names s (retained_now s.names (name.Space t))
entered_name s (name.Row t k) = with_names s (retained_now s.names (name.Row t k))
entered_name s (name.Page p) = with_pages s (put_in s.pages (key_by_name p))
entered_name s (name.Set n) = with_names s (retained_now s.names (name.Set n))

abbrev pub counted : RestartState → RestartState
counted s = record s { listed = min (s.listed + 1) (2 ^ 32 - 1) }

abbrev pub record_told : Reply → RestartTold
record_told (reply.RetainedLock n mode) = told.Record n
record_told _ = told.NoRecord

-- behind the last one all are known
abbrev pub record_after : RestartState → Reply → RestartState
record_after s (reply.RetainedLock n mode) = counted (entered_name s n)
record_after s _ = record s { is_listed = true }

-- ---- purge

abbrev pub purged_told : Reply → RestartTold
purged_told reply.Done = told.Purged
purged_told _ = told.Stepped

-- the page in hand is retained no more
abbrev pub page_freed : RestartState → Option TurnKey → RestartState
page_freed s None = s
page_freed s (Some key) = record s { pages = taken_out s.pages key; hand = record s.hand { key = None } }

abbrev pub page_purged_after : RestartState → Reply → RestartState
page_purged_after s reply.Done = page_freed s s.hand.key
page_purged_after s _ = s

abbrev pub name_purged_after : RestartState → Name → Reply → RestartState
name_purged_after s n reply.Done = with_names s (purged_now s.names n)
name_purged_after s n _ = s
