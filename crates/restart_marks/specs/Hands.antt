-- The page in hand after the replies about it.
use Rattle.std.specs.Prelude.{ℕ, max, ◌==◌, Bool, true, false, if◌then◌else◌, Option, None, Some}
use Rattle.ds_base.specs.declared.names.PageId.{PageId}
use Rattle.facility.specs.declared.command.Reply.{Reply}
use Rattle.facility.specs.declared.command.Reply.TheVariants as reply
use Rattle.write_order.specs.declared.rank.Rank.{Rank}
use Rattle.restart_marks.specs.declared.hand.Hand.{Hand}
use Rattle.restart_records.specs.declared.queue.TurnKey.{TurnKey}
use Rattle.restart_marks.specs.declared.told.RestartTold.{RestartTold}
use Rattle.restart_marks.specs.declared.told.RestartTold.TheVariants as told
use Rattle.restart_records.specs.Queue.{ranked_key, put_in, taken_out}
use Rattle.restart_marks.specs.State.{RestartState, with_hand, with_pages}

abbrev pub parked_told : Reply → RestartTold
parked_told reply.Lost = told.Lost
parked_told reply.CacheFull = told.CacheFull
parked_told _ = told.Stepped

-- ---- read

abbrev pub read_told : Hand → Reply → RestartTold
read_told h reply.Found = told.Ready
read_told h reply.NoData = if h.changed then told.Ready else told.ToFill
read_told h other = parked_told other

-- without bytes in the cache, only a changed page has its bytes
abbrev pub read_after : Hand → Reply → Hand
read_after h reply.Found = record h { registered = true; filled = true }
read_after h reply.NoData = record h { registered = true; filled = h.changed }
read_after h _ = h

abbrev pub filled_after : Hand → Hand
filled_after h = record h { filled = true }

-- ---- test

abbrev pub tested_told : Reply → RestartTold
tested_told reply.Valid = told.Ready
tested_told _ = told.Invalid

abbrev pub tested_after : Hand → Reply → Hand
tested_after h reply.Valid = record h { registered = true }
tested_after h _ = record h { registered = false }

-- ---- write

abbrev pub written_told : Reply → RestartTold
written_told reply.Written = told.Written
written_told other = parked_told other

abbrev pub written_after : Hand → Reply → Hand
written_after h reply.Written = record h { changed = false; registered = true }
written_after h _ = h

-- ---- its bit is set in this event

-- the retained page stands at another place now: where its rank wasn't known
abbrev pub moved_to : RestartState → TurnKey → TurnKey → RestartState
moved_to s key ranked = record s { pages = taken_out (put_in s.pages ranked) key; hand = record s.hand { key = Some ranked } }

abbrev pub ranked_after : RestartState → TurnKey → TurnKey → RestartState
ranked_after s key ranked = if key.turn == 0 then moved_to s key ranked else s

-- it is brought forward by the own log, which has changed it or not
abbrev pub brought_after : Hand → Bool → ℕ → Hand
brought_after h true number = record h { brought = true; changed = true; last = number }
brought_after h false number = record h { brought = true }

abbrev pub noted : RestartState → Bool → ℕ → RestartState
noted s raised number = with_hand s (brought_after s.hand raised number)

abbrev pub noted_with : RestartState → Option TurnKey → Option PageId → Bool → ℕ → Rank → RestartState
noted_with s None page raised number rank = s
noted_with s (Some key) None raised number rank = s
noted_with s (Some key) (Some page) raised number rank = noted (ranked_after s key (ranked_key page rank)) raised number

abbrev pub met : RestartState → ℕ → RestartState
met s number = record s { counter = max s.counter number }

abbrev pub ready_after : RestartState → Bool → ℕ → Rank → RestartState
ready_after s raised number rank = met (noted_with s s.hand.key s.hand.page raised number rank) number
