-- What a group restart makes of an answer.
use Rattle.std.specs.Prelude.{◌≡◌, ℕ, ◌+◌, ◌^◌, ◌==◌, nat_lt, Bool, true, false, ◌||◌, if◌then◌else◌, List, [], ◌∷◌, ◌++◌, length, drop, slice_get, Option, Some, None, Result, Ok, Err}
use Rattle.ds_base.specs.declared.names.PageId.{PageId}
use Rattle.ds_base.specs.declared.names.Volume.{Volume}
use Rattle.ds_base.specs.declared.names.Volume.TheVariants as volume
use Rattle.ds_model.specs.declared.log.LogRecord.{LogRecord}
use Rattle.ds_model.specs.RecordBytes.{log_bytes}
use Rattle.page_format.specs.Fields.{is_old, renewed}
use Rattle.page_format.specs.declared.header.NotAPage.{NotAPage}
use Rattle.page_chain.specs.Chains.{row_patch}
use Rattle.log_record.specs.declared.log.Log.{Log}
use Rattle.log_reader.specs.declared.calls.LogReply.{LogReply}
use Rattle.log_reader.specs.declared.calls.LogRead.{LogRead}
use Rattle.log_reader.specs.declared.calls.LogRead.TheVariants as read
use Rattle.log_reader.specs.Begin.{begin_of}
use Rattle.checkpoint_offsets.specs.Offsets.{offset_damage, earlier}
use Rattle.log_reader.specs.Keeping.{AreBytes}
use Rattle.log_reader.specs.Readers.{ReaderState, IsNew, IsRead, after_reply}
use Rattle.log_trans.specs.declared.damage.Damaged.{Damaged}
use Rattle.log_trans.specs.Damage.{log_damage}
use Rattle.restart_plan.specs.Given.{PageRecords}
use Rattle.page_redo.specs.declared.fault.FieldFault.{FieldFault}
use Rattle.page_redo.specs.Forward.{Forward}
use Rattle.restart_plan.specs.declared.greatest.Greatest.{Greatest}
use Rattle.restart_plan.specs.declared.opened.Closing.{Closing}
use Rattle.restart_plan.specs.declared.opened.Undo.{Undo}
use Rattle.restart_plan.specs.declared.tails.Tail.{Tail}
use Rattle.restart_plan.specs.declared.plan.Plan.{Plan}
use Rattle.restart_plan.specs.Ends.{end_of, raised as longer}
use Rattle.restart_plan.specs.Plans.{plan_of}
use Rattle.restart_plan.specs.Renewal.{asks_behind}
use Rattle.group_restart.specs.declared.calls.State.{State}
use Rattle.group_restart.specs.declared.calls.State.TheVariants as state
use Rattle.group_restart.specs.declared.reply.Reply.{Reply}
use Rattle.group_restart.specs.declared.reply.Reply.TheVariants as reply
use Rattle.group_restart.specs.declared.stage.Stage.{Stage}
use Rattle.group_restart.specs.declared.stage.Stage.TheVariants as stage
use Rattle.group_restart.specs.Machine.{Restart}
use Rattle.group_restart.specs.Records.{ended, ending}
use Rattle.places_redo.specs.Picked.{brought_at}
use Rattle.group_restart.specs.PageNumbers.{with_page_number}
use Rattle.group_restart.specs.Undo.{undo_fault, undone_page, undoing}
use Rattle.group_restart.specs.Renewal.{first_page, last_behind, page_behind}

-- where the restart stands afterwards, and what it tells
abbrev pub Next : Type 0
Next = Restart × State

-- ---- parts of the restart

abbrev pub with_plan : Restart → Plan → Restart
with_plan h p = record h { plan = p }

abbrev pub with_added : Restart → List LogRecord → Restart
with_added h records = record h { added = records }

abbrev pub with_places : Restart → List ℕ → Restart
with_places h places = record h { places = places }

abbrev pub go : Restart → Stage → Next
go h s = (record h { stage = s }, state.Going)

abbrev pub stays : Restart → Next
stays h = (h, state.Going)

abbrev pub rest_tails : Plan → Plan
rest_tails p = record p { tails = drop 1 p.tails }

abbrev pub rest_pages : Plan → Plan
rest_pages p = record p { pages = drop 1 p.pages }

abbrev pub rest_closings : Plan → Plan
rest_closings p = record p { closings = drop 1 p.closings }

abbrev pub rest_undo : Plan → Plan
rest_undo p = record p { undo = drop 1 p.undo }

abbrev pub rest_endings : Plan → Plan
rest_endings p = record p { endings = drop 1 p.endings }

-- so many bytes were appended to the member's log
abbrev pub with_longer : ℕ → ℕ → Plan → Plan
with_longer member count p = record p { ends = longer p.ends member count }

abbrev pub without_records : Plan → Plan
without_records p = record p { merged = [] }

abbrev pub with_greatest : Plan → Greatest → Plan
with_greatest p g = record p { greatest = g }

-- ---- the stages from the last one to the first: each goes on to the next one where it has nothing to do

abbrev pub done : Restart → Next
done h = (h, state.Done h.counter)

abbrev pub ending_or : Restart → Option ℕ → Next
ending_or h None = done (record h { stage = stage.End })
ending_or h (Some member) = go (with_added h (ending h.counter (end_of h.plan.ends member))) (stage.EndAppend member)

unfoldable pub next_ending : Restart → Next
next_ending h = ending_or (with_plan h (rest_endings h.plan)) (slice_get h.plan.endings 0)

-- the pages of all page sets are read, as far as their header pages count
abbrev pub renewal_or : Restart → Option PageId → Next
renewal_or h None = next_ending h
renewal_or h (Some page) = go h (stage.RenewRead page)

unfoldable pub next_renewal : Restart → PageId → Next
next_renewal h id = renewal_or h (page_behind h.last id)

-- pages that are still of version 1 are looked for where a log asks for it
unfoldable pub begin_renewal : Restart → Next
begin_renewal h = if h.renews then go h (stage.RenewRead first_page) else next_ending h

abbrev pub undo_or : Restart → Option Undo → Next
undo_or h None = begin_renewal h
undo_or h (Some u) = go h (stage.UndoRead (row_patch u.change).page)

unfoldable pub next_undo : Restart → Next
next_undo h = undo_or h (slice_get h.plan.undo 0)

abbrev pub closing_or : Restart → Option Closing → Next
closing_or h None = next_undo h
closing_or h (Some c) = go (with_added h (ended c.lrsn c.tran ∷ [])) (stage.CloseAppend c.member)

unfoldable pub next_closing : Restart → Next
next_closing h = closing_or (with_plan h (rest_closings h.plan)) (slice_get h.plan.closings 0)

-- more changes are to be compensated than numbers are left above the greatest one, which is named
abbrev pub too_few_numbers : Restart → Next
too_few_numbers h = (h, state.Damaged h.plan.greatest.volume h.plan.greatest.at)

abbrev pub has_numbers : Restart → Bool
has_numbers h = nat_lt (h.counter + length h.plan.undo) (2 ^ 80)

abbrev pub numbered : Restart → Next
numbered h = if has_numbers h then next_closing h else too_few_numbers h

-- all pages are brought forward, and the merged records aren't needed any more
abbrev pub counted : Restart → Restart
counted h = record h { counter = h.plan.greatest.lrsn; plan = without_records h.plan }

unfoldable pub begin_undo : Restart → Next
begin_undo h = numbered (counted h)

abbrev pub page_or : Restart → Option PageRecords → Next
page_or h None = begin_undo h
page_or h (Some p) = go (with_places h p.places) (stage.RedoRead p.page)

unfoldable pub next_redo : Restart → Next
next_redo h = page_or (with_plan h (rest_pages h.plan)) (slice_get h.plan.pages 0)

abbrev pub tail_or : Restart → Option Tail → Next
tail_or h None = next_redo h
tail_or h (Some tail) = go h (stage.CutTail tail)

unfoldable pub next_tail : Restart → Next
next_tail h = tail_or (with_plan h (rest_tails h.plan)) (slice_get h.plan.tails 0)

-- ---- redo

abbrev pub damaged_page : Restart → PageId → ℕ → Next
damaged_page h id at = (h, state.Damaged (volume.Page id) at)

-- the page is written where a record was applied
abbrev pub raised : Restart → PageId → Bool → Next
raised h id true = go h (stage.RedoWrite id)
raised h id false = next_redo h

abbrev pub numbered_by : Restart → PageId → Restart
numbered_by h id = with_plan h (with_greatest h.plan (with_page_number h.plan.greatest id h.page))

unfoldable pub take_raised : Restart → PageId → Bool → Next
take_raised h id is_raised = raised (numbered_by h id) id is_raised

abbrev pub forwarded : Restart → PageId → Result Bool FieldFault → Next
forwarded h id (Err fault) = damaged_page h id fault.at
forwarded h id (Ok is_raised) = take_raised h id is_raised

-- the page at hand, brought forward by its records
abbrev pub page_brought : Restart → PageId → Forward
page_brought h id = brought_at id h.page h.plan.merged h.places

unfoldable pub take_page : Restart → PageId → Next
take_page h id = forwarded (record h { page = (page_brought h id).page }) id (page_brought h id).outcome

-- ---- undo

-- the row before the change is in its slot again, and the compensation has this number
unfoldable pub undone : Restart → Undo → ℕ → Next
undone h u lrsn =
    go (record h { page = undone_page u.change lrsn h.page; counter = lrsn; added = undoing u lrsn })
    (stage.UndoAppend u.member (row_patch u.change).page)

abbrev pub undo_at : Restart → Undo → ℕ → Next
undo_at h u lrsn = if nat_lt lrsn (2 ^ 80) then undone h u lrsn else too_few_numbers h

abbrev pub undo_unless : Restart → Undo → Option ℕ → Next
undo_unless h u (Some at) = damaged_page h (row_patch u.change).page at
undo_unless h u None = undo_at h u (h.counter + 1)

unfoldable pub undo_one : Restart → Undo → Next
undo_one h u = undo_unless h u (undo_fault u.change h.page)

abbrev pub undo_first : Restart → Option Undo → Next
undo_first h None = begin_renewal h
undo_first h (Some u) = undo_one h u

unfoldable pub take_undone : Restart → Next
take_undone h = undo_first (with_plan h (rest_undo h.plan)) (slice_get h.plan.undo 0)

-- ---- renewal

-- a page of version 1 is written in version 2
unfoldable pub renew_page : Restart → PageId → Next
renew_page h id = if is_old h.page then go (record h { page = renewed h.page }) (stage.RenewWrite id) else next_renewal h id

-- the page at hand may be one that says how far its page set goes
abbrev pub looked_at : Restart → PageId → Result ℕ NotAPage → Next
looked_at h id (Err fault) = damaged_page h id fault.at
looked_at h id (Ok last) = renew_page (record h { last = last }) id

unfoldable pub take_old : Restart → PageId → Next
take_old h id = looked_at h id (last_behind h.last id h.page)

-- ---- what was done

-- the records stand behind the member's log
abbrev pub appended : Restart → ℕ → Restart
appended h member = with_plan h (with_longer member (length (log_bytes h.added)) h.plan)

abbrev pub take_done : Restart → Stage → Next
take_done h stage.ReadLog = stays h
take_done h (stage.CutTail tail) = next_tail h
take_done h (stage.RedoRead page) = take_page h page
take_done h (stage.RedoWrite page) = next_redo h
take_done h (stage.CloseAppend member) = next_closing (appended h member)
take_done h (stage.UndoRead page) = take_undone h
take_done h (stage.UndoAppend member page) = go (appended h member) (stage.UndoWrite page)
take_done h (stage.UndoWrite page) = next_undo h
take_done h (stage.RenewRead page) = take_old h page
take_done h (stage.RenewWrite page) = next_renewal h page
take_done h (stage.EndAppend member) = next_ending (appended h member)
take_done h stage.End = done h

-- ---- logs

abbrev pub damaged_log : Restart → ℕ → ℕ → Next
damaged_log h member at = (h, state.Damaged (volume.Log member) at)

abbrev pub with_reader : Restart → ReaderState → Restart
with_reader h r = record h { reader = r }

-- the byte of the member's log that stands so many bytes behind the first of the records that were read
abbrev pub place_among : List Log → ℕ → ℕ → ℕ
place_among [] member at = at
place_among (log ∷ logs) member at = if log.member == member then begin_of log + at else place_among logs member at

abbrev pub placed : List Log → Option Damaged → Option Damaged
placed logs None = None
placed logs (Some d) = Some (record { member = d.member; at = place_among logs d.member d.at })

-- the first number or offset of the logs that can't stand there
unfoldable pub found_damage : List Log → Option Damaged
found_damage logs = earlier (placed logs (log_damage logs)) (offset_damage logs)

abbrev pub place_on : List Log → Volume → ℕ → ℕ
place_on logs (volume.Log member) at = place_among logs member at
place_on logs (volume.Page id) at = at

abbrev pub placed_on : List Log → Greatest → Greatest
placed_on logs g = record { lrsn = g.lrsn; volume = g.volume; at = place_on logs g.volume g.at }

-- what the records that were read ask for; the greatest number stands so many bytes behind the first of them
abbrev pub plan_read : List Log → Plan
plan_read logs = with_greatest (plan_of logs) (placed_on logs (plan_of logs).greatest)

abbrev pub planned : Restart → Option Damaged → Next
planned h (Some d) = damaged_log h d.member d.at
planned h None = next_tail (record h { plan = plan_read h.logs; logs = [] })

-- all logs are read: what is to be done follows from them
unfoldable pub take_logs : Restart → Next
take_logs h = planned h (found_damage h.logs)

-- the log of the next member is read, if there is one
abbrev pub GoesToNext : Bool → Restart → State → Restart → Type 0
GoesToNext true h s k = (s ≡ state.Going) × IsNew (h.reader.member + 1) k.reader × (k ≡ with_reader h k.reader)
GoesToNext false h s k = take_logs h ≡ (k, s)

-- the log was read, which may ask for pages of version 1 to be written in version 2
abbrev pub with_log : Restart → Log → Restart
with_log h log = record h { logs = h.logs ++ log ∷ []; renews = h.renews || asks_behind h.reader.held.has_old log }

unfoldable pub TakesWhole : Restart → Log → State → Restart → Type 0
TakesWhole h log s k = GoesToNext (nat_lt h.reader.member 32) (with_log h log) s k

abbrev pub TakesRead : Restart → LogRead → State → Restart → Type 0
TakesRead h read.More s k = stays h ≡ (k, s)
TakesRead h (read.Bad at) s k = damaged_log h h.reader.member at ≡ (k, s)
TakesRead h (read.Whole log) s k = TakesWhole h log s k

pub record TakesLog (h : Restart) (told : LogReply) (s : State) (k : Restart) : Type 0 where
  pub bytes : AreBytes h.reader.block
  pub found : LogRead
  pub is_read : IsRead (after_reply h.reader told) found
  pub takes : TakesRead (with_reader h (after_reply h.reader told)) found s k

-- behind the end nothing is told but the end
unfoldable pub TakesTold : Stage → Restart → LogReply → State → Restart → Type 0
TakesTold stage.ReadLog h told s k = TakesLog h told s k
TakesTold (stage.CutTail tail) h told s k = done h ≡ (k, s)
TakesTold (stage.RedoRead page) h told s k = done h ≡ (k, s)
TakesTold (stage.RedoWrite page) h told s k = done h ≡ (k, s)
TakesTold (stage.CloseAppend member) h told s k = done h ≡ (k, s)
TakesTold (stage.UndoRead page) h told s k = done h ≡ (k, s)
TakesTold (stage.UndoAppend member page) h told s k = done h ≡ (k, s)
TakesTold (stage.UndoWrite page) h told s k = done h ≡ (k, s)
TakesTold (stage.RenewRead page) h told s k = done h ≡ (k, s)
TakesTold (stage.RenewWrite page) h told s k = done h ≡ (k, s)
TakesTold (stage.EndAppend member) h told s k = done h ≡ (k, s)
TakesTold stage.End h told s k = done h ≡ (k, s)

unfoldable pub TakesReply : Restart → Reply → State → Restart → Type 0
TakesReply h (reply.Log told) s k = TakesTold h.stage h told s k
TakesReply h reply.Done s k = take_done h h.stage ≡ (k, s)

-- ---- the start

-- the log of the first member is read first, and nothing of it is
pub record IsBegun (h : Restart) : Type 0 where
  pub stage_is : h.stage ≡ stage.ReadLog
  pub reader_is : IsNew 1 h.reader
  pub no_logs : h.logs ≡ []
  pub nothing_asked : h.renews ≡ false
