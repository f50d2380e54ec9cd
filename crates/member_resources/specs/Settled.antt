-- What an answer makes of what a member holds.
use Rattle.std.specs.Prelude.{ℕ, ◌≡◌, true, false, List, Option, Some, None}
use Rattle.ds_base.specs.declared.names.PageId.{PageId}
use Rattle.ds_model.specs.declared.lock.Name.{Name}
use Rattle.lock_names.specs.declared.mode.Mode.{Mode}
use Rattle.list_structure.specs.declared.query.Cell.{Cell}
use Rattle.list_structure.specs.declared.wait.Wait.{Wait}
use Rattle.facility.specs.declared.command.Reply.{Reply}
use Rattle.facility.specs.declared.command.Reply.TheVariants as reply
use Rattle.member_intents.specs.declared.intent.Frames.{Frames}
use Rattle.member_intents.specs.declared.intent.Intent.{Intent}
use Rattle.member_intents.specs.declared.intent.Intent.TheVariants as intent
use Rattle.member_trans.specs.declared.fate.Owner.{Owner}
use Rattle.member_marks.specs.Claims.{after_end_of}
use Rattle.member_marks.specs.Frames.{after_filled}
use Rattle.member_marks.specs.Records.{after_append}
use Rattle.member_effects.specs.Given.{Cast}
use Rattle.member_effects.specs.Given.{Plan}
use Rattle.member_effects.specs.declared.told.Told.{Told}
use Rattle.member_effects.specs.declared.told.Told.TheVariants as told
use Rattle.member_effects.specs.Kept.{Kept}
use Rattle.member_effects.specs.Claims.{Claims, claimed_told}
use Rattle.member_effects.specs.Answers.{answered_after, answered_told}
use Rattle.member_effects.specs.Closing.{released_after, released_told, page_released_after, page_released_told, purged_after, purged_told, ended_after, ended_told}
use Rattle.member_effects.specs.Cycles.{RefusesCycle}
use Rattle.member_effects.specs.Frames.{read_after, read_told, tested_after, tested_told, written_after, written_told, unregistered_after}
use Rattle.member_effects.specs.Lists.{status_told, query_told, flag_told, changed_told, cast_told}
use Rattle.member_effects.specs.Changes.{drawn_after, drawn_told, undone_after, undone_told, committed_after, committed_told}
use Rattle.member_resources.specs.Held.{Held, with_marks, with_cast}

-- ---- castout

abbrev pub cast_read : Held → PageId → Reply → Held
cast_read h page reply.Taken = with_cast h (Some (record { page = page; is_written = false }))
cast_read h page _ = h

abbrev pub written_cast : Option Cast → Option Cast
written_cast None = None
written_cast (Some cast) = Some (record cast { is_written = true })

-- ---- changes

abbrev pub kept_of : Held → Kept
kept_of h = record { marks = h.marks; pages = h.pages }

abbrev pub with_kept : Held → Kept → Held
with_kept h k = record h { marks = k.marks; pages = k.pages }

abbrev pub drawn : Held → ℕ → Frames → Plan → Reply → ℕ → Held
drawn h slot frames p answer place = with_kept h (drawn_after (kept_of h) slot frames p answer place)

abbrev pub undone : Held → Owner → ℕ → Plan → Reply → ℕ → Held
undone h o at p answer place = with_kept h (undone_after (kept_of h) o at p answer place)

-- ---- events that send nothing

abbrev pub unsent : Held → Intent → Held
unsent h (intent.End o) = with_marks h (after_end_of h.marks o)
unsent h _ = h

abbrev pub unsent_told : Intent → Told
unsent_told (intent.End o) = told.Ended
unsent_told _ = told.Stepped

-- ---- replies of the facility

-- after the reply to an intent that claims no lock, and doesn't look for a cycle, where these are the cells that its command
-- asks for
abbrev pub settled : Held → Intent → Plan → Reply → List Cell → ℕ → Held
settled h (intent.Answers o n m asked) p answer cells place = with_marks h (answered_after h.marks o n m asked cells)
settled h (intent.ReleaseLock o) p answer cells place = with_marks h (released_after h.marks o answer)
settled h (intent.ReleasePage page) p answer cells place = with_marks h (page_released_after h.marks page answer)
settled h (intent.Purge n) p answer cells place = with_marks h (purged_after h.marks n answer)
settled h (intent.End o) p answer cells place = with_marks h (ended_after h.marks o answer)
settled h (intent.Read frame) p answer cells place = with_marks h (read_after h.marks frame answer)
settled h (intent.Test frame slot gives) p answer cells place = with_marks h (tested_after h.marks h.pages frame slot gives h.limit answer place)
settled h (intent.WritePage frame) p answer cells place = with_marks h (written_after h.marks frame answer)
settled h (intent.Unregister frame) p answer cells place = with_marks h (unregistered_after h.marks frame answer)
settled h (intent.Change slot action frames) p answer cells place = drawn h slot frames p answer place
settled h (intent.Undo o frame) p answer cells place = undone h o frame p answer place
settled h (intent.Commit slot) p answer cells place = with_marks h (committed_after h.marks slot answer place)
settled h (intent.CastoutRead page) p answer cells place = cast_read h page answer
settled h intent.CastoutWrite p answer cells place = with_cast h None
settled h intent.CastoutDone p answer cells place = with_cast h None
settled h _ p answer cells place = h

abbrev pub told_by : Held → Intent → Plan → Reply → List Cell → Told
told_by h (intent.Obtain o n m) p answer cells = claimed_told h.marks o n m answer
told_by h (intent.Grant o n m) p answer cells = claimed_told h.marks o n m answer
told_by h (intent.Answers o n m asked) p answer cells = answered_told n m asked cells
told_by h (intent.Status member) p answer cells = status_told answer
told_by h (intent.Take past) p answer cells = query_told answer
told_by h (intent.ReleaseLock o) p answer cells = released_told h.marks o answer
told_by h (intent.ReleasePage page) p answer cells = page_released_told answer
told_by h (intent.Purge n) p answer cells = purged_told answer
told_by h (intent.End o) p answer cells = ended_told answer
told_by h (intent.Flag flag) p answer cells = flag_told answer
told_by h (intent.Read frame) p answer cells = read_told answer
told_by h (intent.Test frame slot gives) p answer cells = tested_told h.pages frame gives h.limit answer
told_by h (intent.WritePage frame) p answer cells = written_told answer
told_by h (intent.Change slot action frames) p answer cells = drawn_told p answer
told_by h (intent.Undo o frame) p answer cells = undone_told p answer
told_by h (intent.Commit slot) p answer cells = committed_told answer
told_by h (intent.NextChanged past) p answer cells = changed_told answer
told_by h (intent.CastoutRead page) p answer cells = cast_told answer
told_by h intent.CastoutWrite p answer cells = told.CastoutOver
told_by h intent.CastoutDone p answer cells = told.CastoutOver
told_by h _ p answer cells = told.Stepped

-- the claim of a lock, where it was granted
abbrev pub SettlesClaim : Held → Owner → Name → Mode → Reply → ℕ → Held → Type 0
SettlesClaim h o n m answer place k = Claims h.marks o n m answer place k.marks × (k ≡ with_marks h k.marks)

abbrev pub Settles : Held → Intent → Plan → Reply → List Cell → ℕ → Held → Type 0
Settles h (intent.Obtain o n m) p answer cells place k = SettlesClaim h o n m answer place k
Settles h (intent.Grant o n m) p answer cells place k = SettlesClaim h o n m answer place k
Settles h other p answer cells place k = k ≡ settled h other p answer cells place

-- ---- the look for a cycle

abbrev pub SettlesWaits : Held → List Wait → ℕ → ℕ → Told → Held → Type 0
SettlesWaits h waits slots place answer k = RefusesCycle h.marks waits slots place answer k.marks × (k ≡ with_marks h k.marks)

-- ---- disk calls that were done

abbrev pub stored : Held → Intent → Held
stored h (intent.ReadPage frame) = with_marks h (after_filled h.marks frame true)
stored h intent.Append = with_marks h (after_append h.marks)
stored h intent.CastoutWrite = with_cast h (written_cast h.cast)
stored h _ = h

abbrev pub stored_told : Intent → Told
stored_told (intent.ReadPage frame) = told.Filled
stored_told intent.Append = told.Forced
stored_told intent.CastoutWrite = told.CastoutWritten
stored_told _ = told.Stepped
