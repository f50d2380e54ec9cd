-- Changes that are taken back, and the locks of their pages: what an intent about them sends, or the first test that it fails.
use Rattle.std.specs.Prelude.{ℕ, ◌==◌, nat_le, nat_lt, Bool, false, true, not, ◌&&◌, ◌||◌, if◌then◌else◌, List, [], ◌∷◌, length, is_some, is_none, Option, Some, None, Result, Ok, Err}
use Rattle.ds_base.specs.declared.names.PageId.{PageId}
use Rattle.ds_model.specs.declared.lock.Name.TheVariants as name
use Rattle.ds_model.specs.declared.log.RowChange.{RowChange}
use Rattle.lock_names.specs.declared.mode.Mode.TheVariants.{X}
use Rattle.facility.specs.declared.command.Command.{Command}
use Rattle.facility.specs.declared.command.Command.TheVariants as command
use Rattle.member_log.specs.Buffers.{room_of, is_above}
use Rattle.restart_marks.specs.declared.intent.RestartSent.{RestartSent}
use Rattle.restart_marks.specs.declared.intent.RestartSent.TheVariants as sent
use Rattle.restart_marks.specs.declared.intent.RestartTest.{RestartTest}
use Rattle.restart_marks.specs.declared.intent.RestartTest.TheVariants.{NotRetained, NotPlaced, NotFilled, StillChanged, OtherPage, PagesFull, NotClaimed, NoneStands, NoRoom, AboveLimit, StillEnding}
use Rattle.restart_records.specs.declared.trans.Newest.{Newest}
use Rattle.restart_records.specs.Trans.{newest, page_undone, page_of}
use Rattle.restart_records.specs.Names.{mark_of}
use Rattle.restart_marks.specs.Moves.{is_same, is_claimed, is_claimed_as}
use Rattle.restart_marks.specs.OwnNeeds.{recovered_test}
use Rattle.restart_marks.specs.State.{RestartState}
use Rattle.restart_marks.specs.Tested.{Tested, passed, when, after, sends}

-- the last number that new work draws
abbrev pub limit : ℕ
limit = 1208925819614629157928960

-- the most bytes of a compensation and of the Ended record behind it
abbrev pub undo_bytes : ℕ
undo_bytes = 289

-- ---- the lock of the page of the newest change that stands

abbrev pub asked_in : Option PageId → Result PageId RestartTest
asked_in None = Err NoneStands
asked_in (Some page) = Ok page

abbrev pub page_asked : RestartState → ℕ → Result PageId RestartTest
page_asked s id = asked_in (page_undone s.trans id)

-- the lock of no other page is claimed
abbrev pub free_test : RestartState → PageId → Tested
free_test s page = when (is_none s.claim || is_claimed s page) PagesFull passed

abbrev pub locks_in : RestartState → Option PageId → Result PageId RestartTest
locks_in s None = Err NoneStands
locks_in s (Some page) = after (recovered_test s) (after (free_test s page) (Ok page))

-- all retained pages are recovered, and there is room for the page's lock
abbrev pub lock_test : RestartState → ℕ → Result PageId RestartTest
lock_test s id = locks_in s (page_undone s.trans id)

abbrev pub commands : (PageId → Command) → Result PageId RestartTest → Result RestartSent RestartTest
commands f (Err test) = Err test
commands f (Ok page) = Ok (sent.Command (f page))

abbrev pub obtain_need : RestartState → ℕ → Result RestartSent RestartTest
obtain_need s id = commands (λ page. command.Obtain (name.Page page) X) (lock_test s id)

abbrev pub ask_need : RestartState → ℕ → ℕ → Result RestartSent RestartTest
ask_need s id to = commands (λ page. command.Ask 0 to (name.Page page) X) (page_asked s id)

abbrev pub answers_need : RestartState → ℕ → Result RestartSent RestartTest
answers_need s id = commands (λ page. command.Answers 0) (page_asked s id)

abbrev pub grant_need : RestartState → ℕ → Result RestartSent RestartTest
grant_need s id = commands (λ page. command.Grant 0 (name.Page page) X) (lock_test s id)

-- ---- a change is taken back

-- the row of the change is known as retained
abbrev pub is_row_retained : RestartState → RowChange → Bool
is_row_retained s c = (mark_of s.names (name.Row c.table c.key)).retained

-- the page is in hand with its bytes, and claimed
abbrev pub undone_hand_test : RestartState → PageId → Option PageId → Tested
undone_hand_test s page None = Err NotPlaced
undone_hand_test s page (Some own) =
    when (is_same own page) OtherPage (when s.hand.filled NotFilled (when (is_claimed s page) NotClaimed passed))

abbrev pub has_undo_room : RestartState → Bool
has_undo_room s = nat_le undo_bytes (room_of s.log)

-- the log buffer takes the records of one change that is taken back
abbrev pub log_test : RestartState → Tested
log_test s =
    when (not (is_some s.trans.ending)) StillEnding
    (when (not (is_above s.log limit)) AboveLimit (when (has_undo_room s) NoRoom passed))

abbrev pub undo_command : Command
undo_command = command.DrawUndo (record { count = 1; at = 0 ∷ 0 ∷ 0 ∷ [] })

-- the change may be taken back
abbrev pub undo_test : RestartState → RowChange → Tested
undo_test s c =
    after (recovered_test s)
    (after (undone_hand_test s (page_of c) s.hand.page)
    (after (when (is_row_retained s c) NotRetained passed) (log_test s)))

abbrev pub undo_with : RestartState → Option Newest → Result RestartSent RestartTest
undo_with s None = Err NoneStands
undo_with s (Some it) = sends (undo_test s it.change) (sent.Command undo_command)

abbrev pub undo_need : RestartState → ℕ → Result RestartSent RestartTest
undo_need s id = undo_with s (newest s.trans id)

-- ---- the page's lock is given up

-- the page isn't in hand, or isn't changed
abbrev pub unchanged_test : RestartState → PageId → Tested
unchanged_test s page = when (not (is_claimed_as s.hand.page page && s.hand.changed)) StillChanged passed

abbrev pub releases : RestartState → Option PageId → Result RestartSent RestartTest
releases s None = Err NotClaimed
releases s (Some page) =
    sends (unchanged_test s page) (sent.Command (command.Release (name.Page page) (record { share = false; exclusive = false })))

-- no claim is left
abbrev pub release_need : RestartState → Result RestartSent RestartTest
release_need s = releases s s.claim
