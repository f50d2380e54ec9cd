-- The page in hand: what an intent about it sends, or the first test that it fails.
use Rattle.std.specs.Prelude.{ℕ, ◌==◌, nat_le, Bool, false, not, ◌&&◌, if◌then◌else◌, slice_get, is_some, is_none, Option, Some, None, Result, Ok, Err}
use Rattle.ds_base.specs.declared.names.PageId.{PageId}
use Rattle.ds_model.specs.declared.lock.Name.TheVariants as name
use Rattle.facility.specs.declared.command.Command.TheVariants as command
use Rattle.restart_marks.specs.declared.intent.RestartSent.{RestartSent}
use Rattle.restart_marks.specs.declared.intent.RestartSent.TheVariants as sent
use Rattle.restart_marks.specs.declared.intent.RestartTest.{RestartTest}
use Rattle.restart_marks.specs.declared.intent.RestartTest.TheVariants.{NotRetained, NotPlaced, StillPlaced, NotRegistered, NotFilled, StillFilled, NotChanged, StillChanged, NotStable, NotFirst, NotBrought, NotClaimed, StillClaimed}
use Rattle.restart_records.specs.declared.queue.TurnKey.{TurnKey}
use Rattle.restart_marks.specs.Moves.{is_same, is_claimed}
use Rattle.restart_marks.specs.OwnNeeds.{listed_test}
use Rattle.restart_marks.specs.State.{RestartState}
use Rattle.restart_marks.specs.Tested.{Tested, passed, when, after, sends}

abbrev pub placed : Option PageId → Result PageId RestartTest
placed None = Err NotPlaced
placed (Some page) = Ok page

-- ---- its bytes

abbrev pub reads : Option PageId → Result RestartSent RestartTest
reads None = Err NotPlaced
reads (Some page) = Ok (sent.Command (command.Read page 0))

abbrev pub read_need : RestartState → Result RestartSent RestartTest
read_need s = reads s.hand.page

abbrev pub reads_page : RestartState → Option PageId → Result RestartSent RestartTest
reads_page s None = Err NotPlaced
reads_page s (Some page) = sends (when s.hand.registered NotRegistered (when (not s.hand.filled) StillFilled passed)) (sent.ReadPage page)

abbrev pub read_page_need : RestartState → Result RestartSent RestartTest
read_page_need s = reads_page s s.hand.page

abbrev pub test_need : RestartState → Result RestartSent RestartTest
test_need s = sends (when (is_some s.hand.page) NotPlaced (when s.hand.filled NotFilled passed)) (sent.Command (command.Test 0))

-- ---- it is written

abbrev pub is_turn_of : PageId → Option TurnKey → Bool
is_turn_of page None = false
is_turn_of page (Some key) = not (key.turn == 0) && is_same key.page page

-- the page is the first of the retained pages, and its rank is known
abbrev pub is_first : RestartState → PageId → Bool
is_first s page = is_turn_of page (slice_get s.pages 0)

-- a retained page is the first of them; another one is claimed
abbrev pub owner_test : RestartState → PageId → Tested
owner_test s page =
    if is_some s.hand.key then after (listed_test s) (when (is_first s page) NotFirst passed)
    else when (is_claimed s page) NotClaimed passed

abbrev pub writes : RestartState → Option PageId → Result RestartSent RestartTest
writes s None = Err NotPlaced
writes s (Some page) =
    sends
    (when s.hand.changed NotChanged (when s.hand.filled NotFilled (when (nat_le s.hand.last s.log.stable) NotStable (owner_test s page))))
    (sent.Command (command.Write page 0))

abbrev pub write_need : RestartState → Result RestartSent RestartTest
write_need s = writes s s.hand.page

-- ---- its retained lock is freed

abbrev pub purges_page : RestartState → Option PageId → Result RestartSent RestartTest
purges_page s None = Err NotPlaced
purges_page s (Some page) =
    sends
    (after (listed_test s)
    (when (is_some s.hand.key) NotRetained (when s.hand.brought NotBrought (when (not s.hand.changed) StillChanged (when (not (is_claimed s page)) StillClaimed passed)))))
    (sent.Command (command.Purge (name.Page page)))

abbrev pub purge_page_need : RestartState → Result RestartSent RestartTest
purge_page_need s = purges_page s s.hand.page

-- ---- no page is in hand

abbrev pub unregister_need : RestartState → Result RestartSent RestartTest
unregister_need s = sends (when (is_none s.hand.page) StillPlaced passed) (sent.Command (command.Unregister 0))
