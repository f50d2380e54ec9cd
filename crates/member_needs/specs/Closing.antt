-- Locks that are given up, and ends of transactions.
use Rattle.std.specs.Prelude.{ℕ, ◌==◌, Bool, false, not, ◌||◌, if◌then◌else◌, Option, Some, None, is_none, Result, Ok, Err}
use Rattle.ds_base.specs.declared.names.PageId.{PageId}
use Rattle.ds_model.specs.declared.lock.Name.{Name}
use Rattle.lock_names.specs.declared.mode.Interest.{Interest}
use Rattle.member_intents.specs.Given.command_variants as command
use Rattle.member_intents.specs.declared.outcome.Sent.{Sent}
use Rattle.member_intents.specs.declared.outcome.Sent.TheVariants as sent
use Rattle.member_intents.specs.declared.test.Test.{Test}
use Rattle.member_intents.specs.declared.test.Test.TheVariants.{NotOver, StillChanged, NoneLeft, SomeLeft, NotClaimed, StillClaimed, NotRetained}
use Rattle.member_marks.specs.Given.{find_page}
use Rattle.member_trans.specs.declared.fate.Owner.{Owner}
use Rattle.member_trans.specs.Trans.{is_over_at, was_postponed}
use Rattle.member_marks.specs.State.{MarksState, tran_of, id_of}
use Rattle.member_marks.specs.Claims.{releasing, releasing_page, is_claimed}
use Rattle.member_marks.specs.Names.{has_name}
use Rattle.member_marks.specs.Frames.{frame_in, to_write}
use Rattle.member_needs.specs.Tested.{Tested, passed, when, after, sends}

-- the transaction is over, and none of the pages of its sets is changed, unless it has given up a lock already
abbrev pub over_test : MarksState → Owner → Tested
over_test s o =
    when (is_over_at (tran_of s o) s.log.stable) NotOver
    (when ((tran_of s o).released || is_none (to_write s o)) StillChanged passed)

abbrev pub gives_up : Option (Name × Interest) → Result Sent Test
gives_up None = Err NoneLeft
gives_up (Some x) = Ok (sent.Command (command.Release x.0 x.1))

abbrev pub release_need : MarksState → Owner → Result Sent Test
release_need s o = after (over_test s o) (gives_up (releasing s o))

-- the transaction is over; or its rollback was postponed, and stands apart
abbrev pub end_test : MarksState → Owner → Tested
end_test s o = if was_postponed (tran_of s o).stage then passed else over_test s o

-- nothing is sent for a rollback that a restart left, which has no number
abbrev pub end_sent : MarksState → Owner → Sent
end_sent s o = if (id_of s o).number == 0 then sent.None else sent.Command (command.End (id_of s o))

abbrev pub ends : MarksState → Owner → Option (Name × Interest) → Result Sent Test
ends s o None = Ok (end_sent s o)
ends s o (Some x) = Err SomeLeft

abbrev pub end_need : MarksState → Owner → Result Sent Test
end_need s o = after (end_test s o) (ends s o (releasing s o))

-- ---- retained records

-- nobody claims the name, and its record is known as retained
abbrev pub purge_need : MarksState → Name → Result Sent Test
purge_need s n = sends (when (not (is_claimed s n)) StillClaimed (when (has_name s.kept n) NotRetained passed)) (sent.Command (command.Purge n))

-- ---- pages

abbrev pub is_changed_at : MarksState → Option ℕ → Bool
is_changed_at s None = false
is_changed_at s (Some at) = (frame_in s.heads at).changed

-- whether the frame that holds the page, if there is one, is changed
abbrev pub is_page_changed : MarksState → PageId → Bool
is_page_changed s p = is_changed_at s (find_page s.heads.frames p)

abbrev pub gives_up_page : Bool → Option (Name × Interest) → Result Sent Test
gives_up_page is_changed None = Err NotClaimed
gives_up_page is_changed (Some x) = after (when (not is_changed) StillChanged passed) (Ok (sent.Command (command.Release x.0 x.1)))

abbrev pub release_page_need : MarksState → PageId → Result Sent Test
release_page_need s p = gives_up_page (is_page_changed s p) (releasing_page s p)
