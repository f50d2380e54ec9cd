-- The own log, the log buffer and retained locks: what an intent about them sends, or the first test that it fails.
use Rattle.std.specs.Prelude.{ℕ, ◌-◌, ◌^◌, ◌==◌, Bool, not, ◌&&◌, ◌||◌, if◌then◌else◌, length, is_some, is_none, Option, Some, None, Result, Ok, Err}
use Rattle.ds_model.specs.declared.lock.Name.{Name}
use Rattle.list_structure.specs.declared.standing.MemberStatus.TheVariants.{Up}
use Rattle.facility.specs.declared.command.Command.TheVariants as command
use Rattle.log_reader.specs.declared.calls.LogCall.{LogCall}
use Rattle.log_reader.specs.declared.calls.LogCall.TheVariants as call
use Rattle.restart_marks.specs.declared.intent.RestartSent.{RestartSent}
use Rattle.restart_marks.specs.declared.intent.RestartSent.TheVariants as sent
use Rattle.restart_marks.specs.declared.intent.RestartTest.{RestartTest}
use Rattle.restart_marks.specs.declared.intent.RestartTest.TheVariants.{NotRead, AlreadyRead, NoTail, HasTail, NotListed, AlreadyListed, PagesLeft, NotRetained, StillNeeded, SomeLeft, StillPlaced, StillChanged, StillClaimed, StillOpen, NonePending, StillPending}
use Rattle.restart_records.specs.Names.{mark_of}
use Rattle.restart_records.specs.Own.{next_in}
use Rattle.restart_marks.specs.State.{RestartState}
use Rattle.restart_marks.specs.Tested.{Tested, passed, when, after, sends}

-- ---- the own log

abbrev pub call_sent : Option LogCall → Result RestartSent RestartTest
call_sent None = Err AlreadyRead
call_sent (Some call.Length) = Ok sent.LogLength
call_sent (Some (call.Read at count)) = Ok (sent.ReadLog at count)

abbrev pub read_log_need : RestartState → Result RestartSent RestartTest
read_log_need s = after (when (not s.own.is_read) AlreadyRead passed) (call_sent (next_in s.own.reader))

abbrev pub cut_need : RestartState → Result RestartSent RestartTest
cut_need s = sends (when s.own.is_read NotRead (when (not (s.own.tail == 0)) NoTail passed)) (sent.CutLog s.own.long)

-- no record goes behind what follows the whole records
abbrev pub append_need : RestartState → Result RestartSent RestartTest
append_need s = sends (when (not (length s.log.pending == 0)) NonePending (when (s.own.tail == 0) HasTail passed)) sent.AppendLog

-- ---- retained locks

abbrev pub is_end_listed : RestartState → Bool
is_end_listed s = s.is_listed || (s.listed == 2 ^ 32 - 1)

abbrev pub listing_need : RestartState → Result RestartSent RestartTest
listing_need s =
    sends (when s.own.is_read NotRead (when (not (is_end_listed s)) AlreadyListed passed)) (sent.Command (command.RetainedAt s.listed))

abbrev pub listed_test : RestartState → Tested
listed_test s = when s.is_listed NotListed passed

-- all retained locks are known, and none is of a page
abbrev pub recovered_test : RestartState → Tested
recovered_test s = when s.is_listed NotListed (when (length s.pages == 0) PagesLeft passed)

-- what it protects stands in the group's copies and in the log
abbrev pub purge_need : RestartState → Name → Result RestartSent RestartTest
purge_need s n =
    sends
    (after (when (mark_of s.names n).retained NotRetained (when ((mark_of s.names n).needed == 0) StillNeeded passed))
    (after (recovered_test s) (when (not s.hand.changed) StillChanged (when (length s.log.pending == 0) StillPending passed))))
    (sent.Command (command.Purge n))

-- ---- the end

-- no transaction is open, and each retained lock that is left is claimed by a rollback
abbrev pub over_test : RestartState → Tested
over_test s = when (s.trans.left == 0) StillOpen (when (s.names.loose == 0) SomeLeft passed)

-- nothing is in hand, claimed or pending, and nothing follows the records of the own log
abbrev pub rest_test : RestartState → Tested
rest_test s =
    when (is_none s.hand.page) StillPlaced
    (when (is_none s.claim) StillClaimed (when (length s.log.pending == 0) StillPending (when (s.own.tail == 0) HasTail passed)))

abbrev pub up_need : RestartState → Result RestartSent RestartTest
up_need s = sends (after (recovered_test s) (after (over_test s) (rest_test s))) (sent.Command (command.SetStatus Up))
