-- What each intent sends, or the first test that fails.
use Rattle.std.specs.Prelude.{ℕ, List, Result, Ok}
use Rattle.member_intents.specs.Given.command_variants as command
use Rattle.member_intents.specs.declared.intent.Intent.{Intent}
use Rattle.member_intents.specs.declared.intent.Intent.TheVariants as intent
use Rattle.member_intents.specs.declared.outcome.Sent.{Sent}
use Rattle.member_intents.specs.declared.outcome.Sent.TheVariants as sent
use Rattle.member_intents.specs.declared.test.Test.{Test}
use Rattle.member_marks.specs.State.{MarksState}
use Rattle.member_needs.specs.declared.needs.Setting.{Setting}
use Rattle.member_needs.specs.Locks.{obtain_need, grant_need, ask_need, answers_need, answer_need}
use Rattle.member_needs.specs.Closing.{release_need, release_page_need, purge_need, end_need}
use Rattle.member_needs.specs.Waits.{wait_need, unwait_need}
use Rattle.member_needs.specs.Frames.{read_need, read_page_need, test_need, write_need, unregister_need}
use Rattle.member_needs.specs.Records.{change_need, undo_need, commit_need, append_need}
use Rattle.member_needs.specs.Castout.{cast_need, done_need}

abbrev pub need_of : MarksState → List (List ℕ) → Setting → Intent → Result Sent Test
need_of s pages c intent.Step = Ok sent.None
need_of s pages c (intent.Obtain o n m) = obtain_need s o n m
need_of s pages c (intent.Grant o n m) = grant_need s o n m
need_of s pages c (intent.Ask o to n m) = Ok (ask_need o to n m)
need_of s pages c (intent.Answers o n m asked) = Ok (answers_need o n)
need_of s pages c (intent.Status member) = Ok (sent.Command (command.Status member))
need_of s pages c (intent.Take past) = Ok (sent.Command (command.Take past))
need_of s pages c (intent.Answer asker n m) = answer_need s asker n m c.place
need_of s pages c (intent.ReleaseLock o) = release_need s o
need_of s pages c (intent.ReleasePage page) = release_page_need s page
need_of s pages c (intent.Purge n) = purge_need s n
need_of s pages c (intent.End o) = end_need s o
need_of s pages c (intent.Wait slot holder flag) = wait_need s slot holder flag
need_of s pages c (intent.Unwait slot) = unwait_need s slot
need_of s pages c (intent.Waits slots) = Ok (sent.Command command.Waits)
need_of s pages c (intent.Flag flag) = Ok (sent.Command (command.Flag flag))
need_of s pages c (intent.Raise flag) = Ok (sent.Command (command.Raise flag))
need_of s pages c intent.LoseCache = Ok (sent.Command command.Lose)
need_of s pages c (intent.Read frame) = read_need s frame
need_of s pages c (intent.ReadPage frame) = read_page_need s frame
need_of s pages c (intent.Test frame slot gives) = test_need s frame slot gives
need_of s pages c (intent.WritePage frame) = write_need s pages frame
need_of s pages c (intent.Unregister frame) = unregister_need s frame
need_of s pages c (intent.Change slot action frames) = change_need s pages c.limit slot action frames
need_of s pages c (intent.Undo o frame) = undo_need s o frame
need_of s pages c (intent.Commit slot) = commit_need s slot
need_of s pages c intent.Append = append_need s
need_of s pages c (intent.NextChanged past) = Ok (sent.Command (command.NextChanged past))
need_of s pages c (intent.CastoutRead page) = Ok (sent.Command (command.CastoutRead page))
need_of s pages c intent.CastoutWrite = cast_need c.cast c.is_holder
need_of s pages c intent.CastoutDone = done_need c.cast c.is_holder
need_of s pages c intent.PhaseDone = Ok (sent.Command command.PhaseDone)
