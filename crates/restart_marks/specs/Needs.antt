-- The test of each intent, and what it sends.
use Rattle.std.specs.Prelude.{Result, Ok}
use Rattle.facility.specs.declared.command.Command.TheVariants as command
use Rattle.restart_marks.specs.declared.intent.RestartIntent.{RestartIntent}
use Rattle.restart_marks.specs.declared.intent.RestartIntent.TheVariants as intent
use Rattle.restart_marks.specs.declared.intent.RestartSent.{RestartSent}
use Rattle.restart_marks.specs.declared.intent.RestartSent.TheVariants as sent
use Rattle.restart_marks.specs.declared.intent.RestartTest.{RestartTest}
use Rattle.restart_marks.specs.OwnNeeds.{read_log_need, cut_need, listing_need, append_need, purge_need, up_need}
use Rattle.restart_marks.specs.HandNeeds.{read_need, read_page_need, test_need, write_need, purge_page_need, unregister_need}
use Rattle.restart_marks.specs.LockNeeds.{obtain_need, ask_need, answers_need, grant_need, undo_need, release_need}
use Rattle.restart_marks.specs.State.{RestartState}

abbrev pub need_of : RestartState → RestartIntent → Result RestartSent RestartTest
need_of s intent.Step = Ok sent.None
need_of s intent.ReadLog = read_log_need s
need_of s intent.CutTail = cut_need s
need_of s intent.RetainedAt = listing_need s
need_of s intent.Read = read_need s
need_of s intent.ReadPage = read_page_need s
need_of s intent.Test = test_need s
need_of s intent.WritePage = write_need s
need_of s intent.PurgePage = purge_page_need s
need_of s (intent.Purge n) = purge_need s n
need_of s intent.Append = append_need s
need_of s (intent.Obtain id) = obtain_need s id
need_of s (intent.Ask id to) = ask_need s id to
need_of s (intent.Answers id asked) = answers_need s id
need_of s (intent.Grant id) = grant_need s id
need_of s (intent.Status m) = Ok (sent.Command (command.Status m))
need_of s (intent.Undo id) = undo_need s id
need_of s intent.ReleasePage = release_need s
need_of s intent.Unregister = unregister_need s
need_of s intent.Up = up_need s
