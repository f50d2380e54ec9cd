-- Castout of a page to the disk.
use Rattle.std.specs.Prelude.{Bool, not, if◌then◌else◌, Option, Some, None, Result, Ok, Err}
use Rattle.ds_base.specs.declared.names.PageId.{PageId}
use Rattle.member_intents.specs.Given.command_variants as command
use Rattle.member_intents.specs.declared.outcome.Sent.{Sent}
use Rattle.member_intents.specs.declared.outcome.Sent.TheVariants as sent
use Rattle.member_intents.specs.declared.test.Test.{Test}
use Rattle.member_intents.specs.declared.test.Test.TheVariants.{NotTaken, NotWritten}
use Rattle.member_needs.specs.declared.castout.Cast.{Cast}

abbrev pub done : PageId → Sent
done page = sent.Command (command.CastoutDone page)

-- a page that isn't written, under the castout lock
abbrev pub cast_need : Option Cast → Bool → Result Sent Test
cast_need None is_holder = Err NotTaken
cast_need (Some cast) is_holder = if cast.is_written then Err NotTaken else Ok (if is_holder then sent.WritePage cast.page else done cast.page)

-- a page that is written, or whose castout lock the member doesn't hold
abbrev pub done_need : Option Cast → Bool → Result Sent Test
done_need None is_holder = Err NotTaken
done_need (Some cast) is_holder = if not cast.is_written then (if is_holder then Err NotWritten else Ok (done cast.page)) else Ok (done cast.page)
