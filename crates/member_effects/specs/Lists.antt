-- Replies that change nothing here.
use Rattle.std.specs.Prelude.{true, false}
use Rattle.facility.specs.declared.command.Reply.{Reply}
use Rattle.facility.specs.declared.command.Reply.TheVariants as reply
use Rattle.member_effects.specs.declared.told.Told.{Told}
use Rattle.member_effects.specs.declared.told.Told.TheVariants as told

abbrev pub status_told : Reply → Told
status_told (reply.Status status) = told.Status status
status_told _ = told.Stepped

abbrev pub query_told : Reply → Told
query_told (reply.Query query) = told.Query query
query_told _ = told.NoQuery

abbrev pub flag_told : Reply → Told
flag_told reply.Raised = told.Raised true
flag_told _ = told.Raised false

abbrev pub changed_told : Reply → Told
changed_told (reply.ChangedPage page) = told.ChangedPage page
changed_told _ = told.NoChangedPage

abbrev pub cast_told : Reply → Told
cast_told reply.Taken = told.Taken
cast_told _ = told.NotTaken
