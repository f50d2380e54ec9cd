-- What an event was, by the words of its command and its reply.
use Rattle.std.specs.Prelude.{ℕ, Bool, true, false, not, ◌==◌, ◌&&◌, ◌||◌, if◌then◌else◌, List, codes}
use Rattle.std.specs.Str.{bytes_eq}
use Rattle.ds_model.specs.declared.report.EventLine.{EventLine}
use Rattle.run_spans.specs.declared.deed.Deed.{Deed}
use Rattle.run_spans.specs.declared.deed.Deed.TheVariants as deed

-- what was done for a lock, a log or a flag
unfoldable pub work_by : List ℕ → Deed
work_by command =
    if bytes_eq command (codes "log-append") then deed.Append
    else if bytes_eq command (codes "release") || bytes_eq command (codes "purge") then deed.Release
    else if bytes_eq command (codes "raise") then deed.Raise
    else deed.Other

unfoldable pub deed_by : List ℕ → Deed
deed_by command =
    if bytes_eq command (codes "none") then deed.Nothing
    else if bytes_eq command (codes "wait") then deed.Wait
    else if bytes_eq command (codes "unwait") then deed.Unwait
    else if bytes_eq command (codes "end") then deed.End
    else if bytes_eq command (codes "fail") then deed.Fail
    else work_by command

-- a record is drawn, a page written or found, only where the reply says so
unfoldable pub deed_of : EventLine → Deed
deed_of e =
    if bytes_eq e.command (codes "draw") && bytes_eq e.reply (codes "drawn") then deed.Draw
    else if bytes_eq e.command (codes "write") && bytes_eq e.reply (codes "written") then deed.Write
    else if bytes_eq e.command (codes "read") && bytes_eq e.reply (codes "found") then deed.Read
    else deed_by e.command

-- ---- tests

abbrev pub is_nothing : Deed → Bool
is_nothing deed.Nothing = true
is_nothing _ = false

abbrev pub is_draw : Deed → Bool
is_draw deed.Draw = true
is_draw _ = false

abbrev pub is_append : Deed → Bool
is_append deed.Append = true
is_append _ = false

abbrev pub is_wait : Deed → Bool
is_wait deed.Wait = true
is_wait _ = false

abbrev pub is_unwait : Deed → Bool
is_unwait deed.Unwait = true
is_unwait _ = false

abbrev pub is_end : Deed → Bool
is_end deed.End = true
is_end _ = false

abbrev pub is_fail : Deed → Bool
is_fail deed.Fail = true
is_fail _ = false

abbrev pub is_write : Deed → Bool
is_write deed.Write = true
is_write _ = false

abbrev pub is_read : Deed → Bool
is_read deed.Read = true
is_read _ = false

-- what ends a wait, beside the member's failure
abbrev pub ends_wait : Deed → Bool
ends_wait d = is_unwait d || is_end d

abbrev pub is_release : Deed → Bool
is_release deed.Release = true
is_release _ = false

abbrev pub is_raise : Deed → Bool
is_raise deed.Raise = true
is_raise _ = false

-- what lets others go on: an end, a raised flag, a failure, or the release of a lock, but not of a page's (the choice 18), which holds up
-- no transaction
unfoldable pub rings : Deed → ℕ → Bool
rings d choice = is_end d || (is_raise d || (is_fail d || (is_release d && not (choice == 18))))
