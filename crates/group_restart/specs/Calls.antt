-- The call of the disk that a group restart makes next.
use Rattle.std.specs.Prelude.{ℕ}
use Rattle.log_reader.specs.declared.calls.LogCall.{LogCall}
use Rattle.log_reader.specs.declared.calls.LogCall.TheVariants as asked
use Rattle.log_reader.specs.Readers.{next_call}
use Rattle.group_restart.specs.declared.calls.Call.{Call}
use Rattle.group_restart.specs.declared.calls.Call.TheVariants as call
use Rattle.group_restart.specs.declared.stage.Stage.{Stage}
use Rattle.group_restart.specs.declared.stage.Stage.TheVariants as stage
use Rattle.group_restart.specs.Machine.{Restart}

abbrev pub log_call : ℕ → LogCall → Call
log_call member asked.Length = call.LogLength member
log_call member (asked.Read at count) = call.ReadLog member at count

abbrev pub call_in : Stage → Restart → Call
call_in stage.ReadLog h = log_call h.reader.member (next_call h.reader)
call_in (stage.CutTail tail) h = call.CutLog tail.member tail.length
call_in (stage.RedoRead page) h = call.ReadPage page
call_in (stage.RedoWrite page) h = call.WritePage page
call_in (stage.CloseAppend member) h = call.AppendLog member
call_in (stage.UndoRead page) h = call.ReadPage page
call_in (stage.UndoAppend member page) h = call.AppendLog member
call_in (stage.UndoWrite page) h = call.WritePage page
call_in (stage.RenewRead page) h = call.ReadPage page
call_in (stage.RenewWrite page) h = call.WritePage page
call_in (stage.EndAppend member) h = call.AppendLog member
call_in stage.End h = call.LogLength h.reader.member

abbrev pub call_of : Restart → Call
call_of h = call_in h.stage h
