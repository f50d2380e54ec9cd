-- The one canonical text of a line, and what lines are in range.
use Rattle.std.specs.Prelude.{ℕ, ◌≤◌, List, ◌++◌, Some, codes, decimal}
use Rattle.ds_model.specs.declared.script.Op.{Op}
use Rattle.ds_model.specs.declared.script.Op.TheVariants as op
use Rattle.ds_model.specs.declared.script.FailAt.{FailAt}
use Rattle.ds_model.specs.declared.script.FailAt.TheVariants as fail_at
use Rattle.ds_model.specs.Scripts.{IsName, IsOp, FailIsAllowed}
use Rattle.ds_model.specs.ScriptText.{spot_text, wait_text}
use Rattle.script_line.specs.declared.line.Keyword.{Keyword}
use Rattle.script_line.specs.declared.line.Keyword.TheVariants as keyword
use Rattle.script_line.specs.declared.line.Line.{Line}
use Rattle.script_line.specs.declared.line.Line.TheVariants as line

-- in range for a group of so many members
abbrev pub IsLine : ℕ → Line → Type 0
IsLine members line.GroupFail = Unit {0}
IsLine members line.Phase = Unit {0}
IsLine members (line.Member m) = (1 ≤ m) × (m ≤ members)
IsLine members line.Restart = Unit {0}
IsLine members (line.Fail at) = FailIsAllowed (Some at)
IsLine members (line.Tran name wait) = IsName name
IsLine members (line.Operation o) = IsOp o
IsLine members line.End = Unit {0}

-- what its first word says that it is
abbrev pub keyword_for : Line → Keyword
keyword_for line.GroupFail = keyword.GroupFail
keyword_for line.Phase = keyword.Phase
keyword_for (line.Member m) = keyword.Member
keyword_for line.Restart = keyword.Restart
keyword_for (line.Fail at) = keyword.Fail
keyword_for (line.Tran name wait) = keyword.Tran
keyword_for (line.Operation o) = keyword.Operation
keyword_for line.End = keyword.End

-- ---- the canonical text, without a line feed

abbrev pub op_line_text : Op → List ℕ
op_line_text (op.Get table key) = spot_text (codes "get") table key
op_line_text (op.Getu table key) = spot_text (codes "getu") table key
op_line_text (op.Put table key value) = spot_text (codes "put") table key ++ codes " =" ++ value
op_line_text (op.Del table key) = spot_text (codes "del") table key
op_line_text (op.Scan table low high) = spot_text (codes "scan") table low ++ codes " " ++ decimal high
op_line_text (op.Raise flag) = codes "raise " ++ decimal flag
op_line_text (op.Await flag) = codes "await " ++ decimal flag
op_line_text op.LoseCache = codes "losecache"
op_line_text op.Abort = codes "abort"

abbrev pub fail_line_text : FailAt → List ℕ
fail_line_text (fail_at.Command n) = codes "fail command " ++ decimal n
fail_line_text (fail_at.Commit n) = codes "fail commit " ++ decimal n
fail_line_text (fail_at.Committed n) = codes "fail committed " ++ decimal n
fail_line_text (fail_at.Raise flag) = codes "fail raise " ++ decimal flag

abbrev pub text_of : Line → List ℕ
text_of line.GroupFail = codes "groupfail"
text_of line.Phase = codes "phase"
text_of (line.Member m) = codes "member " ++ decimal m
text_of line.Restart = codes "restart"
text_of (line.Fail at) = fail_line_text at
text_of (line.Tran name wait) = codes "tran " ++ name ++ wait_text wait
text_of (line.Operation o) = op_line_text o
text_of line.End = codes "end"

-- a blank, or a byte that is seen
abbrev pub IsPrinted : ℕ → Type 0
IsPrinted b = (0x20 ≤ b) × (b ≤ 0x7e)
