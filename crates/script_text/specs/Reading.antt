-- The script that a text spells, or the text's first fault.
use Rattle.std.specs.Prelude.{◌≡◌, ℕ, ◌+◌, if◌then◌else◌, nat_lt, List, [], ◌∷◌, Option, Some, None, Result, Ok, Err}
use Rattle.ds_model.specs.declared.script.Script.{Script}
use Rattle.ds_model.specs.declared.script.ScriptFault.{ScriptFault}
use Rattle.ds_model.specs.declared.script.FaultKind.{FaultKind}
use Rattle.ds_model.specs.declared.script.FaultKind.TheVariants as fault
use Rattle.script_line.specs.Words.{and_then}
use Rattle.script_line.specs.Lines.{is_skipped, keyword_in, line_in}
use Rattle.script_line.specs.declared.line.LineError.{LineError}
use Rattle.script_line.specs.declared.line.LineError.TheVariants as line_error
use Rattle.script_text.specs.declared.draft.Draft.{Draft}
use Rattle.script_text.specs.declared.read.ScriptError.{ScriptError}
use Rattle.script_text.specs.declared.read.ScriptError.TheVariants as script_error
use Rattle.script_text.specs.TextLines.{TextLine, lines_of}
use Rattle.script_text.specs.Drafts.{start, closed, place_fault, step_line}

abbrev pub unless : {A : Type 0} → Option FaultKind → Result A FaultKind → Result A FaultKind
unless None r = r
unless (Some kind) r = Err kind

-- a line that isn't skipped: its place comes first, then what it says by itself, then what it says behind the others
abbrev pub step_words : ℕ → Draft → List ℕ → Result Draft FaultKind
step_words members d bytes = unless (place_fault d (keyword_in bytes)) (and_then (step_line d) (line_in members bytes))

abbrev pub step_bytes : ℕ → Draft → List ℕ → Result Draft FaultKind
step_bytes members d bytes = if is_skipped bytes then Ok d else step_words members d bytes

-- no line has a byte behind the longest text
abbrev pub step : ℕ → Draft → TextLine → Result Draft FaultKind
step members d l = if nat_lt 4194304 l.end then Err fault.TooLong else step_bytes members d l.bytes

abbrev pub script_of_closed : Draft → Script
script_of_closed d = record { phases = d.phases; groupfails = d.groupfails }

abbrev pub or_end : Result Draft FaultKind → Result Script FaultKind
or_end (Ok d) = Ok (script_of_closed d)
or_end (Err kind) = Err fault.End

-- behind the last line the open phase is ended, unless a transaction is open
abbrev pub finished : Draft → Result Script FaultKind
finished d = or_end (closed d)

-- a fault, of the line of this number
abbrev pub at_line : ℕ → Result Script FaultKind → Result Script ScriptFault
at_line number (Ok s) = Ok s
at_line number (Err kind) = Err (record { line = number; kind = kind })

abbrev pub go_on : ℕ → (Draft → Result Script ScriptFault) → Result Draft FaultKind → Result Script ScriptFault
go_on number more (Ok d) = more d
go_on number more (Err kind) = Err (record { line = number; kind = kind })

-- the lines from this number on, behind what was read
abbrev pub read_lines : ℕ → ℕ → Draft → List TextLine → Result Script ScriptFault
read_lines members number d [] = at_line number (finished d)
read_lines members number d (l ∷ ls) = go_on number (λ e. read_lines members (number + 1) e ls) (step members d l)

-- the script of a text, for a group of so many members
unfoldable pub script_of : ℕ → List ℕ → Result Script ScriptFault
script_of members text = read_lines members 1 start (lines_of text)

-- ---- what code gives, or want of memory

abbrev pub Ends : Result Script FaultKind → Result Script LineError → Type 0
Ends said (Ok s) = said ≡ Ok s
Ends said (Err (line_error.Fault kind)) = said ≡ Err kind
Ends said (Err line_error.NoMemory) = Unit {0}

abbrev pub error_at : ℕ → LineError → ScriptError
error_at number (line_error.Fault kind) = script_error.Fault (record { line = number; kind = kind })
error_at number line_error.NoMemory = script_error.NoMemory

abbrev pub Reads : Result Script ScriptFault → Result Script ScriptError → Type 0
Reads said (Ok s) = said ≡ Ok s
Reads said (Err (script_error.Fault f)) = said ≡ Err f
Reads said (Err script_error.NoMemory) = Unit {0}

-- this script, or want of memory
abbrev pub IsReadAs : Script → Result Script ScriptError → Type 0
IsReadAs s (Ok t) = t ≡ s
IsReadAs s (Err (script_error.Fault f)) = ⊥
IsReadAs s (Err script_error.NoMemory) = Unit {0}
