-- The lines of a text, one after the other.
use Rattle.std.proofs.Common.{◌≡◌, ℕ, ◌+◌, ◌≤◌, Bool, true, false, nat_lt, if◌then◌else◌, List, [], ◌∷◌, Result, Ok, Err, IfOk, refl, sym, ap, ◌∙◌, subst, arith}
use Rattle.std.proofs.lemmas.Bool.{ltb-false}
use Rattle.ds_model.specs.declared.script.Script.{Script}
use Rattle.ds_model.specs.declared.script.ScriptFault.{ScriptFault}
use Rattle.ds_model.specs.declared.script.FaultKind.{FaultKind}
use Rattle.script_line.specs.declared.line.LineError.{LineError}
use Rattle.script_line.specs.declared.line.LineError.TheVariants as line_error
use Rattle.script_text.specs.declared.draft.Draft.{Draft}
use Rattle.script_text.specs.TextLines.{TextLine}
use Rattle.script_text.specs.Indexes.{IsStep}
use Rattle.script_text.specs.Reading.{at_line, error_at, finished, go_on, read_lines, step, step_bytes, Ends, Reads}
use Rattle.script_text.proofs.Grows.{Grows, step_grows}

pub stopped : (members number : ℕ) (d : Draft) (l : TextLine) (ls : List TextLine) (now : Draft) (said : Result Script ScriptFault) (e : LineError) → IsStep (step members d l) now (Err e) → read_lines members number d (l ∷ ls) ≡ said → Reads said (Err (error_at number e))
stopped members number d l ls now said (line_error.Fault kind) h k = sym k ∙ ap (go_on number (λ e. read_lines members (number + 1) e ls)) h
stopped members number d l ls now said line_error.NoMemory h k = tt

pub goes_on : (members number : ℕ) (d : Draft) (l : TextLine) (ls : List TextLine) (e : Draft) (said : Result Script ScriptFault) → step members d l ≡ Ok e → read_lines members number d (l ∷ ls) ≡ said → read_lines members (number + 1) e ls ≡ said
goes_on members number d l ls e said h k = sym (ap (go_on number (λ e. read_lines members (number + 1) e ls)) h) ∙ k

pub grown : (members : ℕ) (d : Draft) (l : TextLine) (e : Draft) → step members d l ≡ Ok e → Grows d e
grown members d l e h = subst (λ (o : Result Draft FaultKind). IfOk o (λ e. Grows d e)) h (step_grows members d l)

short_by : (b : Bool) (kind : FaultKind) (r : Result Draft FaultKind) (e : Draft) → (if b then Err kind else r) ≡ Ok e → b ≡ false
short_by true kind r e h = cc
short_by false kind r e h = refl

pub short : (members : ℕ) (d : Draft) (l : TextLine) (e : Draft) → step members d l ≡ Ok e → l.end ≤ 4194304
short members d l e h = ltb-false 4194304 l.end (short_by (nat_lt 4194304 l.end) _ (step_bytes members d l.bytes) e h)

pub finishes : (number : ℕ) (f : Result Script FaultKind) (said : Result Script ScriptFault) (r : Result Script LineError) → Ends f r → at_line number f ≡ said → (s : Script) → r ≡ Ok s → said ≡ Ok s
finishes number f said (Ok t) h k s e = sym k ∙ ap (at_line number) h ∙ cc
finishes number f said (Err x) h k s e = cc

pub fails : (number : ℕ) (f : Result Script FaultKind) (said : Result Script ScriptFault) (x : LineError) → Ends f (Err x) → at_line number f ≡ said → Reads said (Err (error_at number x))
fails number f said (line_error.Fault kind) h k = sym k ∙ ap (at_line number) h
fails number f said line_error.NoMemory h k = tt
