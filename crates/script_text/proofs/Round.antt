-- The canonical text of a script is read as that script.
use Rattle.std.proofs.Common.{◌≡◌, ℕ, ◌+◌, ◌≤◌, Bool, true, false, nat_lt, if◌then◌else◌, List, [], ◌∷◌, ◌++◌, length, Option, Some, None, Result, Ok, Err, All, refl, sym, ap, ◌∙◌, subst, arith, length-append}
use Rattle.std.proofs.lemmas.Bool.Decides.{nat_tests}
use Rattle.ds_model.specs.declared.script.Op.{Op}
use Rattle.ds_model.specs.declared.script.Script.{Script}
use Rattle.ds_model.specs.declared.script.ScriptFault.{ScriptFault}
use Rattle.ds_model.specs.declared.script.FaultKind.{FaultKind}
use Rattle.ds_model.specs.declared.script.FaultKind.TheVariants as fault
use Rattle.ds_model.specs.ScriptText.{op_text, script_text, line}
use Rattle.ds_model.specs.Scripts.{IsScript}
use Rattle.script_line.specs.declared.line.Keyword.{Keyword}
use Rattle.script_line.specs.declared.line.Line.{Line}
use Rattle.script_line.specs.Words.{and_then}
use Rattle.script_line.specs.Lines.{is_skipped, keyword_in, line_in}
use Rattle.script_line.specs.Canonical.{IsLine, IsPrinted, keyword_for, op_line_text, text_of}
use Rattle.script_text.specs.declared.draft.Draft.{Draft}
use Rattle.script_text.specs.TextLines.{TextLine, line_of, lines_behind, lines_of, pieces}
use Rattle.script_text.specs.Drafts.{closed, place_fault, start, step_line}
use Rattle.script_text.specs.Reading.{at_line, finished, go_on, or_end, read_lines, script_of, step, step_bytes, step_words, unless}
use Rattle.script_text.proofs.Spelled.{script_is, script_lines, spelled}
use Rattle.script_text.proofs.Cutting.{line_is, piece, printed}
use Rattle.script_text.proofs.Runs.{Runs, Takes, run_script}

-- what is known of the canonical text of a line
pub record Texts (m : ℕ) : Type 0 where
  pub read : (l : Line) → IsLine m l → line_in m (text_of l) ≡ Ok l
  pub counts : (l : Line) → IsLine m l → is_skipped (text_of l) ≡ false
  pub keyword : (l : Line) → IsLine m l → keyword_in (text_of l) ≡ Some (keyword_for l)
  pub printed : (l : Line) → IsLine m l → All IsPrinted (text_of l)

not_past : (a b : ℕ) → b ≤ a → nat_lt a b ≡ false
not_past a b h = grind (arith, nat_tests)

steps_words : (m : ℕ) (d e : Draft) (l : Line) → Texts m → Takes m d l e → step_words m d (text_of l) ≡ Ok e
steps_words m d e l t h =
    ap (λ (o : Option Keyword). unless (place_fault d o) (and_then (step_line d) (line_in m (text_of l)))) (t.keyword l h.ranged)
    ∙ ap (λ (o : Option FaultKind). unless o (and_then (step_line d) (line_in m (text_of l)))) h.placed_right
    ∙ ap (and_then (step_line d)) (t.read l h.ranged)
    ∙ h.steps

steps_bytes : (m : ℕ) (d e : Draft) (l : Line) → Texts m → Takes m d l e → step_bytes m d (text_of l) ≡ Ok e
steps_bytes m d e l t h = ap (λ (b : Bool). if b then Ok d else step_words m d (text_of l)) (t.counts l h.ranged) ∙ steps_words m d e l t h

steps_line : (m : ℕ) (d e : Draft) (l : Line) (end : ℕ) → Texts m → Takes m d l e → end ≤ 4194304 → step m d (record { bytes = line_of (text_of l ++ 10 ∷ []); end = end }) ≡ Ok e
steps_line m d e l end t h k =
    ap (λ (b : Bool). if b then Err fault.TooLong else step_bytes m d (line_of (text_of l ++ 10 ∷ []))) (not_past 4194304 end k)
    ∙ ap (step_bytes m d) (line_is (text_of l) (printed (text_of l) (t.printed l h.ranged)))
    ∙ steps_bytes m d e l t h

record Gives (m number before : ℕ) (d : Draft) (text : List ℕ) (e : Draft) : Type 0 where
  last : ℕ
  gives : read_lines m number d (lines_behind before (pieces text)) ≡ at_line last (finished e)

one_more : (m number before : ℕ) (d n e : Draft) (l : Line) (text : List ℕ) → Texts m → Takes m d l n → before + length (text_of l ++ 10 ∷ []) ≤ 4194304 → Gives m (number + 1) (before + length (text_of l ++ 10 ∷ [])) n text e → Gives m number before d ((text_of l ++ 10 ∷ []) ++ text) e
one_more m number before d n e l text t h k rest = record {
  last = rest.last;
  gives =
      ap (λ (ps : List (List ℕ)). read_lines m number d (lines_behind before ps)) (piece (text_of l) text (printed (text_of l) (t.printed l h.ranged)))
      ∙ ap (go_on number (λ f. read_lines m (number + 1) f (lines_behind (before + length (text_of l ++ 10 ∷ [])) (pieces text)))) (steps_line m d n l (before + length (text_of l ++ 10 ∷ [])) t h k)
      ∙ rest.gives;
}

read_runs : (m number before : ℕ) (d : Draft) (ls : List Line) (e : Draft) → Texts m → Runs m d ls e → before + length (spelled ls) ≤ 4194304 → Gives m number before d (spelled ls) e
read_runs m number before d [] e t h k = record { last = number; gives = ap (λ (f : Draft). at_line number (finished f)) h }
read_runs m number before d (l ∷ ls) e t h k =
    let long = length-append (text_of l ++ 10 ∷ []) (spelled ls) in
    one_more m number before d h.0 e l (spelled ls) t h.1 (omega arith) (read_runs m (number + 1) (before + length (text_of l ++ 10 ∷ [])) h.0 ls e t h.2 (omega arith))

pub read_back : (m : ℕ) (s : Script) → Texts m → ((o : Op) → op_text o ≡ line (op_line_text o)) → IsScript m s → length (script_text s) ≤ 4194304 → script_of m (script_text s) ≡ Ok s
unfolding script_of
read_back m s t ops h k =
    let text = script_is ops s in
    let run = run_script m s h in
    let short : 0 + length (spelled (script_lines s)) ≤ 4194304 = omega (arith, ap length text) in
    let got = read_runs m 1 0 start (script_lines s) run.last t run.runs short in
    ap (λ (bytes : List ℕ). read_lines m 1 start (lines_of bytes)) text ∙ got.gives ∙ ap (λ (r : Result Draft FaultKind). at_line got.last (or_end r)) run.ends
