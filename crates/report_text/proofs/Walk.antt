-- One turn of the reading.
use Rattle.std.proofs.Common.{◌≡◌, ◌==◌, ℕ, zero, suc, ◌+◌, ◌<◌, Bool, true, false, ◌&&◌, if◌then◌else◌, List, [], ◌∷◌, length, Option, Some, None, Result, Ok, Err, refl, ap, sym, ◌∙◌, subst, arith}
use Rattle.std.specs.List.{slice_split}
use Rattle.std.proofs.lemmas.List.Splits.{length-slice_split}
use Rattle.ds_model.specs.declared.report.Report.{Report}
use Rattle.report_text.specs.declared.draft.Draft.{Draft}
use Rattle.report_text.specs.Steps.{report_from, report_then, next_number, step_text, lines_in, finished}

pub from_more : (n : ℕ) (d : Draft) (text : List ℕ) (parts : List (List ℕ)) → 0 < length parts → report_from n d (text ∷ parts) ≡ report_then n (step_text d text) (λ later. report_from (next_number n) later parts)
from_more n d text [] h = absurd (omega arith)
from_more n d text (next ∷ parts) h = refl

some_line : (bytes : List ℕ) → 0 < length (lines_in bytes)
some_line bytes = omega (arith, length-slice_split (λ (b : ℕ). b == 10) bytes)

pub from_line : (n : ℕ) (d : Draft) (rest text after : List ℕ) → lines_in rest ≡ text ∷ lines_in after → report_from n d (lines_in rest) ≡ report_then n (step_text d text) (λ later. report_from (next_number n) later (lines_in after))
from_line n d rest text after e = ap (report_from n d) e ∙ from_more n d text (lines_in after) (some_line after)

pub refuses : (n : ℕ) (d : Draft) (rest text after : List ℕ) → lines_in rest ≡ text ∷ lines_in after → None ≡ step_text d text → report_from n d (lines_in rest) ≡ Err n
refuses n d rest text after e none = from_line n d rest text after e ∙ ap (λ found. report_then n found (λ later. report_from (next_number n) later (lines_in after))) (sym none)

pub goes_on : (n : ℕ) (d later : Draft) (rest text after : List ℕ) → lines_in rest ≡ text ∷ lines_in after → Some later ≡ step_text d text → report_from n d (lines_in rest) ≡ report_from (next_number n) later (lines_in after)
goes_on n d later rest text after e some = from_line n d rest text after e ∙ ap (λ found. report_then n found (λ next. report_from (next_number n) next (lines_in after))) (sym some)

pub ends : (n : ℕ) (d : Draft) (rest : List ℕ) → lines_in rest ≡ rest ∷ [] → report_from n d (lines_in rest) ≡ finished n d rest
ends n d rest e = ap (report_from n d) e
