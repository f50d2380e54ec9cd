-- Lists that grow at their ends.
use Rattle.std.proofs.Common.{◌≡◌, ℕ, zero, suc, ◌-◌, ◌+◌, List, [], ◌∷◌, ◌++◌, length, Option, Some, None, refl, ap, arith, subst}
use Rattle.std.specs.List.{slice_get}
use Rattle.ds_base.specs.declared.row.Row.{Row}
use Rattle.ds_model.specs.declared.report.ToldRead.{ToldRead}
use Rattle.ds_model.specs.declared.report.ReportEntry.{ReportEntry}
use Rattle.report_text.specs.Grammar.{is_before}
use Rattle.report_text.specs.Steps.{may_follow, last_with, told_with}

pub last_with_push : (es : List ReportEntry) (e : ReportEntry) (x : ToldRead) → last_with (es ++ e ∷ []) x ≡ es ++ (record e { told = told_with e.told x }) ∷ []
last_with_push [] e x = refl
last_with_push (a ∷ []) e x = refl
last_with_push (a ∷ b ∷ es) e x = ap (λ rest. a ∷ rest) (last_with_push (b ∷ es) e x)

pub follows_last : (rows : List Row) (last row : Row) → slice_get rows (length rows - 1) ≡ Some last → may_follow rows row ≡ is_before last row
follows_last [] last row e = cc
follows_last (a ∷ []) last row e = let same : a ≡ last = cc in ap (λ r. is_before r row) same
follows_last (a ∷ b ∷ rows) last row e =
    let one : length (a ∷ b ∷ rows) - 1 ≡ suc (length (b ∷ rows) - 1) = omega arith in
    follows_last (b ∷ rows) last row (subst (λ n. slice_get (a ∷ b ∷ rows) n ≡ Some last) one e)
