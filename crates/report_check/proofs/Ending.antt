-- The rows of a replay against those of the logs.
use Rattle.std.proofs.Common.{◌≡◌, ℕ, Bool, List, [], ◌∷◌, map, refl, sym, ap, ◌∙◌}
use Rattle.std.specs.Prelude.{Decides}
use Rattle.std.specs.FinMap as finite
use Rattle.ds_base.specs.declared.row.Row.{Row}
use Rattle.ds_model.specs.declared.history.Entry.{Entry}
use Rattle.ds_model.specs.declared.log.LogRecord.{LogRecord}
use Rattle.ds_model.specs.Rows.{Spot, Rows, listed, entry_of}
use Rattle.ds_model.specs.History.{replay, ArePrintsLegal}
use Rattle.ds_model.specs.Logs.{rows_of_logs}
use Rattle.report_check.specs.Reports.{EndsInRows}

abbrev row_of : Spot × List ℕ → Row
row_of e = record { table = e.0.0; key = e.0.1; value = e.1 }

back : (es : List (Spot × List ℕ)) → map entry_of (map row_of es) ≡ es
back [] = refl
back (e ∷ es) = ap (λ (l : List (Spot × List ℕ)). e ∷ l) (back es)

-- rows that are listed alike are the same
pub same_listed : (m n : Rows) → listed m ≡ listed n → m ≡ n
same_listed m n h = finite.same_entries_map m n (sym (back (finite.entries m)) ∙ ap (map entry_of) h ∙ back (finite.entries n))

pub compared : (r : Bool) (a b rows left : List Row) (opening : Rows) (entries : List Entry) (logs : List (List LogRecord)) → Decides r (a ≡ b) → a ≡ rows → b ≡ left
    → ArePrintsLegal opening entries → rows ≡ listed (replay opening entries) → left ≡ listed (rows_of_logs logs) → Decides r (EndsInRows opening entries logs)
compared r a b rows left opening entries logs same is_a is_b legal is_rows is_left = (
  λ e. record { legal = legal; rows = same_listed (replay opening entries) (rows_of_logs logs) (sym (is_a ∙ is_rows) ∙ same.0 e ∙ is_b ∙ is_left) },
  λ h. same.1 (is_a ∙ is_rows ∙ ap listed h.rows ∙ sym (is_b ∙ is_left)),
)
