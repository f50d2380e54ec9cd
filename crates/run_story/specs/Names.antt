-- Whether a report has a transaction of a name, and which it is.
use Rattle.std.specs.Prelude.{ℕ, Bool, List, Option}
use Rattle.std.specs.List.{list_any, position_from}
use Rattle.std.specs.Str.{bytes_eq}
use Rattle.ds_model.specs.declared.report.ReportEntry.{ReportEntry}

abbrev pub is_named : List ℕ → ReportEntry → Bool
is_named name e = bytes_eq e.name name

abbrev pub has_name : List ℕ → List ReportEntry → Bool
has_name name entries = list_any (is_named name) entries

-- the number of the first of that name
unfoldable pub number_named : List ℕ → List ReportEntry → Option ℕ
number_named name entries = position_from (is_named name) 0 entries
