-- What clap's getters give, by its rows.
use Rattle.std.proofs.Common.{◌≡◌, ◌∙◌, sym, refl, ap, find, Option, Some, None, option_map, option_and_then}
use Rattle.std.specs.Str.{bytes_eq}
use Rattle.clap.specs.Matches.{first_value, matched_of}
use Rattle.clap.specs.Walk.{Row, Text, first_of, row_of, rows_of}
use Rattle.clap.specs.Facts.{Entry}
use Rattle.clap.specs.declared.parser.matches.Found.{Found}
use Rattle.clap.specs.declared.parser.matches.MatchedArg.{MatchedArg}
use Rattle.clap.proofs.WalkLemmas.{find_row, first_value-rows}
use Rattle.group_words.specs.Parsed.{source_of}

pub first_by_rows : (f : Found) (id : Text) → first_value f id ≡ first_of id (rows_of f)
first_by_rows = first_value-rows

pub source_by_rows : (f : Found) (id : Text) → option_and_then (λ (a : MatchedArg). a.source) (matched_of f id) ≡ source_of id (rows_of f)
source_by_rows f id = go (find (λ e. bytes_eq e.0.now id) f.entries.items) ∙ ap (option_and_then (λ (r : Row). r.source)) (sym (find_row f.entries.items id))
  where
    go : (o : Option Entry) → option_and_then (λ (a : MatchedArg). a.source) (option_map (λ e. e.1) o) ≡ option_and_then (λ (r : Row). r.source) (option_map row_of o)
    go None = refl
    go (Some e) = refl
