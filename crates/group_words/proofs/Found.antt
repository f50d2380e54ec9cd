-- The options of clap's rows, name by name.
use Rattle.std.proofs.Common.{◌≡◌, refl, ap, List, [], ◌∷◌, ◌++◌, map, drop, true, false, Option, Some, None, option_map, append-nil, append_assoc, unwrap_or}
use Rattle.std.specs.Prelude.{slice_get}
use Rattle.clap.specs.Facts.{Entry}
use Rattle.clap.specs.Walk.{Row, Text, row_of, rows_of}
use Rattle.clap.specs.declared.parser.matches.Found.{Found}
use Rattle.group_words.specs.Parsed.{is_by_words, option_in, options_in, source_of}
use Rattle.group_words.specs.declared.given.Given.{Given}

pub names_by_rows : (f : Found) → map (λ e. e.0.now) f.entries.items ≡ map (λ r. r.id) (rows_of f)
names_by_rows f = go f.entries.items
  where
    go : (es : List Entry) → map (λ (e : Entry). e.0.now) es ≡ map (λ (r : Row). r.id) (map row_of es)
    go [] = refl
    go (e ∷ es) = ap (λ (rest : List Text). e.0.now ∷ rest) (go es)

-- the options of these names behind those that were found
abbrev pub behind_found : List Given → List Row → List Text → Option (List Given)
behind_found done rows names = option_map (λ more. done ++ more) (options_in rows names)

pub none_found : (rows : List Row) (names : List Text) → behind_found [] rows names ≡ options_in rows names
none_found rows names = go (options_in rows names)
  where
    go : (o : Option (List Given)) → option_map (λ more. [] ++ more) o ≡ o
    go None = refl
    go (Some more) = refl

pub all_found : (done : List Given) (rows : List Row) (names : List Text) → None ≡ slice_get names 0 → behind_found done rows names ≡ Some done
all_found done rows [] e = rw (append-nil done) refl
all_found done rows (name ∷ names) e = absurd cc

pub lacks_number : (done : List Given) (rows : List Row) (names : List Text) (name : Text) → Some name ≡ slice_get names 0 → true ≡ is_by_words (source_of name rows) → None ≡ option_in rows name → behind_found done rows names ≡ None
lacks_number done rows [] name e by is = absurd cc
lacks_number done rows (first ∷ names) name e by is =
    let same : name ≡ first = ap (λ o. unwrap_or o name) e in
    rw (← same, ← by, ← is) refl

pub one_found : (done : List Given) (rows : List Row) (names : List Text) (name : Text) (g : Given) → Some name ≡ slice_get names 0 → true ≡ is_by_words (source_of name rows) → Some g ≡ option_in rows name
    → behind_found (done ++ g ∷ []) rows (drop 1 names) ≡ behind_found done rows names
one_found done rows [] name g e by is = absurd cc
one_found done rows (first ∷ names) name g e by is =
    let same : name ≡ first = ap (λ o. unwrap_or o name) e in
    rw (← same, ← by, ← is) (go (options_in rows names))
  where
    go : (o : Option (List Given)) → option_map (λ more. (done ++ g ∷ []) ++ more) o ≡ option_map (λ more. done ++ more) (option_map (λ others. g ∷ others) o)
    go None = refl
    go (Some more) = ap Some (append_assoc done (g ∷ []) more)

pub passed_over : (done : List Given) (rows : List Row) (names : List Text) (name : Text) → Some name ≡ slice_get names 0 → false ≡ is_by_words (source_of name rows) → behind_found done rows (drop 1 names) ≡ behind_found done rows names
passed_over done rows [] name e by = absurd cc
passed_over done rows (first ∷ names) name e by =
    let same : name ≡ first = ap (λ o. unwrap_or o name) e in
    rw (← same, ← by) refl
