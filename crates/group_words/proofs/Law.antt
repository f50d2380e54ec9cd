-- What clap makes of well formed words, and the options that they give.
use Rattle.std.proofs.Common.{◌≡◌, ◌∙◌, true, false, refl, sym, ap, List, [], ◌∷◌, Option, Some, None, option_and_then, is_some, fold, ◌⊎◌, inl, inr}
use Rattle.std.specs.List.{list_all}
use Rattle.clap.specs.Kinds.{IsAmong, Kinds, or_else}
use Rattle.clap.specs.Words.{HasMatchesOf, found_of, rows_of}
use Rattle.clap.specs.declared.error.kind.ErrorKind.{ErrorKind}
use Rattle.clap.specs.declared.error.kind.ErrorKind.TheVariants.{OutOfMemory}
use Rattle.clap.specs.declared.parser.matches.ArgMatches.{ArgMatches}
use Rattle.group_words.specs.Faults.{fault_by}
use Rattle.group_words.specs.declared.order.WordsFault.TheVariants.{NoMemory, Refused}
use Rattle.clap.specs.Walk.{Row, Text, Walk, nothing_held, settled, walk, walk_from, walked, with_default}
use Rattle.clap.specs.Simple.{built, entered, is_simple, matches_of}
use Rattle.clap.specs.Faults.{entered_fault, fault_of, is_simple_and_free, level_fault, settle_fault, turn_fault, walk_fault}
use Rattle.group_words.specs.Parsed.{given_once, if_once, is_well_formed, options_command, parsed, value_names}
use Rattle.group_words.specs.declared.given.Given.{Given}
use Rattle.group_words.proofs.Steps.{given_after}
use Rattle.group_words.proofs.Pairs.{word_by_word}
use Rattle.group_words.proofs.Table.{by_id, by_index, by_long, defaults_among, no_defaults_fault, numbered, rules}
use Rattle.group_words.proofs.Ties.{found_in, full, tied}
use Rattle.group_words.proofs.Walked.{built_trace, gate, outcome, reads, shape}

abbrev ended : Walk → List Text → Option (List Row)
ended w words = outcome rules numbered by_long by_id by_index w words

-- where the walk and the last option fail, by their faults
ends : (w : Walk) (words : List Text)
    → ended w words ≡ gate (or_else (walk_fault (shape rules) [] w words) (settle_fault rules false (fold (walked rules []) w words).held)) (Some (settled rules (fold (walked rules []) w words).held).rows)
unfolding outcome walk_fault
ends w [] = refl
ends w (word ∷ words) = go (turn_fault (shape rules) [] w word) (ends (walked rules [] w word) words)
  where
    go : (f : Kinds)
        → ended (walked rules [] w word) words ≡ gate (or_else (walk_fault (shape rules) [] (walked rules [] w word) words) (settle_fault rules false (fold (walked rules []) w (word ∷ words)).held)) (Some (settled rules (fold (walked rules []) w (word ∷ words)).held).rows)
        → gate f (ended (walked rules [] w word) words)
        ≡ gate (or_else (or_else f (walk_fault (shape rules) [] (walked rules [] w word) words)) (settle_fault rules false (fold (walked rules []) w (word ∷ words)).held)) (Some (settled rules (fold (walked rules []) w (word ∷ words)).held).rows)
    go [] more = more
    go (k ∷ ks) more = refl

no_subcommand : (words : List Text) (stop : Option (Text × List Text))
    → level_fault (shape rules) [] nothing_held words (is_some (entered (built options_command) stop)) (entered_fault (built options_command) stop) ≡ level_fault (shape rules) [] nothing_held words false []
no_subcommand words None = refl
no_subcommand words (Some p) = refl

-- nothing fails behind the walk and the last option
fault_is : (words : List Text)
    → fault_of options_command words ≡ or_else (walk_fault (shape rules) [] (walk_from nothing_held) words) (or_else (settle_fault rules false (walk rules [] nothing_held words).held) [])
fault_is words =
    no_subcommand words (walk rules [] nothing_held words).stopped
    ∙ ap (λ (d : Kinds). or_else (walk_fault (shape rules) [] (walk_from nothing_held) words) (or_else (settle_fault rules false (walk rules [] nothing_held words).held) (or_else d [])))
    (no_defaults_fault value_names (settled rules (walk rules [] nothing_held words).held).rows)

matches_are : (words : List Text) → matches_of options_command words ≡ with_default (settled rules (walk rules [] nothing_held words).held).rows built_trace
matches_are words = defaults_among value_names (settled rules (walk rules [] nothing_held words).held).rows

two_faults : (f g : Kinds) (rows : List Row) → gate (or_else f (or_else g [])) (found_in rows) ≡ option_and_then found_in (gate (or_else f g) (Some rows))
two_faults [] [] rows = refl
two_faults [] (k ∷ ks) rows = refl
two_faults (k ∷ ks) g rows = refl

alone : (more : Option (List Given)) → full (Some []) more ≡ option_and_then if_once more
alone None = refl
alone (Some m) = refl

-- where clap refuses the words they give no options, and where it takes them its matches are the options
pub clap_gives : (words : List Text) → list_all is_well_formed words ≡ true → gate (fault_of options_command words) (parsed (matches_of options_command words)) ≡ given_once words
clap_gives words formed =
    let end = (walk rules [] nothing_held words).held in
    ap (λ f. gate f (parsed (matches_of options_command words))) (fault_is words)
    ∙ ap (λ rows. gate (or_else (walk_fault (shape rules) [] (walk_from nothing_held) words) (or_else (settle_fault rules false end) [])) (parsed rows)) (matches_are words)
    ∙ two_faults (walk_fault (shape rules) [] (walk_from nothing_held) words) (settle_fault rules false end) (settled rules end).rows
    ∙ ap (option_and_then found_in) (sym (ends (walk_from nothing_held) words) ∙ (reads rules numbered by_long by_id by_index words formed).0 [] None)
    ∙ (tied words formed).0 [] refl refl
    ∙ alone (given_after None words)
    ∙ ap (option_and_then if_once) (word_by_word words)

pub is_simple_command : is_simple options_command ≡ true
is_simple_command = refl

pub is_free_command : is_simple_and_free options_command ≡ true
is_free_command = refl

-- a parse that clap takes found the options that the words give
pub takes : (m : ArgMatches) (words : List Text) → list_all is_well_formed words ≡ true → fault_of options_command words ≡ [] → HasMatchesOf options_command words m → parsed (rows_of (found_of m)) ≡ given_once words
takes m words formed none has =
    ap parsed (has is_simple_command).0 ∙ (sym (ap (λ f. gate f (parsed (matches_of options_command words))) none) ∙ clap_gives words formed)

-- words that clap refuses give none
pub refuses : (kind : ErrorKind) (words : List Text) → list_all is_well_formed words ≡ true → (kind ≡ OutOfMemory) ⊎ IsAmong kind (fault_of options_command words) → fault_by kind ≡ Refused → given_once words ≡ None
refuses kind words formed has refused = go has (fault_of options_command words) refl
  where
    go : (kind ≡ OutOfMemory) ⊎ IsAmong kind (fault_of options_command words) → (f : Kinds) → fault_of options_command words ≡ f → given_once words ≡ None
    go (inl memory) f is =
        let bad : NoMemory ≡ Refused = rw memory at refused in
        absurd cc
    go (inr among) [] is =
        let bad : IsAmong kind [] = rw is at among in
        absurd bad
    go (inr among) (k ∷ ks) is = sym (clap_gives words formed) ∙ ap (λ f. gate f (parsed (matches_of options_command words))) is
