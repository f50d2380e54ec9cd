-- The options as clap parses them.
use Rattle.std.specs.Prelude.{ℕ, ◌||◌, Bool, true, false, not, if◌then◌else◌, List, [], ◌∷◌, ◌++◌, map, find, Option, Some, None, option_map, option_and_then, is_some, codes}
use Rattle.std.specs.Str.{bytes_eq}
use Rattle.clap.specs.Lexer.{strip_byte, is_long_word}
use Rattle.clap.specs.Words.{App, Row, Rule, Text, new_rule, first_of}
use Rattle.clap.specs.Simple.{new_shape}
use Rattle.clap.specs.declared.builder.action.ArgAction.TheVariants.{SetTrue}
use Rattle.clap.specs.declared.parser.matches.ValueSource.{ValueSource}
use Rattle.clap.specs.declared.parser.matches.ValueSource.TheVariants.{CommandLine}
use Rattle.group_words.specs.Options.{with_number, given_as, numbered, plain_name, setting_of, given_of, are_once}
use Rattle.group_words.specs.declared.setting.Setting.TheVariants.{Trace}
use Rattle.group_words.specs.declared.given.Given.{Given}

-- an option that takes a value, as clap is told it
abbrev pub option_rule : Text → Rule
option_rule name = record (new_rule name) { long = Some name }

-- an option without a value, as clap is told it
abbrev pub flag_rule : Text → Rule
flag_rule name = record (option_rule name) { action = Some SetTrue }

-- the names of the options that take a number
abbrev pub value_names : List Text
value_names = map plain_name numbered

-- the command of which clap parses the words
abbrev pub options_command : App
options_command = record {
  top = record (new_shape (codes "options")) {
    rules = map option_rule value_names ++ flag_rule (codes "trace") ∷ [];
    no_binary_name = true;
    disable_help_flag = true;
  };
  subs = [];
}

-- the word begins with `--` and a name, or with no hyphen (45): it is neither `--` nor a short option
abbrev pub is_well_formed : Text → Bool
is_well_formed word = not (is_some (strip_byte 45 word)) || is_long_word word

-- where what clap found under this name came from: the words, or its own default
abbrev pub source_of : Text → List Row → Option ValueSource
source_of name rows = option_and_then (λ r. r.source) (find (λ r. bytes_eq r.id name) rows)

abbrev pub is_by_words : Option ValueSource → Bool
is_by_words (Some CommandLine) = true
is_by_words _ = false

-- the option of this name, by the value that clap found
abbrev pub option_in : List Row → Text → Option Given
option_in rows name =
    if bytes_eq name (codes "trace") then Some (given_as 1 Trace)
    else option_and_then (λ s. option_and_then (with_number s) (first_of name rows)) (setting_of (codes "--" ++ name))

abbrev pub before_more : Option Given → Option (List Given) → Option (List Given)
before_more first more = option_and_then (λ given. option_map (λ others. given ∷ others) more) first

-- the options of these names that the words gave
abbrev pub options_in : List Row → List Text → Option (List Given)
options_in rows [] = Some []
options_in rows (name ∷ names) =
    if is_by_words (source_of name rows) then before_more (option_in rows name) (options_in rows names)
    else options_in rows names

-- the options that clap found
abbrev pub parsed : List Row → Option (List Given)
parsed rows = options_in rows (map (λ r. r.id) rows)

abbrev pub if_once : List Given → Option (List Given)
if_once given = if are_once given then Some given else None

-- the options that the words give, each once
abbrev pub given_once : List (List ℕ) → Option (List Given)
given_once words = option_and_then if_once (given_of words)
