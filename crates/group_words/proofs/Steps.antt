-- The options of a command line, read word by word.
use Rattle.std.proofs.Common.{ℕ, List, [], ◌∷◌, Option, Some, None, option_map}
use Rattle.group_words.specs.Options.{with_number, setting_of, in_one_word}
use Rattle.group_words.specs.declared.setting.Setting.{Setting}
use Rattle.group_words.specs.declared.given.Given.{Given}

-- what one word does: the option's number is the next word, or the option is given
pub data Step : Type 0 where
  Waits : Setting → Step
  Gives : Given → Step

-- a word behind a complete option, which may name the option
abbrev pub begins : List ℕ → Option Setting → Option Step
begins word (Some s) = Some (Waits s)
begins word None = option_map Gives (in_one_word word)

-- a word where an option may wait for its number
abbrev pub step_of : Option Setting → List ℕ → Option Step
step_of (Some s) word = option_map Gives (with_number s word)
step_of None word = begins word (setting_of word)

abbrev pub and_then : Option Step → (Option Setting → Option (List Given)) → Option (List Given)
and_then None next = None
and_then (Some (Waits s)) next = next (Some s)
and_then (Some (Gives given)) next = option_map (λ others. given ∷ others) (next None)

-- at the end of the words, where no option may wait
abbrev pub ended : Option Setting → Option (List Given)
ended None = Some []
ended (Some s) = None

-- the options that these words give, where one may wait for its number
unfoldable pub given_after : Option Setting → List (List ℕ) → Option (List Given)
given_after waiting [] = ended waiting
given_after waiting (word ∷ words) = and_then (step_of waiting word) (λ next. given_after next words)
