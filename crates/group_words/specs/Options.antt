-- The options of a command line.
use Rattle.std.specs.Prelude.{ℕ, ◌+◌, ◌*◌, ◌^◌, ◌-◌, ◌==◌, Bool, true, false, not, ◌&&◌, if◌then◌else◌, nat_le, List, [], ◌∷◌, take, drop, find, Option, Some, option_map, option_and_then, is_some, unwrap_or, codes}
use Rattle.std.specs.List.{list_all, list_any, position}
use Rattle.std.specs.Str.{bytes_eq}
use Rattle.number_text.specs.Numbers.{number_of}
use Rattle.group_words.specs.declared.setting.Setting.{Setting}
use Rattle.group_words.specs.declared.setting.Setting.TheVariants.{Members, Agents, Locks, Records, Cache, Pool, Pages, Seed, Trace}
use Rattle.group_words.specs.declared.given.Given.{Given}

-- An option: its name, the least and the greatest number that it takes, and its number where it is not given.
pub record Rule : Type 0 where
  pub name : List ℕ
  pub least : ℕ
  pub greatest : ℕ
  pub usual : ℕ

abbrev pub rule : List ℕ → ℕ → ℕ → ℕ → Rule
rule n l g u = record { name = n; least = l; greatest = g; usual = u }

-- `--trace` is given without a number, and counts as the number 1. A seed that is not given is none, and no number.
abbrev pub rule_of : Setting → Rule
rule_of Members = rule (codes "--members") 1 32 4
rule_of Agents = rule (codes "--agents") 1 16 8
rule_of Locks = rule (codes "--locks") 1 65536 4096
rule_of Records = rule (codes "--records") 2 65536 16384
rule_of Cache = rule (codes "--cache") 4 65536 1024
rule_of Pool = rule (codes "--pool") 4 4096 256
rule_of Pages = rule (codes "--pages") 1 65536 4096
rule_of Seed = rule (codes "--seed") 0 (2 ^ 64 - 1) 0
rule_of Trace = rule (codes "--trace") 1 1 0

-- an option's name without its two hyphens
abbrev pub plain_name : Setting → List ℕ
plain_name s = drop 2 (rule_of s).name

-- the options that take a number
abbrev pub numbered : List Setting
numbered = Members ∷ Agents ∷ Locks ∷ Records ∷ Cache ∷ Pool ∷ Pages ∷ Seed ∷ []

-- the option of this name that takes a number
abbrev pub setting_of : List ℕ → Option Setting
setting_of name = find (λ s. bytes_eq (rule_of s).name name) numbered

abbrev pub given_as : ℕ → Setting → Given
given_as n s = record { setting = s; number = n }

-- an option with its number
abbrev pub with_number : Setting → List ℕ → Option Given
with_number s number = option_map (λ n. given_as n s) (number_of number)

-- an option and its number in one word, on both sides of the first `=` (61)
abbrev pub joined : List ℕ → Option Given
joined word = option_and_then (λ at. option_and_then (λ s. with_number s (drop (at + 1) word)) (setting_of (take at word))) (position (λ (b : ℕ). b == 61) word)

-- an option in one word
abbrev pub in_one_word : List ℕ → Option Given
in_one_word word = if bytes_eq word (rule_of Trace).name then Some (given_as 1 Trace) else joined word

-- an option in two words, its name and its number
abbrev pub in_two_words : List ℕ → List ℕ → Option Given
in_two_words name number = option_and_then (λ s. with_number s number) (setting_of name)

abbrev pub and_more : Option Given → Option (List Given) → Option (List Given)
and_more first more = option_and_then (λ given. option_map (λ others. given ∷ others) more) first

-- the options that the words give, in their order
unfoldable pub given_of : List (List ℕ) → Option (List Given)
given_of [] = Some []
given_of (word ∷ []) = and_more (in_one_word word) (Some [])
given_of (word ∷ next ∷ words) =
    if is_some (setting_of word) then and_more (in_two_words word next) (given_of words)
    else and_more (in_one_word word) (given_of (next ∷ words))

abbrev pub is_for : Setting → Given → Bool
is_for s given = bytes_eq (rule_of s).name (rule_of given.setting).name

abbrev pub number_given : Setting → List Given → Option ℕ
number_given s given = option_map (λ g. g.number) (find (is_for s) given)

-- an option's number, given or not
abbrev pub number_for : Setting → List Given → ℕ
number_for s given = unwrap_or (number_given s given) (rule_of s).usual

-- no option is given twice
abbrev pub are_once : List Given → Bool
are_once [] = true
are_once (first ∷ given) = not (list_any (is_for first.setting) given) && are_once given

abbrev pub is_in_range : Given → Bool
is_in_range given = nat_le (rule_of given.setting).least given.number && nat_le given.number (rule_of given.setting).greatest

-- the cache has 4 entries or more for each member
abbrev pub has_cache_for_members : List Given → Bool
has_cache_for_members given = nat_le (4 * number_for Members given) (number_for Cache given)

abbrev pub are_allowed : List Given → Bool
are_allowed given = list_all is_in_range given && (are_once given && has_cache_for_members given)

-- measured work has no seed and no trace, and 4 members
abbrev pub suits_work_as : ℕ → Setting → Bool
suits_work_as n Seed = false
suits_work_as n Trace = false
suits_work_as n Members = n == 4
suits_work_as n _ = true

abbrev pub suits_work : Given → Bool
suits_work given = suits_work_as given.number given.setting
