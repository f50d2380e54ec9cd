-- The numbers of options that were given in their ranges.
use Rattle.std.proofs.Common.{◌≡◌, ℕ, ◌≤◌, Bool, true, false, List, [], ◌∷◌, find, Option, Some, unwrap_or, arith, refl, ap}
use Rattle.std.proofs.lemmas.Slice.Eq.{bytes_eq-Decides}
use Rattle.std.specs.List.{list_all}
use Rattle.std.specs.Str.{bytes_eq}
use Rattle.group_words.specs.Options.{rule_of, numbered, is_for, is_in_range, number_for, are_allowed}
use Rattle.group_words.specs.declared.given.Given.{Given}
use Rattle.group_words.specs.declared.setting.Setting.{Setting}
use Rattle.group_words.specs.declared.setting.Setting.TheVariants.{Members, Agents, Locks, Records, Cache, Pool, Pages, Seed, Trace}

-- an option is found by its name
abbrev by_name : List ℕ → Option Setting
by_name name = find (λ s. bytes_eq (rule_of s).name name) (Trace ∷ numbered)

found : (s : Setting) → by_name (rule_of s).name ≡ Some s
found Members = refl
found Agents = refl
found Locks = refl
found Records = refl
found Cache = refl
found Pool = refl
found Pages = refl
found Seed = refl
found Trace = refl

pub names_tell : (a b : Setting) → bytes_eq (rule_of a).name (rule_of b).name ≡ true → a ≡ b
names_tell a b h =
    let names : (rule_of a).name ≡ (rule_of b).name = (bytes_eq-Decides (rule_of a).name (rule_of b).name).0 h in
    let same : Some a ≡ Some b = rw (← found a, ← found b, names) refl in
    ap (λ o. unwrap_or o a) same

usual_fits : (s : Setting) → (rule_of s).usual ≤ (rule_of s).greatest
usual_fits Members = omega arith
usual_fits Agents = omega arith
usual_fits Locks = omega arith
usual_fits Records = omega arith
usual_fits Cache = omega arith
usual_fits Pool = omega arith
usual_fits Pages = omega arith
usual_fits Seed = omega arith
usual_fits Trace = omega arith

given_fits : (s : Setting) (given : Given) → is_for s given ≡ true → is_in_range given ≡ true → given.number ≤ (rule_of s).greatest
given_fits s given e h = rw (names_tell s given.setting e) (grind arith)

next_fits : (s : Setting) (first : Given) (given : List Given) (b : Bool) → is_for s first ≡ b → is_in_range first ≡ true → number_for s given ≤ (rule_of s).greatest → number_for s (first ∷ given) ≤ (rule_of s).greatest
next_fits s first given true e h more = rw e (given_fits s first e h)
next_fits s first given false e h more = rw e more

-- the number of an option is at most the greatest of its range
pub number_fits : (s : Setting) (given : List Given) → list_all is_in_range given ≡ true → number_for s given ≤ (rule_of s).greatest
number_fits s [] h = usual_fits s
number_fits s (first ∷ given) h = next_fits s first given (is_for s first) refl (grind arith) (number_fits s given (grind arith))

pub allowed_fits : (s : Setting) (given : List Given) → are_allowed given ≡ true → number_for s given ≤ (rule_of s).greatest
allowed_fits s given h = number_fits s given (grind arith)
