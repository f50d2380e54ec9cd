-- Words that begin with one hyphen, and `--`, give no options.
use Rattle.std.proofs.Common.{◌≡◌, ◌≢◌, ◌∙◌, ◌==◌, ℕ, Bool, true, false, zero, suc, refl, sym, ap, List, [], ◌∷◌, length, Option, Some, None, option_and_then, unwrap_or, arith, drop}
use Rattle.std.specs.Prelude.{String}
use Rattle.std.specs.Global.{Global}
use Rattle.std.specs.List.{list_all, position}
use Rattle.clap.specs.Lexer.{long_of, long_of_rest, strip_byte}
use Rattle.clap.specs.Walk.{Text}
use Rattle.group_words.specs.Options.{are_once, given_of, joined}
use Rattle.group_words.specs.Orders.{may_be_options, texts}
use Rattle.group_words.specs.Parsed.{given_once, if_once, is_well_formed}
use Rattle.group_words.specs.declared.given.Given.{Given}
use Rattle.group_words.specs.declared.setting.Setting.{Setting}
use Rattle.group_words.proofs.Pairs.{word_by_word}
use Rattle.group_words.proofs.Steps.{Step, Waits, Gives, and_then, given_after, step_of}
use Rattle.group_words.proofs.Ties.{hyphen_first, hyphen_no_number}

-- each word from an index on is well formed
abbrev pub formed_from : ℕ → List (String Global) → Bool
formed_from i words = list_all is_well_formed (texts (drop i words))

pub no_words : (words : List (String Global)) → length words ≡ 0 → given_once (texts words) ≡ Some []
unfolding given_of
no_words [] e = refl
no_words (w ∷ words) e = absurd cc

one_hyphen_joined : (x : ℕ) (xs : Text) → (45 == x) ≡ false → (o : Option ℕ) → position (λ (b : ℕ). b == 61) (45 ∷ x ∷ xs) ≡ o → joined (45 ∷ x ∷ xs) ≡ None
one_hyphen_joined x xs e None is = rw is refl
one_hyphen_joined x xs e (Some zero) is = rw is refl
one_hyphen_joined x xs e (Some (suc zero)) is = rw is refl
one_hyphen_joined x xs e (Some (suc (suc at))) is = rw (is, e) refl

one_hyphen : (rest : Text) → long_of (45 ∷ rest) ≡ None → step_of None (45 ∷ rest) ≡ None
one_hyphen [] e = refl
one_hyphen (x ∷ xs) e = go (x == 45) refl
  where
    go : (b : Bool) → (x == 45) ≡ b → step_of None (45 ∷ x ∷ xs) ≡ None
    go false f =
        let other : (45 == x) ≡ false = grind arith in
        rw (other, f, one_hyphen_joined x xs other (position (λ (b : ℕ). b == 61) (45 ∷ x ∷ xs)) refl) refl
    go true f =
        let none : option_and_then long_of_rest (Some xs) ≡ None = rw f at e in
        let same : x ≡ 45 = grind arith in
        last xs none x same
      where
        last : (xs : Text) → long_of_rest xs ≡ None → (x : ℕ) → x ≡ 45 → step_of None (45 ∷ x ∷ xs) ≡ None
        last [] none x same = rw same refl
        last (z ∷ zs) none x same = absurd cc

malformed_step : (word : Text) (waiting : Option Setting) → is_well_formed word ≡ false → (o : Option Text) → strip_byte 45 word ≡ o → (l : Option (Text × Option Text)) → long_of word ≡ l → step_of waiting word ≡ None
malformed_step word waiting e None is l long = let bad : true ≡ false = rw is at e in absurd cc
malformed_step word waiting e (Some rest) is (Some p) long = let bad : true ≡ false = rw (long, is) at e in absurd cc
malformed_step word None e (Some rest) is None long =
    let same = hyphen_first word rest is in
    let none : long_of (45 ∷ rest) ≡ None = rw same at long in
    rw same (one_hyphen rest none)
malformed_step word (Some s) e (Some rest) is None long = rw (hyphen_first word rest is, hyphen_no_number rest) refl

none_behind : (step : Option Step) (next : Option Setting → Option (List Given)) → ((waiting : Option Setting) → next waiting ≡ None) → and_then step next ≡ None
none_behind None next none = refl
none_behind (Some (Waits s)) next none = none (Some s)
none_behind (Some (Gives g)) next none = rw (none None) refl

malformed : (words : List Text) (waiting : Option Setting) → list_all is_well_formed words ≡ false → given_after waiting words ≡ None
unfolding given_after
malformed [] waiting e = absurd cc
malformed (word ∷ words) waiting e = go (is_well_formed word) refl (malformed words)
  where
    go : (b : Bool) → is_well_formed word ≡ b → ((w : Option Setting) → list_all is_well_formed words ≡ false → given_after w words ≡ None) → given_after waiting (word ∷ words) ≡ None
    go false f more = rw (malformed_step word waiting f (strip_byte 45 word) refl (long_of word) refl) refl
    go true f more =
        let rest : list_all is_well_formed words ≡ false = rw f at e in
        none_behind (step_of waiting word) (λ next. given_after next words) (λ w. more w rest)

pub malformed_give_none : (words : List Text) → list_all is_well_formed words ≡ false → given_once words ≡ None
malformed_give_none words e =
    let none : given_of words ≡ None = sym (word_by_word words) ∙ malformed words None e in
    rw none refl

-- options that stand once stand once
pub are_once_given : (words : List Text) (given : List Given) → given_once words ≡ Some given → are_once given ≡ true
are_once_given words given e = among (given_of words) e
  where
    once : (g : List Given) → (b : Bool) → are_once g ≡ b → if_once g ≡ Some given → are_once given ≡ true
    once g true t is =
        let some : Some g ≡ Some given = rw t at is in
        let same : g ≡ given = ap (λ o. unwrap_or o g) some in
        rw (← same) t
    once g false t is = let bad : None ≡ Some given = rw t at is in absurd cc

    among : (o : Option (List Given)) → option_and_then if_once o ≡ Some given → are_once given ≡ true
    among None is = absurd cc
    among (Some g) is = once g (are_once g) refl is

-- well formed words may be options
pub may_be : (words : List (String Global)) → length words ≢ 0 → list_all is_well_formed (texts words) ≡ true → may_be_options (texts words) ≡ true
may_be [] some formed = absurd (some refl)
may_be (w ∷ words) some formed = formed
