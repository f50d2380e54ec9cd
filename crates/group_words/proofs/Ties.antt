-- The words read for their options, and the options that they give by definition.
use Rattle.std.proofs.Common.{◌≡◌, ◌∙◌, ◌&&◌, ◌||◌, ◌==◌, not, ℕ, Bool, if◌then◌else◌, true, false, zero, suc, refl, sym, ap, List, [], ◌∷◌, ◌++◌, map, length, take, drop, Option, Some, None, option_map, option_and_then, is_some, unwrap_or, arith, codes, nat_lt, nat_le, ◌+◌, append-nil, append_assoc}
use Rattle.std.specs.Str.{bytes_eq}
use Rattle.std.specs.Prelude.{slice_get}
use Rattle.std.specs.List.{list_all, list_any, position, position_or_len}
use Rattle.std.proofs.lemmas.Slice.Eq.{bytes_eq-Decides}
use Rattle.clap.specs.Lexer.{long_of, name_and_value, strip_byte, long_of_rest}
use Rattle.clap.specs.Values.{reading_of}
use Rattle.clap.specs.Walk.{Row, Text, has_row, more_values, with_default}
use Rattle.clap.specs.declared.builder.value_parser.ValueParser.TheVariants as vp
use Rattle.clap.specs.declared.parser.matches.ValueSource.TheVariants.{DefaultValue}
use Rattle.number_text.specs.Numbers.{number_of}
use Rattle.group_words.specs.Parsed.{before_more, if_once, is_by_words, is_well_formed, options_in, parsed}
use Rattle.group_words.specs.Options.{are_once, given_as, is_for, joined, rule_of, setting_of, with_number}
use Rattle.group_words.specs.Options.{numbered as numbered_settings}
use Rattle.group_words.proofs.Steps.{Step, Waits, Gives, and_then, given_after, step_of}
use Rattle.group_words.specs.declared.setting.Setting.{Setting}
use Rattle.group_words.specs.declared.setting.Setting.TheVariants.{Members, Agents, Locks, Records, Cache, Pool, Pages, Seed, Trace}
use Rattle.group_words.specs.declared.given.Given.{Given}
use Rattle.group_words.proofs.Pairs.{found_meets}
use Rattle.group_words.proofs.Table.{named, named_numbered, numbered}
use Rattle.group_words.proofs.Walked.{begun, built_trace, flag_row, no_row_at, plain_hyphen, put, read, row, same_text, trace}

-- ---- texts

pub swapped : (a b : Text) (t : Bool) → bytes_eq a b ≡ t → bytes_eq b a ≡ t
swapped a b true e =
    let same : a ≡ b = (bytes_eq-Decides a b).0 e in
    (bytes_eq-Decides b a).1 (sym same)
swapped a b false e = go (bytes_eq b a) refl
  where
    go : (t : Bool) → bytes_eq b a ≡ t → bytes_eq b a ≡ false
    go false f = f
    go true f =
        let same : b ≡ a = (bytes_eq-Decides b a).0 f in
        let bad : true ≡ false = rw (← (bytes_eq-Decides a b).1 (sym same)) e in
        absurd cc

and_false : (a : Bool) → (a && false) ≡ false
and_false true = refl
and_false false = refl

both : (a b : Bool) → (a && b) ≡ true → (a ≡ true) × (b ≡ true)
both true b e = (refl, e)
both false b e = absurd cc

-- ---- what words do by definition

-- a word with a hyphen is no number
pub hyphen_no_number : (rest : Text) → number_of (45 ∷ rest) ≡ None
hyphen_no_number rest = go (nat_le 1 (length (45 ∷ rest))) refl (nat_le (length (45 ∷ rest)) 20) refl
  where
    go : (a : Bool) → nat_le 1 (length (45 ∷ rest)) ≡ a → (b : Bool) → nat_le (length (45 ∷ rest)) 20 ≡ b → number_of (45 ∷ rest) ≡ None
    go true e true f = rw (e, f) refl
    go true e false f = rw (e, f) refl
    go false e b f = rw e refl

named_is : (word : Text) (s : Setting) → setting_of word ≡ Some s → (rule_of s).name ≡ word
named_is word s e = (bytes_eq-Decides (rule_of s).name word).0 (found_meets (λ t. bytes_eq (rule_of t).name word) numbered_settings s e)

-- no name has the sign `=`
no_sign_in : (s : Setting) → position (λ (b : ℕ). b == 61) (rule_of s).name ≡ None
no_sign_in Members = refl
no_sign_in Agents = refl
no_sign_in Locks = refl
no_sign_in Records = refl
no_sign_in Cache = refl
no_sign_in Pool = refl
no_sign_in Pages = refl
no_sign_in Seed = refl
no_sign_in Trace = refl

signed_is_no_name : (word : Text) (at : ℕ) → position (λ (b : ℕ). b == 61) word ≡ Some at → (o : Option Setting) → setting_of word ≡ o → setting_of word ≡ None
signed_is_no_name word at e None is = is
signed_is_no_name word at e (Some s) is =
    let bad : None ≡ Some at = rw (← no_sign_in s, named_is word s is) e in
    absurd cc

any_by_position : (p : ℕ → Bool) (xs : Text) → list_any p xs ≡ nat_lt (position_or_len p xs) (length xs)
any_by_position p [] = refl
any_by_position p (x ∷ xs) = go (p x) refl (any_by_position p xs)
  where
    go : (b : Bool) → p x ≡ b → list_any p xs ≡ nat_lt (position_or_len p xs) (length xs) → list_any p (x ∷ xs) ≡ nat_lt (position_or_len p (x ∷ xs)) (length (x ∷ xs))
    go true e more = rw e (grind arith)
    go false e more = rw e (grind arith)

whole_before : (p : ℕ → Bool) (xs : Text) → list_any p xs ≡ false → take (position_or_len p xs) xs ≡ xs
whole_before p [] none = refl
whole_before p (x ∷ xs) none = go (p x) refl (whole_before p xs)
  where
    go : (b : Bool) → p x ≡ b → (list_any p xs ≡ false → take (position_or_len p xs) xs ≡ xs) → take (position_or_len p (x ∷ xs)) (x ∷ xs) ≡ x ∷ xs
    go true e more = let bad : true ≡ false = rw e at none in absurd cc
    go false e more =
        let rest : list_any p xs ≡ false = rw e at none in
        let next : 1 + position_or_len p xs ≡ suc (position_or_len p xs) = omega arith in
        rw (e, next, more rest) refl

-- the position of a sign behind two hyphens
sign_behind : (rest : Text) (b : Bool) → list_any (λ (x : ℕ). x == 61) rest ≡ b → position (λ (x : ℕ). x == 61) (45 ∷ 45 ∷ rest) ≡ (if b then Some (suc (suc (position_or_len (λ (x : ℕ). x == 61) rest))) else None)
sign_behind rest true e =
    let low : nat_lt (position_or_len (λ (x : ℕ). x == 61) rest) (length rest) ≡ true = sym (any_by_position (λ x. x == 61) rest) ∙ e in
    let two : 1 + (1 + position_or_len (λ (x : ℕ). x == 61) rest) ≡ suc (suc (position_or_len (λ (x : ℕ). x == 61) rest)) = omega arith in
    let inside : nat_lt (suc (suc (position_or_len (λ (x : ℕ). x == 61) rest))) (length (45 ∷ 45 ∷ rest)) ≡ true = grind arith in
    rw (two, inside) refl
sign_behind rest false e =
    let high : nat_lt (position_or_len (λ (x : ℕ). x == 61) rest) (length rest) ≡ false = sym (any_by_position (λ x. x == 61) rest) ∙ e in
    let two : 1 + (1 + position_or_len (λ (x : ℕ). x == 61) rest) ≡ suc (suc (position_or_len (λ (x : ℕ). x == 61) rest)) = omega arith in
    let past : nat_lt (suc (suc (position_or_len (λ (x : ℕ). x == 61) rest))) (length (45 ∷ 45 ∷ rest)) ≡ false = grind arith in
    rw (two, past) refl

-- a word that begins with two hyphens, by what follows them
abbrev pub does : Text → Option Text → Option Step
does name None = if is_some (named name) then option_map Waits (named name) else if bytes_eq trace name then Some (Gives (given_as 1 Trace)) else None
does name (Some text) = option_map Gives (option_and_then (λ s. with_number s text) (named name))

does_unsigned : (rest : Text) → list_any (λ (x : ℕ). x == 61) rest ≡ false → (o : Option Setting) → named rest ≡ o → (t : Bool) → bytes_eq rest trace ≡ t → step_of None (45 ∷ 45 ∷ rest) ≡ does rest None
does_unsigned rest none (Some s) e t f = rw e refl
does_unsigned rest none None e true f = rw (e, f, swapped rest trace true f) refl
does_unsigned rest none None e false f = rw (e, f, swapped rest trace false f, sign_behind rest false none) refl

does_signed : (rest : Text) → list_any (λ (x : ℕ). x == 61) rest ≡ true → (t : Bool) → bytes_eq rest trace ≡ t
    → step_of None (45 ∷ 45 ∷ rest) ≡ does (take (position_or_len (λ (x : ℕ). x == 61) rest) rest) (Some (drop (position_or_len (λ (x : ℕ). x == 61) rest + 1) rest))
does_signed rest some true f =
    let same : rest ≡ trace = (bytes_eq-Decides rest trace).0 f in
    let bad : false ≡ true = rw same at some in
    absurd cc
does_signed rest some false f =
    let place = sign_behind rest true some in
    let none : named rest ≡ None = signed_is_no_name (45 ∷ 45 ∷ rest) (suc (suc (position_or_len (λ (x : ℕ). x == 61) rest))) place (named rest) refl in
    let next : suc (suc (position_or_len (λ (x : ℕ). x == 61) rest)) + 1 ≡ suc (suc (position_or_len (λ (x : ℕ). x == 61) rest + 1)) = omega arith in
    rw (none, f, place, next) refl

hyphened_does : (rest : Text) (b : Bool) → list_any (λ (x : ℕ). x == 61) rest ≡ b → step_of None (45 ∷ 45 ∷ rest) ≡ does (name_and_value rest).0 (name_and_value rest).1
hyphened_does rest true e = rw e (does_signed rest e (bytes_eq rest trace) refl)
hyphened_does rest false e = rw (e, whole_before (λ x. x == 61) rest e) (does_unsigned rest e (named rest) refl (bytes_eq rest trace) refl)

pub hyphen_first : (word rest : Text) → strip_byte 45 word ≡ Some rest → word ≡ 45 ∷ rest
hyphen_first [] rest e = absurd cc
hyphen_first (x ∷ xs) rest e = go (x == 45) refl
  where
    go : (b : Bool) → (x == 45) ≡ b → x ∷ xs ≡ 45 ∷ rest
    go true f =
        let is : x ≡ 45 = grind arith in
        let some : Some xs ≡ Some rest = rw f at e in
        let same : xs ≡ rest = ap (λ o. unwrap_or o xs) some in
        rw (is, same) refl
    go false f = let bad : None ≡ Some rest = rw f at e in absurd cc

abbrev Hyphened : Text → Text × Option Text → Type 0
Hyphened word p = (rest : Text) × (word ≡ 45 ∷ 45 ∷ rest) × (name_and_value rest ≡ p)

second : (word a : Text) (p : Text × Option Text) → word ≡ 45 ∷ a → (o : Option Text) → strip_byte 45 a ≡ o → option_and_then long_of_rest o ≡ Some p → Hyphened word p
second word a p first None is e = absurd cc
second word a p first (Some []) is e = absurd cc
second word a p first (Some (z ∷ zs)) is e = (z ∷ zs, first ∙ ap (λ t. 45 ∷ t) (hyphen_first a (z ∷ zs) is), ap (λ o. unwrap_or o (name_and_value (z ∷ zs))) e)

hyphens : (word : Text) (p : Text × Option Text) → (o : Option Text) → strip_byte 45 word ≡ o → option_and_then long_of_rest (option_and_then (strip_byte 45) o) ≡ Some p → Hyphened word p
hyphens word p None is e = absurd cc
hyphens word p (Some a) is e = second word a p (hyphen_first word a is) (strip_byte 45 a) refl e

seen_does : (word : Text) (p : Text × Option Text) (rest : Text) → word ≡ 45 ∷ 45 ∷ rest → name_and_value rest ≡ p → step_of None word ≡ does p.0 p.1
seen_does word p rest is same = rw (is, ← same) (hyphened_does rest (list_any (λ (x : ℕ). x == 61) rest) refl)

-- a word that clap takes for the name of an option, with its value or without
word_does : (word : Text) (p : Text × Option Text) → long_of word ≡ Some p → step_of None word ≡ does p.0 p.1
word_does word p e =
    let view = hyphens word p (strip_byte 45 word) refl e in
    seen_does word p view.0 view.1 view.2

-- such a word is no number
long_no_number : (word : Text) (p : Text × Option Text) → long_of word ≡ Some p → number_of word ≡ None
long_no_number word p e =
    let view = hyphens word p (strip_byte 45 word) refl e in
    rw view.1 (hyphen_no_number (45 ∷ view.0))

-- a word without a hyphen names no option
no_hyphen_joined : (x : ℕ) (xs : Text) → (45 == x) ≡ false → (o : Option ℕ) → position (λ (b : ℕ). b == 61) (x ∷ xs) ≡ o → joined (x ∷ xs) ≡ None
no_hyphen_joined x xs e None is = rw is refl
no_hyphen_joined x xs e (Some zero) is = rw is refl
no_hyphen_joined x xs e (Some (suc at)) is = rw (is, e) refl

word_stray : (word : Text) → strip_byte 45 word ≡ None → step_of None word ≡ None
word_stray [] e = refl
word_stray (x ∷ xs) e = go (x == 45) refl
  where
    go : (b : Bool) → (x == 45) ≡ b → step_of None (x ∷ xs) ≡ None
    go true f = let bad : Some xs ≡ None = rw f at e in absurd cc
    go false f =
        let other : (45 == x) ≡ false = grind arith in
        rw (other, f, no_hyphen_joined x xs other (position (λ (b : ℕ). b == 61) (x ∷ xs)) refl) refl

-- ---- rows and options

-- the option of a row
abbrev pub given_by : Row → Option Given
given_by x = if bytes_eq x.id trace then Some (given_as 1 Trace) else option_and_then (λ s. option_and_then (with_number s) (slice_get x.values 0)) (named x.id)

abbrev pub numbers : List Row → Option (List Given)
numbers [] = Some []
numbers (x ∷ xs) = before_more (given_by x) (numbers xs)

-- the rows came by words
abbrev pub are_by_words : List Row → Bool
are_by_words rows = list_all (λ x. is_by_words x.source) rows

-- no two rows have one name
abbrev pub are_apart : List Row → Bool
are_apart [] = true
are_apart (x ∷ xs) = not (has_row x.id xs) && are_apart xs

has_row_behind : (name : Text) (xs ys : List Row) → has_row name (xs ++ ys) ≡ (has_row name xs || has_row name ys)
has_row_behind name [] ys = refl
has_row_behind name (x ∷ xs) ys = go (bytes_eq x.id name) (has_row_behind name xs ys)
  where
    go : (b : Bool) → has_row name (xs ++ ys) ≡ (has_row name xs || has_row name ys) → (b || has_row name (xs ++ ys)) ≡ ((b || has_row name xs) || has_row name ys)
    go true e = refl
    go false e = e

apart_behind : (xs : List Row) (y : Row) → are_apart xs ≡ true → has_row y.id xs ≡ false → are_apart (xs ++ y ∷ []) ≡ true
apart_behind [] y apart none = refl
apart_behind (x ∷ xs) y apart none = go (bytes_eq x.id y.id) refl (has_row x.id xs) refl (apart_behind xs y)
  where
    go : (b : Bool) → bytes_eq x.id y.id ≡ b → (h : Bool) → has_row x.id xs ≡ h → (are_apart xs ≡ true → has_row y.id xs ≡ false → are_apart (xs ++ y ∷ []) ≡ true) → are_apart ((x ∷ xs) ++ y ∷ []) ≡ true
    go true e h f more = let bad : true ≡ false = rw e at none in absurd cc
    go false e true f more = let bad : false ≡ true = rw f at apart in absurd cc
    go false e false f more =
        let rest : are_apart xs ≡ true = rw f at apart in
        let none_behind : has_row y.id xs ≡ false = rw e at none in
        rw (has_row_behind x.id xs (y ∷ []), f, swapped x.id y.id false e) (more rest none_behind)

by_words_behind : (xs : List Row) (y : Row) → are_by_words xs ≡ true → is_by_words y.source ≡ true → are_by_words (xs ++ y ∷ []) ≡ true
by_words_behind [] y words is = rw is refl
by_words_behind (x ∷ xs) y words is =
    let each = both (is_by_words x.source) (are_by_words xs) words in
    rw (each.0, by_words_behind xs y each.1 is) refl

-- ---- the options of rows, found by their names

other_name : (x : Row) (xs ys : List Row) → has_row x.id ys ≡ false → options_in (x ∷ xs) (map (λ r. r.id) ys) ≡ options_in xs (map (λ r. r.id) ys)
other_name x xs [] none = refl
other_name x xs (y ∷ ys) none = go (bytes_eq y.id x.id) refl (other_name x xs ys)
  where
    go : (b : Bool) → bytes_eq y.id x.id ≡ b → (has_row x.id ys ≡ false → options_in (x ∷ xs) (map (λ r. r.id) ys) ≡ options_in xs (map (λ r. r.id) ys)) → options_in (x ∷ xs) (map (λ r. r.id) (y ∷ ys)) ≡ options_in xs (map (λ r. r.id) (y ∷ ys))
    go true e more = let bad : true ≡ false = rw e at none in absurd cc
    go false e more =
        let rest : has_row x.id ys ≡ false = rw e at none in
        rw (swapped y.id x.id false e, more rest) refl

-- the options of the rows that came by words
abbrev pub numbers_by_words : List Row → Option (List Given)
numbers_by_words [] = Some []
numbers_by_words (x ∷ xs) = if is_by_words x.source then before_more (given_by x) (numbers_by_words xs) else numbers_by_words xs

parsed_apart : (rows : List Row) → are_apart rows ≡ true → parsed rows ≡ numbers_by_words rows
parsed_apart [] apart = refl
parsed_apart (x ∷ xs) apart = go (has_row x.id xs) refl (parsed_apart xs)
  where
    go : (h : Bool) → has_row x.id xs ≡ h → (are_apart xs ≡ true → parsed xs ≡ numbers_by_words xs) → parsed (x ∷ xs) ≡ numbers_by_words (x ∷ xs)
    go true f more = let bad : false ≡ true = rw f at apart in absurd cc
    go false f more =
        let rest : are_apart xs ≡ true = rw f at apart in
        rw (same_text x.id, other_name x xs xs f, more rest) refl

-- clap's own row is none of the words
default_unseen : (rows : List Row) (y : Row) → is_by_words y.source ≡ false → are_by_words rows ≡ true → numbers_by_words (rows ++ y ∷ []) ≡ numbers rows
default_unseen [] y is words = rw is refl
default_unseen (x ∷ xs) y is words =
    let each = both (is_by_words x.source) (are_by_words xs) words in
    rw (each.0, default_unseen xs y is each.1) refl

all_seen : (rows : List Row) → are_by_words rows ≡ true → numbers_by_words rows ≡ numbers rows
all_seen [] words = refl
all_seen (x ∷ xs) words =
    let each = both (is_by_words x.source) (are_by_words xs) words in
    rw (each.0, all_seen xs each.1) refl

-- the options that are found among the rows and clap's own
abbrev pub found_in : List Row → Option (List Given)
found_in rows = parsed (with_default rows built_trace)

-- clap's row of `--trace` where the words do not give it
abbrev default_row : Row
default_row = record { id = trace; values = codes "false" ∷ []; count = None; source = Some DefaultValue; reading = reading_of vp.Bool }

found_numbers : (rows : List Row) → are_by_words rows ≡ true → are_apart rows ≡ true → (b : Bool) → has_row trace rows ≡ b → found_in rows ≡ numbers rows
found_numbers rows words apart true e = rw e (parsed_apart rows apart ∙ all_seen rows words)
found_numbers rows words apart false e =
    rw (e, no_row_at trace (more_values DefaultValue (codes "false" ∷ [])) (default_row ∷ []) rows e)
    (parsed_apart (rows ++ default_row ∷ []) (apart_behind rows default_row apart e) ∙ default_unseen rows default_row refl words)

-- ---- options once

named_by : (s : Setting) (name : Text) → named name ≡ Some s → (rule_of s).name ≡ 45 ∷ 45 ∷ name
named_by s name e = named_is (45 ∷ 45 ∷ name) s e

numbered_as : (s : Setting) (g : Given) (n : Option ℕ) → option_map (λ m. given_as m s) n ≡ Some g → g.setting ≡ s
numbered_as s g None e = absurd cc
numbered_as s g (Some m) e =
    let same : given_as m s ≡ g = ap (λ o. unwrap_or o g) e in
    rw (← same) refl

valued_as : (s : Setting) (g : Given) (v : Option Text) → option_and_then (with_number s) v ≡ Some g → g.setting ≡ s
valued_as s g None e = absurd cc
valued_as s g (Some text) e = numbered_as s g (number_of text) e

named_as : (x : Row) (g : Given) (o : Option Setting) → named x.id ≡ o → option_and_then (λ s. option_and_then (with_number s) (slice_get x.values 0)) o ≡ Some g → (rule_of g.setting).name ≡ 45 ∷ 45 ∷ x.id
named_as x g None is e = absurd cc
named_as x g (Some s) is e = rw (valued_as s g (slice_get x.values 0) e) (named_by s x.id is)

-- the option of a row has its name
given_named : (x : Row) (g : Given) → given_by x ≡ Some g → (rule_of g.setting).name ≡ 45 ∷ 45 ∷ x.id
given_named x g e = go (bytes_eq x.id trace) refl
  where
    go : (b : Bool) → bytes_eq x.id trace ≡ b → (rule_of g.setting).name ≡ 45 ∷ 45 ∷ x.id
    go true f =
        let some : Some (given_as 1 Trace) ≡ Some g = rw f at e in
        let same : given_as 1 Trace ≡ g = ap (λ o. unwrap_or o g) some in
        let name : x.id ≡ trace = (bytes_eq-Decides x.id trace).0 f in
        rw (← same, name) refl
    go false f =
        let rest : option_and_then (λ s. option_and_then (with_number s) (slice_get x.values 0)) (named x.id) ≡ Some g = rw f at e in
        named_as x g (named x.id) refl rest

-- an option stands among those of rows as its name does among theirs
stands_as : (x : Row) (g : Given) → given_by x ≡ Some g → (rows : List Row) (d : List Given) → numbers rows ≡ Some d → list_any (is_for g.setting) d ≡ has_row x.id rows
stands_as x g is [] d e =
    let same : [] ≡ d = ap (λ o. unwrap_or o d) e in
    rw (← same) refl
stands_as x g is (y ∷ ys) d e = go (given_by y) refl (numbers ys) refl (stands_as x g is ys)
  where
    go : (o : Option Given) → given_by y ≡ o → (m : Option (List Given)) → numbers ys ≡ m → ((d : List Given) → numbers ys ≡ Some d → list_any (is_for g.setting) d ≡ has_row x.id ys) → list_any (is_for g.setting) d ≡ has_row x.id (y ∷ ys)
    go None f m h more = let bad : None ≡ Some d = rw f at e in absurd cc
    go (Some k) f None h more = let bad : None ≡ Some d = rw (f, h) at e in absurd cc
    go (Some k) f (Some ks) h more =
        let some : Some (k ∷ ks) ≡ Some d = rw (f, h) at e in
        let same : k ∷ ks ≡ d = ap (λ o. unwrap_or o d) some in
        rw (← same, given_named x g is, given_named y k f, swapped x.id y.id (bytes_eq x.id y.id) refl, more ks h) refl

-- the options of rows of which no two have one name stand once
stand_once : (rows : List Row) (d : List Given) → are_apart rows ≡ true → numbers rows ≡ Some d → are_once d ≡ true
stand_once [] d apart e =
    let same : [] ≡ d = ap (λ o. unwrap_or o d) e in
    rw (← same) refl
stand_once (x ∷ xs) d apart e = go (given_by x) refl (numbers xs) refl (has_row x.id xs) refl (stand_once xs)
  where
    go : (o : Option Given) → given_by x ≡ o → (m : Option (List Given)) → numbers xs ≡ m → (b : Bool) → has_row x.id xs ≡ b → ((d : List Given) → are_apart xs ≡ true → numbers xs ≡ Some d → are_once d ≡ true) → are_once d ≡ true
    go None f m h b t more = let bad : None ≡ Some d = rw f at e in absurd cc
    go (Some k) f None h b t more = let bad : None ≡ Some d = rw (f, h) at e in absurd cc
    go (Some k) f (Some ks) h true t more = let bad : false ≡ true = rw t at apart in absurd cc
    go (Some k) f (Some ks) h false t more =
        let some : Some (k ∷ ks) ≡ Some d = rw (f, h) at e in
        let same : k ∷ ks ≡ d = ap (λ o. unwrap_or o d) some in
        let rest : are_apart xs ≡ true = rw t at apart in
        rw (← same, stands_as x k f xs ks h, t) (more ks rest h)

any_at : {X : Type 0} (p : X → Bool) (xs ys : List X) (y : X) → p y ≡ true → list_any p (xs ++ y ∷ ys) ≡ true
any_at p [] ys y e = rw e refl
any_at p (x ∷ xs) ys y e = go (p x) (any_at p xs ys y e)
  where
    go : (b : Bool) → list_any p (xs ++ y ∷ ys) ≡ true → (b || list_any p (xs ++ y ∷ ys)) ≡ true
    go true more = refl
    go false more = more

-- options of which one stands already do not stand once
twice : (d : List Given) (g : Given) (more : List Given) → list_any (is_for g.setting) d ≡ true → are_once (d ++ g ∷ more) ≡ false
twice [] g more e = absurd cc
twice (first ∷ rest) g more e = go (is_for g.setting first) refl (twice rest g more)
  where
    go : (b : Bool) → is_for g.setting first ≡ b → (list_any (is_for g.setting) rest ≡ true → are_once (rest ++ g ∷ more) ≡ false) → are_once ((first ∷ rest) ++ g ∷ more) ≡ false
    go true f next =
        let back : is_for first.setting g ≡ true = swapped (rule_of g.setting).name (rule_of first.setting).name true f in
        rw (any_at (is_for first.setting) rest more g back) refl
    go false f next =
        let behind : list_any (is_for g.setting) rest ≡ true = rw f at e in
        rw (next behind) (and_false (not (list_any (is_for first.setting) (rest ++ g ∷ more))))

-- ---- the words behind those that were read

abbrev behind : Option (List Given) → Option (List Given) → Option (List Given)
behind done more = option_and_then (λ d. option_map (λ m. d ++ m) more) done

abbrev pub full : Option (List Given) → Option (List Given) → Option (List Given)
full done more = option_and_then if_once (behind done more)

-- the options of the words behind those of rows
abbrev pub Tied : List Text → Type 0
Tied words = ((rows : List Row) → are_by_words rows ≡ true → are_apart rows ≡ true → option_and_then found_in (read numbered rows None words) ≡ full (numbers rows) (given_after None words))
    × ((rows : List Row) → are_by_words rows ≡ true → are_apart rows ≡ true → (name : Text) (s : Setting) → named name ≡ Some s → option_and_then found_in (read numbered rows (Some name) words) ≡ full (numbers rows) (given_after (Some s) words))

full_none : (done : Option (List Given)) → full done None ≡ None
full_none None = refl
full_none (Some d) = refl

full_twice : (done : List Given) (g : Given) (more : Option (List Given)) → list_any (is_for g.setting) done ≡ true → full (Some done) (option_map (λ m. g ∷ m) more) ≡ None
full_twice done g None e = refl
full_twice done g (Some m) e = rw (twice done g m e) refl

full_next : (done : Option (List Given)) (g : Given) (more : Option (List Given)) → full done (option_map (λ m. g ∷ m) more) ≡ full (option_map (λ d. d ++ g ∷ []) done) more
full_next None g more = refl
full_next (Some d) g None = refl
full_next (Some d) g (Some m) = rw (append_assoc d (g ∷ []) m) refl

numbers_behind : (rows : List Row) (x : Row) (g : Given) → given_by x ≡ Some g → numbers (rows ++ x ∷ []) ≡ option_map (λ d. d ++ g ∷ []) (numbers rows)
numbers_behind [] x g e = rw e refl
numbers_behind (y ∷ ys) x g e = rw (numbers_behind ys x g e) (go (given_by y) (numbers ys))
  where
    go : (o : Option Given) (m : Option (List Given)) → before_more o (option_map (λ d. d ++ g ∷ []) m) ≡ option_map (λ d. d ++ g ∷ []) (before_more o m)
    go None m = refl
    go (Some k) None = refl
    go (Some k) (Some ks) = refl

no_number_behind : (rows : List Row) (x : Row) → given_by x ≡ None → numbers (rows ++ x ∷ []) ≡ None
no_number_behind [] x e = rw e refl
no_number_behind (y ∷ ys) x e = rw (no_number_behind ys x e) (go (given_by y))
  where
    go : (o : Option Given) → before_more o None ≡ None
    go None = refl
    go (Some k) = refl

-- a row more, and the words behind it
put_tied : (words : List Text) → Tied words → (rows : List Row) → are_by_words rows ≡ true → are_apart rows ≡ true → (x : Row) → is_by_words x.source ≡ true → (o : Option Given) → given_by x ≡ o
    → option_and_then found_in (put x rows (λ r. read numbered r None words)) ≡ full (numbers rows) (and_then (option_map Gives o) (λ next. given_after next words))
put_tied words tied rows words_gave apart x by o is = go o is (has_row x.id rows) refl (numbers rows) refl
  where
    go : (o : Option Given) → given_by x ≡ o → (b : Bool) → has_row x.id rows ≡ b → (m : Option (List Given)) → numbers rows ≡ m
        → option_and_then found_in (put x rows (λ r. read numbered r None words)) ≡ full (numbers rows) (and_then (option_map Gives o) (λ next. given_after next words))
    go None f true t m h = rw t (sym (full_none (numbers rows)))
    go None f false t m h =
        rw t (tied.0 (rows ++ x ∷ []) (by_words_behind rows x words_gave by) (apart_behind rows x apart t) ∙ ap (λ d. full d (given_after None words)) (no_number_behind rows x f) ∙ sym (full_none (numbers rows)))
    go (Some g) f true t None h = rw (t, h) refl
    go (Some g) f true t (Some d) h =
        let stands : list_any (is_for g.setting) d ≡ true = stands_as x g f rows d h ∙ t in
        rw (t, h) (sym (full_twice d g (given_after None words) stands))
    go (Some g) f false t m h =
        rw t (tied.0 (rows ++ x ∷ []) (by_words_behind rows x words_gave by) (apart_behind rows x apart t) ∙ ap (λ d. full d (given_after None words)) (numbers_behind rows x g f) ∙ sym (full_next (numbers rows) g (given_after None words)))

end_tied : (rows : List Row) → are_by_words rows ≡ true → are_apart rows ≡ true → found_in rows ≡ full (numbers rows) (Some [])
end_tied rows words apart = found_numbers rows words apart (has_row trace rows) refl ∙ go (numbers rows) refl
  where
    go : (m : Option (List Given)) → numbers rows ≡ m → numbers rows ≡ full (numbers rows) (Some [])
    go None h = rw h refl
    go (Some d) h = rw (h, append-nil d, stand_once rows d apart h) refl

named_some : (name : Text) → numbered name ≡ true → (o : Option Setting) → named name ≡ o → (s : Setting) × (named name ≡ Some s)
named_some name e None is =
    let none : is_some (named name) ≡ false = rw is refl in
    let bad : false ≡ true = sym none ∙ (named_numbered name ∙ e) in
    absurd cc
named_some name e (Some s) is = (s, is)

named_none : (name : Text) → numbered name ≡ false → (o : Option Setting) → named name ≡ o → named name ≡ None
named_none name e None is = is
named_none name e (Some s) is =
    let some : is_some (named name) ≡ true = rw is refl in
    let bad : true ≡ false = sym some ∙ (named_numbered name ∙ e) in
    absurd cc

named_not_trace : (name : Text) (s : Setting) → named name ≡ Some s → (b : Bool) → bytes_eq name trace ≡ b → bytes_eq name trace ≡ false
named_not_trace name s is false e = e
named_not_trace name s is true e =
    let same : name ≡ trace = (bytes_eq-Decides name trace).0 e in
    let bad : None ≡ Some s = rw same at is in
    absurd cc

row_gives : (name text : Text) (s : Setting) → named name ≡ Some s → given_by (row name (text ∷ [])) ≡ with_number s text
row_gives name text s is = rw (named_not_trace name s is (bytes_eq name trace) refl, is) refl

long_tied : (word : Text) (words : List Text) → Tied words → (rows : List Row) → are_by_words rows ≡ true → are_apart rows ≡ true → (name : Text) (value : Option Text) → (b : Bool) → numbered name ≡ b → (t : Bool) → bytes_eq trace name ≡ t
    → option_and_then found_in (begun numbered (Some (name, value)) rows (λ r waiting. read numbered r waiting words)) ≡ full (numbers rows) (and_then (does name value) (λ next. given_after next words))
long_tied word words tied rows by apart name None true n t f =
    let s = named_some name n (named name) refl in
    rw (n, s.1) (tied.1 rows by apart name s.0 s.1)
long_tied word words tied rows by apart name (Some text) true n t f =
    let s = named_some name n (named name) refl in
    rw (n, s.1) (put_tied words tied rows by apart (row name (text ∷ [])) refl (with_number s.0 text) (row_gives name text s.0 s.1))
long_tied word words tied rows by apart name None false n true f =
    rw (n, named_none name n (named name) refl, f) (put_tied words tied rows by apart flag_row refl (Some (given_as 1 Trace)) refl)
long_tied word words tied rows by apart name (Some text) false n true f =
    rw (n, named_none name n (named name) refl, f) (sym (full_none (numbers rows)))
long_tied word words tied rows by apart name None false n false f =
    rw (n, named_none name n (named name) refl, f) (sym (full_none (numbers rows)))
long_tied word words tied rows by apart name (Some text) false n false f =
    rw (n, named_none name n (named name) refl, f) (sym (full_none (numbers rows)))

idle_tied : (word : Text) (words : List Text) → is_well_formed word ≡ true → Tied words → (rows : List Row) → are_by_words rows ≡ true → are_apart rows ≡ true → (o : Option (Text × Option Text)) → long_of word ≡ o
    → option_and_then found_in (read numbered rows None (word ∷ words)) ≡ full (numbers rows) (given_after None (word ∷ words))
unfolding read given_after
idle_tied word words formed tied rows by apart None is =
    rw (word_stray word (plain_hyphen word formed is), is) (sym (full_none (numbers rows)))
idle_tied word words formed tied rows by apart (Some p) is =
    rw (word_does word p is, is) (long_tied word words tied rows by apart p.0 p.1 (numbered p.0) refl (bytes_eq trace p.0) refl)

waiting_tied : (word : Text) (words : List Text) → Tied words → (rows : List Row) → are_by_words rows ≡ true → are_apart rows ≡ true → (name : Text) (s : Setting) → named name ≡ Some s → (o : Option (Text × Option Text)) → long_of word ≡ o
    → option_and_then found_in (read numbered rows (Some name) (word ∷ words)) ≡ full (numbers rows) (given_after (Some s) (word ∷ words))
unfolding read given_after
waiting_tied word words tied rows by apart name s is None long =
    rw long (put_tied words tied rows by apart (row name (word ∷ [])) refl (with_number s word) (row_gives name word s is))
waiting_tied word words tied rows by apart name s is (Some p) long =
    rw (long_no_number word p long, long) (sym (full_none (numbers rows)))

-- what clap takes of well formed words are the options that the words give, each once
pub tied : (words : List Text) → list_all is_well_formed words ≡ true → Tied words
unfolding read given_after
tied [] formed = ((λ rows by apart. end_tied rows by apart), (λ rows by apart name s is. sym (full_none (numbers rows))))
tied (word ∷ words) formed =
    let each = both (is_well_formed word) (list_all is_well_formed words) formed in
    let more = tied words each.1 in
    ((λ rows by apart. idle_tied word words each.0 more rows by apart (long_of word) refl), (λ rows by apart name s is. waiting_tied word words more rows by apart name s is (long_of word) refl))
