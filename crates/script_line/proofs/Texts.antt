-- Texts of words with one blank between two of them.
use Rattle.std.proofs.Common.{◌≡◌, inl, inr, ℕ, ◌<◌, ◌^◌, Bool, true, false, nat_lt, ◌&&◌, List, [], ◌∷◌, ◌++◌, length, filter, refl, ap, ◌∙◌, arith}
use Rattle.std.specs.List.{All, list_all, slice_split}
use Rattle.std.proofs.lemmas.List.Elements.{All-weaker}
use Rattle.std.proofs.lemmas.List.Folds.{list_all-append}
use Rattle.std.proofs.lemmas.List.Splits.{slice_split_none, slice_split_at}
use Rattle.std.proofs.lemmas.List.Sums.{AllPass-from_list_all, list_all-from_AllPass}
use Rattle.std.proofs.lemmas.Bool.{lt-ltb, ne_eqb}
use Rattle.std.specs.Char.{is_ascii_digit}
use Rattle.std.specs.Fmt.{decimal}
use Rattle.std.proofs.lemmas.Fmt.{decimal_nonempty}
use Rattle.ds_base.specs.Values.{IsValueByte, IsValue}
use Rattle.ds_model.specs.Scripts.{IsNameByte, IsName}
use Rattle.script_line.specs.Words.{is_blank, is_some_word, is_between, words_of, is_ascii}
use Rattle.script_line.proofs.Ranges.{between_Decides}
use Rattle.script_line.proofs.Numbers.{digits_of_number}

-- a byte that is seen, and one that is printed
abbrev pub is_seen : ℕ → Bool
is_seen = is_between 0x21 0x7e

abbrev pub is_printed : ℕ → Bool
is_printed = is_between 0x20 0x7e

abbrev pub is_seen_word : List ℕ → Bool
is_seen_word word = is_some_word word && list_all is_seen word

abbrev pub spaced : List (List ℕ) → List ℕ
spaced [] = []
spaced (word ∷ []) = word
spaced (word ∷ next ∷ words) = word ++ 32 ∷ spaced (next ∷ words)

-- ---- tests of all bytes

and_left : (a b : Bool) → (a && b) ≡ true → a ≡ true
and_left true b h = refl
and_left false b h = h

and_right : (a b : Bool) → (a && b) ≡ true → b ≡ true
and_right true b h = h
and_right false b h = cc

both : (a b : Bool) → a ≡ true → b ≡ true → (a && b) ≡ true
both a b h k = rw (h, k) refl

pub all_weaker : (p q : ℕ → Bool) → ((b : ℕ) → p b ≡ true → q b ≡ true) → (xs : List ℕ) → list_all p xs ≡ true → list_all q xs ≡ true
all_weaker p q w xs h = list_all-from_AllPass q xs (All-weaker (λ b. p b ≡ true) (λ b. q b ≡ true) w xs (AllPass-from_list_all p xs h))

all_append : (p : ℕ → Bool) (xs ys : List ℕ) → list_all p xs ≡ true → list_all p ys ≡ true → list_all p (xs ++ ys) ≡ true
all_append p xs ys h k = list_all-append p xs ys ∙ both _ _ h k

seen_is_printed : (b : ℕ) → is_seen b ≡ true → is_printed b ≡ true
seen_is_printed b h = let k = (between_Decides 0x21 0x7e b).0 h in (between_Decides 0x20 0x7e b).1 (omega arith, k.1)

printed_is_ascii : (b : ℕ) → is_printed b ≡ true → nat_lt b 128 ≡ true
printed_is_ascii b h = let k = (between_Decides 0x20 0x7e b).0 h in lt-ltb b 128 (omega arith)

seen_is_solid : (b : ℕ) → is_seen b ≡ true → is_blank b ≡ false
seen_is_solid b h = let k = (between_Decides 0x21 0x7e b).0 h in ne_eqb b 32 (λ e. omega (arith, e, k.0))

solid_word : (word : List ℕ) → list_all is_seen word ≡ true → All (λ b. is_blank b ≡ false) word
solid_word word h = All-weaker (λ b. is_seen b ≡ true) (λ b. is_blank b ≡ false) seen_is_solid word (AllPass-from_list_all is_seen word h)

-- ---- the words of a text are those that it was made of

some_front : (word : List ℕ) (parts : List (List ℕ)) → is_some_word word ≡ true → filter is_some_word (word ∷ parts) ≡ word ∷ filter is_some_word parts
some_front word parts h = rw h refl

last_word : (word : List ℕ) → is_seen_word word ≡ true → words_of word ≡ word ∷ []
last_word word h =
    ap (filter is_some_word) (slice_split_none is_blank word (solid_word word (and_right _ _ h))) ∙ some_front word [] (and_left _ _ h)

front_word : (word rest : List ℕ) → is_seen_word word ≡ true → words_of (word ++ 32 ∷ rest) ≡ word ∷ words_of rest
front_word word rest h =
    ap (filter is_some_word) (slice_split_at is_blank word 32 rest (solid_word word (and_right _ _ h)) refl) ∙ some_front word (slice_split is_blank rest) (and_left _ _ h)

pub words_of_spaced : (words : List (List ℕ)) → list_all is_seen_word words ≡ true → words_of (spaced words) ≡ words
words_of_spaced [] h = refl
words_of_spaced (word ∷ []) h = last_word word (and_left _ _ h)
words_of_spaced (word ∷ next ∷ words) h =
    front_word word (spaced (next ∷ words)) (and_left _ _ h) ∙ ap (λ (ws : List (List ℕ)). word ∷ ws) (words_of_spaced (next ∷ words) (and_right _ _ h))

printed_word : (word : List ℕ) → is_seen_word word ≡ true → list_all is_printed word ≡ true
printed_word word h = all_weaker is_seen is_printed seen_is_printed word (and_right _ _ h)

pub printed_spaced : (words : List (List ℕ)) → list_all is_seen_word words ≡ true → list_all is_printed (spaced words) ≡ true
printed_spaced [] h = refl
printed_spaced (word ∷ []) h = printed_word word (and_left _ _ h)
printed_spaced (word ∷ next ∷ words) h =
    all_append is_printed word (32 ∷ spaced (next ∷ words)) (printed_word word (and_left _ _ h)) (printed_spaced (next ∷ words) (and_right _ _ h))

pub ascii_spaced : (words : List (List ℕ)) → list_all is_seen_word words ≡ true → is_ascii (spaced words) ≡ true
ascii_spaced words h = all_weaker is_printed (λ b. nat_lt b 128) printed_is_ascii (spaced words) (printed_spaced words h)

-- ---- words that are seen

digit_is_seen : (b : ℕ) → is_ascii_digit b ≡ true → is_seen b ≡ true
digit_is_seen b h = let k = (between_Decides 48 57 b).0 h in (between_Decides 0x21 0x7e b).1 (omega (arith, k.0), omega (arith, k.1))

name_byte_is_seen : (b : ℕ) → IsNameByte b → is_seen b ≡ true
name_byte_is_seen b (inl h) = (between_Decides 0x21 0x7e b).1 (omega arith, omega arith)
name_byte_is_seen b (inr (inl h)) = (between_Decides 0x21 0x7e b).1 (omega arith, omega arith)
name_byte_is_seen b (inr (inr (inl h))) = (between_Decides 0x21 0x7e b).1 (omega arith, omega arith)
name_byte_is_seen b (inr (inr (inr (inl h)))) = (between_Decides 0x21 0x7e b).1 (omega arith, omega arith)
name_byte_is_seen b (inr (inr (inr (inr h)))) = (between_Decides 0x21 0x7e b).1 (omega arith, omega arith)

pub seen_number : (n : ℕ) → n < 2 ^ 64 → is_seen_word (decimal n) ≡ true
seen_number n h = both _ _ (lt-ltb 0 (length (decimal n)) (decimal_nonempty n h)) (all_weaker is_ascii_digit is_seen digit_is_seen (decimal n) (digits_of_number n h))

pub seen_name : (name : List ℕ) → IsName name → is_seen_word name ≡ true
seen_name name h = both _ _ (lt-ltb 0 (length name) (omega (arith, h.0))) (list_all-from_AllPass is_seen name (All-weaker IsNameByte (λ b. is_seen b ≡ true) name_byte_is_seen name h.2))

pub seen_value : (value : List ℕ) → IsValue value → is_seen_word (61 ∷ value) ≡ true
seen_value value h = both _ _ (lt-ltb 0 (length (61 ∷ value)) (omega arith)) (list_all-from_AllPass is_seen value (All-weaker IsValueByte (λ b. is_seen b ≡ true) (λ b. (between_Decides 0x21 0x7e b).1) value h.1))
