-- The first word of a line, and the rest of them.
use Rattle.std.proofs.Common.{◌≡◌, ℕ, suc, ◌<◌, Bool, true, false, List, [], ◌∷◌, length, take, drop, refl, sym, ap, ◌∙◌, arith, filter}
use Rattle.std.specs.List.{prefix_len, slice_split}
use Rattle.std.proofs.Math.Numerals.{one-add}
use Rattle.script_line.specs.Words.{is_blank, is_solid, is_some_word, words_of}

-- where a line begins with its first word
abbrev pub from_first : List ℕ → List ℕ
from_first xs = drop (prefix_len is_blank xs) xs

-- past a blank
from_first_blank : (x : ℕ) (xs : List ℕ) → is_blank x ≡ true → from_first (x ∷ xs) ≡ from_first xs
from_first_blank x xs e = rw (e, one-add (prefix_len is_blank xs)) refl

from_first_solid : (x : ℕ) (xs : List ℕ) → is_blank x ≡ false → from_first (x ∷ xs) ≡ x ∷ xs
from_first_solid x xs e = rw e refl

words_blank : (x : ℕ) (xs : List ℕ) → is_blank x ≡ true → words_of (x ∷ xs) ≡ words_of xs
words_blank x xs e = rw e refl

length_solid : (x : ℕ) (xs : List ℕ) → is_blank x ≡ false → prefix_len is_solid (x ∷ xs) ≡ suc (prefix_len is_solid xs)
length_solid x xs e = rw (e, one-add (prefix_len is_solid xs)) refl

length_blank : (x : ℕ) (xs : List ℕ) → is_blank x ≡ true → prefix_len is_solid (x ∷ xs) ≡ 0
length_blank x xs e = rw e refl

same_words_by : (b : Bool) (x : ℕ) (xs : List ℕ) → is_blank x ≡ b → words_of (from_first xs) ≡ words_of xs → words_of (from_first (x ∷ xs)) ≡ words_of (x ∷ xs)
same_words_by true x xs e ih = ap words_of (from_first_blank x xs e) ∙ ih ∙ sym (words_blank x xs e)
same_words_by false x xs e ih = ap words_of (from_first_solid x xs e)

pub same_words : (xs : List ℕ) → words_of (from_first xs) ≡ words_of xs
same_words [] = refl
same_words (x ∷ xs) = same_words_by (is_blank x) x xs refl (same_words xs)

-- a list that begins with no word, where it doesn't begin with a blank, is empty
no_words_by : (b : Bool) (x : ℕ) (xs : List ℕ) → is_blank x ≡ b → (prefix_len is_solid (from_first xs) ≡ 0 → words_of xs ≡ []) → prefix_len is_solid (from_first (x ∷ xs)) ≡ 0 → words_of (x ∷ xs) ≡ []
no_words_by true x xs e ih h = words_blank x xs e ∙ ih (sym (ap (prefix_len is_solid) (from_first_blank x xs e)) ∙ h)
no_words_by false x xs e ih h = absurd (omega (arith, h, ap (prefix_len is_solid) (from_first_solid x xs e), length_solid x xs e))

pub no_words : (xs : List ℕ) → prefix_len is_solid (from_first xs) ≡ 0 → words_of xs ≡ []
no_words [] h = refl
no_words (x ∷ xs) h = no_words_by (is_blank x) x xs refl (no_words xs) h

-- a word that ends at the first blank, and the rest
record Cut (xs : List ℕ) : Type 0 where
  rest : List (List ℕ)
  cut : slice_split is_blank xs ≡ take (prefix_len is_solid xs) xs ∷ rest
  same : filter is_some_word rest ≡ words_of (drop (prefix_len is_solid xs) xs)

cut_by : (b : Bool) (x : ℕ) (xs : List ℕ) → is_blank x ≡ b → Cut xs → Cut (x ∷ xs)
cut_by true x xs e ih = record {
  rest = slice_split is_blank xs;
  cut = rw (length_blank x xs e) (rw e refl);
  same = rw (length_blank x xs e) (sym (words_blank x xs e));
}
cut_by false x xs e ih = record {
  rest = ih.rest;
  cut = rw (length_solid x xs e) (rw (e, ih.cut) refl);
  same = rw (length_solid x xs e) ih.same;
}

cut_of : (xs : List ℕ) → Cut xs
cut_of [] = record { rest = []; cut = refl; same = refl }
cut_of (x ∷ xs) = cut_by (is_blank x) x xs refl (cut_of xs)

some_front : (word : List ℕ) (rest : List (List ℕ)) → 0 < length word → filter is_some_word (word ∷ rest) ≡ word ∷ filter is_some_word rest
some_front word rest h = grind arith

cut_words : (xs : List ℕ) → Cut xs → 0 < length (take (prefix_len is_solid xs) xs) → words_of xs ≡ take (prefix_len is_solid xs) xs ∷ words_of (drop (prefix_len is_solid xs) xs)
cut_words xs c h = ap (filter is_some_word) c.cut ∙ some_front _ c.rest h ∙ ap (λ (r : List (List ℕ)). take (prefix_len is_solid xs) xs ∷ r) c.same

pub first_word : (xs : List ℕ) → 0 < length (take (prefix_len is_solid (from_first xs)) (from_first xs)) → words_of xs ≡ take (prefix_len is_solid (from_first xs)) (from_first xs) ∷ words_of (drop (prefix_len is_solid (from_first xs)) (from_first xs))
first_word xs h = sym (same_words xs) ∙ cut_words (from_first xs) (cut_of (from_first xs)) h
