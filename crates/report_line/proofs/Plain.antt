-- The words of a line hold neither blanks nor line feeds, and so are its words again.
use Rattle.std.proofs.Common.{◌≡◌, ℕ, ◌<◌, Bool, true, false, ◌||◌, ◌==◌, nat_le, List, [], ◌∷◌, length, refl, ap, ◌∙◌, arith}
use Rattle.std.proofs.lemmas.Bool.Decides.{nat_tests}
use Rattle.std.proofs.lemmas.List.Sums.{AllPass-from_list_all}
use Rattle.std.proofs.lemmas.List.Splits.{slice_split_at, slice_split_none}
use Rattle.std.specs.List.{list_all, list_any, slice_split, join_with_byte, All}
use Rattle.std.specs.Str.{bytes_eq}
use Rattle.report_line.specs.Lines.{is_blank, is_between, is_name_byte, is_name, is_value, command_words, reply_words, is_command, is_reply}
use Rattle.report_line.specs.Reading.{words_of}
use Rattle.report_line.proofs.Tests.{and_left, and_right, and_true}
use Rattle.report_line.proofs.Numbers.{is_plain_byte, is_plain}

abbrev pub are_plain : List (List ℕ) → Bool
are_plain words = list_all is_plain words

all_under : (p q : ℕ → Bool) (xs : List ℕ) → ((x : ℕ) → p x ≡ true → q x ≡ true) → list_all p xs ≡ true → list_all q xs ≡ true
all_under p q [] f h = refl
all_under p q (x ∷ xs) f h = and_true (q x) (list_all q xs) (f x (and_left (p x) (list_all p xs) h)) (all_under p q xs f (and_right (p x) (list_all p xs) h))

name_byte_plain : (b : ℕ) → is_name_byte b ≡ true → is_plain_byte b ≡ true
name_byte_plain b h = grind (arith, nat_tests)

value_byte_plain : (b : ℕ) → is_between 0x21 0x7e b ≡ true → is_plain_byte b ≡ true
value_byte_plain b h = let low = and_left (nat_le 0x21 b) (nat_le b 0x7e) h in grind (arith, nat_tests)

pub name_plain : (w : List ℕ) → is_name w ≡ true → is_plain w ≡ true
unfolding is_name
name_plain w h = all_under is_name_byte is_plain_byte w name_byte_plain (and_right (is_between 1 16 (length w)) (list_all is_name_byte w) h)

pub value_plain : (w : List ℕ) → is_value w ≡ true → is_plain w ≡ true
unfolding is_value
value_plain w h = all_under (is_between 0x21 0x7e) is_plain_byte w value_byte_plain (and_right (nat_le (length w) 100) (list_all (is_between 0x21 0x7e) w) h)

same_bytes : (xs ys : List ℕ) → bytes_eq xs ys ≡ true → xs ≡ ys
same_bytes [] [] h = refl
same_bytes [] (y ∷ ys) h = cc
same_bytes (x ∷ xs) [] h = cc
same_bytes (x ∷ xs) (y ∷ ys) h =
    let test = and_left (x == y) (bytes_eq xs ys) h in
    let first : x ≡ y = grind (arith, nat_tests) in
    let rest : xs ≡ ys = same_bytes xs ys (and_right (x == y) (bytes_eq xs ys) h) in
    cc

or_plain : (b c : Bool) (w v : List ℕ) → (b || c) ≡ true → (b ≡ true → w ≡ v) → is_plain v ≡ true → (c ≡ true → is_plain w ≡ true) → is_plain w ≡ true
or_plain true c w v h f k g = ap is_plain (f refl) ∙ k
or_plain false c w v h f k g = g h

any_plain : (w : List ℕ) (ws : List (List ℕ)) → list_any (bytes_eq w) ws ≡ true → are_plain ws ≡ true → is_plain w ≡ true
any_plain w [] h k = cc
any_plain w (v ∷ ws) h k =
    or_plain (bytes_eq w v) (list_any (bytes_eq w) ws) w v h (same_bytes w v) (and_left (is_plain v) (are_plain ws) k) (λ e. any_plain w ws e (and_right (is_plain v) (are_plain ws) k))

commands_plain : are_plain command_words ≡ true
unfolding command_words
commands_plain = refl

replies_plain : are_plain reply_words ≡ true
unfolding reply_words
replies_plain = refl

pub command_plain : (w : List ℕ) → is_command w ≡ true → is_plain w ≡ true
unfolding is_command
command_plain w h = any_plain w command_words h commands_plain

pub reply_plain : (w : List ℕ) → is_reply w ≡ true → is_plain w ≡ true
unfolding is_reply
reply_plain w h = any_plain w reply_words h replies_plain

-- ---- plain words, joined and cut again

no_blank : (w : List ℕ) → is_plain w ≡ true → All (λ b. is_blank b ≡ false) w
no_blank w h = let each = AllPass-from_list_all is_plain_byte w h in λ k d lt. (let above = each k d lt in grind (arith, nat_tests))

cut_again : (ws : List (List ℕ)) → 0 < length ws → are_plain ws ≡ true → slice_split is_blank (join_with_byte 32 ws) ≡ ws
cut_again [] some h = absurd (omega arith)
cut_again (w ∷ []) some h = slice_split_none is_blank w (no_blank w (and_left (is_plain w) true h))
cut_again (w ∷ v ∷ ws) some h =
    slice_split_at is_blank w 32 (join_with_byte 32 (v ∷ ws)) (no_blank w (and_left (is_plain w) (are_plain (v ∷ ws)) h)) refl
    ∙ ap (λ (rest : List (List ℕ)). w ∷ rest) (cut_again (v ∷ ws) (omega arith) (and_right (is_plain w) (are_plain (v ∷ ws)) h))

pub words_again : (ws : List (List ℕ)) → 0 < length ws → are_plain ws ≡ true → words_of (join_with_byte 32 ws) ≡ ws
unfolding words_of
words_again ws some h = cut_again ws some h
