-- What a line says, by its words.
use Rattle.std.proofs.Common.{◌≡◌, ℕ, true, false, List, [], ◌∷◌, Err, refl}
use Rattle.ds_model.specs.declared.script.FaultKind.TheVariants as fault
use Rattle.script_line.specs.Words.{words_of, is_ascii}
use Rattle.script_line.specs.Lines.{line_in, line_of_words, line_behind, keyword_of}

pub not_ascii : (members : ℕ) (bytes : List ℕ) → is_ascii bytes ≡ false → line_in members bytes ≡ Err fault.Word
unfolding line_in
not_ascii members bytes e = rw e refl

pub by_words : (members : ℕ) (bytes : List ℕ) → is_ascii bytes ≡ true → line_in members bytes ≡ line_of_words members (words_of bytes)
unfolding line_in
by_words members bytes e = rw e refl

pub no_line : (members : ℕ) (bytes : List ℕ) → is_ascii bytes ≡ true → words_of bytes ≡ [] → line_in members bytes ≡ Err fault.Word
unfolding line_in
no_line members bytes e h = rw (e, h) refl

pub behind_first : (members : ℕ) (bytes first : List ℕ) (words : List (List ℕ)) → is_ascii bytes ≡ true → words_of bytes ≡ first ∷ words → line_in members bytes ≡ line_behind members (keyword_of first) first words
unfolding line_in
behind_first members bytes first words e h = rw (e, h) refl
