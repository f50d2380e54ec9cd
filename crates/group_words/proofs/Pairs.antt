-- The options read word by word are those of the words.
use Rattle.std.proofs.Common.{◌≡◌, ℕ, Bool, true, false, List, [], ◌∷◌, find, Option, Some, None, option_map, refl, ap, unwrap_or}
use Rattle.std.proofs.lemmas.Slice.Eq.{bytes_eq-Decides}
use Rattle.std.specs.Str.{bytes_eq}
use Rattle.group_words.specs.Options.{given_of, rule_of, numbered, setting_of, in_one_word, with_number, and_more}
use Rattle.group_words.proofs.Steps.{given_after, and_then, Gives}
use Rattle.group_words.specs.declared.given.Given.{Given}
use Rattle.group_words.specs.declared.setting.Setting.{Setting}
use Rattle.group_words.specs.declared.setting.Setting.TheVariants.{Members, Agents, Locks, Records, Cache, Pool, Pages, Seed, Trace}

first_meets : {A : Type 0} (p : A → Bool) (y : A) (ys : List A) (x : A) (b : Bool) → p y ≡ b → (find p ys ≡ Some x → p x ≡ true) → find p (y ∷ ys) ≡ Some x → p x ≡ true
first_meets p y ys x true h more e =
    let this : Some y ≡ Some x = rw h at e in
    let same : y ≡ x = ap (λ o. unwrap_or o y) this in
    rw (← same) h
first_meets p y ys x false h more e = more (rw h at e)

-- what is found meets the test
pub found_meets : {A : Type 0} (p : A → Bool) (xs : List A) (x : A) → find p xs ≡ Some x → p x ≡ true
found_meets p [] x e = absurd cc
found_meets p (y ∷ ys) x e = first_meets p y ys x (p y) refl (found_meets p ys x) e

-- the name of an option that takes a number is no option in one word
name_lacks : (s : Setting) → setting_of (rule_of s).name ≡ Some s → in_one_word (rule_of s).name ≡ None
name_lacks Members e = refl
name_lacks Agents e = refl
name_lacks Locks e = refl
name_lacks Records e = refl
name_lacks Cache e = refl
name_lacks Pool e = refl
name_lacks Pages e = refl
name_lacks Seed e = refl
name_lacks Trace e = absurd cc

pub named_lacks : (s : Setting) (word : List ℕ) → setting_of word ≡ Some s → in_one_word word ≡ None
named_lacks s word e =
    let meets : bytes_eq (rule_of s).name word ≡ true = found_meets (λ t. bytes_eq (rule_of t).name word) numbered s e in
    let names : (rule_of s).name ≡ word = (bytes_eq-Decides (rule_of s).name word).0 meets in
    rw (← names) (name_lacks s (rw names e))

gives_same : (given : Option Given) (next : Option Setting → Option (List Given)) (more : Option (List Given)) → next None ≡ more → and_then (option_map Gives given) next ≡ and_more given more
gives_same None next more e = refl
gives_same (Some given) next more e = rw e refl

one_word : (word : List ℕ) (o : Option Setting) → setting_of word ≡ o → given_after None (word ∷ []) ≡ given_of (word ∷ [])
unfolding given_after given_of
one_word word None e = rw e (gives_same (in_one_word word) (λ n. given_after n []) (Some []) refl)
one_word word (Some s) e = rw (e, named_lacks s word e) refl

more_words : (word next : List ℕ) (words : List (List ℕ)) (o : Option Setting) → setting_of word ≡ o → given_after None words ≡ given_of words → given_after None (next ∷ words) ≡ given_of (next ∷ words) → given_after None (word ∷ next ∷ words) ≡ given_of (word ∷ next ∷ words)
unfolding given_after given_of
more_words word next words None e behind_next behind_word = rw e (gives_same (in_one_word word) (λ n. given_after n (next ∷ words)) (given_of (next ∷ words)) behind_word)
more_words word next words (Some s) e behind_next behind_word = rw e (gives_same (with_number s next) (λ n. given_after n words) (given_of words) behind_next)

-- reading word by word gives the options of the words
pub word_by_word : (words : List (List ℕ)) → given_after None words ≡ given_of words
unfolding given_after given_of
word_by_word [] = refl
word_by_word (word ∷ []) = one_word word (setting_of word) refl
word_by_word (word ∷ next ∷ words) = more_words word next words (setting_of word) refl (word_by_word words) (word_by_word (next ∷ words))
