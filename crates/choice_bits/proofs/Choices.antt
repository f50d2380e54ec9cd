-- The ready choices, one by one.
use Rattle.std.proofs.Common.{◌≡◌, ◌≢◌, ℕ, zero, suc, ◌+◌, ◌-◌, ◌*◌, ◌/◌, ◌%◌, ◌^◌, ◌<◌, ◌≤◌, ◌==◌, Bool, true, false, List, [], ◌∷◌, ◌++◌, length, slice_get, if◌then◌else◌, length-append, refl, sym, ap, ◌∙◌, arith}
use Rattle.std.proofs.lemmas.Nat.{mod-pow-add, shr-shr, ones-le, ones_cat}
use lib.Count.{ones}
use Rattle.std.specs.Prelude.{count_ones}
use Rattle.choice_bits.specs.Choices.{choices_from, choices_of, has_choice}

pub all_choices : (ready : ℕ) → choices_from 23 0 ready ≡ choices_of ready
unfolding choices_of
all_choices ready = refl

next_of : (left choice ready : ℕ) → choices_from (suc left) choice ready ≡ (if has_choice ready choice then choice ∷ [] else []) ++ choices_from left (choice + 1) ready
unfolding choices_from
next_of left choice ready = refl

none_of : (choice ready : ℕ) → choices_from 0 choice ready ≡ []
unfolding choices_from
none_of choice ready = refl

-- the choices from this one on
split : (choice ready : ℕ) (b : Bool) → choice < 23 → has_choice ready choice ≡ b → choices_from (23 - choice) choice ready ≡ (if b then choice ∷ [] else []) ++ choices_from (23 - (choice + 1)) (choice + 1) ready
split choice ready b within is =
    let left : 23 - choice ≡ suc (23 - (choice + 1)) = omega arith in
    ap (λ (k : ℕ). choices_from k choice ready) left
    ∙ (next_of (23 - (choice + 1)) choice ready ∙ ap (λ (c : Bool). (if c then choice ∷ [] else []) ++ choices_from (23 - (choice + 1)) (choice + 1) ready) is)

pub ready_next : (choice ready : ℕ) → choice < 23 → has_choice ready choice ≡ true → choices_from (23 - choice) choice ready ≡ choice ∷ choices_from (23 - (choice + 1)) (choice + 1) ready
ready_next choice ready within is = split choice ready true within is

pub unready_next : (choice ready : ℕ) → choice < 23 → has_choice ready choice ≡ false → choices_from (23 - choice) choice ready ≡ choices_from (23 - (choice + 1)) (choice + 1) ready
unready_next choice ready within is = split choice ready false within is

pub none_left : (choice ready : ℕ) → 23 ≤ choice → choices_from (23 - choice) choice ready ≡ []
none_left choice ready beyond = let none : 23 - choice ≡ 0 = omega arith in ap (λ (k : ℕ). choices_from k choice ready) none ∙ none_of choice ready

pub get_later : (xs : List ℕ) (x n : ℕ) → n ≢ 0 → slice_get (x ∷ xs) n ≡ slice_get xs (n - 1)
get_later xs x zero other = absurd (other refl)
get_later xs x (suc n) other = let same : n ≡ suc n - 1 = omega arith in ap (slice_get xs) same

-- ---- how many bits are set

-- below 2 a number is how many of its bits are set
digit : (b : ℕ) → b < 2 → ones b ≡ b
unfolding ones
digit zero below = refl
digit (suc zero) below = refl
digit (suc (suc b)) below = omega arith

listed : (x choice : ℕ) → x < 2 → length (if x == 1 then choice ∷ [] else []) ≡ x
listed zero choice below = refl
listed (suc zero) choice below = refl
listed (suc (suc x)) choice below = omega arith

bit_of : (choice ready : ℕ) → choice < 23 → has_choice ready choice ≡ (ready / 2 ^ choice % 2 == 1)
bit_of choice ready within = grind arith

-- the lowest of some digits, and the others
digits_next : (left choice ready : ℕ) → ones (ready / 2 ^ choice % 2 ^ suc left) ≡ ones (ready / 2 ^ (choice + 1) % 2 ^ left) + ready / 2 ^ choice % 2
digits_next left choice ready =
    let x = ready / 2 ^ choice in
    let low : x % 2 ^ 1 < 2 = omega arith in
    let digits : x % 2 ^ (left + 1) ≡ (x / 2 ^ 1 % 2 ^ left) * 2 ^ 1 + x % 2 ^ 1 = mod-pow-add x left 1 in
    let later : x / 2 ^ 1 ≡ ready / 2 ^ (choice + 1) = shr-shr ready choice 1 in
    let more : suc left ≡ left + 1 = omega arith in
    ap (λ (k : ℕ). ones (x % 2 ^ k)) more
    ∙ (ap ones digits
    ∙ (ones_cat 1 (x / 2 ^ 1 % 2 ^ left) (x % 2 ^ 1) low
    ∙ (ap (λ (k : ℕ). ones (k % 2 ^ left) + ones (x % 2)) later ∙ ap (λ (k : ℕ). ones (ready / 2 ^ (choice + 1) % 2 ^ left) + k) (digit (x % 2) low))))

-- of some choices from one on, as many are ready as their digits are set
count_from : (left choice ready : ℕ) → choice + left ≤ 23 → length (choices_from left choice ready) ≡ ones (ready / 2 ^ choice % 2 ^ left)
unfolding choices_from ones
count_from zero choice ready within = let none : ready / 2 ^ choice % 2 ^ 0 ≡ 0 = omega arith in ap ones (sym none)
count_from (suc left) choice ready within =
    let here : choice < 23 = omega arith in
    let bit : ℕ = ready / 2 ^ choice % 2 in
    let low : bit < 2 = omega arith in
    let first : length (if has_choice ready choice then choice ∷ [] else []) ≡ bit = ap (λ (b : Bool). length (if b then choice ∷ [] else [])) (bit_of choice ready here) ∙ listed bit choice low in
    let rest : length (choices_from left (choice + 1) ready) ≡ ones (ready / 2 ^ (choice + 1) % 2 ^ left) = count_from left (choice + 1) ready (omega arith) in
    let both : length (choices_from (suc left) choice ready) ≡ length (if has_choice ready choice then choice ∷ [] else []) + length (choices_from left (choice + 1) ready) = ap length (next_of left choice ready) ∙ length-append (if has_choice ready choice then choice ∷ [] else []) (choices_from left (choice + 1) ready) in
    let all = digits_next left choice ready in
    omega arith

pub counted : (ready : ℕ) → count_ones (ready % 2 ^ 23) ≡ length (choices_of ready)
unfolding count_ones
counted ready =
    let whole : ready / 2 ^ 0 ≡ ready = omega arith in
    sym (ap length (sym (all_choices ready)) ∙ (count_from 23 0 ready (omega arith) ∙ ap (λ (k : ℕ). ones (k % 2 ^ 23)) whole))

pub few_counted : (ready : ℕ) → count_ones (ready % 2 ^ 23) ≤ 23
few_counted ready = ones-le 23 (ready % 2 ^ 23) (omega arith)
