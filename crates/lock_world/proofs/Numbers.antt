-- Names and their numbers.
use Rattle.std.proofs.Common.{◌≡◌, ℕ, zero, suc, ◌+◌, ◌*◌, ◌<◌, refl, sym, ◌∙◌, ap, subst, arith}
use Rattle.std.specs.Prelude.{◌/◌, ◌%◌}
use Rattle.std.proofs.lemmas.Nat.{div-add-mod', div-mul-add, mod-mul-add, mod_below}
use Rattle.ds_model.specs.declared.lock.Name.{Name}
use Rattle.ds_model.specs.declared.lock.Name.TheVariants as name
use Rattle.lock_world.specs.Numbers.{Pair, row_start, pair_number, next_pair, pair_at, number, name_of, name_at, AreNumbered}

abbrev pair : ℕ → ℕ → Pair
pair a b = record { first = a; second = b }

-- ---- pairs
row_end : (b : ℕ) → row_start (suc b + zero) + zero ≡ suc (row_start (zero + b) + b)
row_end b =
    let x : suc b + zero ≡ suc b = omega arith in
    let y : zero + b ≡ b = omega arith in
    let e : row_start (suc b + zero) ≡ row_start (suc b) = ap row_start x in
    let f : row_start (zero + b) ≡ row_start b = ap row_start y in
    let g : row_start (suc b) ≡ row_start b + suc b = refl in
    omega (arith, e, f, g)

row_on : (a b : ℕ) → row_start (a + suc b) + suc b ≡ suc (row_start (suc a + b) + b)
row_on a b =
    let x : a + suc b ≡ suc a + b = omega arith in
    let e : row_start (a + suc b) ≡ row_start (suc a + b) = ap row_start x in
    omega (arith, e)

next_number : (a b : ℕ) → pair_number (next_pair a b).first (next_pair a b).second ≡ suc (pair_number a b)
next_number zero b = row_end b
next_number (suc a) b = row_on a b

pair_back : (n : ℕ) → pair_number (pair_at n).first (pair_at n).second ≡ n
pair_back zero = refl
pair_back (suc n) = next_number (pair_at n).first (pair_at n).second ∙ ap suc (pair_back n)

plus_zero : (x : ℕ) → x + zero ≡ x
plus_zero x = omega arith

row_next : (s : ℕ) → row_start (suc s) ≡ suc (row_start (zero + s) + s)
row_next s =
    let y : zero + s ≡ s = omega arith in
    let f : row_start (zero + s) ≡ row_start s = ap row_start y in
    let g : row_start (suc s) ≡ row_start s + suc s = refl in
    omega (arith, f, g)

-- from the start of its row on
along : (a b : ℕ) → pair_at (row_start (a + b)) ≡ pair (a + b) zero → pair_at (row_start (a + b) + b) ≡ pair a b
along a zero h = subst (λ x. pair_at x ≡ pair a zero) (sym (plus_zero (row_start (a + zero)))) (h ∙ ap (λ x. pair x zero) (plus_zero a))
along a (suc b) h =
    let e : a + suc b ≡ suc a + b = omega arith in
    let ih = along (suc a) b (subst (λ x. pair_at (row_start x) ≡ pair x zero) e h) in
    subst (λ x. pair_at x ≡ pair a (suc b)) (sym (row_on a b)) (ap (λ (p : Pair). next_pair p.first p.second) ih)

starts : (s : ℕ) → pair_at (row_start s) ≡ pair s zero
starts zero = refl
starts (suc s) =
    let z : zero + s ≡ s = omega arith in
    let h = along zero s (subst (λ x. pair_at (row_start x) ≡ pair x zero) (sym z) (starts s)) in
    subst (λ x. pair_at x ≡ pair (suc s) zero) (sym (row_next s)) (ap (λ (p : Pair). next_pair p.first p.second) h)

pair_is : (a b : ℕ) → pair_at (pair_number a b) ≡ pair a b
pair_is a b = along a b (starts (a + b))

-- ---- names
name_parts : (rest kind : ℕ) → kind < 4 → name_at (rest * 4 + kind) ≡ name_of kind rest
unfolding name_at
name_parts rest kind lt = ap (λ k. name_of k ((rest * 4 + kind) / 4)) (mod-mul-add rest 4 kind lt) ∙ ap (λ r. name_of kind r) (div-mul-add rest 4 kind lt)

pub named : (n : Name) → name_at (number n) ≡ n
unfolding number
named (name.Space table) = name_parts table 0 (omega arith)
named (name.Row table key) = name_parts (pair_number table key) 1 (omega arith) ∙ ap (λ (p : Pair). name.Row p.first p.second) (pair_is table key)
named (name.Page page) = name_parts (pair_number page.set page.number) 2 (omega arith) ∙ ap (λ (p : Pair). name.Page (record { set = p.first; number = p.second })) (pair_is page.set page.number)
named (name.Set set) = name_parts set 3 (omega arith)

last_kind : (rest k : ℕ) → suc (suc (suc k)) < 4 → rest * 4 + 3 ≡ rest * 4 + suc (suc (suc k))
last_kind rest k lt = omega (arith, lt)

kind_number : (kind rest : ℕ) → kind < 4 → number (name_of kind rest) ≡ rest * 4 + kind
unfolding number
kind_number zero rest lt = refl
kind_number (suc zero) rest lt = ap (λ x. x * 4 + 1) (pair_back rest)
kind_number (suc (suc zero)) rest lt = ap (λ x. x * 4 + 2) (pair_back rest)
kind_number (suc (suc (suc k))) rest lt = last_kind rest k lt

pub numbered : (c : ℕ) → number (name_at c) ≡ c
unfolding name_at
numbered c = kind_number (c % 4) (c / 4) (mod_below c 4 (omega arith)) ∙ div-add-mod' c 4

pub are_numbered : AreNumbered
are_numbered = record { named = named; numbered = numbered }
