-- Pages and their numbers.
use Rattle.std.proofs.Common.{◌≡◌, ℕ, zero, suc, ◌+◌, refl, sym, ◌∙◌, ap, subst, arith}
use Rattle.ds_base.specs.declared.names.PageId.{PageId}
use Rattle.page_world.specs.Numbers.{row_start, number_of, page_number, next_page, counted_page, page_at, AreNumbered}

abbrev pair : ℕ → ℕ → PageId
pair a b = record { set = a; number = b }

row_end : (b : ℕ) → row_start (suc b + zero) + zero ≡ suc (row_start (zero + b) + b)
row_end b =
    let x : suc b + zero ≡ suc b = omega arith in
    let y : zero + b ≡ b = omega arith in
    let e : row_start (suc b + zero) ≡ row_start (suc b) = ap row_start x in
    let f : row_start (zero + b) ≡ row_start b = ap row_start y in
    let g : row_start (suc b) ≡ row_start b + suc b = refl in
    omega (arith, e, f, g)

row_on : (a b : ℕ) → row_start (a + suc b) + suc b ≡ suc (row_start (suc a + b) + b)
row_on a b =
    let x : a + suc b ≡ suc a + b = omega arith in
    let e : row_start (a + suc b) ≡ row_start (suc a + b) = ap row_start x in
    omega (arith, e)

next_number : (a b : ℕ) → number_of (next_page a b).set (next_page a b).number ≡ suc (number_of a b)
next_number zero b = row_end b
next_number (suc a) b = row_on a b

page_back : (n : ℕ) → number_of (counted_page n).set (counted_page n).number ≡ n
page_back zero = refl
page_back (suc n) = next_number (counted_page n).set (counted_page n).number ∙ ap suc (page_back n)

plus_zero : (x : ℕ) → x + zero ≡ x
plus_zero x = omega arith

row_next : (s : ℕ) → row_start (suc s) ≡ suc (row_start (zero + s) + s)
row_next s =
    let y : zero + s ≡ s = omega arith in
    let f : row_start (zero + s) ≡ row_start s = ap row_start y in
    let g : row_start (suc s) ≡ row_start s + suc s = refl in
    omega (arith, f, g)

-- from the start of its row on
along : (a b : ℕ) → counted_page (row_start (a + b)) ≡ pair (a + b) zero → counted_page (row_start (a + b) + b) ≡ pair a b
along a zero h = subst (λ x. counted_page x ≡ pair a zero) (sym (plus_zero (row_start (a + zero)))) (h ∙ ap (λ x. pair x zero) (plus_zero a))
along a (suc b) h =
    let e : a + suc b ≡ suc a + b = omega arith in
    let ih = along (suc a) b (subst (λ x. counted_page (row_start x) ≡ pair x zero) e h) in
    subst (λ x. counted_page x ≡ pair a (suc b)) (sym (row_on a b)) (ap (λ (p : PageId). next_page p.set p.number) ih)

starts : (s : ℕ) → counted_page (row_start s) ≡ pair s zero
starts zero = refl
starts (suc s) =
    let z : zero + s ≡ s = omega arith in
    let h = along zero s (subst (λ x. counted_page (row_start x) ≡ pair x zero) (sym z) (starts s)) in
    subst (λ x. counted_page x ≡ pair (suc s) zero) (sym (row_next s)) (ap (λ (p : PageId). next_page p.set p.number) h)

page_is : (a b : ℕ) → counted_page (number_of a b) ≡ pair a b
page_is a b = along a b (starts (a + b))

pub named : (id : PageId) → page_at (page_number id) ≡ id
unfolding page_at page_number
named id = page_is id.set id.number

pub numbered : (n : ℕ) → page_number (page_at n) ≡ n
unfolding page_at page_number
numbered n = page_back n

pub are_numbered : AreNumbered
are_numbered = record { named = named; numbered = numbered }
