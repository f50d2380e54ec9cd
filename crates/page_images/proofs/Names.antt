-- Which names are of the same page.
use Rattle.std.proofs.Common.{◌≡◌, ◌≤◌, ℕ, ◌*◌, ◌-◌, Bool, true, false, ◌&&◌, ◌==◌, refl, arith}
use Rattle.std.proofs.lemmas.Bool.{eq-eqb, ne_eqb}
use Rattle.ds_base.specs.Pages.{same_page, heap_page, index_page}

neither : (p q : Bool) → p ≡ false → (p && q) ≡ false
neither true q h = absurd (cc)
neither false q h = refl

second_of : (p q : Bool) → p ≡ true → (p && q) ≡ q
second_of true q h = refl
second_of false q h = absurd (cc)

pub heaps_apart : (t u m n : ℕ) → 1 ≤ t → 1 ≤ u → (t ≡ u → ⊥) → same_page (heap_page t m) (heap_page u n) ≡ false
heaps_apart t u m n ht hu ne = neither _ (m == n) (ne_eqb (2 * t - 1) (2 * u - 1) (λ e. ne (omega (arith, e, ht, hu))))

pub indexes_apart : (t u m n : ℕ) → (t ≡ u → ⊥) → same_page (index_page t m) (index_page u n) ≡ false
indexes_apart t u m n ne = neither _ (m == n) (ne_eqb (2 * t) (2 * u) (λ e. ne (omega (arith, e))))

pub heap_no_index : (t u m n : ℕ) → 1 ≤ t → same_page (heap_page t m) (index_page u n) ≡ false
heap_no_index t u m n ht = neither _ (m == n) (ne_eqb (2 * t - 1) (2 * u) (λ e. omega (arith, e, ht)))

pub index_no_heap : (t u m n : ℕ) → 1 ≤ t → same_page (index_page u n) (heap_page t m) ≡ false
index_no_heap t u m n ht = neither _ (n == m) (ne_eqb (2 * u) (2 * t - 1) (λ e. omega (arith, e, ht)))

pub heap_numbers : (t m n : ℕ) → same_page (heap_page t m) (heap_page t n) ≡ (m == n)
heap_numbers t m n = second_of _ (m == n) (eq-eqb (2 * t - 1) (2 * t - 1) refl)

pub index_numbers : (t m n : ℕ) → same_page (index_page t m) (index_page t n) ≡ (m == n)
index_numbers t m n = second_of _ (m == n) (eq-eqb (2 * t) (2 * t) refl)
