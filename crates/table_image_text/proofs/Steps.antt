-- One page more of an image.
use Rattle.std.proofs.Common.{◌≡◌, ℕ, zero, suc, ◌+◌, ◌-◌, ◌<◌, ◌≤◌, List, Option, Some, None, sym, ap, ◌∙◌, arith, add-one}
use Rattle.table_image_text.specs.Faults.{or_else, fault_in_page, fault_in_pages}

one_more : (bytes : List ℕ) (table greatest heap n count : ℕ) → n < count
    → fault_in_pages bytes table greatest heap n (count - n) ≡ or_else (fault_in_page bytes table greatest heap n) (fault_in_pages bytes table greatest heap (n + 1) (count - (n + 1)))
one_more bytes table greatest heap n count less =
    let e : count - n ≡ suc (count - (n + 1)) = omega arith in
    ap (λ (k : ℕ). fault_in_pages bytes table greatest heap n k) e
    ∙ ap (λ (m : ℕ). or_else (fault_in_page bytes table greatest heap n) (fault_in_pages bytes table greatest heap m (count - (n + 1)))) (sym (add-one n))

pub passed : (bytes : List ℕ) (table greatest heap n count : ℕ) → n < count → fault_in_page bytes table greatest heap n ≡ None
    → fault_in_pages bytes table greatest heap n (count - n) ≡ fault_in_pages bytes table greatest heap (n + 1) (count - (n + 1))
passed bytes table greatest heap n count less none =
    one_more bytes table greatest heap n count less ∙ ap (λ (f : Option ℕ). or_else f (fault_in_pages bytes table greatest heap (n + 1) (count - (n + 1)))) none

pub met : (bytes : List ℕ) (table greatest heap n count at : ℕ) → n < count → fault_in_page bytes table greatest heap n ≡ Some at
    → fault_in_pages bytes table greatest heap n (count - n) ≡ Some at
met bytes table greatest heap n count at less some =
    one_more bytes table greatest heap n count less ∙ ap (λ (f : Option ℕ). or_else f (fault_in_pages bytes table greatest heap (n + 1) (count - (n + 1)))) some

pub ended : (bytes : List ℕ) (table greatest heap n count : ℕ) → count ≤ n → fault_in_pages bytes table greatest heap n (count - n) ≡ None
ended bytes table greatest heap n count le =
    let e : count - n ≡ zero = omega arith in ap (λ (k : ℕ). fault_in_pages bytes table greatest heap n k) e
