-- A page of rows has no more slots than fit.
use Rattle.std.proofs.Common.{◌≡◌, ℕ, suc, zero, ◌+◌, ◌≤◌, ◌<◌, refl, ap, ◌∙◌, arith, Bool, true, false, List, [], ◌∷◌, length, get_or, lit<, Option, Some, None, Ok, if◌then◌else◌}
use Rattle.std.specs.Prelude.{nat_le}
use Rattle.std.proofs.lemmas.Bool.Decides.{nat_tests}
use Rattle.ds_base.specs.declared.names.PageId.{PageId}
use Rattle.page_format.specs.Header.{header_of, header_in, fields, first_fault, is_zeros, most, judged, empty_header}
use Rattle.page_format.specs.declared.header.Header.{Header}
use Rattle.page_format.specs.declared.header.PageKind.{PageKind}
use Rattle.page_redo.specs.Rows.{kind_fault}

passed : (f : ℕ × Bool) (fs : List (ℕ × Bool)) → first_fault (f ∷ fs) ≡ None → (f.1 ≡ true) × (first_fault fs ≡ None)
passed f fs h = grind arith

-- no field is at fault
passed_at : (fs : List (ℕ × Bool)) (i : ℕ) (d : ℕ × Bool) → first_fault fs ≡ None → i < length fs → (get_or fs i d).1 ≡ true
passed_at [] i d h lt = absurd (omega arith)
passed_at (f ∷ fs) zero d h lt = (passed f fs h).0
passed_at (f ∷ fs) (suc i) d h lt = passed_at fs i d (passed f fs h).1 (omega arith)

le_of : (a b : ℕ) → nat_le a b ≡ true → a ≤ b
le_of a b h = grind (arith, nat_tests)

heap_kept : (z : Bool) (o : Option ℕ) (g h : Header) → (if z then Ok empty_header else judged o g) ≡ Ok h → kind_fault h.kind ≡ None → (o ≡ None) × (g ≡ h)
heap_kept true o g h is fits = grind arith
heap_kept false None g h is fits = grind arith
heap_kept false (Some at) g h is fits = absurd (cc)

most_slots : (k : PageKind) → kind_fault k ≡ None → most k ≡ 31
most_slots k h = grind arith

pub slots_of : (page : List ℕ) (id : PageId) (h : Header) → header_of page id ≡ Ok h → kind_fault h.kind ≡ None → h.count ≤ 31
unfolding header_of
slots_of page id h is fits =
    let kept = heap_kept (is_zeros page) (first_fault (fields page id)) (header_in page) h is fits in
    let last : nat_le (header_in page).count (most (header_in page).kind) ≡ true = passed_at (fields page id) 6 (0, true) kept.0 (lit< tt) in
    let le : (header_in page).count ≤ most (header_in page).kind = le_of _ _ last in
    let limit : most (header_in page).kind ≡ 31 = ap (λ (g : Header). most g.kind) kept.1 ∙ most_slots h.kind fits in
    omega (arith, le, limit, ap (λ (g : Header). g.count) kept.1)
