-- Pages whose header may stand: how many entries they have.
use Rattle.std.proofs.Common.{◌≡◌, ℕ, suc, zero, ◌<◌, ◌≤◌, refl, ap, ◌∙◌, arith, Bool, true, false, List, [], ◌∷◌, length, get_or, lit<, Option, Some, None, Ok, if◌then◌else◌}
use Rattle.std.specs.Prelude.{nat_le}
use Rattle.ds_base.specs.declared.names.PageId.{PageId}
use Rattle.page_format.specs.Header.{header_of, header_in, fields, first_fault, judged, empty_header, most, is_zeros}
use Rattle.page_format.specs.declared.header.Header.{Header}
use Rattle.index_leaf.specs.Entries.{count_of}
use Rattle.page_format.specs.declared.header.PageKind.{PageKind}
use Rattle.page_format.specs.declared.header.PageKind.TheVariants as kind
use Rattle.tran_core.specs.declared.stage.Level.{Level}
use Rattle.tran_core.specs.declared.stage.Level.TheVariants as level
use Rattle.tran_core.specs.Looks.{is_of}

passed : (f : ℕ × Bool) (fs : List (ℕ × Bool)) → first_fault (f ∷ fs) ≡ None → (f.1 ≡ true) × (first_fault fs ≡ None)
passed f fs h = grind arith

-- no field is at fault
pub passed_at : (fs : List (ℕ × Bool)) (i : ℕ) (d : ℕ × Bool) → first_fault fs ≡ None → i < length fs → (get_or fs i d).1 ≡ true
passed_at [] i d h lt = absurd (omega arith)
passed_at (f ∷ fs) zero d h lt = (passed f fs h).0
passed_at (f ∷ fs) (suc i) d h lt = passed_at fs i d (passed f fs h).1 (omega arith)

-- ---- room

header_kept : (z : Bool) (o : Option ℕ) (g h : Header) (l : Level) → (if z then Ok empty_header else judged o g) ≡ Ok h → is_of l h.kind ≡ true → (o ≡ None) × (g ≡ h)
header_kept true o g h level.Branch is fits = grind arith
header_kept true o g h level.Leaf is fits = grind arith
header_kept false None g h l is fits = grind arith
header_kept false (Some at) g h l is fits = absurd (cc)

most_of : (l : Level) (k : PageKind) → is_of l k ≡ true → most k ≡ 252
most_of level.Branch kind.Branch h = refl
most_of level.Leaf kind.Leaf h = refl
most_of level.Branch k h = grind arith
most_of level.Leaf k h = grind arith

pub le_of : (a b : ℕ) → nat_le a b ≡ true → a ≤ b
le_of a b h = grind arith

pub room_of : (bytes : List ℕ) (id : PageId) (h : Header) (l : Level) → header_of bytes id ≡ Ok h → is_of l h.kind ≡ true → count_of bytes ≤ 252
unfolding header_of count_of
room_of bytes id h l is fits =
    let kept = header_kept (is_zeros bytes) (first_fault (fields bytes id)) (header_in bytes) h l is fits in
    let last : nat_le (header_in bytes).count (most (header_in bytes).kind) ≡ true = passed_at (fields bytes id) 6 (0, true) kept.0 (lit< tt) in
    let le : (header_in bytes).count ≤ most (header_in bytes).kind = le_of _ _ last in
    let limit : most (header_in bytes).kind ≡ 252 = ap (λ (g : Header). most g.kind) kept.1 ∙ most_of l h.kind fits in
    omega (arith, le, limit)
